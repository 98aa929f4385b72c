-- Whom a task waits for, and what it was granted last.
use Rattle.std.proofs.Common.{◌≡◌, ◌∙◌, ◌<◌, ◌||◌, ◌&&◌, ℕ, zero, suc, true, List, [], ◌∷◌, refl, sym, ap, arith, length, not}
use Rattle.std.specs.Prelude.{Option, None, Some, option_map, slice_get, nat_lt}
use Rattle.rt_base.specs.declared.SemNo.{SemNo}
use Rattle.rt_task.specs.declared.Protocol.{Protocol}
use Rattle.rt_task.specs.declared.Protocol.TheVariants.{Fmlp, Mpcp, Omlp, Pcp, Srp}
use Rattle.rt_rules.specs.KeyOrder.{higher}
use Rattle.rt_rules.specs.Numbers.{has}
use Rattle.rt_rules.specs.Pcp.{PcpState, holder_among, of_others}
use Rattle.rt_rules.specs.SemState.{SemState}
use Rattle.rt_model.specs.Blockers.{blocker, blocker_among, has_higher_ceiling}
use Rattle.rt_model.specs.Ceilings.{ceiling, pcp}
use Rattle.rt_model.specs.EffectiveKeys.{next_by, next_at, waits_for}
use Rattle.rt_model.specs.Group.{Group, home, in_group, protocol, sems, users}
use Rattle.rt_model.specs.Holders.{awaits, holder, last_granted}
use Rattle.rt_model.specs.Reachable.{IsReachable}
use Rattle.rt_model.specs.Past.{Past}
use Rattle.rt_model.specs.Semaphores.{cluster_of}
use Rattle.rt_rules.proofs.PairLaws.{has_pair-others}
use Rattle.rt_laws.proofs.jobs.Engaged.{holder-engaged, waiting-engaged}
use Rattle.rt_laws.proofs.GroupLaws.{user-home, user-task, pcp-shares}
use Rattle.rt_laws.proofs.pcp.PcpState.{IsUser, pcp_kept, sem-home}
use Rattle.rt_laws.proofs.Rules.{MeetsRules}
use Rattle.rt_laws.proofs.ValidSets.{rules_of}
use Rattle.rt_laws.proofs.semaphores.Waiting.{awaits-waits, none-waits}
use Rattle.rt_laws.proofs.semaphores.Asked.{IsAsked}
use Rattle.rt_laws.proofs.Next.{next}
use Rattle.rt_laws.proofs.Moves.{last_move}
use Rattle.rt_changes.proofs.Acting.{IsParty, all_parties}
use Rattle.sem_laws.specs.KeptKeys.{key_at}
use Rattle.pcp_sem.specs.Pairs.{sems_of}
use Rattle.pcp_sem.proofs.Sound.{sem-pair}
use Rattle.pcp_sem.specs.PcpKept as words
use Rattle.sem_table.specs.declared.any_sem.AnySem.{AnySem}
use Rattle.sem_table.specs.declared.any_sem.AnySem.TheVariants as any
use Rattle.sem_table.specs.declared.row.Row.{Row}
use Rattle.sem_table.specs.Told as table
use Rattle.sem_table.specs.SemTable.{SemTable, row_at, sem_at, set_at}
use Rattle.sem_table.specs.Told.{last_at, last_in}
use Rattle.sem_table.specs.Fitting.{AskIsKnown, ReleaseIsKnown}
use Rattle.sem_table.specs.KeptSems.{KeepsSem, KeepsSems, KeepsSet}
use Rattle.sem_table.specs.Telling.{TellsLast, TellsWaits}
use Rattle.sem_table.proofs.Agree.{foremost-same}
use Rattle.sem_table.proofs.Conditions.{group-of, set-here, tells}
use Rattle.sem_table.proofs.Stacks.{last-is}

module _ (g : Group) (rules : MeetsRules g) (past : Past) (made : IsReachable g past) (t c : ℕ) (p : words.PcpKept) (v : KeepsSet g c past p) where
  at-ceiling : (r : ℕ) → has r (sems_of (of_others t (pcp g c past).held)) ≡ true → key_at p.ceilings r ≡ ceiling g r
  at-ceiling r m =
      let q = sem-pair r (of_others t (pcp g c past).held) m in
      let u : IsUser g c q.0 r = (pcp_kept g rules c made).held q.0 r (has_pair-others t q.0 r (pcp g c past).held q.1) in
      let d = user-task g r q.0 u.user in
      v.ceilings r (record { known = rules.is_known q.0 r d.0 d.1; of_pcp = u.of_pcp; home_is = sem-home g rules c q.0 r u })

  blocks : words.blocker_of p.ceilings p.state.held t ≡ blocker_among g (of_others t (pcp g c past).held)
  unfolding blocker_among has_higher_ceiling
  blocks = ap (λ (l : PcpState). words.blocker_of p.ceilings l.held t) v.state ∙ ap (holder_among (of_others t (pcp g c past).held)) (foremost-same (words.has_higher_ceiling p.ceilings) (λ s r. higher (ceiling g s) (ceiling g r) || not (higher (ceiling g r) (ceiling g s)) && nat_lt s r) (sems_of (of_others t (pcp g c past).held)) (λ x y a b. rw (at-ceiling x a, at-ceiling y b) refl))

module _ (g : Group) (rules : MeetsRules g) (past : Past) (made : IsReachable g past) (w : SemTable) (k : KeepsSems g past w) (t s : ℕ) (known : has s (sems g) ≡ true) (user : has t (users g s) ≡ true) where
  next-is : (p : Protocol) (x : AnySem) → protocol g s ≡ p → KeepsSem g s past p x → table.next_by w.sets s t x ≡ next_by g p s t past
  unfolding next_by holder blocker
  next-is Fmlp (any.Fmlp l) q v = ap (λ (y : SemState). y.holder) (tells g rules past w k s t known user Fmlp (any.Fmlp l) q v)
  next-is Omlp (any.Omlp l) q v = ap (λ (y : SemState). y.holder) (tells g rules past w k s t known user Omlp (any.Omlp l) q v)
  next-is Mpcp (any.Mpcp l) q v = ap (λ (y : SemState). y.holder) (tells g rules past w k s t known user Mpcp (any.Mpcp l) q v)
  next-is Pcp (any.Pcp c) q v =
      let at-home : home g t ≡ cluster_of g s = user-home g rules s t (pcp-shares g.setup.plugin (protocol g s) (rw q refl)) user in
      blocks g rules past made t (cluster_of g s) (set_at w.sets c.0) (set-here g rules past w k s t known user (rw q refl) c.0 v) ∙ ap (λ (n : ℕ). blocker_among g (of_others t (pcp g n past).held)) (sym at-home)
  next-is Srp (any.Srp c) q v = ap (λ (y : SemState). y.holder) (tells g rules past w k s t known user Srp (any.Srp c) q v)
  next-is p x q v = absurd v

waits-is : (g : Group) → MeetsRules g → (past : Past) → IsReachable g past → (w : SemTable) → KeepsSems g past w → (t : ℕ) (o : Option SemNo) → option_map (λ (n : SemNo). n.0) o ≡ awaits g t past → table.next_at w t o ≡ waits_for g t past
unfolding waits_for next_at
waits-is g rules past made w k t None e = rw (← e) refl
waits-is g rules past made w k t (Some n) e =
    let m = awaits-waits g t n.0 past (sym e) in
    let owns : IsParty g t n.0 = all_parties g rules made t n.0 (waiting-engaged g t n.0 past m.1) in
    rw (← e) (next-is g rules past made w k t n.0 m.0 owns.user (protocol g n.0) (sem_at w.sems n.0) refl (k.kept n.0 m.0))

pub tells_waits : TellsWaits
tells_waits g past valid made w t there k rows = waits-is g (rules_of g valid) past made w k t (row_at w.rows t).awaits (rows.rows t there).awaited

pub row-there : (rows : List Row) (t : ℕ) → t < length rows → slice_get rows t ≡ Some (row_at rows t)
row-there [] t h = absurd (omega arith)
row-there (r ∷ rows) zero h = refl
row-there (r ∷ rows) (suc t) h = row-there rows t (omega arith)

pub tells_last : TellsLast
unfolding last_granted
tells_last g past valid made w t there k rows =
    let low : home g t < length g.setup.clusters = (rules_of g valid).has_home t there in
    let mine : in_group g (home g t) ≡ true = group-of g t there in
    ap (last_in w.sets t) (row-there w.rows t (rows.row_room t there)) ∙ ap (λ (c : ℕ). last_at w.sets c t) (rows.rows t there).home_is ∙ last-is g (rules_of g valid) (home g t) past made w.sets t (k.sets (home g t) low mine) (k.srp_sets (home g t) low mine)

none-mapped : (o : Option SemNo) → option_map (λ (n : SemNo). n.0) o ≡ None → o ≡ None
none-mapped None h = refl
none-mapped (Some n) h = cc

pub ask_is_known : AskIsKnown
ask_is_known g e past valid made w t s h k rows =
    let last = last_move g made in
    let a : IsAsked g t s past = (next g (rules_of g valid) last.0 last.1).asked t s h in
    (record { task = rows.row_room t a.member; sem = k.sem_room s a.known }, none-mapped (row_at w.rows t).awaits ((rows.rows t a.member).awaited ∙ none-waits g t past a.waits_none))

pub release_is_known : ReleaseIsKnown
release_is_known g e past valid made w t s h k rows =
    let last = last_move g made in
    let owns : IsParty g t s = all_parties g (rules_of g valid) last.0 t s (holder-engaged g t s past ((next g (rules_of g valid) last.0 last.1).freed t s h)) in
    record { task = rows.row_room t (user-task g s t owns.user).0; sem = k.sem_room s owns.known }
