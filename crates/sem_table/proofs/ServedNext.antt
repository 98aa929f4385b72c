-- Whom a release serves, and what tasks hold and wait for after it.
use Rattle.std.proofs.Common.{◌≡◌, ◌∙◌, ◌<◌, ◌+◌, ◌&&◌, ◌||◌, ℕ, Bool, true, false, List, ◌∷◌, refl, sym, ap, eqb-true, arith, length, not, subst, inl, inr, ◌⊎◌}
use Rattle.std.specs.Prelude.{◌==◌, Option, None, Some, nat_lt, slice_set}
use Rattle.rt_task.specs.declared.Protocol.{Protocol}
use Rattle.rt_task.specs.declared.Protocol.TheVariants.{Fmlp, Mpcp, Omlp, Pcp, Srp}
use Rattle.rt_rules.specs.Numbers.{has, is}
use Rattle.rt_rules.specs.Pcp.{TaskSem, PcpState, granted, without_pair}
use Rattle.rt_rules.specs.SemState.{SemState, Frees}
use Rattle.rt_model.specs.Ceilings.{is_pcp, pcp}
use Rattle.rt_model.specs.Group.{Group, home, protocol, sems, tasks}
use Rattle.rt_model.specs.Holders.{holder, holds, sem_state}
use Rattle.rt_model.specs.Reachable.{IsReachable}
use Rattle.rt_model.specs.Past.{Event, Past, sem_act}
use Rattle.rt_model.specs.Semaphores.{cluster_of}
use Rattle.rt_model.specs.StackPolicy.{srp}
use Rattle.rt_rules.proofs.BoolLaws.{both, clash, unless}
use Rattle.rt_rules.proofs.MemberLaws.{equal_self, is_one, some-is, turned}
use Rattle.rt_rules.proofs.PairLaws.{has_pair-without_pair}
use Rattle.rt_rules.proofs.SrpLaws.{first-srp}
use Rattle.rt_laws.proofs.jobs.Engaged.{holder-engaged}
use Rattle.rt_laws.proofs.GroupLaws.{user-home, user-task, pcp-shares}
use Rattle.rt_laws.proofs.semaphores.Holding.{holds-one, one-holds}
use Rattle.rt_laws.proofs.Moves.{IsMove, last_move, moved}
use Rattle.rt_laws.proofs.Next.{next}
use Rattle.rt_laws.proofs.pcp.PcpState.{IsUser, pcp_kept, pcp-first, first-pcp, pcp-holder, pcp-waiting, sem-home}
use Rattle.rt_laws.proofs.Rules.{MeetsRules}
use Rattle.rt_laws.proofs.srp.SrpState.{held_once, srp-holder}
use Rattle.rt_laws.proofs.ValidSets.{rules_of}
use Rattle.rt_laws.proofs.semaphores.Waiting.{awaits-waits, none-waits}
use Rattle.rt_changes.specs.HoldChanges.{IsRelease, IsServed, KeepsHolds}
use Rattle.rt_changes.specs.Owners.{is_beside}
use Rattle.rt_changes.proofs.Acting.{IsParty, all_parties, freeing, stack-home}
use Rattle.rt_changes.proofs.Apart.{apart}
use Rattle.rt_changes.proofs.Freeing.{freer-waits_not, srp-freed}
use Rattle.rt_changes.proofs.HoldChanges as changes
use Rattle.rt_changes.proofs.Left.{holder-left}
use Rattle.rt_changes.proofs.PcpForms.{IsFreed, freed-form, freed_state}
use Rattle.rt_changes.proofs.SemChanges.{left}
use Rattle.pcp_sem.specs.Pairs.{has_pair}
use Rattle.sem_table.specs.declared.any_sem.AnySem.{AnySem}
use Rattle.sem_table.specs.declared.any_sem.AnySem.TheVariants as any
use Rattle.sem_table.specs.declared.row.Row.{Row}
use Rattle.sem_table.specs.Released.{after_release, freed, newcomer, pcp_freed, row_freed, row_served, rows_served, served_by}
use Rattle.sem_table.specs.SemTable.{SemTable, no_row, row_at, sem_at, set_at}
use Rattle.sem_table.specs.Keeping.{ReleaseRows}
use Rattle.sem_table.specs.KeptRows.{KeepsRow, KeepsRows}
use Rattle.sem_table.specs.KeptSems.{KeepsSem, KeepsSems, KeepsSet}
use Rattle.sem_table.specs.Telling.{IsServedBy, TellsServed}
use Rattle.sem_table.proofs.Conditions.{distinct-holds, set-here, tells}
use Rattle.sem_table.proofs.Keeps as keeps
use Rattle.sem_table.proofs.Lists.{at-other, at-same, still-below}
use Rattle.sem_table.proofs.Rows.{holds-few, keeps-row, length-more, one-more}
use Rattle.sem_table.proofs.SemsLaws.{sem-frees}
use Rattle.sem_table.proofs.ClusterSets.{set-frees}

lt-itself : (n : ℕ) → nat_lt n n ≡ false
lt-itself n = grind arith

lt-next : (n m : ℕ) → m ≡ n + 1 → nat_lt n m ≡ true
lt-next n m h = grind arith

no-newcomer : (ps qs : List TaskSem) → qs ≡ ps → newcomer ps qs ≡ None
no-newcomer ps qs e = rw (e, lt-itself (length ps)) refl

one-newcomer : (p : TaskSem) (ps qs : List TaskSem) → qs ≡ p ∷ ps → newcomer ps qs ≡ Some p.task
one-newcomer p ps qs e = rw (e, lt-next (length ps) (length (p ∷ ps)) (omega arith)) refl

module _ (g : Group) (rules : MeetsRules g) (e : Event) (past : Past) (made : IsReachable g past) (move : IsMove g past e) (w : SemTable) (k : KeepsSems g past w) (t s : ℕ) (h : sem_act e ≡ Frees t s) where
  held : is t (holder g s past) ≡ true
  held = (next g rules made move).freed t s h

  owns : IsParty g t s
  owns = all_parties g rules made t s (holder-engaged g t s past held)

  q : IsRelease g t s e past
  q = changes.release g rules e past made move t s h

  made_after : IsReachable g (e ∷ past)
  made_after = moved g made move

  after : KeepsSems g (e ∷ past) (after_release t s w)
  after = keeps.release g rules e past made move w k t s owns.user owns.known h

  -- ---- FMLP, OMLP and MPCP

  plain : is_pcp (protocol g s) ≡ false → (o : Option ℕ) → o ≡ holder g s (e ∷ past) → IsServedBy g e past o
  plain n o same = record {
    gives = λ u m. (s, q.new_holder u s owns.known (unless _ (λ z. let equal : u ≡ t = is_one u t (holder g s past) z held in clash _ (subst (λ (v : ℕ). is v (holder g s (e ∷ past)) ≡ true) equal (some-is u (holder g s (e ∷ past)) (sym same ∙ m))) q.freed)) (some-is u (holder g s (e ∷ past)) (sym same ∙ m)));
    takes = λ u r v. same ∙ subst (λ (x : ℕ). holder g x (e ∷ past) ≡ Some u) (q.at_own u r v n) v.holder_is;
  }

  holder-after : (p : Protocol) (x : AnySem) → protocol g s ≡ p → KeepsSem g s past p x → (o : Option ℕ) → ((l : SemState) → l ≡ sem_state g s (e ∷ past) → o ≡ l.holder → o ≡ holder g s (e ∷ past))
  unfolding holder
  holder-after p x m v o l same z = z ∙ ap (λ (y : SemState). y.holder) same

  -- ---- PCP

  serves-none : is_pcp (protocol g s) ≡ true → pcp g (cluster_of g s) (e ∷ past) ≡ freed_state t s (pcp g (cluster_of g s) past) → (u r : ℕ) → IsServed g u r e past → ⊥
  serves-none n f u r v = by_case (is_beside g s r) refl
    where
      waited : (has r (sems g) ≡ true) × (has u (sem_state g r past).waiting ≡ true)
      waited = awaits-waits g u r past v.waited

      not-held : is u (holder g r past) ≡ true → ⊥
      not-held z = clash _ waited.1 (apart g rules made u r waited.0 z)

      by_case : (b : Bool) → is_beside g s r ≡ b → ⊥
      by_case false m = not-held (subst (λ (o : Option ℕ). is u o ≡ true) (holder-left g r e past (left g rules s r e past (record { task = t; act = rw h freeing; party = owns }) m)) (some-is u (holder g r (e ∷ past)) v.holder_is))
      by_case true m =
          let z = both (is_pcp (protocol g r)) (cluster_of g r == cluster_of g s) (rw n at m) in
          let c : cluster_of g r ≡ cluster_of g s = eqb-true (cluster_of g r) (cluster_of g s) z.1 in
          let there : has_pair u r (pcp g (cluster_of g r) (e ∷ past)).held ≡ true = first-pcp u r (pcp g (cluster_of g r) (e ∷ past)) (rw (pcp-holder g r (e ∷ past) z.0) at (some-is u (holder g r (e ∷ past)) v.holder_is)) in
          let here : has_pair u r (freed_state t s (pcp g (cluster_of g s) past)).held ≡ true = subst (λ (l : PcpState). has_pair u r l.held ≡ true) f (subst (λ (n : ℕ). has_pair u r (pcp g n (e ∷ past)).held ≡ true) c there) in
          let old : has_pair u r (pcp g (cluster_of g s) past).held ≡ true = has_pair-without_pair u r (record { task = t; sem = s }) (pcp g (cluster_of g s) past).held here in
          not-held (rw (pcp-holder g r past z.0) (pcp-first g (cluster_of g r) u r (pcp g (cluster_of g r) past) (pcp_kept g rules (cluster_of g r) made) (subst (λ (n : ℕ). has_pair u r (pcp g n past).held ≡ true) (sym c) old)))

  serves-one : is_pcp (protocol g s) ≡ true → (p : TaskSem) → has_pair p.task p.sem (pcp g (cluster_of g s) past).waiting ≡ true → pcp g (cluster_of g s) (e ∷ past) ≡ granted p (freed_state t s (pcp g (cluster_of g s) past)) → IsServed g p.task p.sem e past
  serves-one n p m f = q.new_holder p.task p.sem known (unless _ (λ z. clash _ waits (apart g rules made p.task p.sem known z))) holds-it
    where
      user : IsUser g (cluster_of g s) p.task p.sem
      user = (pcp_kept g rules (cluster_of g s) made).waiting p.task p.sem m

      c : cluster_of g p.sem ≡ cluster_of g s
      c = sem-home g rules (cluster_of g s) p.task p.sem user

      known : has p.sem (sems g) ≡ true
      known = let d = user-task g p.sem p.task user.user in rules.is_known p.task p.sem d.0 d.1

      waits : has p.task (sem_state g p.sem past).waiting ≡ true
      waits = pcp-waiting g p.task p.sem past user.of_pcp ∙ subst (λ (n : ℕ). has_pair p.task p.sem (pcp g n past).waiting ≡ true) (sym c) m

      there : has_pair p.task p.sem (pcp g (cluster_of g s) (e ∷ past)).held ≡ true
      there = rw (f, equal_self p.task, equal_self p.sem) refl

      holds-it : is p.task (holder g p.sem (e ∷ past)) ≡ true
      holds-it = rw (pcp-holder g p.sem (e ∷ past) user.of_pcp) (pcp-first g (cluster_of g p.sem) p.task p.sem (pcp g (cluster_of g p.sem) (e ∷ past)) (pcp_kept g rules (cluster_of g p.sem) made_after) (subst (λ (n : ℕ). has_pair p.task p.sem (pcp g n (e ∷ past)).held ≡ true) (sym c) there))

  pcp-serves : is_pcp (protocol g s) ≡ true → (o : Option ℕ) → o ≡ newcomer (without_pair (record { task = t; sem = s }) (pcp g (cluster_of g s) past).held) (pcp g (cluster_of g s) (e ∷ past)).held → IsServedBy g e past o
  pcp-serves n o same = by_form (freed-form g rules t s e past made owns n h)
    where
      by_form : IsFreed t s (pcp g (cluster_of g s) past) (pcp g (cluster_of g s) (e ∷ past)) → IsServedBy g e past o
      by_form (inl f) = record {
        gives = λ u m. let none : o ≡ None = same ∙ no-newcomer _ _ (ap (λ (l : PcpState). l.held) f) in absurd cc;
        takes = λ u r v. absurd (serves-none n f u r v);
      }
      by_form (inr p) =
          let one : o ≡ Some p.0.task = same ∙ one-newcomer p.0 _ _ (ap (λ (l : PcpState). l.held) p.2) in
          let served : IsServed g p.0.task p.0.sem e past = serves-one n p.0 p.1 p.2 in
          record {
            gives = λ u m. let equal : p.0.task ≡ u = cc in (p.0.sem, subst (λ (v : ℕ). IsServed g v p.0.sem e past) equal served);
            takes = λ u r v. one ∙ ap {B = Option ℕ} (λ (x : ℕ). Some x) (q.one p.0.task u p.0.sem r served v);
          }

  -- ---- SRP: nobody holds what is freed

  srp-nobody : protocol g s ≡ Srp → holder g s (e ∷ past) ≡ None
  srp-nobody m = by_case (holder g s (e ∷ past)) refl
    where
      before : (u : ℕ) → has_pair u s (srp g (cluster_of g s) (e ∷ past)) ≡ true → u ≡ t
      before u z =
          let old : has_pair u s (srp g (cluster_of g s) past) ≡ true = has_pair-without_pair u s (record { task = t; sem = s }) (srp g (cluster_of g s) past) (rw (srp-freed g (cluster_of g s) t s e past h (stack-home g rules t s owns (rw m)) m) at z) in
          held_once g rules (cluster_of g s) made u t s old (first-srp t s (srp g (cluster_of g s) past) (rw (srp-holder g s past m) at held))

      by_case : (o : Option ℕ) → holder g s (e ∷ past) ≡ o → o ≡ None
      by_case None z = refl
      by_case (Some u) z =
          let there : has_pair u s (srp g (cluster_of g s) (e ∷ past)) ≡ true = first-srp u s (srp g (cluster_of g s) (e ∷ past)) (rw (srp-holder g s (e ∷ past) m) at (some-is u (holder g s (e ∷ past)) z)) in
          absurd (clash _ (subst (λ (v : ℕ). is v (holder g s (e ∷ past)) ≡ true) (before u there) (some-is u (holder g s (e ∷ past)) z)) q.freed)

  serves : (p : Protocol) (x : AnySem) → protocol g s ≡ p → KeepsSem g s past p x → IsServedBy g e past (served_by t s w.sets x)
  serves Fmlp (any.Fmlp l) m v = plain (rw m refl) _ (holder-after Fmlp (any.Fmlp l) m v _ _ (tells g rules (e ∷ past) (after_release t s w) after s t owns.known owns.user Fmlp (freed t (any.Fmlp l)) m (sem-frees g rules e past made move t s owns.known h Fmlp (any.Fmlp l) m v)) refl)
  serves Omlp (any.Omlp l) m v = plain (rw m refl) _ (holder-after Omlp (any.Omlp l) m v _ _ (tells g rules (e ∷ past) (after_release t s w) after s t owns.known owns.user Omlp (freed t (any.Omlp l)) m (sem-frees g rules e past made move t s owns.known h Omlp (any.Omlp l) m v)) refl)
  serves Mpcp (any.Mpcp l) m v = plain (rw m refl) _ (holder-after Mpcp (any.Mpcp l) m v _ _ (tells g rules (e ∷ past) (after_release t s w) after s t owns.known owns.user Mpcp (freed t (any.Mpcp l)) m (sem-frees g rules e past made move t s owns.known h Mpcp (any.Mpcp l) m v)) refl)
  serves Pcp (any.Pcp c) m v =
      let n : is_pcp (protocol g s) ≡ true = rw m refl in
      let set : KeepsSet g (cluster_of g s) past (set_at w.sets c.0) = set-here g rules past w k s t owns.known owns.user n c.0 v in
      let at-home : home g t ≡ cluster_of g s = user-home g rules s t (pcp-shares g.setup.plugin (protocol g s) n) owns.user in
      let new : pcp_freed t s (set_at w.sets c.0) ≡ pcp g (cluster_of g s) (e ∷ past) = (set-frees g rules e past made move (cluster_of g s) (set_at w.sets c.0) set t s h at-home n).state in
      pcp-serves n _ (ap (λ (l : PcpState). newcomer (without_pair (record { task = t; sem = s }) l.held) (pcp_freed t s (set_at w.sets c.0)).held) set.state ∙ ap (λ (l : PcpState). newcomer (without_pair (record { task = t; sem = s }) (pcp g (cluster_of g s) past).held) l.held) new)
  serves Srp (any.Srp c) m v = plain (rw m refl) None (sym (srp-nobody m))
  serves p x m v = absurd v

  -- ---- rows

  module _ (rows : KeepsRows g past w) where
    member : has t (tasks g) ≡ true
    member = (user-task g s t owns.user).0

    loses-one : length (holds g t past) ≡ length (holds g t (e ∷ past)) + 1
    loses-one = length-more s (holds g t (e ∷ past)) (holds g t past) (distinct-holds g t (e ∷ past)) (distinct-holds g t past) (unless _ (λ m. clash _ (one-holds g t s (e ∷ past) m).1 q.freed)) (λ r. by_case r (r == s) refl)
      where
        by_case : (r : ℕ) (b : Bool) → r == s ≡ b → has r (holds g t past) ≡ b || has r (holds g t (e ∷ past))
        by_case r true m = subst (λ (x : ℕ). has x (holds g t past) ≡ true) (sym (eqb-true r s m)) (holds-one g t s past owns.known held)
        by_case r false m = sym (rw m at (q.loses r))

    own-row : KeepsRow g t (e ∷ past) (row_freed (row_at w.rows t))
    own-row =
        let r : KeepsRow g t past (row_at w.rows t) = rows.rows t member in
        record {
          home_is = r.home_is;
          awaited = r.awaited ∙ none-waits g t past (λ o there. freer-waits_not g rules made move t s o h there) ∙ sym q.waits_not;
          held = omega (arith, loses-one, r.held);
        }

    served-not : (u r : ℕ) → IsServed g u r e past → is u (holder g r past) ≡ true → ⊥
    served-not u r v z = let m = awaits-waits g u r past v.waited in clash _ m.1 (apart g rules made u r m.0 z)

    served-row : (u r : ℕ) → has u (tasks g) ≡ true → IsServed g u r e past → KeepsRow g u (e ∷ past) (row_served (row_at w.rows u))
    served-row u r there v =
        let k : KeepsRow g u past (row_at w.rows u) = rows.rows u there in
        let n : length (holds g u (e ∷ past)) ≡ length (holds g u past) + 1 = length-more r (holds g u past) (holds g u (e ∷ past)) (distinct-holds g u past) (distinct-holds g u (e ∷ past)) (unless _ (λ m. served-not u r v (one-holds g u r past m).1)) v.gains in
        record {
          home_is = k.home_is;
          awaited = sym v.waits_not;
          held = one-more (row_at w.rows u).held (length (holds g u (e ∷ past))) (omega (arith, n, k.held)) (omega (arith, holds-few g u (e ∷ past), rows.small));
        }

    served-other : (u r : ℕ) → IsServed g u r e past → t == u ≡ false
    served-other u r v = unless _ (λ m. met (eqb-true t u m))
      where
        met : t ≡ u → ⊥
        met same =
            let gained : has r (holds g u (e ∷ past)) ≡ true = rw (v.gains r, equal_self r) refl in
            let lost : not (r == s) && has r (holds g t past) ≡ true = sym (q.loses r) ∙ subst (λ (x : ℕ). has r (holds g x (e ∷ past)) ≡ true) (sym same) gained in
            served-not u r v (subst (λ (x : ℕ). is x (holder g r past) ≡ true) same (one-holds g t r past (both (not (r == s)) (has r (holds g t past)) lost).1).1)

    -- where the task was not served
    unserved : (u : ℕ) → has u (tasks g) ≡ true → ((r : ℕ) → IsServed g u r e past → ⊥) → (b : Bool) → t == u ≡ b → KeepsRow g u (e ∷ past) (row_at (slice_set w.rows t (row_freed (row_at w.rows t))) u)
    unserved u there none true m = rw (at-same w.rows t u (row_freed (row_at w.rows t)) no_row m (rows.row_room t member)) (subst (λ (n : ℕ). KeepsRow g n (e ∷ past) (row_freed (row_at w.rows t))) (eqb-true t u m) own-row)
    unserved u there none false m = rw (at-other w.rows t u (row_freed (row_at w.rows t)) no_row m) (split (q.others u (turned u t ∙ m)))
      where
        split : KeepsHolds g u e past ⊎ ((r : ℕ) × IsServed g u r e past) → KeepsRow g u (e ∷ past) (row_at w.rows u)
        split (inl z) = keeps-row g u e past (row_at w.rows u) z.awaited z.held (rows.rows u there)
        split (inr z) = absurd (none z.0 z.1)

    row-after : (o : Option ℕ) → IsServedBy g e past o → (u : ℕ) → has u (tasks g) ≡ true → KeepsRow g u (e ∷ past) (row_at (rows_served o (slice_set w.rows t (row_freed (row_at w.rows t)))) u)
    row-after None z u there = unserved u there (λ r v. let m : None ≡ Some u = z.takes u r v in cc) (t == u) refl
    row-after (Some v) z u there = by_case (v == u) refl
      where
        base : List Row
        base = slice_set w.rows t (row_freed (row_at w.rows t))

        by_case : (b : Bool) → v == u ≡ b → KeepsRow g u (e ∷ past) (row_at (slice_set (slice_set w.rows t (row_freed (row_at w.rows t))) v (row_served (row_at (slice_set w.rows t (row_freed (row_at w.rows t))) v))) u)
        by_case false m = rw (at-other (slice_set w.rows t (row_freed (row_at w.rows t))) v u (row_served (row_at (slice_set w.rows t (row_freed (row_at w.rows t))) v)) no_row m) (unserved u there (λ r x. let y : Some v ≡ Some u = z.takes u r x in let same : v ≡ u = cc in clash _ (equal_self u) (rw same at m)) (t == u) refl)
        by_case true m =
            let same : v ≡ u = eqb-true v u m in
            let x : (r : ℕ) × IsServed g v r e past = z.gives v refl in
            let away : t == v ≡ false = served-other v x.0 x.1 in
            let here : KeepsRow g v (e ∷ past) (row_served (row_at w.rows v)) = served-row v x.0 (subst (λ (n : ℕ). has n (tasks g) ≡ true) (sym same) there) x.1 in
            let moved_row : KeepsRow g v (e ∷ past) (row_served (row_at (slice_set w.rows t (row_freed (row_at w.rows t))) v)) = rw (at-other w.rows t v (row_freed (row_at w.rows t)) no_row away) here in
            rw (at-same (slice_set w.rows t (row_freed (row_at w.rows t))) v u (row_served (row_at (slice_set w.rows t (row_freed (row_at w.rows t))) v)) no_row m (still-below w.rows t v _ (rows.row_room v (subst (λ (n : ℕ). has n (tasks g) ≡ true) (sym same) there)))) (subst (λ (n : ℕ). KeepsRow g n (e ∷ past) (row_served (row_at (slice_set w.rows t (row_freed (row_at w.rows t))) v))) same moved_row)

    room-after : (o : Option ℕ) (u : ℕ) → u < length w.rows → u < length (rows_served o (slice_set w.rows t (row_freed (row_at w.rows t))))
    room-after None u m = still-below w.rows t u _ m
    room-after (Some v) u m = still-below (slice_set w.rows t (row_freed (row_at w.rows t))) v u _ (still-below w.rows t u _ m)

    pub rows-after : KeepsRows g (e ∷ past) (after_release t s w)
    rows-after = record {
      small = rows.small;
      row_room = λ u there. room-after (served_by t s w.sets (sem_at w.sems s)) u (rows.row_room u there);
      rows = λ u there. row-after (served_by t s w.sets (sem_at w.sems s)) (serves (protocol g s) (sem_at w.sems s) refl (k.kept s owns.known)) u there;
    }

pub release_rows : ReleaseRows
release_rows g e past valid made w t s h k rows = let last = last_move g made in rows-after g (rules_of g valid) e past last.0 last.1 w k t s h rows

pub tells_served : TellsServed
tells_served g e past valid made w t s h k =
    let last = last_move g made in
    let rules = rules_of g valid in
    let party : IsParty g t s = owns g rules e past last.0 last.1 w k t s h in
    serves g rules e past last.0 last.1 w k t s h (protocol g s) (sem_at w.sems s) refl (k.kept s party.known)
