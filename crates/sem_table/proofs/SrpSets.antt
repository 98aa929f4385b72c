-- The SRP semaphores of a cluster.
use Rattle.std.proofs.Common.{◌≡◌, ◌∙◌, ◌<◌, ◌&&◌, ℕ, Bool, true, false, List, [], ◌∷◌, refl, sym, ap, cond, eqb-true, length, not, subst}
use Rattle.std.specs.List.{list_all}
use Rattle.std.specs.Prelude.{◌==◌, nat_lt, slice_set}
use Rattle.rt_task.specs.declared.Protocol.{Protocol}
use Rattle.rt_task.specs.declared.Protocol.TheVariants.{Fmlp, Mpcp, Omlp, Pcp, Srp}
use Rattle.rt_rules.specs.Numbers.{has}
use Rattle.rt_rules.specs.Pcp.{TaskSem, is_same_pair, of_others}
use Rattle.rt_rules.specs.SemState.{SemAct, Asks, Frees, Neither}
use Rattle.rt_rules.specs.Srp.{srp_after, srp_passes}
use Rattle.rt_model.specs.BaseKeys.{base_key}
use Rattle.rt_model.specs.Group.{Group, home, in_group, protocol, task, users}
use Rattle.rt_model.specs.Past.{Event, Past, sem_act}
use Rattle.rt_model.specs.Reachable.{IsReachable}
use Rattle.rt_model.specs.Semaphores.{cluster_of}
use Rattle.rt_model.specs.StackPolicy.{is_srp, passes_srp, srp, srp_at, srp_ceiling}
use Rattle.rt_rules.proofs.BoolLaws.{and_false, or_true, unless}
use Rattle.rt_rules.proofs.MemberLaws.{equal_self}
use Rattle.rt_rules.proofs.PairLaws.{has_pair}
use Rattle.rt_laws.proofs.GroupLaws.{user-home, user-task}
use Rattle.rt_laws.proofs.Moves.{IsMove}
use Rattle.rt_laws.proofs.Rules.{MeetsRules}
use Rattle.rt_laws.proofs.srp.SrpState.{IsSrpUser, free_when_asked, srp_users}
use Rattle.rt_laws.proofs.ValidSets.{rules_of}
use Rattle.pcp_sem.proofs.Sound.{sem-pair}
use Rattle.srp_sem.specs.SrpKept.{SrpKept, ceiling_at}
use Rattle.sem_table.specs.declared.any_sem.AnySem.{AnySem}
use Rattle.sem_table.specs.declared.any_sem.AnySem.TheVariants as any
use Rattle.sem_table.specs.Asked.{sets_asked, srp_asked}
use Rattle.sem_table.specs.Released.{sets_freed, srp_freed}
use Rattle.sem_table.specs.SemTable.{ClusterSets, srp_set_at}
use Rattle.sem_table.specs.Told.{passes_at, passes_in}
use Rattle.sem_table.specs.KeptSems.{KeepsSem, KeepsSrp}
use Rattle.sem_table.specs.Telling.{TellsPassing}
use Rattle.sem_table.proofs.Conditions.{distinct-sems, group-of}
use Rattle.sem_table.proofs.Lists.{at-other, at-same}
use Rattle.sem_table.proofs.Waits.{row-there}

-- ---- at the cluster of the act, and at any other

srp-ask : (g : Group) (c t s : ℕ) → home g t ≡ c → protocol g s ≡ Srp → srp_at g c (Asks t s) ≡ Asks t s
unfolding srp_at
srp-ask g c t s h k = rw (h, equal_self c, k)

srp-free : (g : Group) (c t s : ℕ) → home g t ≡ c → protocol g s ≡ Srp → srp_at g c (Frees t s) ≡ Frees t s
unfolding srp_at
srp-free g c t s h k = rw (h, equal_self c, k)

-- an act of another cluster's task, or at another protocol's semaphore
abbrev IsApart : Group → ℕ → ℕ → ℕ → Type 0
IsApart g c t s = home g t == c && is_srp (protocol g s) ≡ false

apart-ask : (g : Group) (c t s : ℕ) → IsApart g c t s → srp_at g c (Asks t s) ≡ Neither
unfolding srp_at
apart-ask g c t s h = rw h

apart-free : (g : Group) (c t s : ℕ) → IsApart g c t s → srp_at g c (Frees t s) ≡ Neither
unfolding srp_at
apart-free g c t s h = rw h

pub srp-neither : (g : Group) (c : ℕ) (x : SemAct) → x ≡ Neither → srp_at g c x ≡ Neither
unfolding srp_at
srp-neither g c x h = rw h

module _ (g : Group) (rules : MeetsRules g) (e : Event) (past : Past) (made : IsReachable g past) (move : IsMove g past e) (c : ℕ) (p : SrpKept) (w : KeepsSrp g c past p) where
  srp-is : (x : SemAct) → srp_at g c (sem_act e) ≡ x → srp g c (e ∷ past) ≡ srp_after x (srp g c past)
  unfolding srp
  srp-is x h = ap (λ y. srp_after y (srp g c past)) h

  pub srp-quiet : srp_at g c (sem_act e) ≡ Neither → KeepsSrp g c (e ∷ past) p
  srp-quiet h = record { held = w.held ∙ sym (srp-is Neither h); known = w.known; ceilings = w.ceilings; room = w.room; once = w.once }

  module _ (t s : ℕ) (at_home : home g t ≡ c) (q : protocol g s ≡ Srp) where
    pub srp-asks : sem_act e ≡ Asks t s → KeepsSrp g c (e ∷ past) (srp_asked t s p)
    srp-asks h = record {
      held = ap (srp_after (Asks t s)) w.held ∙ sym (srp-is (Asks t s) (rw h (srp-ask g c t s at_home q)));
      known = w.known;
      ceilings = w.ceilings;
      room = w.room;
      once = (unless _ (λ m. let n = sem-pair s p.held m in free_when_asked g rules made move t s q h c n.0 (subst (λ ps. has_pair n.0 s ps ≡ true) w.held n.1)), w.once);
    }

    pub srp-frees : sem_act e ≡ Frees t s → KeepsSrp g c (e ∷ past) (srp_freed t s p)
    srp-frees h = record {
      held = ap (srp_after (Frees t s)) w.held ∙ sym (srp-is (Frees t s) (rw h (srp-free g c t s at_home q)));
      known = w.known;
      ceilings = w.ceilings;
      room = w.room;
      once = distinct-sems (λ (x : TaskSem). not (is_same_pair (record { task = t; sem = s }) x)) p.held w.once;
    }

-- ---- the sets of all clusters

module _ (g : Group) (rules : MeetsRules g) (e : Event) (past : Past) (made : IsReachable g past) (move : IsMove g past e) (sets : ClusterSets) (room : (c : ℕ) → c < length g.setup.clusters → c < length sets.srp) (kept : (c : ℕ) → c < length g.setup.clusters → in_group g c ≡ true → KeepsSrp g c past (srp_set_at sets c)) (t s : ℕ) (user : has t (users g s) ≡ true) (c : ℕ) (low : c < length g.setup.clusters) (mine : in_group g c ≡ true) where
  -- the set of the act's cluster is another, all others stay
  one-other : (f : SrpKept → SrpKept) → (home g t ≡ c → KeepsSrp g c (e ∷ past) (f (srp_set_at sets c))) → (home g t == c ≡ false → KeepsSrp g c (e ∷ past) (srp_set_at sets c)) → (d : ℕ) → d ≡ home g t → KeepsSrp g c (e ∷ past) (srp_set_at (record sets { srp = slice_set sets.srp d (f (srp_set_at sets d)) }) c)
  one-other f here away d at = by_case (d == c) refl
    where
      by_case : (b : Bool) → d == c ≡ b → KeepsSrp g c (e ∷ past) (srp_set_at (record sets { srp = slice_set sets.srp d (f (srp_set_at sets d)) }) c)
      by_case true m =
          let same : d ≡ c = eqb-true d c m in
          subst (λ x. KeepsSrp g c (e ∷ past) x) (sym (at-same sets.srp d c (f (srp_set_at sets d)) _ m (rw same (room c low)))) (rw same (here (sym at ∙ same)))
      by_case false m = subst (λ x. KeepsSrp g c (e ∷ past) x) (sym (at-other sets.srp d c (f (srp_set_at sets d)) _ m)) (away (rw (← at) m))

  srp-home : protocol g s ≡ Srp → home g t ≡ cluster_of g s
  srp-home q = user-home g rules s t (rw q) user

  other : is_srp (protocol g s) ≡ false → IsApart g c t s
  other q = rw (q, and_false (home g t == c))

  pub srp-sets_asked : sem_act e ≡ Asks t s → (p : Protocol) (x : AnySem) → protocol g s ≡ p → KeepsSem g s past p x → KeepsSrp g c (e ∷ past) (srp_set_at (sets_asked t (base_key g t past) s x sets) c)
  srp-sets_asked h Fmlp (any.Fmlp l) q v = srp-quiet g rules e past made move c (srp_set_at sets c) (kept c low mine) (rw h (apart-ask g c t s (other (rw q))))
  srp-sets_asked h Omlp (any.Omlp l) q v = srp-quiet g rules e past made move c (srp_set_at sets c) (kept c low mine) (rw h (apart-ask g c t s (other (rw q))))
  srp-sets_asked h Mpcp (any.Mpcp l) q v = srp-quiet g rules e past made move c (srp_set_at sets c) (kept c low mine) (rw h (apart-ask g c t s (other (rw q))))
  srp-sets_asked h Pcp (any.Pcp d) q v = srp-quiet g rules e past made move c (srp_set_at sets c) (kept c low mine) (rw h (apart-ask g c t s (other (rw q))))
  srp-sets_asked h Srp (any.Srp d) q v = one-other (srp_asked t s) (λ at. srp-asks g rules e past made move c (srp_set_at sets c) (kept c low mine) t s at q h) (λ m. srp-quiet g rules e past made move c (srp_set_at sets c) (kept c low mine) (rw h (apart-ask g c t s (rw m)))) d.0 (v ∙ sym (srp-home q))
  srp-sets_asked h p x q v = absurd v

  pub srp-sets_freed : sem_act e ≡ Frees t s → (p : Protocol) (x : AnySem) → protocol g s ≡ p → KeepsSem g s past p x → KeepsSrp g c (e ∷ past) (srp_set_at (sets_freed t s x sets) c)
  srp-sets_freed h Fmlp (any.Fmlp l) q v = srp-quiet g rules e past made move c (srp_set_at sets c) (kept c low mine) (rw h (apart-free g c t s (other (rw q))))
  srp-sets_freed h Omlp (any.Omlp l) q v = srp-quiet g rules e past made move c (srp_set_at sets c) (kept c low mine) (rw h (apart-free g c t s (other (rw q))))
  srp-sets_freed h Mpcp (any.Mpcp l) q v = srp-quiet g rules e past made move c (srp_set_at sets c) (kept c low mine) (rw h (apart-free g c t s (other (rw q))))
  srp-sets_freed h Pcp (any.Pcp d) q v = srp-quiet g rules e past made move c (srp_set_at sets c) (kept c low mine) (rw h (apart-free g c t s (other (rw q))))
  srp-sets_freed h Srp (any.Srp d) q v = one-other (srp_freed t s) (λ at. srp-frees g rules e past made move c (srp_set_at sets c) (kept c low mine) t s at q h) (λ m. srp-quiet g rules e past made move c (srp_set_at sets c) (kept c low mine) (rw h (apart-free g c t s (rw m)))) d.0 (v ∙ sym (srp-home q))
  srp-sets_freed h p x q v = absurd v

-- ---- who passes

passes-same : (f f' : ℕ → ℕ) (t d : ℕ) (ps : List TaskSem) → ((u s : ℕ) → has_pair u s ps ≡ true → f s ≡ f' s) → srp_passes f ps t d ≡ srp_passes f' ps t d
passes-same f f' t d [] h = refl
passes-same f f' t d (p ∷ ps) h = by_case (not (p.task == t)) (passes-same f f' t d ps (λ u s m. h u s (rw m (or_true (u == p.task && s == p.sem)))))
  where
    by_case : (b : Bool) → srp_passes f ps t d ≡ srp_passes f' ps t d → list_all (λ (q : TaskSem). nat_lt d (f q.sem)) (cond b (p ∷ of_others t ps) (of_others t ps)) ≡ list_all (λ (q : TaskSem). nat_lt d (f' q.sem)) (cond b (p ∷ of_others t ps) (of_others t ps))
    by_case true more = rw (h p.task p.sem (rw (equal_self p.task, equal_self p.sem)), more)
    by_case false more = more

passes-is : (g : Group) → MeetsRules g → (c : ℕ) (past : Past) → IsReachable g past → (p : SrpKept) → KeepsSrp g c past p → (t d : ℕ) → srp_passes (ceiling_at p.ceilings) p.held t d ≡ srp_passes (srp_ceiling g) (srp g c past) t d
passes-is g rules c past made p w t d = rw w.held (passes-same (ceiling_at p.ceilings) (srp_ceiling g) t d (srp g c past) (λ u s m. at u s (srp_users g rules c made u s m)))
  where
    at : (u s : ℕ) → IsSrpUser g c u s → ceiling_at p.ceilings s ≡ srp_ceiling g s
    at u s user =
        let d = user-task g s u user.user in
        w.ceilings s (record { known = rules.is_known u s d.0 d.1; of_srp = rw user.of_srp; home_is = sym (user-home g rules s u (rw user.of_srp) user.user) ∙ user.at_home })

pub tells_passing : TellsPassing
unfolding passes_srp
tells_passing g past valid made w t there k rows =
    ap (passes_in w.sets t (task g t).rel_deadline) (row-there w.rows t (rows.row_room t there))
    ∙ ap (λ (c : ℕ). passes_at w.sets c t (task g t).rel_deadline) (rows.rows t there).home_is
    ∙ passes-is g (rules_of g valid) (home g t) past made (srp_set_at w.sets (home g t)) (k.srp_sets (home g t) ((rules_of g valid).has_home t there) (group-of g t there)) t (task g t).rel_deadline
