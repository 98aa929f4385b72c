-- SRP: each semaphore is free when it is asked for, so that it is held once at most.
use Rattle.std.proofs.Common.{List, [], arith, length, refl, subst, sym, true, ℕ, ◌∙◌, ◌∷◌, ◌≡◌, ◌≤◌}
use Rattle.std.specs.Prelude.{None, Some}
use Rattle.rt_task.specs.Validity.{IsValid}
use Rattle.rt_task.specs.declared.Protocol.TheVariants.{Srp}
use Rattle.rt_task.specs.declared.Protocol.{Protocol}
use Rattle.rt_rules.specs.Numbers.{first, has}
use Rattle.rt_rules.specs.Pcp.{of_sem}
use Rattle.rt_rules.specs.SemState.{Asks}
use Rattle.rt_model.specs.Group.{Group, protocol}
use Rattle.rt_model.specs.Holders.{holder}
use Rattle.rt_model.specs.Past.{Event, Past, sem_act}
use Rattle.rt_model.specs.Reachable.{IsReachable}
use Rattle.rt_model.specs.Semaphores.{cluster_of}
use Rattle.rt_model.specs.StackPolicy.{is_srp, srp, srp_at}
use Rattle.rt_rules.proofs.MemberLaws.{some-is}
use Rattle.rt_rules.proofs.PairLaws.{has-of_sem, has_pair}
use Rattle.rt_rules.proofs.SrpLaws.{first-srp, nothing-there, srp-once}
use Rattle.rt_laws.specs.SemaphoreLaws.{StandsOnce}
use Rattle.rt_laws.specs.StackPolicy.{NobodyWaitsForSrp, SrpHolderIsUnderWay, SrpIsFreeAtLock, StackIsFollowed, WereFree}
use Rattle.rt_laws.proofs.semaphores.AtSem.{srp_at-asks}
use Rattle.rt_laws.proofs.Moves.{IsMove, by_moves, last_move}
use Rattle.rt_laws.proofs.Rules.{MeetsRules}
use Rattle.rt_laws.proofs.srp.SrpState.{IsSrpUser, free_when_asked, is_srp-is, srp-holder, srp_state, srp_users}
use Rattle.rt_laws.proofs.srp.SrpUsers.{srp_cluster}
use Rattle.rt_laws.proofs.ValidSets.{rules_of}
use Rattle.rt_laws.proofs.semaphores.Waiting.{srp-waiting}

nowhere : (g : Group) → MeetsRules g → {past : Past} {e : Event} → IsReachable g past → IsMove g past e → (t s : ℕ) → protocol g s ≡ Srp → sem_act e ≡ Asks t s → (c : ℕ) → of_sem s (srp g c past) ≡ []
nowhere g rules {past} made move t s p h c = nothing-there (of_sem s (srp g c past)) (λ u k. free_when_asked g rules made move t s p h c u (sym (has-of_sem u s (srp g c past)) ∙ k))

once-step : (g : Group) → MeetsRules g → (s c : ℕ) (e : Event) (past : Past) → IsReachable g past → IsMove g past e → length (of_sem s (srp g c past)) ≤ 1 → length (of_sem s (srp g c (e ∷ past))) ≤ 1
unfolding srp
once-step g rules s c e past made move before = srp-once s (srp_at g c (sem_act e)) (srp g c past) (λ t h. let q = srp_at-asks g c t s (sem_act e) h in nowhere g rules made move t s (is_srp-is (protocol g s) q.2) q.0 c) before

pub srp_stands_once : (g : Group) → MeetsRules g → (s : ℕ) {past : Past} → IsReachable g past → StandsOnce s (λ c. srp g c past)
unfolding srp
srp_stands_once g rules s {past} made = record {
  once = λ c. by_moves g (λ p. length (of_sem s (srp g c p)) ≤ 1) (omega arith) (λ p e r move before. once-step g rules s c e p r move before) made;
  one_cluster = λ b c t u h k.
      let v : IsSrpUser g b t s = srp_users g rules b made t s (sym (has-of_sem t s (srp g b past)) ∙ h) in
      let w : IsSrpUser g c u s = srp_users g rules c made u s (sym (has-of_sem u s (srp g c past)) ∙ k) in
      sym v.at_home ∙ rules.shares s t u (rw v.of_srp) v.user w.user ∙ w.at_home;
}

pub srp_is_free_at_lock : SrpIsFreeAtLock
srp_is_free_at_lock g e past valid made t s p h =
    let last = last_move g made in
    let q : protocol g s ≡ Srp = is_srp-is (protocol g s) p in
    let none = nowhere g (rules_of g valid) last.0 last.1 t s q h in
    record { unheld = srp-holder g s past q ∙ rw (none (cluster_of g s)); nowhere = none }

pub nobody_waits_for_srp : NobodyWaitsForSrp
nobody_waits_for_srp g past valid made s p = srp-waiting g s past (is_srp-is (protocol g s) p)

pub srp_holder_is_under_way : SrpHolderIsUnderWay
srp_holder_is_under_way g past valid made t s p h =
    let q : protocol g s ≡ Srp = is_srp-is (protocol g s) p in
    let pair : has_pair t s (srp g (cluster_of g s) past) ≡ true = first-srp t s (srp g (cluster_of g s) past) (some-is t (first (of_sem s (srp g (cluster_of g s) past))) (sym (srp-holder g s past q) ∙ h)) in
    let u : IsSrpUser g (cluster_of g s) t s = srp_users g (rules_of g valid) (cluster_of g s) made t s pair in
    (srp_state g (rules_of g valid) (cluster_of g s) (srp_cluster g (rules_of g valid) (cluster_of g s) t s u.of_srp u.user u.at_home) made).holds_way t s pair

were_free : (g : Group) (past : Past) → IsValid g.setup → IsReachable g past → WereFree g past
were_free g [] valid made = tt
were_free g (e ∷ past) valid made = (λ t s p h. srp_is_free_at_lock g e past valid made t s p h, were_free g past valid (last_move g made).0)

pub stack_is_followed : StackIsFollowed
stack_is_followed g past valid made = record {
  were_free = were_free g past valid made;
  nobody_waits = nobody_waits_for_srp g past valid made;
  on_the_way = srp_holder_is_under_way g past valid made;
}
