-- What each task that runs, holds or waits may rely on.
use Rattle.std.proofs.Common.{List, [], false, inl, inr, not, refl, sym, true, ℕ, ◌||◌, ◌∙◌, ◌∷◌, ◌≡◌, ◌⊎◌}
use Rattle.std.specs.Prelude.{None, Option, Some, is_some}
use Rattle.rt_task.specs.RuleWords.{is_stacked}
use Rattle.rt_task.specs.declared.Protocol.TheVariants.{Fmlp, Mpcp, Omlp, Pcp, Srp}
use Rattle.rt_task.specs.declared.Protocol.{Protocol}
use Rattle.rt_rules.specs.Numbers.{has, is, is_empty}
use Rattle.rt_rules.specs.Pcp.{of_sem}
use Rattle.rt_rules.specs.SemState.{Asks}
use Rattle.rt_model.specs.Answers.{nests}
use Rattle.rt_model.specs.Ceilings.{above_ceiling, is_pcp, pcp}
use Rattle.rt_model.specs.Group.{Group, home, protocol, sems}
use Rattle.rt_model.specs.Histories.{past_of}
use Rattle.rt_model.specs.Holders.{awaits, holder, holds, sem_state}
use Rattle.rt_model.specs.Reachable.{IsReachable, opened}
use Rattle.rt_model.specs.Past.{Event, Past, sem_act}
use Rattle.rt_model.specs.Semaphores.{cluster_of}
use Rattle.rt_rules.proofs.BoolLaws.{clash, unless}
use Rattle.rt_rules.proofs.MemberLaws.{equal_self, some-is}
use Rattle.rt_rules.proofs.PairLaws.{has-of_sem, has_pair}
use Rattle.rt_rules.proofs.PcpLaws.{one_holder_of}
use Rattle.rt_model.proofs.PastLaws.{made-from}
use Rattle.rt_laws.specs.SemaphoreLaws.{EngagedHasJob, EngagedKeepsJob, HolderHoldsOne, HolderWaitsNot, OneHolder, RequestsDoNotNest, RunningIsReady, StandsOnce, WaitsForOne, is_engaged}
use Rattle.rt_laws.specs.EveryPast.{HistoriesAreMade}
use Rattle.rt_laws.proofs.semaphores.Asked.{Asked, IsAsked, asked, asks_empty}
use Rattle.rt_laws.proofs.jobs.Engaged.{engaged, engaged-cases, engaged-step, holder-engaged, nobody-engaged, waiting-engaged}
use Rattle.rt_laws.proofs.jobs.EngagedJobs.{IsActive, all_active, engaged-key}
use Rattle.rt_laws.proofs.semaphores.Holding.{holds-none, one-holds}
use Rattle.rt_laws.proofs.Moves.{by_moves, last_move}
use Rattle.rt_laws.proofs.Next.{IsNext, next}
use Rattle.rt_laws.proofs.semaphores.OneWait.{awaits-is, waits_once}
use Rattle.rt_laws.proofs.pcp.PcpGrants.{held_once}
use Rattle.rt_laws.proofs.pcp.PcpOnce.{length-one}
use Rattle.rt_laws.proofs.pcp.PcpState.{IsPcpKept, IsUser, pcp_kept, sem-home, user-not_over}
use Rattle.rt_laws.proofs.Rules.{MeetsRules}
use Rattle.rt_laws.proofs.jobs.Running.{IsRunning, running}
use Rattle.rt_laws.proofs.srp.SrpOnce.{srp_stands_once}
use Rattle.rt_laws.proofs.srp.SrpState.{kept}
use Rattle.rt_laws.proofs.srp.SrpUsers.{all_users, srp_cluster}
use Rattle.rt_laws.proofs.ValidSets.{rules_of}
use Rattle.rt_laws.proofs.semaphores.Waiting.{awaits-waits, none-waits}
use Rattle.rt_laws.proofs.semaphores.WaitsHolding.{asks-holds_pcp, waits_under_pcp}

pub running_is_ready : RunningIsReady
running_is_ready g past valid made q t h =
    let r : IsRunning g q t past = running g (rules_of g valid) made q t h in
    record { exists_now = r.exists_now; awake = r.awake; free = none-waits g t past r.waits_none }

pub waits_for_one : WaitsForOne
waits_for_one g past valid made t s there h = awaits-is g t s past (waits_once g (rules_of g valid) made) there h

-- who holds or waits is engaged at some semaphore
engaged_somewhere : (g : Group) (t : ℕ) (past : Past) → is_engaged g t past ≡ true → (s : ℕ) × (has s (sems g) ≡ true) × (engaged g t s past ≡ true)
engaged_somewhere g t past h = by_holds (holds g t past) refl h
  where
    by_wait : (o : Option ℕ) → awaits g t past ≡ o → is_some o ≡ true → (s : ℕ) × (has s (sems g) ≡ true) × (engaged g t s past ≡ true)
    by_wait None e k = cc
    by_wait (Some s) e k = let w = awaits-waits g t s past e in (s, w.0, waiting-engaged g t s past w.1)

    by_holds : (xs : List ℕ) → holds g t past ≡ xs → not (is_empty xs) || is_some (awaits g t past) ≡ true → (s : ℕ) × (has s (sems g) ≡ true) × (engaged g t s past ≡ true)
    by_holds [] e k = by_wait (awaits g t past) refl k
    by_holds (s ∷ xs) e k = let held : has s (holds g t past) ≡ true = rw (e, equal_self s) in let w = one-holds g t s past held in (s, w.0, holder-engaged g t s past w.1)

pub engaged_has_job : EngagedHasJob
engaged_has_job g past valid made t h =
    let s = engaged_somewhere g t past h in
    let k : IsActive g t s.0 past = all_active g (rules_of g valid) made t s.0 s.1 s.2 in
    record { exists_now = k.exists_now; awake = k.awake }

pub engaged_keeps_job : EngagedKeepsJob
engaged_keeps_job g e past valid made t h =
    let last = last_move g made in
    let n : IsNext g e past = next g (rules_of g valid) last.0 last.1 in
    let s = engaged_somewhere g t (e ∷ past) h in
    record { goes_on = n.goes_on t s.0 s.1 s.2; same_key = engaged-key g (rules_of g valid) t s.0 e past n (all_active g (rules_of g valid) last.0) s.1 s.2 }

pcp-stacked : (p : Protocol) → is_pcp p ≡ true → is_stacked p ≡ true
pcp-stacked Pcp k = refl
pcp-stacked p k = cc

-- who asks holds PCP and SRP semaphores alone, and only where it asks for one
asks_stacked : (g : Group) → MeetsRules g → {past : Past} → IsReachable g past → (t s r : ℕ) → IsAsked g t r past → has s (sems g) ≡ true → is t (holder g s past) ≡ true → (is_stacked (protocol g s) ≡ true) × (is_stacked (protocol g r) ≡ true)
asks_stacked g rules {past} made t s r a there h = by_protocol (protocol g r) refl a.unnested
  where
    nothing : is_empty (holds g t past) ≡ true → ⊥
    nothing k = clash _ h (holds-none g t s past k there)

    by_protocol : (p : Protocol) → protocol g r ≡ p → nests g p r t past ≡ false → (is_stacked (protocol g s) ≡ true) × (is_stacked p ≡ true)
    by_protocol Fmlp e n = absurd (nothing (asks_empty g Fmlp t r past refl n))
    by_protocol Omlp e n = absurd (nothing (asks_empty g Omlp t r past refl n))
    by_protocol Mpcp e n = absurd (nothing (asks_empty g Mpcp t r past refl n))
    by_protocol Pcp e n = (pcp-stacked (protocol g s) (asks-holds_pcp g t s r past n there h), refl)
    by_protocol Srp e n = let p : protocol g s ≡ Srp = (srp_cluster g rules (home g t) t r e a.user refl).uses_srp t s (all_users g rules made t s (holder-engaged g t s past h)) refl in (rw p, refl)

pub requests_do_not_nest : RequestsDoNotNest
requests_do_not_nest g e past valid made t s h = record {
  holds_none = λ n. asks_empty g (protocol g s) t s past n asks_it.unnested;
  holds_stacked = λ r k. let there = one-holds g t r past k in (asks_stacked g (rules_of g valid) (last_move g made).0 t r s asks_it there.0 there.1).0;
}
  where
    asks_it : IsAsked g t s past
    asks_it = let last = last_move g made in asked g (rules_of g valid) last.0 last.1 t s h

pub holder_waits_not : HolderWaitsNot
holder_waits_not g past valid made t s there n h = none-waits g t past (λ r hr. unless _ (λ w. clash _ (waits_under_pcp g (rules_of g valid) made t s r there hr (some-is t (holder g s past) h) w).0 n))

-- ---- one semaphore of the protocols whose requests do not nest

abbrev IsAlone : Group → Past → Type 0
IsAlone g past = (t s r : ℕ) → has s (sems g) ≡ true → has r (sems g) ≡ true → is t (holder g s past) ≡ true → is t (holder g r past) ≡ true → (s ≡ r) ⊎ (is_stacked (protocol g s) ≡ true) × (is_stacked (protocol g r) ≡ true)

alone-step : (g : Group) → MeetsRules g → (e : Event) (past : Past) → IsReachable g past → Asked g e past → IsAlone g past → IsAlone g (e ∷ past)
alone-step g rules e past made asks before t s r hs hr h k = split (was s (engaged-step g t s e past (holder-engaged g t s (e ∷ past) h))) (was r (engaged-step g t r e past (holder-engaged g t r (e ∷ past) k)))
  where
    was : (o : ℕ) → (engaged g t o past ≡ true) ⊎ (sem_act e ≡ Asks t o) → (is t (holder g o past) ≡ true) ⊎ ((has t (sem_state g o past).waiting ≡ true) ⊎ (sem_act e ≡ Asks t o))
    was o (inr m) = inr (inr m)
    was o (inl m) = deeper (engaged-cases g t o past (kept g rules (cluster_of g o) made) m)
      where
        deeper : (is t (holder g o past) ≡ true) ⊎ (has t (sem_state g o past).waiting ≡ true) → (is t (holder g o past) ≡ true) ⊎ ((has t (sem_state g o past).waiting ≡ true) ⊎ (sem_act e ≡ Asks t o))
        deeper (inl n) = inl n
        deeper (inr n) = inr (inl n)

    split : (is t (holder g s past) ≡ true) ⊎ ((has t (sem_state g s past).waiting ≡ true) ⊎ (sem_act e ≡ Asks t s)) → (is t (holder g r past) ≡ true) ⊎ ((has t (sem_state g r past).waiting ≡ true) ⊎ (sem_act e ≡ Asks t r)) → (s ≡ r) ⊎ (is_stacked (protocol g s) ≡ true) × (is_stacked (protocol g r) ≡ true)
    split (inl a) (inl b) = before t s r hs hr a b
    split (inl a) (inr (inl b)) = let p = waits_under_pcp g rules made t s r hs hr a b in inr (pcp-stacked (protocol g s) p.0, pcp-stacked (protocol g r) p.1)
    split (inl a) (inr (inr b)) = inr (asks_stacked g rules made t s r (asks t r b) hs a)
    split (inr (inl a)) (inl b) = let p = waits_under_pcp g rules made t r s hr hs b a in inr (pcp-stacked (protocol g s) p.1, pcp-stacked (protocol g r) p.0)
    split (inr (inl a)) (inr (inl b)) = inl (waits_once g rules made t s r hs hr a b)
    split (inr (inl a)) (inr (inr b)) = absurd (clash _ a ((asks t r b).waits_none s hs))
    split (inr (inr a)) (inl b) = let p = asks_stacked g rules made t r s (asks t s a) hr b in inr (p.1, p.0)
    split (inr (inr a)) (inr (inl b)) = absurd (clash _ b ((asks t s a).waits_none r hr))
    split (inr (inr a)) (inr (inr b)) = let x : sem_act e ≡ Asks t s = a in let y : sem_act e ≡ Asks t r = b in inl cc

alone : (g : Group) → MeetsRules g → {past : Past} → IsReachable g past → IsAlone g past
alone g rules made = by_moves g (IsAlone g) (λ t s r hs hr h k. absurd (clash _ (holder-engaged g t s [] h) (nobody-engaged g t s))) (λ past e made move before. alone-step g rules e past made (asked g rules made move) before) made

pub holder_holds_one : HolderHoldsOne
holder_holds_one g past valid made t s r hs hr n h k = split (alone g (rules_of g valid) made t s r hs hr (some-is t (holder g s past) h) (some-is t (holder g r past) k))
  where
    split : (s ≡ r) ⊎ (is_stacked (protocol g s) ≡ true) × (is_stacked (protocol g r) ≡ true) → s ≡ r
    split (inl e) = e
    split (inr p) = absurd (clash _ p.0 n)

pcp_stands_once : (g : Group) → MeetsRules g → (s : ℕ) {past : Past} → IsReachable g past → StandsOnce s (λ c. (pcp g c past).held)
pcp_stands_once g rules s {past} made = record {
  once = λ c. length-one (of_sem s (pcp g c past).held) ((held_once g rules c made).once s) (λ t u h k. one_task c t u h k);
  one_cluster = λ b c t u h k. sym (sem-home g rules b t s (user b t h)) ∙ sem-home g rules c u s (user c u k);
}
  where
    pcp_is : (c : ℕ) → IsPcpKept g c (pcp g c past)
    pcp_is c = pcp_kept g rules c made

    pair : (c t : ℕ) → has t (of_sem s (pcp g c past).held) ≡ true → has_pair t s (pcp g c past).held ≡ true
    pair c t h = sym (has-of_sem t s (pcp g c past).held) ∙ h

    user : (c t : ℕ) → has t (of_sem s (pcp g c past).held) ≡ true → IsUser g c t s
    user c t h = (pcp_is c).held t s (pair c t h)

    one_task : (c t u : ℕ) → has t (of_sem s (pcp g c past).held) ≡ true → has u (of_sem s (pcp g c past).held) ≡ true → t ≡ u
    one_task c t u h k = one_holder_of (above_ceiling g) (pcp g c past).held (pcp_is c).stack.stacked t u s (user-not_over g t s (user c t h).user) (user-not_over g u s (user c u k).user) (pair c t h) (pair c u k)

pub one_holder : OneHolder
one_holder g past valid made s = record { of_pcp = pcp_stands_once g (rules_of g valid) s made; of_srp = srp_stands_once g (rules_of g valid) s made }

pub histories_are_made : HistoriesAreMade
unfolding past_of
histories_are_made g es = made-from g es opened
