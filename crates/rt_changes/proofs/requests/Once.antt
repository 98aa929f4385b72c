-- Each task stands once on a waiting list.
use Rattle.std.proofs.Common.{Bool, List, [], ap, cond, false, inl, inr, map, refl, true, ℕ, ◌∷◌, ◌≡◌, ◌||◌, ◌⊎◌}
use Rattle.std.specs.Prelude.{filter, ◌==◌}
use Rattle.rt_task.specs.declared.Protocol.TheVariants.{Fmlp, Mpcp, Omlp, Pcp, Srp}
use Rattle.rt_task.specs.declared.Protocol.{Protocol}
use Rattle.rt_rules.specs.Distinct.{IsDistinct}
use Rattle.rt_rules.specs.Numbers.{has, rest}
use Rattle.rt_rules.specs.Pcp.{TaskSem, of_sem}
use Rattle.rt_model.specs.Ceilings.{pcp}
use Rattle.rt_model.specs.Group.{Group, protocol}
use Rattle.rt_model.specs.Holders.{sem_state, sem_state_by}
use Rattle.rt_model.specs.Past.{Past}
use Rattle.rt_model.specs.Semaphores.{cluster_of, fmlp, omlp}
use Rattle.rt_rules.proofs.BoolLaws.{clash, either, or_true, unless}
use Rattle.rt_rules.proofs.DistinctLaws.{distinct-joined, distinct-rest}
use Rattle.rt_rules.proofs.MemberLaws.{has-rest}
use Rattle.rt_rules.proofs.PairLaws.{tasks_of_pairs}
use Rattle.rt_laws.proofs.fmlp.FmlpState.{fmlp-line, fmlp-sem_state}
use Rattle.rt_laws.proofs.mpcp.MpcpState.{mpcp-is, mpcp_once}
use Rattle.rt_laws.proofs.omlp.OmlpState.{omlp-sem_state, queued}
use Rattle.rt_laws.proofs.pcp.PcpGrants as pcp_grants
use Rattle.rt_laws.proofs.Rules.{MeetsRules}
use Rattle.rt_laws.proofs.ValidSets.{rules_of}
use Rattle.rt_laws.proofs.semaphores.Waiting.{srp-waiting}
use Rattle.rt_changes.specs.OpenLaws.{WaitingOnce}
use Rattle.rt_changes.specs.Tallies.{waiter, waiter_tasks}

-- ---- of the pairs of a list, those of one semaphore

of_sem-has : (t s : ℕ) (ps : List TaskSem) → has t (of_sem s ps) ≡ true → has t (tasks_of_pairs ps) ≡ true
of_sem-has t s [] h = cc
of_sem-has t s (p ∷ ps) h = by_case (p.sem == s) h (of_sem-has t s ps)
  where
    by_case : (a : Bool) → has t (map (λ (q : TaskSem). q.task) (cond a (p ∷ filter (λ q. q.sem == s) ps) (filter (λ q. q.sem == s) ps))) ≡ true → (has t (of_sem s ps) ≡ true → has t (tasks_of_pairs ps) ≡ true) → t == p.task || has t (tasks_of_pairs ps) ≡ true
    by_case true k r = split (either (t == p.task) (has t (of_sem s ps)) k)
      where
        split : (t == p.task ≡ true) ⊎ (has t (of_sem s ps) ≡ true) → t == p.task || has t (tasks_of_pairs ps) ≡ true
        split (inl m) = rw m
        split (inr m) = rw (r m) (or_true (t == p.task))
    by_case false k r = rw (r k) (or_true (t == p.task))

distinct-of_sem : (s : ℕ) (ps : List TaskSem) → IsDistinct (tasks_of_pairs ps) → IsDistinct (of_sem s ps)
distinct-of_sem s [] d = tt
distinct-of_sem s (p ∷ ps) d = by_case (p.sem == s) (distinct-of_sem s ps d.1)
  where
    new : has p.task (of_sem s ps) ≡ false
    new = unless _ (λ h. clash _ (of_sem-has p.task s ps h) d.0)

    by_case : (b : Bool) → IsDistinct (of_sem s ps) → IsDistinct (map (λ (q : TaskSem). q.task) (cond b (p ∷ filter (λ q. q.sem == s) ps) (filter (λ q. q.sem == s) ps)))
    by_case true r = (new, r)
    by_case false r = r

-- ---- for the semaphores of a setup

tasks-waiting : (g : Group) (past : Past) (ts : List ℕ) → waiter_tasks (map (waiter g past) ts) ≡ ts
tasks-waiting g past [] = refl
tasks-waiting g past (t ∷ ts) = ap (λ us. t ∷ us) (tasks-waiting g past ts)

pcp-list : (g : Group) (s : ℕ) (past : Past) → protocol g s ≡ Pcp → IsDistinct (tasks_of_pairs (pcp g (cluster_of g s) past).waiting) → IsDistinct (sem_state g s past).waiting
unfolding sem_state sem_state_by
pcp-list g s past e d = rw e (distinct-of_sem s (pcp g (cluster_of g s) past).waiting d)

pub waiting_once : WaitingOnce
waiting_once g past valid made s there = rw (tasks-waiting g past (sem_state g s past).waiting) (by_protocol (protocol g s) refl)
  where
    rules : MeetsRules g
    rules = rules_of g valid

    of_omlp : protocol g s ≡ Omlp → IsDistinct (sem_state g s past).waiting
    of_omlp e =
        let q = queued g rules s e (rw e at (rules.is_allowed s there)) made in
        rw ((omlp-sem_state g s past e).0) (distinct-joined (rest (omlp g s past).fifo) (omlp g s past).queue (distinct-rest (omlp g s past).fifo q.fifo_once) q.queue_once (λ t h. q.apart t (has-rest t (omlp g s past).fifo h)))

    by_protocol : (p : Protocol) → protocol g s ≡ p → IsDistinct (sem_state g s past).waiting
    by_protocol Fmlp e = rw ((fmlp-sem_state g s past e).0) (distinct-rest (fmlp g s past) (fmlp-line g rules s e made).once)
    by_protocol Omlp e = of_omlp e
    by_protocol Mpcp e = rw (mpcp-is g s past e) ((mpcp_once g rules s e made).once)
    by_protocol Srp e = rw (srp-waiting g s past e) tt
    by_protocol Pcp e = pcp-list g s past e (pcp_grants.waiting_once g rules (cluster_of g s) made)
