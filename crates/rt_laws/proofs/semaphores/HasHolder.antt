-- A semaphore that a task waits for has a holder: FMLP, OMLP, MPCP.
use Rattle.std.proofs.Common.{List, [], arith, false, inl, inr, length, refl, true, ℕ, ◌∷◌, ◌≡◌, ◌≤◌, ◌⊎◌}
use Rattle.std.specs.Prelude.{is_none}
use Rattle.rt_task.specs.declared.Protocol.TheVariants.{Fmlp, Mpcp, Omlp, Pcp, Srp}
use Rattle.rt_task.specs.declared.Protocol.{Protocol}
use Rattle.rt_rules.specs.Numbers.{first, has, rest}
use Rattle.rt_model.specs.Ceilings.{is_pcp}
use Rattle.rt_model.specs.Group.{Group, cpus, protocol, sems}
use Rattle.rt_model.specs.Holders.{holder, sem_state}
use Rattle.rt_model.specs.Reachable.{IsReachable}
use Rattle.rt_model.specs.Past.{Past}
use Rattle.rt_model.specs.Semaphores.{cluster_of, fmlp, omlp}
use Rattle.rt_rules.proofs.MemberLaws.{has-appended}
use Rattle.rt_rules.proofs.OmlpLaws.{IsQueued}
use Rattle.rt_laws.proofs.fmlp.FmlpState.{fmlp-sem_state}
use Rattle.rt_laws.proofs.GroupLaws.{has_room}
use Rattle.rt_laws.proofs.mpcp.MpcpState.{mpcp-holder, mpcp-is, mpcp_busy}
use Rattle.rt_laws.proofs.omlp.OmlpState.{omlp-sem_state, queued}
use Rattle.rt_laws.proofs.Rules.{MeetsRules}
use Rattle.rt_laws.proofs.semaphores.Waiting.{srp-waiting}

first-there : (xs : List ℕ) → 1 ≤ length xs → is_none (first xs) ≡ false
first-there [] h = absurd (omega arith)
first-there (x ∷ xs) h = refl

rest-there : (t : ℕ) (xs : List ℕ) → has t (rest xs) ≡ true → is_none (first xs) ≡ false
rest-there t [] h = cc
rest-there t (x ∷ xs) h = refl

-- a semaphore that a task waits for has a holder
pub has_holder : (g : Group) → MeetsRules g → {past : Past} → IsReachable g past → (t s : ℕ) → has s (sems g) ≡ true → is_pcp (protocol g s) ≡ false → has t (sem_state g s past).waiting ≡ true → is_none (holder g s past) ≡ false
has_holder g rules {past} made t s there n w = by_protocol (protocol g s) refl
  where
    of_omlp : protocol g s ≡ Omlp → is_none (holder g s past) ≡ false
    of_omlp p = rw (omlp-sem_state g s past p).1 (split (has-appended t (rest (omlp g s past).fifo) (omlp g s past).queue (rw (omlp-sem_state g s past p).0 at w)))
      where
        q : IsQueued (cpus g (cluster_of g s)) (omlp g s past)
        q = queued g rules s p (rw p at (rules.is_allowed s there)) made

        split : (has t (rest (omlp g s past).fifo) ≡ true) ⊎ (has t (omlp g s past).queue ≡ true) → is_none (first (omlp g s past).fifo) ≡ false
        split (inl k) = rest-there t (omlp g s past).fifo k
        split (inr k) = first-there (omlp g s past).fifo (omega (arith, q.full t k, has_room g rules s))

    by_protocol : (p : Protocol) → protocol g s ≡ p → is_none (holder g s past) ≡ false
    by_protocol Fmlp e = rw (fmlp-sem_state g s past e).1 (rest-there t (fmlp g s past) (rw (fmlp-sem_state g s past e).0 at w))
    by_protocol Omlp e = of_omlp e
    by_protocol Mpcp e = rw (mpcp-holder g s past e) (mpcp_busy g s (rw e at (rules.is_allowed s there)) past t (rw (mpcp-is g s past e) at w))
    by_protocol Srp e = let m : has t [] ≡ true = rw (srp-waiting g s past e) at w in cc
    by_protocol Pcp e = let m : true ≡ false = rw e at n in cc
