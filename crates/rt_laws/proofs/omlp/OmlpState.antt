-- OMLP: the FIFO list has at most m members, is full while the priority queue has any, and nobody stands twice.
use Rattle.std.proofs.Common.{ap, arith, false, inl, inr, true, ℕ, ◌++◌, ◌∷◌, ◌≡◌, ◌⊎◌}
use Rattle.rt_task.specs.RuleWords.{stands_under}
use Rattle.rt_task.specs.declared.Protocol.TheVariants.{Omlp}
use Rattle.rt_rules.specs.Numbers.{first, has, is, rest}
use Rattle.rt_rules.specs.Omlp.{omlp_sem_state}
use Rattle.rt_model.specs.BaseKeys.{above}
use Rattle.rt_model.specs.Group.{Group, cpus, protocol}
use Rattle.rt_model.specs.Holders.{holder, sem_state, sem_state_by}
use Rattle.rt_model.specs.Reachable.{IsReachable}
use Rattle.rt_model.specs.Past.{Event, Past, sem_act}
use Rattle.rt_model.specs.Semaphores.{at_sem, cluster_of, omlp}
use Rattle.rt_rules.proofs.BoolLaws.{clash, neither, unless}
use Rattle.rt_rules.proofs.MemberLaws.{has-append, has-split}
use Rattle.rt_rules.proofs.OmlpLaws.{IsQueued, queued-after}
use Rattle.rt_laws.proofs.semaphores.Asked.{Asked, IsAsked, asked, asks_empty}
use Rattle.rt_laws.proofs.semaphores.AtSem.{at_sem-asks}
use Rattle.rt_laws.proofs.jobs.BaseKeyLaws.{above-order}
use Rattle.rt_laws.proofs.GroupLaws.{has_room}
use Rattle.rt_laws.proofs.semaphores.Holding.{holds-none}
use Rattle.rt_laws.proofs.Moves.{by_moves}
use Rattle.rt_laws.proofs.Rules.{MeetsRules}

omlp-is : (g : Group) (s : ℕ) (past : Past) → protocol g s ≡ Omlp → sem_state g s past ≡ omlp_sem_state (omlp g s past)
unfolding sem_state sem_state_by
omlp-is g s past h = rw h

-- the first of the FIFO list holds, all others wait
pub omlp-sem_state : (g : Group) (s : ℕ) (past : Past) → protocol g s ≡ Omlp → ((sem_state g s past).waiting ≡ rest (omlp g s past).fifo ++ (omlp g s past).queue) × (holder g s past ≡ first (omlp g s past).fifo)
unfolding holder
omlp-sem_state g s past h = (ap (λ x. x.waiting) (omlp-is g s past h), ap (λ x. x.holder) (omlp-is g s past h))

-- one that asks stands in neither list
pub omlp-fresh : (g : Group) (s t : ℕ) (past : Past) → protocol g s ≡ Omlp → IsAsked g t s past → (has t (omlp g s past).fifo ≡ false) × (has t (omlp g s past).queue ≡ false)
omlp-fresh g s t past p a = (unless _ (λ h. split (has-split t (omlp g s past).fifo h)), parts.1)
  where
    empty_handed : is t (first (omlp g s past).fifo) ≡ false
    empty_handed = rw (omlp-sem_state g s past p).1 at (holds-none g t s past (asks_empty g (protocol g s) t s past (rw p) a.unnested) a.known)

    waits_not : has t (rest (omlp g s past).fifo ++ (omlp g s past).queue) ≡ false
    waits_not = rw (omlp-sem_state g s past p).0 at (a.waits_none s a.known)

    parts : (has t (rest (omlp g s past).fifo) ≡ false) × (has t (omlp g s past).queue ≡ false)
    parts = neither _ _ (rw has-append at waits_not)

    split : (is t (first (omlp g s past).fifo) ≡ true) ⊎ (has t (rest (omlp g s past).fifo) ≡ true) → ⊥
    split (inl k) = clash _ k empty_handed
    split (inr k) = clash _ k parts.0

-- an event keeps the two lists
queued-event : (g : Group) → MeetsRules g → (s : ℕ) → protocol g s ≡ Omlp → stands_under Omlp g.setup.plugin ≡ true → (e : Event) (past : Past) → Asked g e past → IsQueued (cpus g (cluster_of g s)) (omlp g s past) → IsQueued (cpus g (cluster_of g s)) (omlp g s (e ∷ past))
unfolding omlp
queued-event g rules s p a e past asks k = queued-after (cpus g (cluster_of g s)) (above g past) (at_sem s (sem_act e)) (omlp g s past) (has_room g rules s) (above-order g past Omlp a) (λ t r h. omlp-fresh g s t past p (asks t s (at_sem-asks s t r (sem_act e) h))) k

-- so they are after every move
pub queued : (g : Group) → MeetsRules g → (s : ℕ) → protocol g s ≡ Omlp → stands_under Omlp g.setup.plugin ≡ true → {past : Past} → IsReachable g past → IsQueued (cpus g (cluster_of g s)) (omlp g s past)
unfolding omlp
queued g rules s p a made = by_moves g (λ past. IsQueued (cpus g (cluster_of g s)) (omlp g s past)) (record { fifo_once = tt; queue_once = tt; apart = λ t h. cc; fits = omega arith; full = λ t h. cc }) (λ past e made move before. queued-event g rules s p a e past (asked g rules made move) before) made
