-- FMLP: the line of a semaphore has each of its users at most once.
use Rattle.std.proofs.Common.{ap, false, inl, inr, refl, true, ℕ, ◌∷◌, ◌≡◌, ◌⊎◌}
use Rattle.rt_task.specs.declared.Protocol.TheVariants.{Fmlp}
use Rattle.rt_rules.specs.Fmlp.{fmlp_after}
use Rattle.rt_rules.specs.Numbers.{first, has, is, rest}
use Rattle.rt_rules.specs.SemState.{SemState, in_line}
use Rattle.rt_model.specs.Blocking.{asks}
use Rattle.rt_model.specs.Group.{Group, protocol, users}
use Rattle.rt_model.specs.Holders.{holder, sem_state, sem_state_by}
use Rattle.rt_model.specs.Reachable.{IsReachable}
use Rattle.rt_model.specs.Past.{Event, Past, sem_act}
use Rattle.rt_model.specs.Semaphores.{at_sem, fmlp}
use Rattle.rt_rules.proofs.BoolLaws.{clash, unless}
use Rattle.rt_rules.proofs.FmlpLaws.{IsLine, line-after}
use Rattle.rt_rules.proofs.MemberLaws.{has-split}
use Rattle.rt_laws.proofs.semaphores.Asked.{Asked, IsAsked, asked, asks_empty}
use Rattle.rt_laws.proofs.semaphores.AtSem.{at_sem-asks}
use Rattle.rt_laws.proofs.semaphores.Holding.{holds-none}
use Rattle.rt_laws.proofs.Moves.{by_moves}
use Rattle.rt_laws.proofs.Rules.{MeetsRules}

-- the first of the line holds, the others wait
pub fmlp-sem_state : (g : Group) (s : ℕ) (past : Past) → protocol g s ≡ Fmlp → ((sem_state g s past).waiting ≡ rest (fmlp g s past)) × (holder g s past ≡ first (fmlp g s past))
unfolding sem_state sem_state_by holder
fmlp-sem_state g s past h = (ap (λ (x : SemState). x.waiting) same, ap (λ (x : SemState). x.holder) same)
  where
    same : sem_state g s past ≡ in_line (fmlp g s past)
    same = rw h

-- one that asks does not stand in the line
pub fmlp-fresh : (g : Group) (s t : ℕ) (past : Past) → protocol g s ≡ Fmlp → IsAsked g t s past → has t (fmlp g s past) ≡ false
fmlp-fresh g s t past p a = unless _ (λ h. split (has-split t (fmlp g s past) h))
  where
    facts : ((sem_state g s past).waiting ≡ rest (fmlp g s past)) × (holder g s past ≡ first (fmlp g s past))
    facts = fmlp-sem_state g s past p

    empty_handed : is t (holder g s past) ≡ false
    empty_handed = holds-none g t s past (asks_empty g (protocol g s) t s past (rw p) a.unnested) a.known

    split : (is t (first (fmlp g s past)) ≡ true) ⊎ (has t (rest (fmlp g s past)) ≡ true) → ⊥
    split (inl k) = clash _ k (rw facts.1 at empty_handed)
    split (inr k) = clash _ k (rw facts.0 at (a.waits_none s a.known))

-- an event leaves each user in the line at most once
pub fmlp-line-step : (g : Group) (s : ℕ) (e : Event) (past : Past) → protocol g s ≡ Fmlp → Asked g e past → IsLine (users g s) (fmlp g s past) → IsLine (users g s) (fmlp g s (e ∷ past))
unfolding fmlp
fmlp-line-step g s e past p asks l = line-after (users g s) (at_sem s (sem_act e)) (fmlp g s past) (λ t r h. let a : IsAsked g t s past = asks t s (at_sem-asks s t r (sem_act e) h) in (fmlp-fresh g s t past p a, a.user)) l

-- so it is after every move
pub fmlp-line : (g : Group) → MeetsRules g → (s : ℕ) → protocol g s ≡ Fmlp → {past : Past} → IsReachable g past → IsLine (users g s) (fmlp g s past)
unfolding fmlp
fmlp-line g rules s p made = by_moves g (λ past. IsLine (users g s) (fmlp g s past)) (record { once = tt; inside = λ t h. cc }) (λ past e made move before. fmlp-line-step g s e past p (asked g rules made move) before) made

-- the line after one more event
pub fmlp-step : (g : Group) (s : ℕ) (e : Event) (past : Past) → fmlp g s (e ∷ past) ≡ fmlp_after (at_sem s (sem_act e)) (fmlp g s past)
unfolding fmlp
fmlp-step g s e past = refl
