-- MPCP: nobody stands twice, and while one waits somebody holds.
use Rattle.std.proofs.Common.{[], ap, false, true, ℕ, ◌∷◌, ◌≡◌}
use Rattle.rt_task.specs.RuleWords.{stands_under}
use Rattle.rt_task.specs.declared.Protocol.TheVariants.{Mpcp}
use Rattle.rt_rules.specs.Numbers.{has, is}
use Rattle.rt_rules.specs.SemState.{SemState}
use Rattle.rt_model.specs.BaseKeys.{above}
use Rattle.rt_model.specs.Group.{Group, protocol}
use Rattle.rt_model.specs.Holders.{holder, sem_state, sem_state_by}
use Rattle.rt_model.specs.Reachable.{IsReachable}
use Rattle.rt_model.specs.Past.{Event, Past, sem_act}
use Rattle.rt_model.specs.Semaphores.{at_sem, mpcp}
use Rattle.rt_rules.proofs.MpcpLaws.{IsBusy, StandsOnce, mpcp-busy, mpcp-once}
use Rattle.rt_laws.proofs.semaphores.Asked.{Asked, IsAsked, asked, asks_empty}
use Rattle.rt_laws.proofs.semaphores.AtSem.{at_sem-asks}
use Rattle.rt_laws.proofs.jobs.BaseKeyLaws.{above-order}
use Rattle.rt_laws.proofs.semaphores.Holding.{holds-none}
use Rattle.rt_laws.proofs.Moves.{by_moves}
use Rattle.rt_laws.proofs.Rules.{MeetsRules}

-- the state of an MPCP semaphore
pub mpcp-is : (g : Group) (s : ℕ) (past : Past) → protocol g s ≡ Mpcp → sem_state g s past ≡ mpcp g s past
unfolding sem_state sem_state_by
mpcp-is g s past h = rw h

-- its holder
pub mpcp-holder : (g : Group) (s : ℕ) (past : Past) → protocol g s ≡ Mpcp → holder g s past ≡ (mpcp g s past).holder
unfolding holder
mpcp-holder g s past h = ap (λ (l : SemState). l.holder) (mpcp-is g s past h)

mpcp-fresh : (g : Group) (s t : ℕ) (past : Past) → protocol g s ≡ Mpcp → IsAsked g t s past → (is t (mpcp g s past).holder ≡ false) × (has t (mpcp g s past).waiting ≡ false)
mpcp-fresh g s t past p a = (rw (mpcp-holder g s past p) at (holds-none g t s past (asks_empty g (protocol g s) t s past (rw p) a.unnested) a.known), rw (mpcp-is g s past p) at (a.waits_none s a.known))

mpcp-once-step : (g : Group) (s : ℕ) → protocol g s ≡ Mpcp → (e : Event) (past : Past) → Asked g e past → StandsOnce (mpcp g s past) → StandsOnce (mpcp g s (e ∷ past))
unfolding mpcp
mpcp-once-step g s p e past asks k = mpcp-once (above g past) (at_sem s (sem_act e)) (mpcp g s past) (λ t r h. mpcp-fresh g s t past p (asks t s (at_sem-asks s t r (sem_act e) h))) k

-- after every move nobody stands twice
pub mpcp_once : (g : Group) → MeetsRules g → (s : ℕ) → protocol g s ≡ Mpcp → {past : Past} → IsReachable g past → StandsOnce (mpcp g s past)
unfolding mpcp
mpcp_once g rules s p made = by_moves g (λ past. StandsOnce (mpcp g s past)) (record { once = tt; apart = λ t h. cc }) (λ past e made move before. mpcp-once-step g s p e past (asked g rules made move) before) made

-- while one waits somebody holds
pub mpcp_busy : (g : Group) (s : ℕ) → stands_under Mpcp g.setup.plugin ≡ true → (past : Past) → IsBusy (mpcp g s past)
unfolding mpcp
mpcp_busy g s a [] = λ t h. cc
mpcp_busy g s a (e ∷ past) = mpcp-busy (above g past) (at_sem s (sem_act e)) (mpcp g s past) (above-order g past Mpcp a) (mpcp_busy g s a past)
