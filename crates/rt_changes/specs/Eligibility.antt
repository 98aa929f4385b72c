-- Which tasks' eligibility a move can change, under the plugins without reservations.
use Rattle.std.specs.Prelude.{◌≡◌, ℕ, false, ◌∷◌}
use Rattle.rt_task.specs.declared.Act.{Act}
use Rattle.rt_task.specs.RuleWords.{is_p_res}
use Rattle.rt_rules.specs.Numbers.{has}
use Rattle.rt_rules.specs.SemState.{Neither}
use Rattle.rt_model.specs.Holders.{sem_state, awaits}
use Rattle.rt_model.specs.Group.{home}
use Rattle.rt_model.specs.Outcomes.{past_act}
use Rattle.rt_model.specs.Past.{Clock, Acted, sem_act}
use Rattle.rt_model.specs.StackPolicy.{srp}
use Rattle.rt_model.specs.Tops.{eligible}
use Rattle.rt_laws.specs.EveryPast.{EveryPast, EveryMove}
use Rattle.rt_changes.specs.Touched.{touched_by, comes_due}

-- A move that neither asks for a semaphore nor frees one changes none, and no task comes to wait or ceases to.
abbrev pub QuietKeepsSems : Type 0
QuietKeepsSems =
    EveryMove (λ g e past. sem_act e ≡ Neither → ((s : ℕ) → sem_state g s (e ∷ past) ≡ sem_state g s past) × ((t : ℕ)
    → awaits g t (e ∷ past) ≡ awaits g t past) × ((c : ℕ) → srp g c (e ∷ past) ≡ srp g c past))

-- An act changes the eligibility of no task that it does not touch, that waits for what it waited for, and in whose cluster the same SRP
-- semaphores are held.
abbrev pub EligibleAfterAct : Type 0
EligibleAfterAct =
    EveryPast (λ g past. is_p_res g.setup.plugin ≡ false → (q : ℕ) (act : Act) (t : ℕ) → has t (touched_by g q act past) ≡ false
    → awaits g t (Acted (past_act g q act past) ∷ past) ≡ awaits g t past
    → srp g (home g t) (Acted (past_act g q act past) ∷ past) ≡ srp g (home g t) past
    → eligible g t (Acted (past_act g q act past) ∷ past) ≡ eligible g t past)

-- A move of the clock changes the eligibility of no task that does not come due.
abbrev pub EligibleAfterClock : Type 0
EligibleAfterClock =
    EveryPast (λ g past. is_p_res g.setup.plugin ≡ false → (tick t : ℕ) → comes_due g tick t past ≡ false
    → eligible g t (Clock tick ∷ past) ≡ eligible g t past)
