-- Moves that neither ask for a semaphore nor free one: all but accepted Locks and Unlocks. They change few tasks' standing.
use Rattle.std.specs.Prelude.{◌≡◌, ℕ, false, ◌∷◌}
use Rattle.rt_task.specs.declared.Act.{Act}
use Rattle.rt_task.specs.RuleWords.{is_p_res}
use Rattle.rt_rules.specs.Numbers.{has}
use Rattle.rt_rules.specs.SemState.{Neither}
use Rattle.rt_model.specs.BaseKeys.{base_key}
use Rattle.rt_model.specs.EffectiveKeys.{effective_key}
use Rattle.rt_model.specs.Outcomes.{past_act}
use Rattle.rt_model.specs.Past.{Clock, Acted, sem_act}
use Rattle.rt_laws.specs.EveryPast.{EveryPast, EveryMove}
use Rattle.rt_changes.specs.Clusters.{SameStanding}
use Rattle.rt_changes.specs.Touched.{touched_by, comes_due}

-- Such a move changes the effective key of a task only where it changes its base key.
abbrev pub KeysAfterQuiet : Type 0
KeysAfterQuiet =
    EveryMove (λ g e past. sem_act e ≡ Neither → (t : ℕ) → base_key g t (e ∷ past) ≡ base_key g t past
    → effective_key g t (e ∷ past) ≡ effective_key g t past)

-- Without reservations such an act leaves the standing of each task that it does not touch.
abbrev pub StandingAfterAct : Type 0
StandingAfterAct =
    EveryPast (λ g past. is_p_res g.setup.plugin ≡ false → (q : ℕ) (act : Act) → sem_act (Acted (past_act g q act past)) ≡ Neither
    → (t : ℕ) → has t (touched_by g q act past) ≡ false → SameStanding g t past (Acted (past_act g q act past) ∷ past))

-- Without reservations a move of the clock leaves the standing of each task that does not come due.
abbrev pub StandingAfterClock : Type 0
StandingAfterClock =
    EveryPast (λ g past. is_p_res g.setup.plugin ≡ false → (tick t : ℕ) → comes_due g tick t past ≡ false
    → SameStanding g t past (Clock tick ∷ past))
