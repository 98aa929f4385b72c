-- Tasks whose job is not there yet: what a state shows of them stays until its release, and until an act touches them.
use Rattle.std.specs.Prelude.{◌≡◌, ℕ, ◌<◌, ◌≤◌, ⊤, false, ◌&&◌, nat_lt, List, [], Option, None, Some, slice_index_or, slice_set}
use Rattle.rt_model.specs.Group.{Group, task}
use Rattle.rt_model.specs.Holders.{awaits}
use Rattle.rt_model.specs.Jobs.{done}
use Rattle.rt_model.specs.Past.{Past, PastAct}
use Rattle.rt_model.specs.Releases.{release}
use Rattle.rt_model.specs.Sleep.{sleeps}
use Rattle.rt_changes.specs.Touched.{arriving}

abbrev pub IsNotBefore : ℕ → Option ℕ → Type 0
IsNotBefore tick None = ⊤
IsNotBefore tick (Some r) = tick ≤ r

-- its job does not sleep and waits for nothing, is not there early, and is not released before this tick
pub record IsAwayUntil (g : Group) (past : Past) (t tick : ℕ) : Type 0 where
  pub awake : sleeps t past ≡ false
  pub awaits_none : awaits g t past ≡ None
  pub not_early : (task g t).early && nat_lt 0 (done t past) ≡ false
  pub not_before : IsNotBefore tick (release g t past)

-- by a task's number such a tick, and 0 where none is known
abbrev pub AreAway : Group → Past → List ℕ → Type 0
AreAway g past ticks = (t : ℕ) → 0 < slice_index_or ticks t 0 → IsAwayUntil g past t (slice_index_or ticks t 0)

abbrev pub without_tick : Option ℕ → List ℕ → List ℕ
without_tick None ticks = ticks
without_tick (Some t) ticks = slice_set ticks t 0

-- without those of the tasks that an act touches
abbrev pub ticks_untouched : PastAct → List ℕ → List ℕ
ticks_untouched d ticks = without_tick (arriving d.act) (without_tick d.task ticks)
