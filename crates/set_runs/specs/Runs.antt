-- What is left when the processors of groups have played their scripts or their turns.
use Rattle.std.specs.Prelude.{◌≡◌, ℕ, ◌<◌, List, length, slice_index_or}
use Rattle.rt_task.specs.declared.Parts.{Parts}
use Rattle.rt_plays.specs.Groups.{GroupHistory, group_of}
use Rattle.rt_plays.specs.Plays.{IsPlay}
use Rattle.trace_text.specs.Groups.{AreGroupsOf}
use Rattle.turn_cell.specs.SeatViews.{Cell}
use Rattle.cpu_site.specs.declared.story.GroupOf.{GroupOf}
use Rattle.cpu_site.specs.Playing.{IsOver}
use Rattle.cpu_site.specs.Seats.{group_at, About, CpuSeatView}
use Rattle.set_runs.specs.Lists.{AreEach}

-- a seat that comes back: that of the same processor of the same site, of which no step is left
pub record IsDriven (cell : Cell GroupOf) (before after : CpuSeatView) : Type 0 where
  pub cell_is : after.cell ≡ cell
  pub cpu_is : after.cpu ≡ before.cpu
  pub over : About cell (λ s. IsOver (group_at s) before.cpu after.seen)

-- that holds of each of the seats, in order
abbrev pub AreDriven : Cell GroupOf → List CpuSeatView → List CpuSeatView → Type 0
AreDriven cell before after = AreEach (λ (p p' : CpuSeatView). IsDriven cell p p') before after

-- a group of the setup, whose history is a play of it
pub record IsRunOf (p : Parts) (n : ℕ) (h : GroupHistory) : Type 0 where
  pub setup_is : h.setup ≡ p
  pub group_is : h.group ≡ n
  pub play : IsPlay (group_of h) h.entries

-- all groups of the setup, by rising number, each with such a history
pub record AreRunsOf (p : Parts) (hs : List GroupHistory) : Type 0 where
  pub groups : AreGroupsOf p hs
  pub each : (n : ℕ) (d : GroupHistory) → n < length hs → IsRunOf p n (slice_index_or hs n d)
