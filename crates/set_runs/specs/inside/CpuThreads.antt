-- The processors of a group that plays by turns, at a site and a clock.
use Rattle.std.specs.Prelude.{◌≡◌, ℕ, ◌<◌, true, List, length, slice_index_or, All}
use Rattle.tick_clock.specs.Clocks.{Clock}
use Rattle.turn_cell.specs.SeatViews.{Cell}
use Rattle.cpu_site.specs.declared.story.GroupOf.{GroupOf}
use Rattle.cpu_site.specs.Playing.{IsOver}
use Rattle.cpu_site.specs.Seats.{group_at, About, CpuSeatView}
use Rattle.set_runs.specs.declared.cpu_thread.CpuThread.{CpuThread}
use Rattle.set_runs.specs.Lists.{AreEach}

-- the thread of processor q: its seats are those of the site and of the clock, it has passed each turn that it gave as over, and
-- where it is known to be over no step of it is left
pub record IsAtWork (cell : Cell GroupOf) (clock : Clock) (q : ℕ) (d : CpuThread) : Type 0 where
  pub cell_is : d.seat.cell ≡ cell
  pub clock_is : d.turns.clock ≡ clock
  pub cpu_is : d.seat.cpu ≡ q
  pub passes : d.turns.passes ≡ d.seat.turns
  pub over : d.is_over ≡ true → About cell (λ s. IsOver (group_at s) q d.seat.seen)

-- the threads of the processors of these seats, in order
abbrev pub AreAtWork : Cell GroupOf → Clock → List CpuSeatView → List CpuThread → Type 0
AreAtWork cell clock seats ds = AreEach (λ (p : CpuSeatView) (d : CpuThread). IsAtWork cell clock p.cpu d) seats ds

-- they drive the same processors as before
abbrev pub AreStill : Cell GroupOf → Clock → List CpuThread → List CpuThread → Type 0
AreStill cell clock before after = AreEach (λ (d e : CpuThread). IsAtWork cell clock d.seat.cpu e) before after

abbrev pub AreOver : List CpuThread → Type 0
AreOver ds = All (λ (d : CpuThread). d.is_over ≡ true) ds
