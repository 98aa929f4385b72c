-- What was counted for a column of a task with these arrivals, at a clock.
use Rattle.std.specs.Prelude.{◌≡◌, ℕ, List}
use Rattle.rt_task.specs.declared.Task.{Task}
use Rattle.chart_feed.specs.Times.{due_in, released_in}
use Rattle.chart_feed.specs.declared.times.Counted.{Counted}

pub record IsCounted (task : Task) (arrivals : List ℕ) (clock : ℕ) (c : Counted) : Type 0 where
  pub released_is : c.released ≡ released_in task.kind task arrivals c.high
  pub due_is : c.due ≡ due_in task arrivals clock c.next
