-- Requests and waiting tasks as definitions speak of them.
use Rattle.std.specs.Prelude.{List, map}
use Rattle.rt_changes.specs.Tallies.{Tally, Waiter}
use Rattle.block_counts.specs.declared.seen.Seen.{Seen}
use Rattle.block_counts.specs.declared.seen.Waiting.{Waiting}

-- a request
abbrev pub tally_of : Seen → Tally
tally_of x = record { no = x.no; task = x.task.0; sem = x.sem.0; ends = x.ends; ends_all = x.ends_all; bound = x.bound }

-- the requests of a list
abbrev pub tallies_of : List Seen → List Tally
tallies_of xs = map tally_of xs

-- a task that waits
abbrev pub waiter_of : Waiting → Waiter
waiter_of w = record { task = w.task.0; blocked = w.blocked }

-- the tasks of a list
abbrev pub waiters_of : List Waiting → List Waiter
waiters_of ws = map waiter_of ws
