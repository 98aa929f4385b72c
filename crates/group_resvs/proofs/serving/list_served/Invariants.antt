use Rattle.std.proofs.Common.{◌≡◌, ℕ, ◌≤◌, vec_capacity, vec_len}
use Rattle.rt_base.specs.TaskNos.{numbers_of_tasks}
use Rattle.resv_core.specs.Served.{server}
use Rattle.group_resvs.specs.GroupResvs.{Serves, served_at}
use Rattle.group_resvs.proofs.serving.list_served.Given as goal

-- the reservations so far stand with the clients that they serve
abbrev pub invariant-loop-i : goal.invariant-loop-i
invariant-loop-i l =
    ((r : ℕ) → 1 ≤ r → r ≤ l.i → Serves (server l.resvs r) (served_at (numbers_of_tasks l.into.items) r))
    × (vec_len l.into ≡ l.i)
    × (vec_capacity l.fn.into ≤ vec_capacity l.into)
