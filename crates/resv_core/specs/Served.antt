-- Reservations as they stand between the moves of a group, and what each call makes of them.
use Rattle.std.specs.Prelude.{◌≡◌, ℕ, ◌+◌, ◌-◌, ◌*◌, ◌/◌, ◌%◌, ◌<◌, ◌≤◌, Bool, true, false, not, ◌&&◌, ◌==◌, nat_lt, nat_le, if◌then◌else◌}
use Rattle.std.specs.Prelude.{List, [], ◌∷◌, length, map, replicate, Option, None, Some, is_some, option_map, slice_get, slice_index_or}
use Rattle.std.specs.Prelude.{slice_set}
use Rattle.std.specs.List.{list_any}
use Rattle.rt_base.specs.declared.ResvNo.{ResvNo}
use Rattle.rt_task.specs.declared.Cluster.{Cluster}
use Rattle.rt_task.specs.declared.Parts.{Parts}
use Rattle.rt_task.specs.declared.Resv.{Resv}
use Rattle.rt_task.specs.declared.ResvKind.{ResvKind}
use Rattle.rt_task.specs.declared.ResvKind.TheVariants.{Polling, Sporadic, Table}
use Rattle.rt_task.specs.declared.Slot.{Slot}
use Rattle.rt_task.specs.declared.Task.{Task}
use Rattle.rt_rules.specs.Slots.{slot_at}
use Rattle.resv_core.specs.declared.server.InSlot.{InSlot}

-- one reservation: at each task's number the release of its current job, where the task is a ready client; the clock of the last
-- refill, the units that were worked since, and whether what was left was lost since; of a table reservation the slot that holds
-- the clock
pub record ServerState : Type 0 where
  pub kind : ResvKind
  pub budget : ℕ
  pub period : ℕ
  pub slots : List Slot
  pub releases : List (Option ℕ)
  pub refilled : Option ℕ
  pub spent : ℕ
  pub lost : Bool
  pub in_slot : Option InSlot

-- the clock, the reservations of a set, and at each task's number the reservation that serves it
pub record Served : Type 0 where
  pub clock : ℕ
  pub servers : List ServerState
  pub served_by : List (Option ResvNo)

-- ---- the ready clients

abbrev pub release_at : List (Option ℕ) → ℕ → Option ℕ
release_at releases t = slice_index_or releases t None

abbrev pub has_ready : List (Option ℕ) → Bool
has_ready releases = list_any is_some releases

-- a ready client of the earliest release, and of several that with the lowest number
pub record IsFront (releases : List (Option ℕ)) (task : ℕ) : Type 0 where
  pub release : ℕ
  pub is_ready : release_at releases task ≡ Some release
  pub earliest : (other later : ℕ) → release_at releases other ≡ Some later → release ≤ later
  pub lowest : (other : ℕ) → release_at releases other ≡ Some release → task ≤ other

-- ---- what is shown of a reservation

-- where a clock stands in the slots of a cycle
abbrev pub in_slot_of : ℕ → ℕ → Slot → InSlot
in_slot_of cycle clock s = record { began = clock - clock % cycle + s.from; left = s.to - clock % cycle }

abbrev pub in_slot_at : ℕ → List Slot → ℕ → Option InSlot
in_slot_at cycle slots clock = option_map (in_slot_of cycle clock) (slot_at cycle slots clock)

abbrev pub in_slot_by : ResvKind → ℕ → List Slot → ℕ → Option InSlot
in_slot_by Table period slots clock = in_slot_at period slots clock
in_slot_by _ period slots clock = None

abbrev pub left_there : Option InSlot → ℕ
left_there None = 0
left_there (Some x) = x.left

abbrev pub began_there : Option InSlot → Option ℕ
began_there None = None
began_there (Some x) = Some x.began

-- what is left of the budget: nothing before the first refill and after a loss; of a table what is left of the slot
abbrev pub unspent : ServerState → ℕ
unspent s = if is_some s.refilled && not s.lost then s.budget - s.spent else 0

abbrev pub left_by : ResvKind → ServerState → ℕ
left_by Table s = left_there s.in_slot
left_by _ s = unspent s

abbrev pub left_of : ServerState → ℕ
left_of s = left_by s.kind s

-- a polling reservation is refilled at the multiples of its period
abbrev pub last_by : ResvKind → ℕ → Option ℕ → Option ℕ
last_by Polling period (Some clock) = Some (clock / period * period)
last_by _ period o = o

abbrev pub last_for : ResvKind → ServerState → Option ℕ
last_for Table s = began_there s.in_slot
last_for kind s = last_by kind s.period s.refilled

abbrev pub last_of : ServerState → Option ℕ
last_of s = last_for s.kind s

-- ---- what a call makes of a reservation

abbrev pub readied : ℕ → ℕ → ServerState → ServerState
readied t release s = record s { releases = slice_set s.releases t (Some release) }

abbrev pub gone : ℕ → ServerState → ServerState
gone t s = record s { releases = slice_set s.releases t None }

-- a client worked one unit, which a table does not count
abbrev pub charged_by : ResvKind → ServerState → ServerState
charged_by Table s = s
charged_by _ s = record s { spent = s.spent + 1 }

abbrev pub charged : ServerState → ServerState
charged s = charged_by s.kind s

abbrev pub refilled_at : ℕ → ServerState → ServerState
refilled_at clock s = record s { refilled = Some clock; spent = 0; lost = false }

-- the clock goes from old to new: a polling reservation is refilled once where that begins one period or more, and of a table
-- another slot may hold it, or none
abbrev pub ticked_by : ResvKind → ℕ → ℕ → ServerState → ServerState
ticked_by Polling old new s = if nat_lt (old / s.period) (new / s.period) then refilled_at new s else s
ticked_by Sporadic old new s = s
ticked_by Table old new s = if nat_lt old new then record s { in_slot = in_slot_at s.period s.slots new } else s

abbrev pub ticked : ℕ → ℕ → ServerState → ServerState
ticked old new s = ticked_by s.kind old new s

-- so it does where the clock stands at this slot in the slots of a table
abbrev pub ticked_to_by : ResvKind → Option InSlot → ℕ → ℕ → ServerState → ServerState
ticked_to_by Table slot old new s = if nat_lt old new then record s { in_slot = slot } else s
ticked_to_by kind slot old new s = ticked_by kind old new s

abbrev pub ticked_to : Option InSlot → ℕ → ℕ → ServerState → ServerState
ticked_to slot old new s = ticked_to_by s.kind slot old new s

-- the end of a move: a polling reservation with no ready client loses what is left, and a sporadic one with a ready client is
-- refilled where it never was or its period is over
abbrev pub is_over : ℕ → ℕ → Option ℕ → Bool
is_over clock period None = true
is_over clock period (Some last) = nat_le (last + period) clock

abbrev pub settled_by : ResvKind → ℕ → ServerState → ServerState
settled_by Polling clock s = if has_ready s.releases then s else record s { lost = true }
settled_by Sporadic clock s = if has_ready s.releases && is_over clock s.period s.refilled then refilled_at clock s else s
settled_by Table clock s = s

abbrev pub settled : ℕ → ServerState → ServerState
settled clock s = settled_by s.kind clock s

-- ---- a reservation among the others, by its number

abbrev pub no_server : ServerState
no_server = record {
  kind = Polling;
  budget = 0;
  period = 0;
  slots = [];
  releases = replicate 0 None;
  refilled = None;
  spent = 0;
  lost = false;
  in_slot = None;
}

abbrev pub server : Served → ℕ → ServerState
server v r = slice_index_or v.servers (r - 1) no_server

abbrev pub server_of : Served → ℕ → Option ResvNo
server_of v t = slice_index_or v.served_by t None

pub record IsResv (v : Served) (r : ℕ) : Type 0 where
  pub low : 1 ≤ r
  pub high : r ≤ length v.servers

-- one reservation changes, and the others stay
abbrev pub with_server : Served → ℕ → ServerState → Served
with_server v r s = record v { servers = slice_set v.servers (r - 1) s }

-- each reservation changes
abbrev pub with_each : (ServerState → ServerState) → Served → Served
with_each change v = record v { servers = map change v.servers }

-- a task that is served has its slot in its reservation
abbrev pub IsPlaced : List ServerState → List (Option ResvNo) → Type 0
IsPlaced servers served_by = (t : ℕ) (r : ResvNo) → slice_index_or served_by t None ≡ Some r →
    (1 ≤ r.0) × (r.0 ≤ length servers) × (t < length (slice_index_or servers (r.0 - 1) no_server).releases)

-- ---- the opening, before it is settled

abbrev pub first_refill : ResvKind → Option ℕ
first_refill Polling = Some 0
first_refill Sporadic = None
first_refill Table = None

-- nothing was worked or lost, and no client is ready; there is room for clients whose numbers are below the room
abbrev pub fresh : ResvKind → ℕ → ℕ → List Slot → ℕ → ServerState
fresh kind budget period slots room = record {
  kind = kind;
  budget = budget;
  period = period;
  slots = slots;
  releases = replicate room None;
  refilled = first_refill kind;
  spent = 0;
  lost = false;
  in_slot = in_slot_by kind period slots 0;
}

module _ (p : Parts) (group : ℕ) where
  abbrev pub is_cluster_here : Option Cluster → Bool
  is_cluster_here None = false
  is_cluster_here (Some c) = c.group.0 == group

  -- whether a reservation is of the group
  abbrev pub is_here : Resv → Bool
  is_here r = is_cluster_here (slice_get p.clusters r.cluster.0)

  abbrev pub is_resv_here : Option Resv → Bool
  is_resv_here None = false
  is_resv_here (Some r) = is_here r

  -- room for each task, in a reservation of the group
  abbrev pub room_in : Resv → ℕ
  room_in r = if is_here r then length p.tasks + 1 else 0

  abbrev pub opened_server : Resv → ServerState
  opened_server r = fresh r.kind r.budget r.period r.slots (room_in r)

  -- the reservation of the group that serves a task
  abbrev pub server_here : Option ResvNo → Option ResvNo
  server_here None = None
  server_here (Some r) = if nat_lt 0 r.0 && is_resv_here (slice_get p.resvs (r.0 - 1)) then Some r else None

  abbrev pub server_for : Task → Option ResvNo
  server_for t = server_here t.resv

  unfoldable pub opened : Served
  opened = record { clock = 0; servers = map opened_server p.resvs; served_by = None ∷ map server_for p.tasks }
