-- Where the tables of clusters have a clock in the slots of their reservations.
use Rattle.std.specs.Prelude.{◌≡◌, ◌==◌, ℕ, suc, ◌<◌, ◌≤◌, false, List, length, Option, None, Some, slice_index_or, if◌then◌else◌}
use Rattle.std.specs.List.{list_any}
use Rattle.rt_base.specs.declared.ClusterNo.{ClusterNo}
use Rattle.rt_base.specs.declared.TheConstants.{MOST_RESVS}
use Rattle.rt_task.specs.declared.Parts.{Parts}
use Rattle.rt_task.specs.declared.Resv.{Resv}
use Rattle.rt_task.specs.declared.ResvKind.TheVariants.{Table}
use Rattle.resv_table.specs.Tables.{Slots, is_table_of, served_at, table_of}
use Rattle.resv_table.specs.declared.Served.{Served}
use Rattle.resv_core.specs.Served.{ServerState, no_server, in_slot_at}
use Rattle.resv_core.specs.declared.server.InSlot.{InSlot}
use Rattle.resv_core.specs.declared.server.Lookup.{Lookup}

-- what is served, where it is one reservation
abbrev pub in_slot_for : ℕ → Option Served → Option InSlot
in_slot_for r None = None
in_slot_for r (Some x) = if x.resv.0 == r then Some (record { began = x.from.0; left = x.left }) else None

-- what the table of a cluster serves at a clock, if there is one
abbrev pub served_by : Option Slots → ℕ → Option Served
served_by None clock = None
served_by (Some table) clock = served_at table clock

abbrev pub served_of : List (Option Slots) → ClusterNo → ℕ → Option Served
served_of tables home clock = served_by (slice_index_or tables home.0 None) clock

-- of reservation r, in the table of its cluster
abbrev pub in_slot_in : List (Option Slots) → ClusterNo → ℕ → ℕ → Option InSlot
in_slot_in tables home r clock = in_slot_for r (served_of tables home clock)

-- what was looked up for a cluster is what its table serves at the clock
abbrev pub IsLookup : List (Option Slots) → ℕ → Lookup → Type 0
IsLookup tables clock l = l.served ≡ served_of tables l.home clock

abbrev pub no_home : ClusterNo
no_home = record { 0 = 0 }

-- the tables have each clock where it stands in the slots of reservation r, if that is a table reservation
abbrev pub IsKnown : List (Option Slots) → ClusterNo → ℕ → ServerState → Type 0
IsKnown tables home r s = s.kind ≡ Table → (clock : ℕ) → in_slot_in tables home r clock ≡ in_slot_at s.period s.slots clock

pub record AreKnown (tables : List (Option Slots)) (homes : List ClusterNo) (servers : List ServerState) : Type 0 where
  pub few : length servers ≤ MOST_RESVS
  pub numbers : length homes ≡ length servers
  pub each : (k : ℕ) → k < length servers → IsKnown tables (slice_index_or homes k no_home) (suc k) (slice_index_or servers k no_server)

-- ---- the opening

abbrev pub home_of : Resv → ClusterNo
home_of r = r.cluster

-- a cluster has a table where it has table reservations
abbrev pub IsTable : Parts → ℕ → Option Slots → Type 0
IsTable p c None = list_any (is_table_of c) p.resvs ≡ false
IsTable p c (Some table) = (clock : ℕ) → served_at table clock ≡ served_at (table_of p c) clock

abbrev pub AreTables : Parts → ℕ → List (Option Slots) → Type 0
AreTables p n tables = (c : ℕ) → c < n → IsTable p c (slice_index_or tables c None)
