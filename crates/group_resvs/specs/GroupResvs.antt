-- The reservations of a group, and the client that each of them serves.
use Rattle.std.specs.Prelude.{◌≡◌, ◌⊎◌, ℕ, ◌-◌, ◌≤◌, Bool, true, false, ◌==◌, List, [], ◌∷◌, ◌++◌, Option, None, Some, if◌then◌else◌}
use Rattle.std.specs.Prelude.{length, option_map, slice_index_or}
use Rattle.rt_base.specs.declared.ResvNo.{ResvNo}
use Rattle.rt_base.specs.declared.Tick.{Tick}
use Rattle.rt_rules.specs.Numbers.{is, same}
use Rattle.rt_rules.specs.Placing.{tasks_in}
use Rattle.resv_core.specs.Served.{Served, ServerState, IsFront, IsResv, has_ready, left_of, server, server_of}
use Rattle.resv_core.specs.Serving.{all_settled}

-- the reservations; by their numbers, less 1, the client that each serves since the last move ended; and the tasks that the end of
-- that move made or unmade such clients
pub record GroupResvs : Type 0 where
  pub resvs : Served
  pub serves : List (Option ℕ)
  pub changed : List ℕ

abbrev pub tick_of : Option Tick → Option ℕ
tick_of o = option_map (λ (t : Tick). t.0) o

-- a reservation serves its front client as long as it has budget
abbrev pub Serves : ServerState → Option ℕ → Type 0
Serves s None = (left_of s ≡ 0) ⊎ (has_ready s.releases ≡ false)
Serves s (Some t) = (1 ≤ left_of s) × IsFront s.releases t

abbrev pub served_at : List (Option ℕ) → ℕ → Option ℕ
served_at serves r = slice_index_or serves (r - 1) None

abbrev pub AllServe : Served → List (Option ℕ) → Type 0
AllServe v serves = (r : ℕ) → IsResv v r → Serves (server v r) (served_at serves r)

-- no reservation stands in the way of a task: it is a client of none, or its reservation serves it
abbrev pub is_served_by : Option ResvNo → List (Option ℕ) → ℕ → Bool
is_served_by None serves t = true
is_served_by (Some r) serves t = is t (served_at serves r.0)

abbrev pub is_served : GroupResvs → ℕ → Bool
is_served v t = is_served_by (server_of v.resvs t) v.serves t

-- it is a client of one that has no budget left
abbrev pub lacks_budget_of : Option ResvNo → Served → Bool
lacks_budget_of None v = false
lacks_budget_of (Some r) v = left_of (server v r.0) == 0

abbrev pub lacks_budget : Served → ℕ → Bool
lacks_budget v t = lacks_budget_of (server_of v t) v

-- where it is a client of one, that has a unit left
abbrev pub HasUnit : Served → ℕ → Type 0
HasUnit v t = (r : ResvNo) → server_of v t ≡ Some r → 1 ≤ left_of (server v r.0)

-- ---- the clients that are served before or after and not both, of one reservation and of all

abbrev pub changed_of : Option ℕ → Option ℕ → List ℕ
changed_of before now = if same before now then [] else tasks_in (before ∷ now ∷ [])

abbrev pub all_changed : List (Option ℕ) → List (Option ℕ) → List ℕ
all_changed [] serves = []
all_changed (o ∷ os) [] = []
all_changed (o ∷ os) (n ∷ ns) = changed_of o n ++ all_changed os ns

-- ---- the end of a move

pub record IsSettled (old new : GroupResvs) : Type 0 where
  pub resvs : new.resvs ≡ all_settled old.resvs
  pub serves : AllServe new.resvs new.serves
  pub all : length new.serves ≡ length new.resvs.servers
  pub changed : new.changed ≡ all_changed old.serves new.serves
