-- The front client of a reservation is the first of a set of just its ready clients, by release.
use Rattle.std.specs.Prelude.{◌≡◌, ℕ, List, Option, None, Some, unwrap_or}
use Rattle.rt_rules.specs.declared.Key.{Key}
use Rattle.rt_rules.specs.KeyOrder.{higher}
use Rattle.rt_model.specs.Group.{Group, clients}
use Rattle.rt_model.specs.Past.{Past}
use Rattle.rt_model.specs.Releases.{ready, release}
use Rattle.rt_model.specs.Reservations.{front}
use Rattle.ready_heap.specs.Ready.{size, IsFirst}
use Rattle.ready_queue.specs.ReadySet.{HoldsJust}

-- a client's position among those of its reservation: its release, where that is known
abbrev pub client_key : Group → Past → ℕ → Key
client_key g past t = record { band = 0; major = unwrap_or (release g t past) 0; minor = t }

abbrev pub HoldsReady : Group → ℕ → Past → List (Option Key) → Type 0
HoldsReady g r past keys = HoldsJust (clients g r) (client_key g past) (λ t. ready g t past) keys

-- The first of such a set is the front client, and where the set is empty there is none.
abbrev pub FrontIsFirst : Type 0
FrontIsFirst =
    (g : Group) (r : ℕ) (past : Past) (keys : List (Option Key)) → HoldsReady g r past keys → ((t : ℕ) → IsFirst higher keys t
    → front g r past ≡ Some t) × (size keys ≡ 0 → front g r past ≡ None)
