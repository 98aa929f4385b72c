-- Table reservations of a cluster: whose slot it is, and whom the processor may be linked to.
use Rattle.std.specs.Prelude.{◌≡◌, ℕ, ◌%◌, ◌≤◌, true, length, Some}
use Rattle.std.specs.List.{Contains}
use Rattle.rt_task.specs.Validity.{IsValid}
use Rattle.rt_task.specs.declared.ResvKind.TheVariants.{Table}
use Rattle.rt_task.specs.declared.Slot.{Slot}
use Rattle.rt_rules.specs.Slots.{holds}
use Rattle.rt_model.specs.Group.{Group, cluster_with, resv, served_by}
use Rattle.rt_model.specs.Links.{linked}
use Rattle.rt_model.specs.Past.{Past, now}
use Rattle.rt_model.specs.Reservations.{left}
use Rattle.rt_laws.specs.EveryPast.{EveryPast}

-- a reservation of a cluster
pub record IsOfCluster (g : Group) (c r : ℕ) : Type 0 where
  pub low : 1 ≤ r
  pub high : r ≤ length g.setup.resvs
  pub cluster : (resv g r).cluster.0 ≡ c

pub record IsTableOf (g : Group) (c r : ℕ) : Type 0 where
  pub of_cluster : IsOfCluster g c r
  pub is_table : (resv g r).kind ≡ Table

-- a table reservation of a cluster with a slot that holds the clock, modulo the cycle
pub record HasClock (g : Group) (c r : ℕ) (past : Past) : Type 0 where
  pub table : IsTableOf g c r
  pub slot : Slot
  pub is_in : Contains (resv g r).slots slot
  pub holds_it : holds (now past % (resv g r).period) slot ≡ true

-- in a cluster with a table reservation each linked task is a client of a reservation whose slot holds the clock
abbrev pub LinksAreInSlot : Group → Past → Type 0
LinksAreInSlot g past =
    (c r q t : ℕ) → IsTableOf g c r → cluster_with g q ≡ c → linked g q past ≡ Some t → HasClock g c (served_by g t) past

-- there is at most one such reservation
abbrev pub OneHasClock : Type 0
OneHasClock =
    (g : Group) (past : Past) → IsValid g.setup → (c r s : ℕ) → HasClock g c r past → HasClock g c s past → r ≡ s

-- in a cluster with a table reservation at most one reservation has anything left
abbrev pub LeftIsOfOne : Group → Past → Type 0
LeftIsOfOne g past =
    (c r s u : ℕ) → IsTableOf g c r → IsOfCluster g c s → IsOfCluster g c u → 1 ≤ left g s past → 1 ≤ left g u past → s ≡ u

abbrev pub LinkedInSlot : Type 0
LinkedInSlot = EveryPast LinksAreInSlot

abbrev pub OneHasLeft : Type 0
OneHasLeft = (g : Group) (past : Past) → IsValid g.setup → LeftIsOfOne g past

-- both at once
pub record FollowsTables (g : Group) (past : Past) : Type 0 where
  pub links : LinksAreInSlot g past
  pub left : LeftIsOfOne g past

abbrev pub TablesAreFollowed : Type 0
TablesAreFollowed = EveryPast FollowsTables
