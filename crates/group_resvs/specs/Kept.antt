-- What is kept of the reservations of a group against its past.
use Rattle.std.specs.Prelude.{◌≡◌, ℕ, true, false, [], length, None}
use Rattle.rt_task.specs.RuleWords.{is_p_res}
use Rattle.rt_model.specs.Group.{Group, resv}
use Rattle.rt_model.specs.Past.{Past, now}
use Rattle.rt_changes.specs.Served.{serves}
use Rattle.resv_core.specs.Served.{IsResv, Served, is_here, server, server_of}
use Rattle.resv_core.specs.Serving.{IsServing}
use Rattle.group_resvs.specs.GroupResvs.{GroupResvs, served_at}

-- the reservations of other groups have no room for a client
abbrev pub AreEmptyElsewhere : Group → Served → Type 0
AreEmptyElsewhere g v = (r : ℕ) → IsResv v r → is_here g.setup g.number (resv g r) ≡ false → (server v r).releases ≡ []

-- under P-RES: the reservations are those of the past, and each of the group serves the client that it serves there
pub record AreServing (g : Group) (past : Past) (v : GroupResvs) : Type 0 where
  pub serving : IsServing g past v.resvs
  pub empty : AreEmptyElsewhere g v.resvs
  pub all : length v.serves ≡ length v.resvs.servers
  pub serve : (r : ℕ) → IsResv v.resvs r → is_here g.setup g.number (resv g r) ≡ true → served_at v.serves r ≡ serves g r past
  pub elsewhere : (r : ℕ) → IsResv v.resvs r → is_here g.setup g.number (resv g r) ≡ false → served_at v.serves r ≡ None

-- under each other plugin there are none, and no task is a client
pub record AreNone (v : Served) : Type 0 where
  pub no_server : v.servers ≡ []
  pub no_client : (t : ℕ) → server_of v t ≡ None

pub record KeepsResvs (g : Group) (past : Past) (v : GroupResvs) : Type 0 where
  pub clock : v.resvs.clock ≡ now past
  pub reserved : is_p_res g.setup.plugin ≡ true → AreServing g past v
  pub unreserved : is_p_res g.setup.plugin ≡ false → AreNone v.resvs × (v.serves ≡ [])
