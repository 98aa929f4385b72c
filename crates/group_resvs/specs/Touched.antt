-- The reservations that may have changed since the last move ended.
use Rattle.std.specs.Prelude.{◌≡◌, ℕ, Bool, true, false, ◌==◌, List, Option, if◌then◌else◌}
use Rattle.rt_base.specs.declared.ResvNo.{ResvNo}
use Rattle.resv_core.specs.Served.{Served, IsResv, server, settled}
use Rattle.group_resvs.specs.declared.touched.Touched.{Touched}
use Rattle.group_resvs.specs.declared.touched.Touched.TheVariants.{Nothing, One, Many}
use Rattle.group_resvs.specs.GroupResvs.{Serves, served_at}

abbrev pub is_touched : Touched → ℕ → Bool
is_touched Nothing r = false
is_touched (One other) r = other.0 == r
is_touched Many r = true

-- one reservation more
abbrev pub touched_also : ResvNo → Touched → Touched
touched_also r Nothing = One r
touched_also r (One other) = if other.0 == r.0 then One other else Many
touched_also r Many = Many

-- each reservation that is not touched is settled, and serves the client that is listed
pub record IsSettledBut (touched : Touched) (v : Served) (serves : List (Option ℕ)) : Type 0 where
  pub within : (r : ResvNo) → touched ≡ One r → IsResv v r.0
  pub settled_at : (r : ℕ) → IsResv v r → is_touched touched r ≡ false → settled v.clock (server v r) ≡ server v r
  pub serves_at : (r : ℕ) → IsResv v r → is_touched touched r ≡ false → Serves (server v r) (served_at serves r)
