-- What a sink tells of the bytes that it holds, and how that grows.
use Rattle.std.specs.Prelude.{◌≡◌, ℕ, ◌-◌, ◌≤◌, Bool, true, nat_le, List, ◌++◌, length, take, ⊤, Option, None, Some, if◌then◌else◌}

pub data Held : Type 0 where
  -- The sink does not tell.
  Untold : Held
  -- It holds these bytes. It tells them until more than `spare` further bytes come (None: it always tells).
  Told : (bytes : List ℕ) (spare : Option ℕ) → Held
  -- More bytes came than it tells.
  Over : Held

-- there is room to tell n more bytes
abbrev pub fits : Option ℕ → ℕ → Bool
fits None n = true
fits (Some spare) n = nat_le n spare

-- the room that n more bytes leave
abbrev pub spare_after : Option ℕ → ℕ → Option ℕ
spare_after None n = None
spare_after (Some spare) n = Some (spare - n)

-- The bytes bs came: what the sink told before, it tells with bs at the end, unless more came than it tells.
-- Of a sink that does not tell, nothing is said.
abbrev pub Extends : Held → Held → List ℕ → Type 0
Extends Untold new bs = ⊤
Extends (Told xs spare) new bs = new ≡ (if fits spare (length bs) then Told (xs ++ bs) (spare_after spare (length bs)) else Over)
Extends Over new bs = new ≡ Over

-- some first bytes of bs came, and no others
abbrev pub ExtendsByPrefix : Held → Held → List ℕ → Type 0
ExtendsByPrefix old new bs = (n : ℕ) × (n ≤ length bs) × Extends old new (take n bs)

-- no byte came
abbrev pub Stays : Held → Held → Type 0
Stays Untold new = ⊤
Stays (Told xs spare) new = new ≡ Told xs spare
Stays Over new = new ≡ Over

-- what a writer of std tells: it tells always, or never
abbrev pub held_of_contents : Option (List ℕ) → Held
held_of_contents None = Untold
held_of_contents (Some xs) = Told xs None
