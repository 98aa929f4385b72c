-- What code that tries rules, or makes a set, answers.
use Rattle.std.specs.Prelude.{◌≡◌, Option, None, Some, Result, Ok, Err, ⊤}
use Rattle.rt_task.specs.declared.bad_set.BadSet.{BadSet}
use Rattle.rt_task.specs.declared.bad_set.SetStop.{SetStop}
use Rattle.rt_task.specs.declared.bad_set.SetStop.TheVariants as stops
use Rattle.rt_task.specs.declared.Parts.{Parts}
use Rattle.rt_task.specs.declared.draft.Draft.{Draft}
use Rattle.rt_task.specs.Draft.{parts_of}

-- a refusal is the row's, or memory ran out
abbrev pub StopsAt : SetStop → Option BadSet → Type 0
StopsAt stops.NoMemory row = Unit {0}
StopsAt (stops.Bad b) row = row ≡ Some b

-- the row refuses nothing, or what is answered
abbrev pub Keeps : Result ⊤ SetStop → Option BadSet → Type 0
Keeps (Ok x) row = row ≡ None
Keeps (Err e) row = StopsAt e row

-- what a function returned is what the definition gives, unless memory ran out
abbrev pub Stops : {Y : Type 0} → SetStop → Result Y BadSet → Type 0
Stops stops.NoMemory r = Unit {0}
Stops (stops.Bad b) r = r ≡ Err b

abbrev pub Gives : {X Y : Type 0} → (X → Y) → Result X SetStop → Result Y BadSet → Type 0
Gives seen (Ok x) r = r ≡ Ok (seen x)
Gives seen (Err e) r = Stops e r

-- the parts are written out only where nothing is refused
abbrev pub accepted : Draft → Option BadSet → Result Parts BadSet
accepted d None = Ok (parts_of d)
accepted d (Some b) = Err b

-- parts that code made, unless they are refused
abbrev pub kept : Parts → Option BadSet → Result Parts BadSet
kept p None = Ok p
kept p (Some b) = Err b
