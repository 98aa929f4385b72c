-- At which answers nothing was written, and which are well.
use Rattle.std.specs.Prelude.{⊤}
use Rattle.rt_fault.specs.declared.status.Status.{Status}
use Rattle.rt_fault.specs.declared.status.Status.TheVariants as ends

-- nothing is written where the input was not read, or is refused
abbrev pub IsUnwritten : Status → Type 0
IsUnwritten ends.Usage = ⊤
IsUnwritten (ends.BadInput bad) = ⊤
IsUnwritten ends.ReadFault = ⊤
IsUnwritten ends.TooLong = ⊤
IsUnwritten _ = ⊥

-- the work was done, unless memory ran out
abbrev pub IsWell : Status → Type 0
IsWell ends.Ok = ⊤
IsWell ends.NoMemory = ⊤
IsWell _ = ⊥
