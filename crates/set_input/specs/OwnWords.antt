-- The words that each program answers by itself, before its command is asked.
use Rattle.std.specs.Prelude.{Bool, true, false, ◌||◌, List, [], ◌∷◌, bytes_eq, codes, string_bytes, String}
use Rattle.std.specs.declared.alloc.Global.{Global}
use Rattle.rt_fault.specs.declared.status.Status.{Status}
use Rattle.rt_fault.specs.declared.status.Status.TheVariants.{Ok, Usage, WriteFault, NoMemory}

-- `--help` and `--version`
abbrev pub is_own : List (String Global) → Bool
is_own (word ∷ []) =
    bytes_eq (string_bytes word) (codes "--help")
    || bytes_eq (string_bytes word) (codes "--version")
is_own _ = false

-- the line that these ask for was said, or was not
abbrev pub was_said : Status → Bool
was_said Ok = true
was_said WriteFault = true
was_said _ = false

-- how a program ends that has no words for a command: with its line, or where words are not UTF-8 or memory runs out
abbrev pub ends_wordless : Status → Bool
ends_wordless Usage = true
ends_wordless NoMemory = true
ends_wordless s = was_said s
