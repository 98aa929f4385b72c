-- Trace events as lines of JSON. A tick is 1,000 microseconds. Names of sets need no escapes.
use Rattle.std.specs.List.{concat}
use Rattle.std.specs.Prelude.{ℕ, ◌+◌, ◌-◌, ◌*◌, Bool, true, false, List, [], ◌∷◌, ◌++◌, map, codes, decimal}
use Rattle.std.specs.List.{join_with_byte}

abbrev pub Piece : Type 0
Piece = List ℕ

abbrev pub quoted : Piece → Piece
quoted name = 34 ∷ name ++ 34 ∷ []

abbrev pub microseconds : ℕ → Piece
microseconds ticks = decimal (1000 * ticks)

abbrev pub truth : Bool → Piece
truth true = codes "true"
truth false = codes "false"

abbrev pub strings : List Piece → Piece
strings names = concat (codes "[" ∷ join_with_byte 44 (map quoted names) ∷ codes "]" ∷ [])

-- the kind of an event and its process; and its thread
abbrev pub begun : Piece → ℕ → Piece
begun phase process = concat (codes "{\"ph\":\"" ∷ phase ∷ codes "\",\"pid\":" ∷ decimal process ∷ [])

abbrev pub on_thread : Piece → ℕ → ℕ → Piece
on_thread phase process thread = concat (begun phase process ∷ codes ",\"tid\":" ∷ decimal thread ∷ [])

-- the names of a process and of a thread
abbrev pub named : Piece → Piece → Piece
named what name = concat (codes ",\"name\":\"" ∷ what ∷ codes "\",\"args\":{\"name\":\"" ∷ name ∷ codes "\"}}" ∷ [])

abbrev pub process_event : ℕ → Piece → Piece
process_event process name = begun (codes "M") process ++ named (codes "process_name") name

abbrev pub thread_event : ℕ → ℕ → Piece → Piece
thread_event process thread name = on_thread (codes "M") process thread ++ named (codes "thread_name") name

-- something that lasts from one tick up to another, which is not of it
abbrev pub span_event : ℕ → ℕ → ℕ → ℕ → Piece → Piece → Piece → Piece
span_event process thread from to kind name arguments = concat (
    on_thread (codes "X") process thread ∷ codes ",\"ts\":" ∷ microseconds from ∷ codes ",\"dur\":" ∷ microseconds (to - from)
    ∷ codes ",\"cat\":\"" ∷ kind ∷ codes "\",\"name\":\"" ∷ name ∷ codes "\",\"args\":{" ∷ arguments ∷ codes "}}" ∷ [])

-- something of a job at a tick
abbrev pub instant_event : ℕ → ℕ → ℕ → Piece → ℕ → Piece
instant_event process thread tick name job = concat (
    on_thread (codes "i") process thread ∷ codes ",\"ts\":" ∷ microseconds tick ∷ codes ",\"s\":\"t\",\"name\":\"" ∷ name
    ∷ codes "\",\"args\":{\"job\":" ∷ decimal job ∷ codes "}}" ∷ [])

-- what a count comes to from a tick on
abbrev pub count_event : ℕ → ℕ → Piece → ℕ → Piece
count_event process tick name left = concat (
    begun (codes "C") process ∷ codes ",\"ts\":" ∷ microseconds tick ∷ codes ",\"name\":\"" ∷ name ∷ codes "\",\"args\":{\"left\":"
    ∷ decimal left ∷ codes "}}" ∷ [])
