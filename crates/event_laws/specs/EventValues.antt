-- Trace events as the members of their objects, in the order in which they are written. A tick is 1,000 microseconds.
use Rattle.std.specs.Prelude.{ℕ, ◌-◌, ◌*◌, Bool, List, [], ◌∷◌, ◌++◌, map, Option, None, Some, codes}
use Rattle.serde_json.specs.Data.{Data, null, boolean, number, string, array, object, Items, no_items, item, Members, no_members, member}
use Rattle.serde_json.specs.Data.{unsigned}
use Rattle.event_texts.specs.Records.{Piece}

abbrev pub Field : Type 0
Field = List ℕ × Data

abbrev pub members_of : List Field → Members
members_of [] = no_members
members_of (f ∷ fs) = member f.0 f.1 (members_of fs)

abbrev pub object_of : List Field → Data
object_of fs = object (members_of fs)

abbrev pub items_of : List Data → Items
items_of [] = no_items
items_of (d ∷ ds) = item d (items_of ds)

abbrev pub whole : ℕ → Data
whole n = number (unsigned n)

abbrev pub strings_of : List Piece → Data
strings_of names = array (items_of (map string names))

-- the kind of an event and its process; and its thread
abbrev pub begun_fields : Piece → ℕ → List Field → List Field
begun_fields phase process fs = (codes "ph", string phase) ∷ (codes "pid", whole process) ∷ fs

abbrev pub threaded_fields : Piece → ℕ → ℕ → List Field → List Field
threaded_fields phase process thread fs = begun_fields phase process ((codes "tid", whole thread) ∷ fs)

-- the names of a process and of a thread
abbrev pub named_fields : Piece → Piece → List Field
named_fields what name = (codes "name", string what) ∷ (codes "args", object_of ((codes "name", string name) ∷ [])) ∷ []

abbrev pub process_fields : ℕ → Piece → List Field
process_fields process name = begun_fields (codes "M") process (named_fields (codes "process_name") name)

abbrev pub thread_fields : ℕ → ℕ → Piece → List Field
thread_fields process thread name = threaded_fields (codes "M") process thread (named_fields (codes "thread_name") name)

-- something that lasts from one tick up to another, which is not of it
abbrev pub span_fields : ℕ → ℕ → ℕ → ℕ → Piece → Piece → List Field → List Field
span_fields process thread from to kind name arguments =
    threaded_fields (codes "X") process thread (
    (codes "ts", whole (1000 * from)) ∷ (codes "dur", whole (1000 * (to - from))) ∷ (codes "cat", string kind)
    ∷ (codes "name", string name) ∷ (codes "args", object_of arguments) ∷ [])

-- something of a job at a tick
abbrev pub instant_fields : ℕ → ℕ → ℕ → Piece → ℕ → List Field
instant_fields process thread tick name job =
    threaded_fields (codes "i") process thread (
    (codes "ts", whole (1000 * tick)) ∷ (codes "s", string (codes "t")) ∷ (codes "name", string name)
    ∷ (codes "args", object_of ((codes "job", whole job) ∷ [])) ∷ [])

-- what a count comes to from a tick on
abbrev pub count_fields : ℕ → ℕ → Piece → ℕ → List Field
count_fields process tick name left =
    begun_fields (codes "C") process (
    (codes "ts", whole (1000 * tick)) ∷ (codes "name", string name) ∷ (codes "args", object_of ((codes "left", whole left) ∷ [])) ∷ [])
