-- What the tokens of a document say, read from where the reader stands.
use Rattle.std.specs.Prelude.{◌≡◌, ℕ, ◌+◌, ◌-◌, ◌≤◌, List, [], ◌∷◌, Option, None, Some, Ok, length, true}
use Rattle.json.specs.Token.{Token}
use Rattle.json.specs.Json as json
use Rattle.rt_task.specs.declared.draft.Draft.{Draft}
use Rattle.rt_task.specs.declared.draft.DraftTask.{DraftTask}
use Rattle.rt_task.specs.declared.draft.Piece.{Piece}
use Rattle.serde_json.specs.Data.{Data, unsigned, string, array, object, Items, no_items, Members, put}
use Rattle.serde_json.specs.Read.{of_json, of_items, converted, number_of}
use Rattle.set_read.specs.Document.{Names, Whole, steps, piece_items, shaped, task_form}
use Rattle.set_read.specs.Forms.{◌>>=◌, listed}
use Rattle.set_read.specs.inside.Stepwise.{draft_read, whole_read}

-- how deep an item of the document's last member may nest, a step or a task, and how deep an argument of a step
abbrev pub item_depth : ℕ
item_depth = 125

abbrev pub argument_depth : ℕ
argument_depth = 124

-- the same of a piece of a task's body, and of its argument
abbrev pub piece_depth : ℕ
piece_depth = 123

abbrev pub piece_argument_depth : ℕ
piece_argument_depth = 122

-- what is left of an array is these items, and rest follows it
abbrev pub AreItems : ℕ → List Token → Items → List Token → Type 0
AreItems depth ts ds rest = (n : ℕ) → length ts ≤ n → converted of_items (json.items (json.value depth) n ts) ≡ Some (ds, rest)

-- a number of 64 bits stands first
abbrev pub SaysNumber : List Token → ℕ → List Token → Type 0
SaysNumber ts n rest = (s : List ℕ) × (ts ≡ Token.number s ∷ rest) × (number_of s ≡ Some (unsigned n))

-- what is left of an array has this form
abbrev pub SaysItems : {A : Type 0} → ℕ → (List Data → Option A) → List Token → A → List Token → Type 0
SaysItems depth form ts x rest = (ds : Items) × AreItems depth ts ds rest × (form (listed ds) ≡ Some x)

-- a value of this form stands first
abbrev pub SaysValue : {A : Type 0} → ℕ → (Data → Option A) → List Token → A → List Token → Type 0
SaysValue depth form ts x rest = (d : Data) × (converted of_json (json.value depth ts) ≡ Some (d, rest)) × (form d ≡ Some x)

-- a piece, of its word and what stands behind it
abbrev pub piece_after : Names → List ℕ → List Data → Option Piece
piece_after names word ds = piece_items names (string word ∷ ds)

-- a task of a set with a horizon
abbrev pub task_read : Names → ℕ → Data → Option DraftTask
task_read names n d = shaped true (task_form names n d)

-- such tasks, numbered on, and none where one has not its form
abbrev pub tasks_read : Names → ℕ → List Data → Option (List DraftTask)
tasks_read names n [] = Some []
tasks_read names n (d ∷ ds) = do
  task ← task_read names n d
  tasks ← tasks_read names (n + 1) ds
  Some (task ∷ tasks)

-- ---- members

abbrev pub before : json.Members → json.Members → json.Members
before json.no_members last = last
before (json.member k j ms) last = json.member k j (before ms last)

-- these members, and then these items at this key
abbrev pub with_last : List ℕ → json.Members → json.Items → json.Json
with_last key ms js = json.object (before ms (json.member key (json.array js) json.no_members))

abbrev pub with_no_items : List ℕ → json.Members → json.Json
with_no_items key ms = with_last key ms json.no_items

-- From the first token these members of an object were read, which may nest so deep, and the items of its last member are next: with whatever
-- items these are, and no member after them, the object is known.
abbrev pub LeavesItems : List ℕ → ℕ → List Token → json.Members → List Token → Type 0
LeavesItems key depth first ms now =
    (js : json.Items) (rest after : List Token) → json.items (json.value (depth - 1 - 1)) (length now) now ≡ Some (js, rest)
    → json.read_key rest ≡ Some (None, after)
    → json.value depth first ≡ Some (with_last key ms js, after)

-- ---- documents

abbrev pub with_steps : Whole → List Data → Whole
with_steps whole ds = record whole { play = steps ds }

abbrev pub with_tasks : Whole → List Data → Whole
with_tasks whole ds = record whole { tasks = ds }

-- The items of the last member are next, and then the end of the text: with them in place of none, the whole says this draft.
abbrev pub SaysDraft : Type 0 → (List Data → Whole) → List Token → Draft → Type 0
SaysDraft has_none whole_with ts draft =
    (ds : Items) × (rest : List Token) × AreItems item_depth ts ds rest × (json.read_key rest ≡ Some (None, []))
    × (has_none → whole_read (whole_with (listed ds)) ≡ Ok draft)

-- the same of a value
abbrev pub Completes : List ℕ → Data → List Token → Draft → Type 0
Completes key value ts draft =
    (ds : Items) × (rest : List Token) × AreItems item_depth ts ds rest × (json.read_key rest ≡ Some (None, []))
    × ((ms : Members) → value ≡ object (put key (array no_items) ms) → draft_read (object (put key (array ds) ms)) ≡ Ok draft)
