-- In a valid set each task has a name by the rules, and is found again by it.
use Rattle.std.proofs.Common.{◌≡◌, ℕ, ◌+◌, ◌-◌, ◌<◌, ◌≤◌, ◌^◌, ◌==◌, Bool, true, false, List, [], ◌∷◌, ◌++◌, All, map, length, get_or, None, refl, subst, arith}
use Rattle.std.specs.Str.{IsUtf8}
use Rattle.std.specs.Prelude.{bytes_eq, nat_le}
use Rattle.std.proofs.lemmas.Bool.{and_parts, leb-true}
use Rattle.std.proofs.lemmas.Bool.Decides.{nat_tests}
use Rattle.std.proofs.lemmas.List.{length-map}
use Rattle.std.proofs.lemmas.List.Elements.{All-nil, All-cons, All-head, All-tail}
use Rattle.std.proofs.lemmas.Option.{unwrap_or-slice_get}
use Rattle.std.proofs.lemmas.Slice.Eq.{bytes_eq-Decides}
use Rattle.std.proofs.lemmas.Str.{IsUtf8-from_ascii}
use Rattle.std.proofs.lemmas.Str.Ascii.{IsAscii-from_all}
use Rattle.rt_base.specs.declared.TheConstants.{MOST_TASKS}
use Rattle.rt_task.specs.declared.Parts.{Parts}
use Rattle.rt_task.specs.declared.Task.{Task}
use Rattle.rt_task.specs.declared.draft.DraftTask.{DraftTask}
use Rattle.rt_task.specs.Draft.{draft_of}
use Rattle.rt_task.specs.NameRules.{task_name}
use Rattle.rt_task.specs.Refusals.{first_failing}
use Rattle.rt_task.specs.RuleWords.{is_known, is_name}
use Rattle.rt_task.specs.SizeRules.{whole_size}
use Rattle.rt_task.specs.Validity.{IsValid, refusal_of}
use Rattle.set_read.specs.Document.{position_from}
use Rattle.set_laws.proofs.KnownLaws.{has_fresh, names_task}
use Rattle.set_laws.proofs.Passing.{passed, rows}
use Rattle.set_laws.proofs.PositionLaws.{known_position, map-map}
use Rattle.set_laws.proofs.WholeLaws.{canonical_plan}
use Rattle.trace_lines.specs.declared.format.Version.{Version}
use Rattle.trace_lines.specs.Words.{Word}
use Rattle.trace_lines.specs.Known.{IsNumberOf, known_of, name_at, task_names}
use Rattle.trace_read.specs.Seen.{AreTexts, Tells}
use Rattle.trace_read.proofs.PartLaws.{name-plain}
use Rattle.trace_read.proofs.WordLaws.{word-ascii}

abbrev IsNamed : Word → Type 0
IsNamed w = is_name w ≡ true

-- a rule by which each name is one
named-by : {A : Type 0} (rule : List A → A → Bool) (name : A → List ℕ) → ((e : List A) (x : A) → rule e x ≡ true → IsNamed (name x)) → (e xs : List A) → first_failing rule e xs ≡ None → All IsNamed (map name xs)
named-by rule name is e [] h = All-nil IsNamed
named-by rule name is e (x ∷ xs) h =
    let p = passed rule e x xs h in
    All-cons IsNamed (name x) (map name xs) (is e x p.0) (named-by rule name is (e ++ x ∷ []) xs p.1)

pub all-named : (p : Parts) → IsValid p → All IsNamed (task_names p.tasks)
unfolding refusal_of
all-named p valid =
    subst (All IsNamed) (map-map (λ (t : DraftTask). t.name) canonical_plan (λ (t : Task). t.name) p.tasks (λ t. refl))
    (named-by (task_name (draft_of p)) (λ (t : DraftTask). t.name) (λ e t k. (names_task p e t k).form) [] (map canonical_plan p.tasks) (rows (draft_of p) valid).tasks_named)

at_number : (ws : List Word) (n : ℕ) → 1 ≤ n → name_at ws n ≡ get_or ws (n - 1) []
at_number ws n low = let numbered : n == 0 ≡ false = grind (arith, nat_tests) in rw numbered (unwrap_or-slice_get ws (n - 1) [])

known_number : (xs : List Task) (n : ℕ) → IsNumberOf (length (task_names xs)) n → is_known xs n ≡ true
known_number xs n h =
    let low = h.low in
    let high : n ≤ length xs = omega (arith, h.high, length-map xs (λ (t : Task). t.name)) in
    grind (arith, nat_tests)

-- the names are as many as the tasks
pub names_count : (ts : List Task) → length (task_names ts) ≡ length ts
names_count ts = length-map ts (λ (t : Task). t.name)

-- and few
pub few_tasks : (p : Parts) → IsValid p → length p.tasks + 1 < 2 ^ 32
unfolding refusal_of whole_size
few_tasks p valid =
    let by_clusters = and_parts _ _ (rows (draft_of p) valid).size in
    let by_cpus = and_parts _ _ by_clusters.1 in
    let by_tasks = and_parts (nat_le (length (draft_of p).tasks) MOST_TASKS) _ by_cpus.1 in
    omega (arith, leb-true _ _ by_tasks.0, length-map p.tasks canonical_plan)

name-text : (w : Word) → is_name w ≡ true → IsUtf8 w
name-text w h = IsUtf8-from_ascii w (IsAscii-from_all w (word-ascii w (name-plain w h)))

texts-of : (ts : List Task) → All IsNamed (task_names ts) → AreTexts ts
texts-of [] h = All-nil (λ (t : Task). IsUtf8 t.name)
texts-of (t ∷ ts) h =
    All-cons (λ (x : Task). IsUtf8 x.name) t ts (name-text t.name (All-head IsNamed t.name (task_names ts) h)) (texts-of ts (All-tail IsNamed t.name (task_names ts) h))

differs : (v w : Word) → IsUtf8 v → (IsUtf8 w → ⊥) → bytes_eq v w ≡ false
differs v w text unlike = step (bytes_eq v w) refl
  where
    step : (b : Bool) → bytes_eq v w ≡ b → b ≡ false
    step true e = absurd (unlike (subst IsUtf8 ((bytes_eq-Decides v w).0 e) text))
    step false e = refl

-- what is no text is no task's name
pub not_found : (n : ℕ) (ts : List Task) (w : Word) → AreTexts ts → (IsUtf8 w → ⊥) → position_from n (task_names ts) w ≡ 0
not_found n [] w h unlike = refl
not_found n (t ∷ ts) w h unlike =
    let other : bytes_eq t.name w ≡ false = differs t.name w (All-head (λ (x : Task). IsUtf8 x.name) t ts h) unlike in
    rw other (not_found (n + 1) ts w (All-tail (λ (x : Task). IsUtf8 x.name) t ts h) unlike)

-- each name is text
pub are_texts : (p : Parts) → IsValid p → AreTexts p.tasks
are_texts p valid = texts-of p.tasks (all-named p valid)

pub valid-tells : (version : Version) (p : Parts) → IsValid p → Tells (known_of version p)
unfolding refusal_of
valid-tells version p valid = record {
  is_named = λ t h. rw (at_number (task_names p.tasks) t h.low) (all-named p valid (t - 1) [] (omega (arith, h.low, h.high)));
  is_found = λ t h. known_position (λ (x : Task). x.name) p.tasks t (has_fresh p (rows (draft_of p) valid)).tasks (known_number p.tasks t h);
}
