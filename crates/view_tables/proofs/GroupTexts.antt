-- The lines of a group, task by task.
use Rattle.std.proofs.Common.{◌≡◌, ◌∙◌, ℕ, zero, suc, ◌+◌, ◌-◌, ◌<◌, ◌≤◌, Bool, true, false, List, [], ◌∷◌, ◌++◌, length, map, drop, get_or, refl, sym, ap, subst, arith, append_assoc, append-nil}
use Rattle.std.specs.Prelude.{filter, flat_map, if◌then◌else◌}
use Rattle.std.proofs.Math.Seq.{drop-cons}
use Rattle.std.proofs.lemmas.Grind.{flat_map-append}
use Rattle.std.proofs.lemmas.List.{get_or_default}
use Rattle.std.proofs.lemmas.List.Concat.{flat_map-cons}
use Rattle.std.proofs.lemmas.List.Elements.{filter-append}
use Rattle.rt_task.specs.Validity.{IsValid}
use Rattle.rt_task.specs.declared.Parts.{Parts}
use Rattle.rt_task.specs.declared.Task.{Task}
use Rattle.rt_rules.specs.declared.history.Entry.{Entry}
use Rattle.rt_rules.specs.Numbers.{numbers_from}
use Rattle.rt_model.specs.Group.{Group, cluster, home, in_group, no_cluster, no_task, tasks}
use Rattle.rt_model.specs.Group as groups
use Rattle.rt_model.specs.Past.{Past, now}
use Rattle.rt_model.specs.Histories.{past_of}
use Rattle.rt_plays.specs.Groups.{GroupHistory, past}
use Rattle.rt_plays.specs.Groups as made
use Rattle.rt_plays.specs.Limits.{IsTaskInLimits}
use Rattle.rt_plays.proofs.SetLimits.{sets_are_in_limits}
use Rattle.trace_views.specs.JobRows.{JobRow, job_row, job_rows, listed, rows_of}
use Rattle.trace_views.specs.TaskRows.{TaskRow, task_row, task_rows}
use Rattle.table_texts.specs.Fields.{line_of, of_groups}
use Rattle.table_texts.specs.JobText.{job_fields, jobs_text}
use Rattle.table_texts.specs.TaskText.{task_fields, tasks_text}
use Rattle.trace_text.specs.Groups.{AreGroupsOf, histories}
use Rattle.trace_text.proofs.LineLaws.{history_group}
use Rattle.trace_text.proofs.ReplayLaws.{drop_end}
use Rattle.job_facts.proofs.Jobs.{map-last}
use Rattle.job_views.specs.Tables.{IsTableOf}
use Rattle.view_tables.specs.declared.played.Played.{Played}
use Rattle.view_tables.specs.declared.tables.Table.{Table}
use Rattle.view_tables.specs.declared.tables.Table.TheVariants.{Jobs, Tasks}
use Rattle.view_tables.specs.inside.Playing.{HasTask, IsPlayed, group_of}
use Rattle.view_tables.specs.Texts.{columns, group_text, is_of, table_text, task_text}

-- ---- the tasks so far

numbers-last : (a n : ℕ) → numbers_from a (n + 1) ≡ numbers_from a n ++ (a + n) ∷ []
numbers-last a zero = let at : a ≡ a + 0 = omega arith in ap (λ j. j ∷ []) at
numbers-last a (suc n) =
    let size : suc n + 1 ≡ suc (n + 1) = omega arith in
    let at : suc a + n ≡ a + suc n = omega arith in
    ap (λ m. numbers_from a m) size ∙ ap (λ xs. a ∷ xs) (numbers-last (suc a) n) ∙ ap (λ j. a ∷ (numbers_from (suc a) n ++ j ∷ [])) at

abbrev pub in_this : Group → ℕ → Bool
in_this g t = in_group g (home g t)

abbrev pub so_far : Table → Group → Past → ℕ → List ℕ
so_far table g past i = flat_map (task_text table g past) (filter (in_this g) (numbers_from 1 i))

pub so_far-next : (table : Table) (g : Group) (past : Past) (i : ℕ) (b : Bool) → in_this g (i + 1) ≡ b → so_far table g past (i + 1) ≡ so_far table g past i ++ (if b then task_text table g past (i + 1) else [])
so_far-next table g past i b is =
    let text : ℕ → List ℕ = task_text table g past in
    let at : 1 + i ≡ i + 1 = omega arith in
    let first = filter (in_this g) (numbers_from 1 i) in
    ap (λ ts. flat_map text (filter (in_this g) ts)) (numbers-last 1 i ∙ ap (λ n. numbers_from 1 i ++ n ∷ []) at)
    ∙ ap (flat_map text) (filter-append (in_this g) (numbers_from 1 i) ((i + 1) ∷ []))
    ∙ flat_map-append text first (filter (in_this g) ((i + 1) ∷ []))
    ∙ ap (λ ys. flat_map text first ++ ys) (last b is)
  where
    last : (c : Bool) → in_this g (i + 1) ≡ c → flat_map (task_text table g past) (filter (in_this g) ((i + 1) ∷ [])) ≡ (if c then task_text table g past (i + 1) else [])
    last true m = rw m (flat_map-cons (task_text table g past) (i + 1) [] ∙ append-nil (task_text table g past (i + 1)))
    last false m = rw m refl

flat-flat : {X Y : Type 0} (f : Y → List ℕ) (h : X → List Y) (xs : List X) → flat_map f (flat_map h xs) ≡ flat_map (λ x. flat_map f (h x)) xs
flat-flat f h [] = refl
flat-flat f h (x ∷ xs) =
    ap (flat_map f) (flat_map-cons h x xs) ∙ flat_map-append f (h x) (flat_map h xs) ∙ ap (λ ys. flat_map f (h x) ++ ys) (flat-flat f h xs) ∙ sym (flat_map-cons (λ y. flat_map f (h y)) x xs)

flat-map : {X Y : Type 0} (f : Y → List ℕ) (h : X → Y) (xs : List X) → flat_map f (map h xs) ≡ flat_map (λ x. f (h x)) xs
flat-map f h [] = refl
flat-map f h (x ∷ xs) = flat_map-cons f (h x) (map h xs) ∙ ap (λ ys. f (h x) ++ ys) (flat-map f h xs) ∙ sym (flat_map-cons (λ y. f (h y)) x xs)

pub so_far-all : (table : Table) (g : Group) (past : Past) → so_far table g past (length g.setup.tasks) ≡ group_text table g past
unfolding job_rows task_rows tasks
so_far-all Jobs g past = sym (flat-flat (λ (r : JobRow). line_of (job_fields g r)) (λ t. rows_of g t past) (filter (in_this g) (numbers_from 1 (length g.setup.tasks))))
so_far-all Tasks g past = sym (flat-map (λ (r : TaskRow). line_of (task_fields g r)) (task_row g past) (filter (in_this g) (numbers_from 1 (length g.setup.tasks))))

-- ---- the task at a position

module _ (g : Group) (valid : IsValid g.setup) (i : ℕ) (x : Task) (low : i < length g.setup.tasks) (here : x ≡ get_or g.setup.tasks i x) where
  at-position : x ≡ get_or g.setup.tasks i no_task
  at-position = here ∙ get_or_default g.setup.tasks i x no_task low

  pub limits : IsTaskInLimits (i + 1) (length g.setup.clusters) x
  limits = subst (IsTaskInLimits (i + 1) (length g.setup.clusters)) (sym at-position) ((sets_are_in_limits g.setup valid).tasks_in i low)

  pub task-there : x ≡ groups.task g x.number.0
  unfolding groups.task
  task-there = let number : i ≡ x.number.0 - 1 = omega (arith, limits.number_is) in at-position ∙ ap (λ n. get_or g.setup.tasks n no_task) number

  pub is_of-this : is_of g.number g.setup x ≡ in_this g (i + 1)
  unfolding in_group home cluster groups.task
  is_of-this =
      let number : i ≡ i + 1 - 1 = omega arith in
      ap (λ (y : Task). is_of g.number g.setup y) (at-position ∙ ap (λ n. get_or g.setup.tasks n no_task) number)

-- ---- a task of a group that was played

pub has-task : (p : Played) (i : ℕ) (x : Task) → IsValid (group_of p).setup → i < length (group_of p).setup.tasks → x ≡ get_or (group_of p).setup.tasks i x → HasTask p x
has-task p i x valid low here =
    let number = (limits (group_of p) valid i x low here).number_is in
    record { task_is = task-there (group_of p) valid i x low here; from_one = omega (arith, number); within = omega (arith, number, low) }

pub table-of : (p : Played) (past : Past) (task : Task) (clock : ℕ) → IsPlayed past p → HasTask p task → clock ≡ now past → IsTableOf (group_of p) past p.table task clock
table-of p past task clock is has at = record {
  kept = is.kept;
  valid = is.at.whole.valid;
  few = omega (arith, is.at.ranked.few);
  clock_is = at;
  task_is = has.task_is;
  from_one = has.from_one;
  within = has.within;
  there = omega (arith, has.within, is.tasks);
}

-- the line of a job is of its task, and so is that of a task
pub row-task : (g : Group) (t k : ℕ) (past : Past) (r : JobRow) → r ≡ job_row g t past k → r.task ≡ t
unfolding job_row
row-task g t k past r is = ap (λ (x : JobRow). x.task) is

pub task_row-task : (g : Group) (t : ℕ) (past : Past) (r : TaskRow) → r ≡ task_row g past t → r.task ≡ t
unfolding task_row
task_row-task g t past r is = ap (λ (x : TaskRow). x.task) is

-- one more job
pub jobs-next : (g : Group) (t i : ℕ) (past : Past) (r : JobRow) (old text new : List ℕ) → r ≡ job_row g t past (i + 1)
    → text ≡ old ++ flat_map (λ (x : JobRow). line_of (job_fields g x)) (map (job_row g t past) (numbers_from 1 i)) → new ≡ text ++ line_of (job_fields g r)
    → new ≡ old ++ flat_map (λ (x : JobRow). line_of (job_fields g x)) (map (job_row g t past) (numbers_from 1 (i + 1)))
jobs-next g t i past r old text new is before put =
    let line : JobRow → List ℕ = λ x. line_of (job_fields g x) in
    let nth : ℕ → JobRow = job_row g t past in
    let rows : List JobRow = map nth (numbers_from 1 i) in
    let at : 1 + i ≡ i + 1 = omega arith in
    put ∙ ap (λ xs. xs ++ line r) before ∙ append_assoc old (flat_map line rows) (line r) ∙ ap (λ x. old ++ (flat_map line rows ++ line x)) is
    ∙ ap (λ ys. old ++ (flat_map line rows ++ ys)) (sym (flat_map-cons line (nth (i + 1)) [] ∙ append-nil (line (nth (i + 1)))))
    ∙ ap (λ ys. old ++ ys) (sym (flat_map-append line rows (nth (i + 1) ∷ [])))
    ∙ ap (λ rs. old ++ flat_map line rs) (sym (map-last nth 1 i ∙ ap (λ n. rows ++ nth n ∷ []) at))

pub jobs-all : (g : Group) (t : ℕ) (past : Past) (n : ℕ) → n ≡ listed g t past
    → flat_map (λ (x : JobRow). line_of (job_fields g x)) (map (job_row g t past) (numbers_from 1 n)) ≡ task_text Jobs g past t
unfolding rows_of
jobs-all g t past n is = ap (λ m. flat_map (λ (x : JobRow). line_of (job_fields g x)) (map (job_row g t past) (numbers_from 1 m))) is

-- one more task
pub group-next : (table : Table) (g : Group) (past : Past) (i : ℕ) (b : Bool) (old text new : List ℕ) → in_this g (i + 1) ≡ b → text ≡ old ++ so_far table g past i
    → new ≡ text ++ (if b then task_text table g past (i + 1) else []) → new ≡ old ++ so_far table g past (i + 1)
group-next table g past i b old text new is before put =
    let line : List ℕ = if b then task_text table g past (i + 1) else [] in
    put ∙ ap (λ xs. xs ++ line) before ∙ append_assoc old (so_far table g past i) line ∙ ap (λ xs. old ++ xs) (sym (so_far-next table g past i b is))

-- ---- the groups so far

pub groups-next : (f : Group → Past → List ℕ) (p : Parts) (hs : List GroupHistory) (i : ℕ) (h : GroupHistory) → AreGroupsOf p hs → i < length hs → h ≡ get_or hs i h
    → of_groups f p i (histories (drop i hs)) ≡ f (made.group_of h) (past h) ++ of_groups f p (i + 1) (histories (drop (i + 1) hs))
groups-next f p hs i h are low is =
    let g : Group = record { setup = p; number = i } in
    let next : i + 1 ≡ suc i = omega arith in
    let same : made.group_of h ≡ g = ap made.group_of is ∙ history_group p hs i h are low in
    ap (λ (xs : List GroupHistory). of_groups f p i (histories xs)) (drop-cons hs i h low)
    ∙ ap (λ (y : GroupHistory). f g (past_of g y.entries) ++ of_groups f p (i + 1) (histories (drop (suc i) hs))) (sym is)
    ∙ ap (λ (x : Group). f x (past_of x h.entries) ++ of_groups f p (i + 1) (histories (drop (suc i) hs))) (sym same)
    ∙ ap (λ n. f (made.group_of h) (past h) ++ of_groups f p (i + 1) (histories (drop n hs))) (sym next)

pub groups-more : (f : Group → Past → List ℕ) (p : Parts) (hs : List GroupHistory) (i : ℕ) (h : GroupHistory) (text new all : List ℕ) → AreGroupsOf p hs → i < length hs → h ≡ get_or hs i h
    → new ≡ text ++ f (made.group_of h) (past h) → text ++ of_groups f p i (histories (drop i hs)) ≡ all → new ++ of_groups f p (i + 1) (histories (drop (i + 1) hs)) ≡ all
groups-more f p hs i h text new all are low is put before =
    let rest : List ℕ = of_groups f p (i + 1) (histories (drop (i + 1) hs)) in
    ap (λ xs. xs ++ rest) put ∙ append_assoc text (f (made.group_of h) (past h)) rest ∙ ap (λ xs. text ++ xs) (sym (groups-next f p hs i h are low is)) ∙ before

pub groups-end : (f : Group → Past → List ℕ) (p : Parts) (hs : List GroupHistory) (i : ℕ) (text all : List ℕ) → length hs ≤ i → text ++ of_groups f p i (histories (drop i hs)) ≡ all → text ≡ all
groups-end f p hs i text all past_all before =
    sym (append-nil text) ∙ ap (λ (xs : List GroupHistory). text ++ of_groups f p i (histories xs)) (sym (drop_end hs i past_all)) ∙ before

pub text-is : (table : Table) (p : Parts) (hs : List (List Entry)) → columns table ++ of_groups (group_text table) p 0 hs ≡ table_text table p hs
unfolding jobs_text tasks_text
text-is Jobs p hs = refl
text-is Tasks p hs = refl
