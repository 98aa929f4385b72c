-- The next act of a processor of a valid set is one of its group: it names a semaphore that is there, and sleeps within the limit.
use Rattle.std.proofs.Common.{◌≡◌, ℕ, zero, suc, ◌+◌, ◌-◌, ◌<◌, Bool, true, false, not, ◌&&◌, List, [], ◌∷◌, length, refl, subst, inl, inr, arith}
use Rattle.std.proofs.lemmas.Bool.{cases_lt}
use Rattle.std.proofs.lemmas.List.{get_or_past}
use Rattle.std.specs.List.{list_all, list_any}
use Rattle.std.specs.Prelude.{Option, None, Some, bytes_eq, if◌then◌else◌, is_some, nat_lt, slice_get, slice_index_or, ◌||◌, ◌==◌}
use Rattle.rt_base.specs.declared.TheConstants.{MOST_OPERATIONS, TICK_END}
use Rattle.rt_base.specs.declared.TaskNo.{TaskNo}
use Rattle.rt_task.specs.Draft.{draft_of, one_more_work, op_front, runs}
use Rattle.rt_task.specs.NameRules.{op_is_known, piece_is_known, resv_is_known, task_name}
use Rattle.rt_task.specs.RangeRules.{task_range}
use Rattle.rt_task.specs.RuleWords.{is_known, is_name, is_prio, is_span, no_repeat, op_in_range, piece_in_range, sem_numbers}
use Rattle.rt_task.specs.Validity.{IsValid}
use Rattle.rt_task.specs.declared.Act.{Act}
use Rattle.rt_task.specs.declared.Act.TheVariants as acts
use Rattle.rt_task.specs.declared.Op.{Op}
use Rattle.rt_task.specs.declared.Op.TheVariants as ops
use Rattle.rt_task.specs.declared.Task.{Task}
use Rattle.rt_task.specs.declared.draft.Draft.{Draft}
use Rattle.rt_task.specs.declared.draft.DraftTask.{DraftTask}
use Rattle.rt_task.specs.declared.draft.Piece.{Piece}
use Rattle.rt_task.specs.declared.draft.Piece.TheVariants.{Works, Once}
use Rattle.rt_rules.specs.declared.history.Situation.{Situation}
use Rattle.rt_rules.specs.Numbers.{has}
use Rattle.rt_rules.proofs.BoolLaws.{both}
use Rattle.rt_rules.proofs.NumberLaws.{numbers_from-has}
use Rattle.rt_model.specs.Group.{Group, no_task, sems, task}
use Rattle.rt_model.specs.Situations.{next_act, next_of, next_op}
use Rattle.rt_model.specs.Steps.{IsActOf, IsOpOf}
use Rattle.rt_laws.proofs.ValidSets.{drafted, keeps_rows, task-keeps, within-bounds}

module _ (g : Group) where
  known-sem : (s : ℕ) → is_known g.setup.sems s ≡ true → has s (sems g) ≡ true
  unfolding sems
  known-sem s h = let bounds = within-bounds 1 (length g.setup.sems) s h in numbers_from-has 1 (length g.setup.sems) s bounds.0 (omega (arith, bounds.1))

  op-fits : (op : Op) → op_in_range op ≡ true → op_is_known (draft_of g.setup) op ≡ true → IsOpOf g op
  op-fits ops.Work range known = tt
  op-fits (ops.Lock s) range known = known-sem s.0 known
  op-fits (ops.Unlock s) range known = known-sem s.0 known
  op-fits (ops.Sleep n) range known = let bounds = within-bounds 1 (TICK_END - 1) n range in omega (arith, bounds.1)
  op-fits ops.NpOn range known = tt
  op-fits ops.NpOff range known = tt
  op-fits ops.End range known = tt

  -- ---- pieces whose operations are of the group

  abbrev AreFine : List Piece → Type 0
  AreFine [] = Unit {0}
  AreFine (Works n ∷ rest) = AreFine rest
  AreFine (Once op ∷ rest) = IsOpOf g op × AreFine rest

  pieces-fine : (xs : List Piece) → list_all piece_in_range xs ≡ true → list_all (piece_is_known (draft_of g.setup)) xs ≡ true → AreFine xs
  pieces-fine [] range known = tt
  pieces-fine (Works n ∷ rest) range known = pieces-fine rest (both (piece_in_range (Works n)) (list_all piece_in_range rest) range).1 known
  pieces-fine (Once op ∷ rest) range known =
      let low = both (op_in_range op) (list_all piece_in_range rest) range in
      let there = both (op_is_known (draft_of g.setup) op) (list_all (piece_is_known (draft_of g.setup)) rest) known in
      (op-fits op low.0 there.0, pieces-fine rest low.1 there.1)

  works-fine : (xs : List Piece) → AreFine (one_more_work xs) → AreFine xs
  works-fine [] fine = tt
  works-fine (Works n ∷ rest) fine = by_case (nat_lt n MOST_OPERATIONS) fine
    where
      by_case : (b : Bool) → AreFine (if b then (Works (n + 1) ∷ rest) else (Works 1 ∷ Works n ∷ rest)) → AreFine rest
      by_case true k = k
      by_case false k = k
  works-fine (Once op ∷ rest) fine = fine

  front-fine : (op : Op) (xs : List Piece) → AreFine (op_front op xs) → IsOpOf g op × AreFine xs
  front-fine ops.Work xs fine = (tt, works-fine xs fine)
  front-fine (ops.Lock s) xs fine = (fine.0, fine.1)
  front-fine (ops.Unlock s) xs fine = (fine.0, fine.1)
  front-fine (ops.Sleep n) xs fine = (fine.0, fine.1)
  front-fine ops.NpOn xs fine = (fine.0, fine.1)
  front-fine ops.NpOff xs fine = (fine.0, fine.1)
  front-fine ops.End xs fine = (fine.0, fine.1)

  op-at : (body : List Op) (i : ℕ) (op : Op) → AreFine (runs body) → slice_get body i ≡ Some op → IsOpOf g op
  unfolding runs
  op-at [] i op fine h = cc
  op-at (x ∷ body) zero op fine h = let same : x ≡ op = cc in subst (IsOpOf g) same (front-fine x (runs body) fine).0
  op-at (x ∷ body) (suc i) op fine h = op-at body i op (front-fine x (runs body) fine).1 h

  none-at : (i : ℕ) (op : Op) → slice_get no_task.body i ≡ Some op → IsOpOf g op
  none-at i op h = cc

  -- ---- the bodies of a valid set

  listed-fine : IsValid g.setup → (i : ℕ) → i < length g.setup.tasks → AreFine (runs (slice_index_or g.setup.tasks i no_task).body)
  unfolding task_range task_name
  listed-fine valid i low =
      let t : Task = slice_index_or g.setup.tasks i no_task in
      let d : Draft = draft_of g.setup in
      let range = task-keeps g.setup (task_range (draft_of g.setup)) (keeps_rows g.setup valid).range i low in
      let name = task-keeps g.setup (task_name (draft_of g.setup)) (keeps_rows g.setup valid).name i low in
      let by_cost = both (is_span t.cost) _ range.keeps in
      let by_period = both (is_span t.period) _ by_cost.1 in
      let by_deadline = both (is_span t.rel_deadline) _ by_period.1 in
      let by_phase = both (nat_lt t.phase TICK_END) _ by_deadline.1 in
      let by_prio = both (is_prio t.prio) _ by_phase.1 in
      let by_cluster = both (nat_lt t.cluster.0 (length d.clusters)) (list_all piece_in_range (runs t.body)) by_prio.1 in
      let by_number = both (t.number.0 == length name.earlier + 1) _ name.keeps in
      let by_name = both (is_name t.name) _ by_number.1 in
      let by_others = both (not (list_any (λ (x : DraftTask). bytes_eq x.name t.name) name.earlier)) _ by_name.1 in
      let by_sems = both (list_all (is_known d.sems) (sem_numbers (drafted t))) _ by_others.1 in
      let by_once = both (no_repeat (sem_numbers (drafted t))) _ by_sems.1 in
      let by_resv = both (resv_is_known d t.resv) (list_all (piece_is_known d) (runs t.body)) by_once.1 in
      pieces-fine (runs t.body) by_cluster.1 by_resv.1

  body-fits : IsValid g.setup → (t i : ℕ) (op : Op) → slice_get (task g t).body i ≡ Some op → IsOpOf g op
  unfolding task
  body-fits valid t i op h = elim (cases_lt (t - 1) (length g.setup.tasks)) [
    | inl low ↦ op-at (slice_index_or g.setup.tasks (t - 1) no_task).body i op (listed-fine valid (t - 1) low) h
    | inr high ↦ none-at i op (rw (get_or_past g.setup.tasks (t - 1) no_task high) at h)
  ]

  -- ---- the next act

  op-next : (s : Situation) (o : Option Op) (act : Act) → ((op : Op) → o ≡ Some op → IsOpOf g op) → next_op g s o ≡ Some act → IsActOf g act
  unfolding next_op
  op-next s None act fits h = cc
  op-next s (Some ops.Work) act fits h = by_case (s.worked || not s.budget) h
    where
      by_case : (b : Bool) → (if b then None else Some (acts.Do ops.Work)) ≡ Some act → IsActOf g act
      by_case true k = cc
      by_case false k = let same : acts.Do ops.Work ≡ act = cc in subst (IsActOf g) same tt
  op-next s (Some (ops.Lock n)) act fits h = let same : acts.Do (ops.Lock n) ≡ act = cc in subst (IsActOf g) same (fits (ops.Lock n) refl)
  op-next s (Some (ops.Unlock n)) act fits h = let same : acts.Do (ops.Unlock n) ≡ act = cc in subst (IsActOf g) same (fits (ops.Unlock n) refl)
  op-next s (Some (ops.Sleep n)) act fits h = let same : acts.Do (ops.Sleep n) ≡ act = cc in subst (IsActOf g) same (fits (ops.Sleep n) refl)
  op-next s (Some ops.NpOn) act fits h = let same : acts.Do ops.NpOn ≡ act = cc in subst (IsActOf g) same tt
  op-next s (Some ops.NpOff) act fits h = let same : acts.Do ops.NpOff ≡ act = cc in subst (IsActOf g) same tt
  op-next s (Some ops.End) act fits h = let same : acts.Do ops.End ≡ act = cc in subst (IsActOf g) same tt

  job-next : IsValid g.setup → (s : Situation) (o : Option TaskNo) (act : Act) → next_of g s o ≡ Some act → IsActOf g act
  unfolding next_of
  job-next valid s None act h = cc
  job-next valid s (Some t) act h = op-next s (slice_get (task g t.0).body s.at) act (λ op there. body-fits valid t.0 s.at op there) h

  -- it is an act of the group
  pub next-fits : IsValid g.setup → (s : Situation) (act : Act) → next_act g s ≡ Some act → IsActOf g act
  unfolding next_act
  next-fits valid s act h = by_case (s.pending && not (is_some s.runs && s.np)) h
    where
      by_case : (b : Bool) → (if b then Some acts.Irq else next_of g s s.runs) ≡ Some act → IsActOf g act
      by_case true k = let same : acts.Irq ≡ act = cc in subst (IsActOf g) same tt
      by_case false k = job-next valid s s.runs act k
