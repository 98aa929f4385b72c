-- In a valid set each number stands for an element, and each task has its own number.
use Rattle.std.proofs.Common.{◌≡◌, ℕ, ◌+◌, List, [], ◌∷◌, ◌++◌, Bool, true, false, ◌&&◌, cond, length, map, nat_lt, Option, Some, None, refl, ap, subst, ◌∙◌, arith}
use Rattle.std.specs.Prelude.{bytes_eq}
use Rattle.std.specs.List.{list_all, list_any}
use Rattle.std.proofs.lemmas.Bool.{and_parts, eqb-true}
use Rattle.std.proofs.lemmas.List.{length-append}
use Rattle.rt_base.specs.declared.ResvNo.{ResvNo}
use Rattle.rt_base.specs.declared.SemNo.{SemNo}
use Rattle.rt_base.specs.declared.TheConstants.{MOST_OPERATIONS}
use Rattle.rt_task.specs.declared.Act.{Act}
use Rattle.rt_task.specs.declared.Act.TheVariants as acts
use Rattle.rt_task.specs.declared.Drive.{Drive}
use Rattle.rt_task.specs.declared.Drive.TheVariants.{Steps, Horizon}
use Rattle.rt_task.specs.declared.Op.{Op}
use Rattle.rt_task.specs.declared.Op.TheVariants as ops
use Rattle.rt_task.specs.declared.Parts.{Parts}
use Rattle.rt_task.specs.declared.Resv.{Resv}
use Rattle.rt_task.specs.declared.Sem.{Sem}
use Rattle.rt_task.specs.declared.Step.{Step}
use Rattle.rt_task.specs.declared.Task.{Task}
use Rattle.rt_task.specs.declared.draft.DraftResv.{DraftResv}
use Rattle.rt_task.specs.declared.draft.DraftTask.{DraftTask}
use Rattle.rt_task.specs.declared.draft.DraftStep.{DraftStep}
use Rattle.rt_task.specs.declared.draft.Piece.{Piece}
use Rattle.rt_task.specs.declared.draft.Piece.TheVariants.{Works, Once}
use Rattle.rt_task.specs.Draft.{runs, one_more_work, draft_of, draft_resv, draft_step, draft_drive, steps_of}
use Rattle.rt_task.specs.NameRules.{sem_name, resv_name, task_name, step_name, op_is_known, piece_is_known, resv_is_known, act_is_known}
use Rattle.rt_task.specs.Refusals.{first_failing}
use Rattle.rt_task.specs.RuleWords.{is_known, is_name, sem_numbers, no_repeat}
use Rattle.rt_task.specs.RuleWords as words
use Rattle.rt_task.specs.Validity.{resv_shape, task_shape}
use Rattle.set_canonical.specs.Values.{sem_names, resv_names, task_names}
use Rattle.set_laws.proofs.BackLaws.{KnowsOp, KnowsOps, KnowsAct, AllMayHave}
use Rattle.set_laws.proofs.Passing.{Rows, passed, not_true}
use Rattle.set_laws.proofs.PositionLaws.{Fresh, fresh-by, known_position, known-mapped, map-map}
use Rattle.set_laws.proofs.WholeLaws.{KnowsUses, KnowsResv, KnowsActs, KnowsDrive, AreRead, IsReadable, names_in, canonical_plan}

-- the names of each kind of element are new
pub record HasFresh (p : Parts) : Type 0 where
  pub sems : Fresh [] (sem_names p.sems)
  pub resvs : Fresh [] (resv_names p.resvs)
  pub tasks : Fresh [] (task_names p.tasks)

-- what the rule on a task's names says
pub record NamesTask (p : Parts) (e : List DraftTask) (t : DraftTask) : Type 0 where
  pub number : t.number.0 ≡ length e + 1
  pub form : is_name t.name ≡ true
  pub new : list_any (λ (x : DraftTask). bytes_eq x.name t.name) e ≡ false
  pub uses : list_all (is_known p.sems) (sem_numbers t) ≡ true
  pub resv : resv_is_known (draft_of p) t.resv ≡ true
  pub pieces : list_all (piece_is_known (draft_of p)) t.pieces ≡ true

pub names_task : (p : Parts) (e : List DraftTask) (t : DraftTask) → task_name (draft_of p) e t ≡ true → NamesTask p e t
unfolding task_name
names_task p e t h =
    let a = and_parts _ _ h in
    let b = and_parts _ _ a.1 in
    let c = and_parts _ _ b.1 in
    let u = and_parts _ _ c.1 in
    let r = and_parts _ _ u.1 in
    let k = and_parts _ _ r.1 in
    record { number = eqb-true _ _ a.0; form = b.0; new = not_true _ c.0; uses = u.0; resv = k.0; pieces = k.1 }

sem_is_new : (p : Parts) (e : List Sem) (s : Sem) → sem_name (draft_of p) e s ≡ true → list_any (λ (x : Sem). bytes_eq x.name s.name) e ≡ false
unfolding sem_name
sem_is_new p e s h = not_true _ (and_parts _ _ h).1

resv_is_new : (p : Parts) (e : List DraftResv) (r : DraftResv) → resv_name (draft_of p) e r ≡ true → list_any (λ (x : DraftResv). bytes_eq x.name r.name) e ≡ false
unfolding resv_name
resv_is_new p e r h = not_true _ (and_parts _ _ h).1

pub has_fresh : (p : Parts) → Rows (draft_of p) → HasFresh p
has_fresh p h = record {
  sems = fresh-by (sem_name (draft_of p)) (λ (s : Sem). s.name) (sem_is_new p) [] p.sems h.sems_named;
  resvs = subst (Fresh []) (map-map (λ (r : DraftResv). r.name) draft_resv (λ (r : Resv). r.name) p.resvs (λ r. refl)) (fresh-by (resv_name (draft_of p)) (λ (r : DraftResv). r.name) (resv_is_new p) [] (map draft_resv p.resvs) h.resvs_named);
  tasks = subst (Fresh []) (map-map (λ (t : DraftTask). t.name) canonical_plan (λ (t : Task). t.name) p.tasks (λ t. refl)) (fresh-by (task_name (draft_of p)) (λ (t : DraftTask). t.name) (λ e t k. (names_task p e t k).new) [] (map canonical_plan p.tasks) h.tasks_named);
}

-- a run of Work says nothing of the pieces after it
fewer : (q : Piece → Bool) (ps : List Piece) → ((n : ℕ) → q (Works n) ≡ true) → list_all q (one_more_work ps) ≡ true → list_all q ps ≡ true
fewer q [] w h = refl
fewer q (Works n ∷ rest) w h = by_room (nat_lt n MOST_OPERATIONS) h
  where
    by_room : (b : Bool) → list_all q (cond b (Works (n + 1) ∷ rest) (Works 1 ∷ Works n ∷ rest)) ≡ true → list_all q (Works n ∷ rest) ≡ true
    by_room true k = ap (λ b. b && list_all q rest) (w n) ∙ (and_parts (q (Works (n + 1))) (list_all q rest) k).1
    by_room false k = (and_parts (q (Works 1)) (list_all q (Works n ∷ rest)) k).1
fewer q (Once op ∷ rest) w h = (and_parts (q (Works 1)) (list_all q (Once op ∷ rest)) h).1

module _ (p : Parts) (fresh : HasFresh p) where
  knows_op : (op : Op) → op_is_known (draft_of p) op ≡ true → KnowsOp (names_in p) op
  knows_op ops.Work h = tt
  knows_op (ops.Lock s) h = record { known = known_position (λ (x : Sem). x.name) p.sems s.0 fresh.sems h }
  knows_op (ops.Unlock s) h = record { known = known_position (λ (x : Sem). x.name) p.sems s.0 fresh.sems h }
  knows_op (ops.Sleep n) h = tt
  knows_op ops.NpOn h = tt
  knows_op ops.NpOff h = tt
  knows_op ops.End h = tt

  knows_once : (op : Op) (rest : List Piece) → list_all (piece_is_known (draft_of p)) (Once op ∷ rest) ≡ true → KnowsOp (names_in p) op × (list_all (piece_is_known (draft_of p)) rest ≡ true)
  knows_once op rest h = let a = and_parts (op_is_known (draft_of p) op) (list_all (piece_is_known (draft_of p)) rest) h in (knows_op op a.0, a.1)

  knows_ops : (body : List Op) → list_all (piece_is_known (draft_of p)) (runs body) ≡ true → KnowsOps (names_in p) body
  unfolding runs
  knows_ops [] h = tt
  knows_ops (ops.Work ∷ rest) h = (tt, knows_ops rest (fewer (piece_is_known (draft_of p)) (runs rest) (λ n. refl) h))
  knows_ops (ops.Lock s ∷ rest) h = let a = knows_once (ops.Lock s) (runs rest) h in (a.0, knows_ops rest a.1)
  knows_ops (ops.Unlock s ∷ rest) h = let a = knows_once (ops.Unlock s) (runs rest) h in (a.0, knows_ops rest a.1)
  knows_ops (ops.Sleep n ∷ rest) h = (tt, knows_ops rest (knows_once (ops.Sleep n) (runs rest) h).1)
  knows_ops (ops.NpOn ∷ rest) h = (tt, knows_ops rest (knows_once ops.NpOn (runs rest) h).1)
  knows_ops (ops.NpOff ∷ rest) h = (tt, knows_ops rest (knows_once ops.NpOff (runs rest) h).1)
  knows_ops (ops.End ∷ rest) h = (tt, knows_ops rest (knows_once ops.End (runs rest) h).1)

  knows_uses : (ss : List SemNo) → list_all (is_known p.sems) (map (λ (s : SemNo). s.0) ss) ≡ true → KnowsUses (names_in p) ss
  knows_uses [] h = tt
  knows_uses (s ∷ ss) h =
      let a = and_parts (is_known p.sems s.0) (list_all (is_known p.sems) (map (λ (x : SemNo). x.0) ss)) h in (
        record { known = known_position (λ (x : Sem). x.name) p.sems s.0 fresh.sems a.0 },
        knows_uses ss a.1,
      )

  knows_resv : (o : Option ResvNo) → resv_is_known (draft_of p) o ≡ true → KnowsResv (names_in p) o
  knows_resv None h = tt
  knows_resv (Some r) h = known_position (λ (x : Resv). x.name) p.resvs r.0 fresh.resvs (known-mapped draft_resv p.resvs r.0 h)

  knows_act : (a : Act) → act_is_known (draft_of p) a ≡ true → KnowsAct (names_in p) a
  knows_act acts.Tick h = tt
  knows_act acts.Irq h = tt
  knows_act (acts.Arrive t) h = known_position (λ (x : Task). x.name) p.tasks t.0 fresh.tasks (known-mapped canonical_plan p.tasks t.0 h)
  knows_act (acts.Do op) h = knows_op op h

  knows_acts : (e : List DraftStep) (ss : List Step) → first_failing (step_name (draft_of p)) e (map draft_step ss) ≡ None → KnowsActs (names_in p) ss
  unfolding step_name
  knows_acts e [] h = tt
  knows_acts e (s ∷ ss) h = let a = passed (step_name (draft_of p)) e (draft_step s) (map draft_step ss) h in (knows_act s.act a.0, knows_acts (e ++ draft_step s ∷ []) ss a.1)

  knows_drive : (d : Drive) → first_failing (step_name (draft_of p)) [] (steps_of (draft_drive d)) ≡ None → KnowsDrive (names_in p) d
  knows_drive (Steps ss) h = knows_acts [] ss h
  knows_drive (Horizon n) h = tt

  are_read : (e : List DraftTask) (ts : List Task) (n : ℕ) → length e + 1 ≡ n
      → first_failing (task_name (draft_of p)) e (map canonical_plan ts) ≡ None → first_failing (task_shape (draft_of p)) e (map canonical_plan ts) ≡ None
      → AreRead (names_in p) (words.has_horizon (draft_drive p.drive)) n ts
  unfolding task_shape
  are_read e [] n count named shaped = tt
  are_read e (t ∷ ts) n count named shaped =
      let a = passed (task_name (draft_of p)) e (canonical_plan t) (map canonical_plan ts) named in
      let b = passed (task_shape (draft_of p)) e (canonical_plan t) (map canonical_plan ts) shaped in
      let f = names_task p e (canonical_plan t) a.0 in
      let longer = length-append e (canonical_plan t ∷ []) in (
        f.number ∙ count,
        record { uses = knows_uses t.uses f.uses; resv = knows_resv t.resv f.resv; body = knows_ops t.body f.pieces },
        b.0,
        are_read (e ++ canonical_plan t ∷ []) ts (n + 1) (omega arith) a.1 b.1,
      )

  all_may_have : (e : List DraftResv) (rs : List Resv) → first_failing (resv_shape (draft_of p)) e (map draft_resv rs) ≡ None → AllMayHave rs
  unfolding resv_shape
  all_may_have e [] h = tt
  all_may_have e (r ∷ rs) h = let a = passed (resv_shape (draft_of p)) e (draft_resv r) (map draft_resv rs) h in (a.0, all_may_have (e ++ draft_resv r ∷ []) rs a.1)

  pub is_readable : Rows (draft_of p) → IsReadable p
  is_readable h = record {
    resvs = all_may_have [] p.resvs h.resv_shapes;
    tasks = are_read [] p.tasks 1 refl h.tasks_named h.shapes;
    drive = knows_drive p.drive h.steps_named;
  }
