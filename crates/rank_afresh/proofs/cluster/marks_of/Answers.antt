use Rattle.std.proofs.Common.{◌≡◌, ◌+◌, ◌<◌, ◌≤◌, ◌++◌, ◌∷◌, [], ℕ, Bool, true, false, ◌||◌, List, length, length-set, set, take, get_or, eqb-true, refl, sym, ap, ◌∙◌, arith, get_or-set_same, get_or-set_other}
use Rattle.std.specs.Prelude.{◌==◌}
use Rattle.std.proofs.lemmas.Bool.{eqb-false}
use Rattle.std.proofs.lemmas.List.{map-append, take_more}
use Rattle.rt_base.specs.TaskNos.{numbers}
use Rattle.rt_base.specs.declared.TaskNo.{TaskNo}
use Rattle.rt_rules.specs.Numbers.{has}
use Rattle.rt_rules.proofs.BoolLaws.{or_true}
use Rattle.rt_rules.proofs.MemberLaws.{has-append}
use Rattle.rank_afresh.specs.Ranks.{AreMarks}
use Rattle.rank_afresh.proofs.SetLists.{has-at}
use Rattle.rank_afresh.proofs.cluster.marks_of.Goals as goal

-- one more task is marked
marks-more : (ts : List TaskNo) (i : ℕ) (d : TaskNo) (marks : List Bool) → i < length ts → (get_or ts i d).0 < length marks → AreMarks (numbers (take i ts)) marks
    → AreMarks (numbers (take (i + 1) ts)) (set marks (get_or ts i d).0 true)
marks-more ts i d marks low inside marked = λ t. by_case t (t == (get_or ts i d).0) refl ∙ sym (ap (has t) more ∙ has-append t (numbers (take i ts)) ((get_or ts i d).0 ∷ []))
  where
    more : numbers (take (i + 1) ts) ≡ numbers (take i ts) ++ (get_or ts i d).0 ∷ []
    more = ap numbers (take_more ts i d low) ∙ map-append (λ (u : TaskNo). u.0) (take i ts) (get_or ts i d ∷ [])

    or_none : (b : Bool) → b ≡ b || (false || false)
    or_none true = refl
    or_none false = refl

    by_case : (t : ℕ) (b : Bool) → t == (get_or ts i d).0 ≡ b → get_or (set marks (get_or ts i d).0 true) t false ≡ has t (numbers (take i ts)) || (t == (get_or ts i d).0 || false)
    by_case t true e =
        let same : t ≡ (get_or ts i d).0 = eqb-true t (get_or ts i d).0 e in
        ap (λ n. get_or (set marks (get_or ts i d).0 true) n false) same ∙ get_or-set_same marks (get_or ts i d).0 true false inside
        ∙ sym (ap (λ c. has t (numbers (take i ts)) || (c || false)) e ∙ or_true (has t (numbers (take i ts))))
    by_case t false e =
        get_or-set_other marks (get_or ts i d).0 t true false (eqb-false t (get_or ts i d).0 e) ∙ marked t ∙ or_none (has t (numbers (take i ts)))
        ∙ ap (λ c. has t (numbers (take i ts)) || (c || false)) (sym e)

pub index_mut-requires : goal.index_mut-requires
index_mut-requires c =
    let low : (get_or c.args.tasks.now c.loop-task.task-index (record { 0 = 0 })).0 ≤ c.args.all = c.requires.inside _ (has-at c.args.tasks.now c.loop-task.task-index (record { 0 = 0 }) c.loop-task-test.true) in
    omega (arith, low, c.loop-task.invariant.room, c.loop-task.marks.ok.0)

pub loop-task-preserved : goal.loop-task-preserved
loop-task-preserved c =
    let i : ℕ = c.loop-task.task-index in
    let t : ℕ = (get_or c.args.tasks.now i (record { 0 = 0 })).0 in
    let low : t ≤ c.args.all = c.requires.inside t (has-at c.args.tasks.now i (record { 0 = 0 }) c.loop-task-test.true) in
    record {
      marked = marks-more c.args.tasks.now i (record { 0 = 0 }) c.loop-task.marks.items c.loop-task-test.true (omega (arith, low, c.loop-task.invariant.room)) c.loop-task.invariant.marked;
      room = length-set c.loop-task.marks.items t true ∙ c.loop-task.invariant.room;
    }
