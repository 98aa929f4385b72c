use Rattle.std.proofs.Common.{◌≡◌, ◌∙◌, ◌+◌, ℕ, true, false, length, map, sym, ap, arith}
use Rattle.std.specs.Prelude.{filter}
use Rattle.rt_base.specs.declared.TaskNo.{TaskNo}
use Rattle.rt_rules.specs.Numbers.{numbers_from}
use Rattle.rt_model.specs.Group.{home, in_group, tasks}
use Rattle.why_lines.specs.GroupSets.{group_in}
use Rattle.why_lines.proofs.Numbered.{map-self, none-more, one-more}
use Rattle.why_lines.proofs.lists.tasks_of.Goals as goal
use Rattle.why_lines.proofs.lists.tasks_of.Goals.{then-is_in_group+in_ok-push, else-is_in_group}

pub loop-i-preserved : goal.loop-i-preserved
loop-i-preserved c =
    let g = group_in c.args.set.now in
    let test = λ (n : ℕ). in_group g (home g n) in
    let i = c.loop-i.i in
    let at : i + 1 ≡ 1 + i = omega arith in
    let told : c.is_in_group.result ≡ test (1 + i) = c.is_in_group.ensures ∙ ap (in_group g) c.home_of.ensures ∙ ap test at in
    elim c.if-is_in_group.branch [
      | then-is_in_group+in_ok-push w ↦ one-more 1 (λ (x : TaskNo). x.0) (λ n. n) test i (record { 0 = i + 1 }) c.loop-i.tasks.items c.if-is_in_group.tasks.items at (sym told ∙ w.if-is_in_group.true) (ap (λ v. v.items) w.tasks-is ∙ w.in_ok-push.ensures.items) c.loop-i.invariant
      | else-is_in_group w ↦ none-more 1 (λ (x : TaskNo). x.0) (λ n. n) test i c.loop-i.tasks.items c.if-is_in_group.tasks.items (sym told ∙ w.if-is_in_group.false) (ap (λ v. v.items) w.tasks-is) c.loop-i.invariant
    ]

pub returns : goal.returns
unfolding tasks
returns c =
    let g = group_in c.args.set.now in
    let test = λ (n : ℕ). in_group g (home g n) in
    let all : c.loop-i.i ≡ length c.args.set.now.parts.now.tasks = omega (arith, c.loop-i-test.false, c.loop-i.auto.i-end, ap length c.as_slice-i-end.ensures) in
    c.loop-i.invariant ∙ map-self (filter test (numbers_from 1 c.loop-i.i)) ∙ ap (λ n. filter test (numbers_from 1 n)) all
