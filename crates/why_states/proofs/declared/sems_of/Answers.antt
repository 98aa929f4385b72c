use Rattle.std.proofs.Common.{◌≡◌, ◌∙◌, ◌+◌, ℕ, true, false, not, length, map, sym, ap, arith}
use Rattle.std.specs.Prelude.{filter}
use Rattle.rt_base.specs.declared.SemNo.{SemNo}
use Rattle.rt_rules.specs.Numbers.{is_empty, numbers_from}
use Rattle.rt_model.specs.Group.{declares, sems, users}
use Rattle.why_texts.specs.SemLines.{declared_sems}
use Rattle.why_lines.specs.GroupSets.{group_in}
use Rattle.why_lines.proofs.Numbered.{map-self, none-more, one-more}
use Rattle.why_states.proofs.declared.sems_of.Goals.{then-is_declared+in_ok-push, else-is_declared}
use Rattle.why_states.proofs.declared.sems_of.Goals as goal

pub loop-i-preserved : goal.loop-i-preserved
unfolding users
loop-i-preserved c =
    let g = group_in c.args.set.now in
    let test = λ (n : ℕ). not (is_empty (users g n)) in
    let i = c.loop-i.i in
    let at : i + 1 ≡ 1 + i = omega arith in
    let told : c.is_declared.result ≡ test (1 + i) = c.is_declared.ensures ∙ ap (λ ts. not (is_empty (filter (λ t. declares g t (i + 1)) ts))) c.requires.tasks ∙ ap test at in
    elim c.if-is_declared.branch [
      | then-is_declared+in_ok-push w ↦ one-more 1 (λ (x : SemNo). x.0) (λ n. n) test i (record { 0 = i + 1 }) c.loop-i.sems.items c.if-is_declared.sems.items at (sym told ∙ w.if-is_declared.true) (ap (λ v. v.items) w.sems-is ∙ w.in_ok-push.ensures.items) c.loop-i.invariant
      | else-is_declared w ↦ none-more 1 (λ (x : SemNo). x.0) (λ n. n) test i c.loop-i.sems.items c.if-is_declared.sems.items (sym told ∙ w.if-is_declared.false) (ap (λ v. v.items) w.sems-is) c.loop-i.invariant
    ]

pub returns : goal.returns
unfolding declared_sems sems
returns c =
    let g = group_in c.args.set.now in
    let test = λ (n : ℕ). not (is_empty (users g n)) in
    let all : c.loop-i.i ≡ length c.args.set.now.parts.now.sems = omega (arith, c.loop-i-test.false, c.loop-i.auto.i-end, ap length c.as_slice-i-end.ensures) in
    c.loop-i.invariant ∙ map-self (filter test (numbers_from 1 c.loop-i.i)) ∙ ap (λ n. filter test (numbers_from 1 n)) all
