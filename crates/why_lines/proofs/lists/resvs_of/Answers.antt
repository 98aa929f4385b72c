use Rattle.std.proofs.Common.{◌≡◌, ◌∙◌, ◌+◌, ℕ, true, false, length, map, sym, ap, arith}
use Rattle.std.specs.Prelude.{filter}
use Rattle.rt_base.specs.declared.ResvNo.{ResvNo}
use Rattle.rt_rules.specs.Numbers.{numbers_from}
use Rattle.rt_model.specs.Group.{in_group, resv}
use Rattle.chart_texts.specs.Charts.{group_resvs}
use Rattle.why_lines.specs.GroupSets.{group_in}
use Rattle.why_lines.proofs.Numbered.{map-self, none-more, one-more}
use Rattle.why_lines.proofs.lists.resvs_of.Goals as goal
use Rattle.why_lines.proofs.lists.resvs_of.Goals.{then-is_in_group+in_ok-push, else-is_in_group}

pub loop-i-preserved : goal.loop-i-preserved
loop-i-preserved c =
    let g = group_in c.args.set.now in
    let test = λ (n : ℕ). in_group g (resv g n).cluster.0 in
    let i = c.loop-i.i in
    let at : i + 1 ≡ 1 + i = omega arith in
    let told : c.is_in_group.result ≡ test (1 + i) = c.is_in_group.ensures ∙ ap (in_group g) c.resv_home.ensures ∙ ap test at in
    elim c.if-is_in_group.branch [
      | then-is_in_group+in_ok-push w ↦ one-more 1 (λ (x : ResvNo). x.0) (λ n. n) test i (record { 0 = i + 1 }) c.loop-i.resvs.items c.if-is_in_group.resvs.items at (sym told ∙ w.if-is_in_group.true) (ap (λ v. v.items) w.resvs-is ∙ w.in_ok-push.ensures.items) c.loop-i.invariant
      | else-is_in_group w ↦ none-more 1 (λ (x : ResvNo). x.0) (λ n. n) test i c.loop-i.resvs.items c.if-is_in_group.resvs.items (sym told ∙ w.if-is_in_group.false) (ap (λ v. v.items) w.resvs-is) c.loop-i.invariant
    ]

pub returns : goal.returns
unfolding group_resvs
returns c =
    let g = group_in c.args.set.now in
    let test = λ (n : ℕ). in_group g (resv g n).cluster.0 in
    let all : c.loop-i.i ≡ length c.args.set.now.parts.now.resvs = omega (arith, c.loop-i-test.false, c.loop-i.auto.i-end, ap length c.as_slice-i-end.ensures) in
    c.loop-i.invariant ∙ map-self (filter test (numbers_from 1 c.loop-i.i)) ∙ ap (λ n. filter test (numbers_from 1 n)) all
