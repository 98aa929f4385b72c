use Rattle.std.proofs.Common.{List, get_or, sym, ◌∙◌}
use Rattle.std.proofs.lemmas.Bool.{not-true, not-false}
use Rattle.rt_base.specs.declared.SemNo.{SemNo}
use Rattle.set_rules.specs.inside.NamesSeen.{has_number}
use Rattle.set_rules.proofs.NameLaws.{no_repeat-next, no_repeat-stops, numbers-next}
use Rattle.set_rules.proofs.rules.name.are_without_repeat.Goals as goal

pub returns-then-not-branch : goal.returns-then-not-branch
returns-then-not-branch c =
    let ss : List SemNo = c.args.uses.now in
    let i = c.loop-s.s-index in
    let d : SemNo = record { 0 = 0 } in
    let n = (get_or ss i d).0 in
    let old = not-false (has_number c.loop-s.numbers n) (sym c.in_ok-add_number.ensures.new ∙ c.if-not-branch.true) in
    sym (no_repeat-stops ss i d c.loop-s-test.true (sym (c.loop-s.invariant.numbers n) ∙ old))

pub loop-s-preserved : goal.loop-s-preserved
loop-s-preserved c =
    let ss : List SemNo = c.args.uses.now in
    let i = c.loop-s.s-index in
    let d : SemNo = record { 0 = 0 } in
    let n = (get_or ss i d).0 in
    let new = not-true (has_number c.loop-s.numbers n) (sym c.in_ok-add_number.ensures.new ∙ c.if-not-branch.false) in
    record {
      so_far = no_repeat-next ss i d c.loop-s-test.true c.loop-s.invariant.so_far (sym (c.loop-s.invariant.numbers n) ∙ new);
      numbers = numbers-next ss i d (has_number c.loop-s.numbers) (has_number c.add_number.new.numbers) c.loop-s-test.true c.loop-s.invariant.numbers c.in_ok-add_number.ensures.added;
    }
