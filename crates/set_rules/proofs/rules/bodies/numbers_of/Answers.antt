use Rattle.rt_base.specs.declared.SemNo.{SemNo}
use Rattle.set_rules.specs.inside.NamesSeen.{has_number}
use Rattle.set_rules.proofs.NameLaws.{numbers-next}
use Rattle.set_rules.proofs.rules.bodies.numbers_of.Goals as goal

pub loop-s-preserved : goal.loop-s-preserved
loop-s-preserved c =
    let d : SemNo = record { 0 = 0 } in
    numbers-next c.args.uses.now c.loop-s.s-index d (has_number c.loop-s.numbers) (has_number c.add_number.new.numbers) c.loop-s-test.true c.loop-s.invariant c.in_ok-_is_new.ensures.added
