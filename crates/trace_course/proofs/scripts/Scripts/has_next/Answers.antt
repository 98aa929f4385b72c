use Rattle.std.proofs.Common.{◌∙◌, sym}
use Rattle.trace_course.proofs.Positions.{at_position, position-within, some-left, some-next}
use Rattle.trace_course.proofs.scripts.Scripts.has_next.Goals as goal

pub next_of-requires : goal.next_of-requires
next_of-requires c = position-within c.requires.0 c.args.steps.now c.args.self.now c.requires.1 c.args.cpu.0 c.in-Some.from (sym c.position.ensures ∙ c.in-Some.is)

pub returns-in-Some-clause-some : goal.returns-in-Some-clause-some
returns-in-Some-clause-some c = λ at ps t.
    let here = sym c.position.ensures ∙ c.in-Some.is in
    let next = some-next c.args.steps.now c.in-Some.from c.args.cpu.0 c.next_of.result c.next_of.ensures (sym c.is_some.ensures ∙ t) in (
      (at_position at c.args.steps.now c.args.self.now ps c.args.cpu.0 c.in-Some.from here).0,
      some-left at c.args.steps.now c.args.self.now ps c.args.cpu.0 c.in-Some.from next.0 here next.1,
    )
