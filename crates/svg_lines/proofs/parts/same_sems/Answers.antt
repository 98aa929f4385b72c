use Rattle.svg_lines.proofs.Equal.{numbers-longer}
use Rattle.svg_lines.proofs.parts.same_sems.Goals as goal

pub returns-then-a-b : goal.returns-then-a-b
returns-then-a-b c = numbers-longer _ c.args.a.now c.args.b.now c.if-a-b.true
