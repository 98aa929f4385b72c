use Rattle.std.proofs.Common.{◌∙◌, map, sym, arith}
use Rattle.svg_lines.specs.Shown.{part_shown}
use Rattle.svg_lines.proofs.Runs.{differs-here, first-only, grows-here, nothing-left}
use Rattle.svg_lines.proofs.parts.run_end.Goals as goal

pub loop-to-init : goal.loop-to-init
loop-to-init c = record {
  some = omega arith;
  within = omega (arith, c.requires);
  equal = first-only (map part_shown c.args.parts.now) c.args.from;
}

pub loop-to-preserved : goal.loop-to-preserved
loop-to-preserved c = record {
  some = omega (arith, c.loop-to.invariant.some);
  within = omega (arith, c.loop-to-test.true);
  equal = grows-here part_shown c.args.parts.now c.args.from c.loop-to.to c.index-parts-from.result c.index-parts-to.result c.index-parts-from.is c.index-parts-to.is c.requires c.loop-to-test.true c.loop-to.invariant.some (sym c.same_part.ensures ∙ c.if-same_part.true) c.loop-to.invariant.equal;
}

pub returns-else-same_part-clause-run : goal.returns-else-same_part-clause-run
returns-else-same_part-clause-run c = differs-here part_shown c.args.parts.now c.args.from c.loop-to.to c.index-parts-from.result c.index-parts-to.result c.index-parts-from.is c.index-parts-to.is c.requires c.loop-to-test.true c.loop-to.invariant.some (sym c.same_part.ensures ∙ c.if-same_part.false) c.loop-to.invariant.equal

pub returns-after-loop-to-clause-run : goal.returns-after-loop-to-clause-run
returns-after-loop-to-clause-run c = nothing-left part_shown c.args.parts.now c.args.from c.loop-to.to c.loop-to.invariant.some c.loop-to-test.false c.loop-to.invariant.equal
