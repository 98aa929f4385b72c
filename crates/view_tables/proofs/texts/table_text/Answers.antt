use Rattle.std.proofs.Common.{◌∙◌, arith}
use Rattle.trace_text.proofs.LineLaws.{few_groups, item_number}
use Rattle.trace_text.specs.Groups.{histories}
use Rattle.view_tables.specs.Texts.{group_text}
use Rattle.view_tables.proofs.GroupTexts.{groups-end, groups-more, text-is}
use Rattle.view_tables.proofs.texts.table_text.Goals as goal

pub overflow_cast-i : goal.overflow_cast-i
overflow_cast-i c = omega (arith, c.loop-i-test.true, few_groups c.args.setup.now c.args.groups.now c.requires c.parts-parts.ensures.valid)

pub put_played-requires-clause-number : goal.put_played-requires-clause-number
put_played-requires-clause-number c = item_number c.args.setup.now c.args.groups.now c.loop-i.i c.index-groups-i.result c.requires c.loop-i-test.true c.index-groups-i.is

pub loop-i-preserved : goal.loop-i-preserved
loop-i-preserved c = groups-more (group_text c.args.table) c.args.setup.now c.args.groups.now c.loop-i.i c.index-groups-i.result c.loop-i.text.items c.put_played.new.text.items _ c.requires c.loop-i-test.true c.index-groups-i.is c.in_ok-put_played.ensures c.loop-i.invariant

pub returns : goal.returns
returns c = groups-end (group_text c.args.table) c.args.setup.now c.args.groups.now c.loop-i.i c.loop-i.text.items _ (omega (arith, c.loop-i-test.false)) c.loop-i.invariant ∙ text-is c.args.table c.args.setup.now (histories c.args.groups.now)
