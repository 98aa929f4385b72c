use Rattle.std.proofs.Common.{◌∙◌, sym, arith}
use Rattle.std.proofs.lemmas.Result.{IfOk-weaker}
use Rattle.trace_text.proofs.LineLaws.{few_groups, item_number}
use Rattle.view_why.proofs.EntryLaws.{why-none, why-there}
use Rattle.view_why.proofs.texts.why_text.Goals as goal

pub returns-then-group-count : goal.returns-then-group-count
returns-then-group-count c = sym (why-none c.args.setup.now c.args.groups.now c.args.group c.args.entry (omega (arith, c.if-group-count.true)))

pub overflow_cast-group : goal.overflow_cast-group
overflow_cast-group c = omega (arith, c.if-group-count.false, few_groups c.args.setup.now c.args.groups.now c.requires c.parts-parts.ensures.valid)

pub explained-requires-clause-there : goal.explained-requires-clause-there
explained-requires-clause-there c = c.requires.are_groups c.args.group (omega (arith, c.if-group-count.false))

pub explained-requires-clause-number : goal.explained-requires-clause-number
explained-requires-clause-number c = item_number c.args.setup.now c.args.groups.now c.args.group c.index-groups-group.result c.requires (omega (arith, c.if-group-count.false)) c.index-groups-group.is

pub returns : goal.returns
returns c =
    IfOk-weaker c.explained.result _ _ (λ o told.
    told ∙ sym (why-there c.args.setup.now c.args.groups.now c.args.group c.args.entry c.index-groups-group.result c.requires (omega (arith, c.if-group-count.false)) c.index-groups-group.is)) c.explained.ensures
