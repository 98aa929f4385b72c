use Rattle.std.proofs.Common.{◌≡◌, List, length, sym, ap, arith}
use Rattle.rt_rules.specs.declared.history.Entry.{Entry}
use Rattle.rt_plays.specs.Groups.{group_of}
use Rattle.rt_plays.specs.Plays.{group_with}
use Rattle.view_why.proofs.EntryLaws.{explained-none, why-entry}
use Rattle.view_why.proofs.texts.explained.Goals as goal

pub returns-then-entry-count : goal.returns-then-entry-count
returns-then-entry-count c = sym (explained-none (group_of c.args.group.now) c.args.entry c.args.group.now.entries (omega (arith, c.if-entry-count.true, ap (λ (es : List Entry). length es) c.entries-entries.ensures.entries)))

pub returns : goal.returns
returns c =
    let h = c.args.group.now in
    let same : group_with c.args.setup.now c.args.number.0 ≡ group_of h = λ i. record { setup = sym c.requires.setup i; number = sym c.requires.number i } in
    why-entry (group_of h) (group_with c.args.setup.now c.args.number.0) c.args.entry h.entries c.entries-entries.result.now _ _ _ same c.entries-entries.ensures.entries (grind arith) (omega (arith, c.if-entry-count.false)) c.in_ok-text.ensures
