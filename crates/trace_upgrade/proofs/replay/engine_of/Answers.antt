use Rattle.std.proofs.Common.{ℕ, List, length, ap, subst, sym, ◌∙◌}
use Rattle.rt_rules.specs.declared.history.Entry.{Entry}
use Rattle.rt_plays.specs.Groups.{GroupHistory}
use Rattle.trace_upgrade.specs.Said.{CanTake, with_entries}
use Rattle.trace_upgrade.proofs.Taking.{opened-all, opened-can, opened-for}
use Rattle.trace_upgrade.proofs.replay.engine_of.Goals as goal

pub take_entries-requires : goal.take_entries-requires
take_entries-requires c =
    let h : GroupHistory = c.args.group.now in
    let room : ℕ = length c.entries-entries.result.now in
    let same = c.entries-entries.ensures.entries in
    let opened = opened-for h c.in_ok-engine.engine c.setup.result.now c.number.result.0 room c.in_ok-engine.ensures c.setup.ensures c.number.ensures.number in
    subst (CanTake c.in_ok-engine.engine) (sym same) (opened-can h room c.in_ok-engine.engine opened (ap length same) c.number.ensures.played)

pub returns : goal.returns
returns c =
    let h : GroupHistory = c.args.group.now in
    let room : ℕ = length c.entries-entries.result.now in
    let same = c.entries-entries.ensures.entries in
    let opened = opened-for h c.in_ok-engine.engine c.setup.result.now c.number.result.0 room c.in_ok-engine.ensures c.setup.ensures c.number.ensures.number in
    c.take_entries.ensures ∙ ap (λ (es : List Entry). with_entries es c.in_ok-engine.engine) same ∙ opened-all h room c.in_ok-engine.engine opened (ap length same) c.entries-entries.ensures.full
