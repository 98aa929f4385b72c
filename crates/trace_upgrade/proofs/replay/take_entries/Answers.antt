use Rattle.std.proofs.Common.{◌≡◌, ◌+◌, ◌∷◌, ℕ, List, drop, get_or, sym, ap, ◌∙◌, subst}
use Rattle.rt_rules.specs.declared.history.Entry.{Entry}
use Rattle.rt_rules.specs.declared.history.Reply.TheVariants.{Done}
use Rattle.rt_task.specs.declared.Act.TheVariants.{Tick}
use Rattle.trace_upgrade.specs.Said.{CanTake, with_entries}
use Rattle.trace_upgrade.proofs.Taking.{HasTaken, entry-first, first-step, taken-next}
use Rattle.trace_upgrade.proofs.replay.take_entries.Goals as goal

abbrev no_entry : Entry
no_entry = record { step = record { cpu = record { 0 = 0 }; tick = record { 0 = 0 }; act = Tick }; reply = Done }

pub step-requires-clause-step : goal.step-requires-clause-step
step-requires-clause-step c =
    let i : ℕ = c.loop-entry.entry-index in
    let e : Entry = get_or c.args.entries.now i no_entry in
    let here = entry-first c.args.entries.now i no_entry c.loop-entry-test.true in
    first-step c.loop-entry.engine e _ (subst (CanTake c.loop-entry.engine) here c.loop-entry.invariant.can)

pub loop-entry-preserved : goal.loop-entry-preserved
loop-entry-preserved c =
    let i : ℕ = c.loop-entry.entry-index in
    let e : Entry = get_or c.args.entries.now i no_entry in
    let later : List Entry = drop (i + 1) c.args.entries.now in
    let here : drop i c.args.entries.now ≡ e ∷ later = entry-first c.args.entries.now i no_entry c.loop-entry-test.true in
    let taken : HasTaken c.loop-entry.engine c.step.new.self e later =
    taken-next c.loop-entry.engine c.step.new.self e later c.step.result (subst (CanTake c.loop-entry.engine) here c.loop-entry.invariant.can) c.step.ensures.entry c.step.ensures.reply in
    record {
      can = taken.can;
      same = taken.same ∙ ap (λ (es : List Entry). with_entries es c.loop-entry.engine) (sym here) ∙ c.loop-entry.invariant.same;
    }
