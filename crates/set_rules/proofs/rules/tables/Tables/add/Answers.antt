use Rattle.std.proofs.Common.{ℕ, List, Option, Some, cond, eqb, nat_eq, ap, ◌∙◌}
use Rattle.std.specs.HashMap.{get}
use Rattle.rt_task.specs.declared.Slot.{Slot}
use Rattle.set_rules.specs.inside.Tables.{with_slots}
use Rattle.set_rules.proofs.TableLaws.{knows-more}
use Rattle.set_rules.proofs.rules.tables.Tables.add.Goals as goal

pub returns : goal.returns
returns c = λ earlier known fits.
    let r = c.args.r.now in
    let old = c.args.self.now in
    knows-more old (record { cycles = c.insert.new.self; taken = c.take_slots.new.taken }) earlier r known c.requires fits
    (λ k. c.in_ok-insert.ensures.updates.0 k ∙ ap (λ (x : Option ℕ). cond (eqb r.cluster k) (Some x) (get nat_eq old.cycles k)) c.cycle_of.ensures)
    (c.in_ok-take_slots.ensures ∙ ap (λ (ss : List Slot). with_slots old.taken.entries r.cluster ss) c.slots_of.ensures)
