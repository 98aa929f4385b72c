use Rattle.std.proofs.Common.{get_or, drop, not, ap, sym, ◌∙◌, ◌+◌, ◌∷◌, []}
use Rattle.std.proofs.lemmas.List.{at_drop_more, at_drop_all}
use Rattle.rt_base.specs.TaskNos.{numbers, numbers_of_tasks}
use Rattle.rt_rules.specs.Placing.{tasks_in}
use Rattle.rt_rules.proofs.BoolLaws.{not_false, not_true}
use Rattle.rt_rules.proofs.PlacingLaws.{beside}
use Rattle.link_table.specs.Marks.{AreMarks}
use Rattle.link_table.proofs.Filling.{Leads, leads-same, leads-taken, leads-skipped, filled-none}
use Rattle.link_table.proofs.MarkLaws.{first-says, marks-rest}
use Rattle.link_table.proofs.places.fill.Goals as goal
use Rattle.link_table.proofs.places.fill.Goals.{then-is_left, else-is_left}

pub is_left-requires : goal.is_left-requires
is_left-requires c =
    λ low.
    let leads : Leads (numbers c.args.top.now) (numbers_of_tasks c.args.links.now) (numbers_of_tasks c.loop-t.links) ((get_or c.args.top.now c.loop-t.t-index (record { 0 = 0 })).0 ∷ numbers (drop (c.loop-t.t-index + 1) c.args.top.now)) = rw (at_drop_more numbers c.args.top.now c.loop-t.t-index (record { 0 = 0 }) c.loop-t-test.true) at c.loop-t.invariant.leads in
    let marks : AreMarks c.loop-t.top_marks (beside (tasks_in (numbers_of_tasks c.args.links.now)) ((get_or c.args.top.now c.loop-t.t-index (record { 0 = 0 })).0 ∷ numbers (drop (c.loop-t.t-index + 1) c.args.top.now))) = rw (at_drop_more numbers c.args.top.now c.loop-t.t-index (record { 0 = 0 }) c.loop-t-test.true) at c.loop-t.invariant.marks in
    first-says _ _ _ _ marks low ∙ ap not (sym (leads-same _ _ _ _ _ leads))

pub loop-t-preserved : goal.loop-t-preserved
loop-t-preserved c =
    let leads : Leads (numbers c.args.top.now) (numbers_of_tasks c.args.links.now) (numbers_of_tasks c.loop-t.links) ((get_or c.args.top.now c.loop-t.t-index (record { 0 = 0 })).0 ∷ numbers (drop (c.loop-t.t-index + 1) c.args.top.now)) = rw (at_drop_more numbers c.args.top.now c.loop-t.t-index (record { 0 = 0 }) c.loop-t-test.true) at c.loop-t.invariant.leads in
    let marks : AreMarks c.loop-t.top_marks (beside (tasks_in (numbers_of_tasks c.args.links.now)) ((get_or c.args.top.now c.loop-t.t-index (record { 0 = 0 })).0 ∷ numbers (drop (c.loop-t.t-index + 1) c.args.top.now))) = rw (at_drop_more numbers c.args.top.now c.loop-t.t-index (record { 0 = 0 }) c.loop-t-test.true) at c.loop-t.invariant.marks in
    let rest = marks-rest _ _ _ _ leads.once.0 marks in
    elim c.if-is_left.branch [
      | then-is_left w ↦ record {
        leads = rw (w.links-is, w.put-from.ensures.put) (leads-taken _ _ _ _ _ leads (not_true _ (sym c.is_left.ensures ∙ w.if-is_left.true)));
        taken = rw (w.links-is, w.from-is) w.put-from.ensures.taken;
        marks = rw c.set.ensures rest;
      }
      | else-is_left w ↦ record {
        leads = rw w.links-is (leads-skipped _ _ _ _ _ leads (not_false _ (sym c.is_left.ensures ∙ w.if-is_left.false)));
        taken = rw (w.links-is, w.from-is) c.loop-t.invariant.taken;
        marks = rw c.set.ensures rest;
      }
    ]

pub returns-clause-filled : goal.returns-clause-filled
returns-clause-filled c =
    let leads : Leads (numbers c.args.top.now) (numbers_of_tasks c.args.links.now) (numbers_of_tasks c.loop-t.links) [] = rw (at_drop_all numbers c.args.top.now c.loop-t.t-index c.loop-t-test.false) at c.loop-t.invariant.leads in
    sym (filled-none _) ∙ leads.rest

pub returns-clause-clear : goal.returns-clause-clear
returns-clause-clear c = rw (at_drop_all numbers c.args.top.now c.loop-t.t-index c.loop-t-test.false) at c.loop-t.invariant.marks
