use Rattle.std.proofs.Common.{◌∙◌, ap, inl, inr, length, refl, sym, arith}
use Rattle.rt_model.specs.Histories.{past_from}
use Rattle.trace_text.proofs.ReplayLaws.{drop_end, past_next}
use Rattle.view_charts.specs.inside.Drawings.{group_of}
use Rattle.view_charts.proofs.drawing.Drawing.take.Goals as goal

pub step-requires-clause-drawn : goal.step-requires-clause-drawn
step-requires-clause-drawn c =
    let so_far = c.loop-i.invariant.drawn c.requires.drawn.0 c.requires.drawn.1 c.requires.drawn.2 c.requires.drawn.3 in
    (c.requires.drawn.0, c.requires.drawn.1, so_far.0, so_far.1)

pub loop-i-preserved : goal.loop-i-preserved
loop-i-preserved c =
    let inv = c.loop-i.invariant in
    record {
      same_group = c.in_ok-step.ensures.group ∙ inv.same_group;
      room = omega (arith, inv.room, c.in_ok-step.ensures.room);
      drawn = λ axis w past is.
          let so_far = inv.drawn axis w past is in
          (_, c.in_ok-step.ensures.drawn axis w so_far.0 so_far.1, past_next (group_of c.args.self.now) (group_of c.loop-i.self) so_far.0 _ c.args.entries.now c.loop-i.i _ c.loop-i-test.true inv.same_group refl ∙ so_far.2);
    }

pub returns-then-is_over-clause-drawn : goal.returns-then-is_over-clause-drawn
returns-then-is_over-clause-drawn c = λ axis w past is.
    let so_far = c.loop-i.invariant.drawn axis w past is in
    record { early = so_far.0; drawn = so_far.1; others = so_far.2; stopped = inr (sym (c.is_over.ensures axis w so_far.0 so_far.1) ∙ c.if-is_over.true) }

pub returns-clause-drawn : goal.returns-clause-drawn
returns-clause-drawn c = λ axis w past is.
    let so_far = c.loop-i.invariant.drawn axis w past is in
    let es = c.args.entries.now in
    let none = drop_end es (length es) (omega arith) in
    let left = drop_end es c.loop-i.i (omega (arith, c.loop-i-test.false)) in
    record {
      early = so_far.0;
      drawn = so_far.1;
      others = ap (past_from (group_of c.args.self.now) so_far.0) (none ∙ sym left) ∙ so_far.2;
      stopped = inl none;
    }
