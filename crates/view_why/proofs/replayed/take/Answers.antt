use Rattle.std.proofs.Common.{◌∙◌, refl, subst, arith}
use Rattle.trace_text.proofs.ReplayLaws.{all_taken, past_next}
use Rattle.view_replay.specs.Replays.{IsAt, group_of}
use Rattle.view_why.proofs.replayed.take.Goals as goal

pub loop-entry-preserved : goal.loop-entry-preserved
loop-entry-preserved c =
    let inv = c.loop-entry.invariant in
    record {
      same_group = c.step.ensures.group ∙ inv.same_group;
      room = omega (arith, inv.room, c.step.ensures.room);
      at = λ past is.
          let so_far = inv.at past is in
          (_, c.step.ensures.at so_far.0 so_far.1, past_next (group_of c.args.replay.now) (group_of c.loop-entry.replay) so_far.0 _ c.args.entries.now c.loop-entry.entry-index _ c.loop-entry-test.true inv.same_group refl ∙ so_far.2);
    }

pub returns-clause-at : goal.returns-clause-at
returns-clause-at c = λ past is.
    let so_far = c.loop-entry.invariant.at past is in
    subst (λ p. IsAt c.loop-entry.replay p) (all_taken (group_of c.args.replay.now) so_far.0 past c.args.entries.now c.loop-entry.entry-index (omega (arith, c.loop-entry-test.false)) so_far.2) so_far.1
