use Rattle.std.proofs.Common.{◌∙◌, refl, subst, arith}
use Rattle.trace_text.proofs.ReplayLaws.{all_taken, past_next}
use Rattle.view_tables.specs.inside.Playing.{IsPlayed, group_of}
use Rattle.view_tables.proofs.played.Played.take.Goals as goal

pub loop-entry-preserved : goal.loop-entry-preserved
loop-entry-preserved c =
    let inv = c.loop-entry.invariant in
    record {
      same_group = c.in_ok-step.ensures.group ∙ inv.same_group;
      room = omega (arith, inv.room, c.in_ok-step.ensures.room);
      played = λ past is.
          let so_far = inv.played past is in
          (_, c.in_ok-step.ensures.played so_far.0 so_far.1, past_next (group_of c.args.self.now) (group_of c.loop-entry.self) so_far.0 _ c.args.entries.now c.loop-entry.entry-index _ c.loop-entry-test.true inv.same_group refl ∙ so_far.2);
    }

pub returns-clause-played : goal.returns-clause-played
returns-clause-played c = λ past is.
    let so_far = c.loop-entry.invariant.played past is in
    subst (λ p. IsPlayed p c.loop-entry.self) (all_taken (group_of c.args.self.now) so_far.0 past c.args.entries.now c.loop-entry.entry-index (omega (arith, c.loop-entry-test.false)) so_far.2) so_far.1
