use Rattle.std.proofs.Common.{sym, subst}
use Rattle.rt_base.specs.TaskNos.{number_of_task}
use Rattle.rt_model.specs.Steps.{IsStepOf}
use Rattle.rt_plays.specs.Groups.{GroupHistory, group_of, past}
use Rattle.block_counts.specs.SeenWords.{waiters_of}
use Rattle.group_engine.specs.Words.{AreWaitersAt}
use Rattle.group_engine.specs.Moments.{between}
use Rattle.trace_text.proofs.BlockLines.{names-known, reachable-past_of}
use Rattle.trace_writer.proofs.Replays.{counts-next, is_between}
use Rattle.trace_writer.proofs.counted.CountingEngine.step.Goals as goal

pub feed-requires-clause-names : goal.feed-requires-clause-names
feed-requires-clause-names c =
    let h : GroupHistory = c.self.inside.engine in
    let of : IsStepOf (group_of h) c.args.step = subst (λ (x : GroupHistory). IsStepOf (group_of x) c.args.step) (sym c.self.view_is) c.requires.step in
    rw (c.self.invariant.setup_is, c.runs-runs.ensures) (names-known (group_of h) c.args.step.cpu.0 c.args.step.act c.self.invariant.valid (reachable-past_of (group_of h) h.entries) of.act)

pub invariant_of-self : goal.invariant_of-self
invariant_of-self c =
    let h : GroupHistory = c.self.inside.engine in
    let waiting : AreWaitersAt (between h c.args.step) c.args.step.cpu.0 c.args.step.act (waiters_of c.tasks.result.now) = rw c.tasks.ensures c.step_listing-reply.ensures.waiting in
    let is = is_between h c.step_listing-reply.new.self c.self.inside.asked c.feed.new.self c.self.inside.waiting.room c.step_listing-reply.new.list.room c.args.step c.step_listing-reply.result c.self.invariant c.step_listing-reply.ensures.entry (number_of_task c.runs-runs.result) (waiters_of c.tasks.result.now) c.step_listing-reply.ensures.reply c.runs-runs.ensures waiting in
    counts-next h c.step_listing-reply.new.self c.self.inside.asked c.feed.new.self c.self.inside.waiting.room c.step_listing-reply.new.list.room c.args.step c.step_listing-reply.result c.self.invariant c.step_listing-reply.ensures.entry c.feed.ensures.setup c.feed.ensures.group c.feed.ensures.room c.step_listing-reply.ensures.same_room (c.feed.ensures.at (past h) c.self.invariant.at is)
