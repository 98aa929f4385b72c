use Rattle.std.proofs.Common.{◌≡◌, ◌∙◌, ◌≤◌, length, sym, ap, subst, arith}
use Rattle.rt_base.specs.TaskNos.{number_of_task}
use Rattle.rt_model.specs.Group.{Group}
use Rattle.rt_model.specs.Histories.{after, clock_moved}
use Rattle.rt_model.specs.Past.{now}
use Rattle.rt_model.proofs.Steps.{after-acted, reply_to-lem}
use Rattle.rt_plays.specs.Endings.{ended_last}
use Rattle.rt_task.specs.Validity.{IsValid}
use Rattle.block_counts.specs.GroupRequests as requests
use Rattle.block_counts.specs.SeenWords.{waiters_of}
use Rattle.rank_afresh.specs.Standing as ranker
use Rattle.group_core.specs.Listing.{AreWaitersAt, GroupAt}
use Rattle.view_replay.specs.Replays.{ended_number, group_of}
use Rattle.view_replay.proofs.Acting.{act-by, ended-after, names-there, told-between}
use Rattle.view_replay.proofs.replay.Replay.act.Goals as goal

pub feed-requires-clause-names : goal.feed-requires-clause-names
feed-requires-clause-names c =
    let past = c.requires.moved.0 in
    let moved = c.requires.moved.1 in
    names-there c.args.self.now c.args.step past moved (number_of_task c.runs-task.result) (c.runs-task.ensures (clock_moved c.args.step past) moved.ranked) c.requires.step

pub returns-clause-act : goal.returns-clause-act
returns-clause-act c = λ past moved.
    let g = group_of c.args.self.now in
    let step = c.args.step in
    let same : ranker.group_of c.act-reply.new.self ≡ g = λ i. record { setup = c.act-reply.ensures.same.setup_is i; number = c.act-reply.ensures.same.group_is i } in
    let told = c.ended.ensures (after g step past) (c.act-reply.ensures.acted past moved.ranked) in
    act-by g step.cpu.0 step.act (clock_moved step past) (number_of_task c.runs-task.result) c.act-reply.result (number_of_task c.task_of.result)
    (c.runs-task.ensures (clock_moved step past) moved.ranked)
    (c.act-reply.ensures.reply past moved.ranked ∙ reply_to-lem g step past)
    (c.task_of.ensures ∙ ap ended_number told ∙ ap (λ (x : Group). ended_number (ended_last x (after g step past))) same ∙ ended-after g step past)

pub returns-clause-at : goal.returns-clause-at
returns-clause-at c = λ past moved.
    let v = c.args.self.now in
    let g = group_of v in
    let step = c.args.step in
    let same : ranker.group_of c.act-reply.new.self ≡ g = λ i. record { setup = c.act-reply.ensures.same.setup_is i; number = c.act-reply.ensures.same.group_is i } in
    let counted_same : requests.group_of c.feed.new.self ≡ requests.group_of c.args.self.now.blocks = λ i. record { setup = c.feed.ensures.setup i; number = c.feed.ensures.group i } in
    let m : GroupAt = record { group = g; past = clock_moved step past } in
    let wait = subst (AreWaitersAt m step.cpu.0 step.act) (sym c.tasks.ensures) (c.list_waiting.ensures.waiting (clock_moved step past) moved.ranked) in
    let between =
    told-between v step past moved c.act-reply.result (number_of_task c.runs-task.result) (waiters_of c.tasks.result.now) (c.act-reply.ensures.reply past moved.ranked) (c.runs-task.ensures (clock_moved step past) moved.ranked) wait in
    let room : length g.setup.tasks ≤ c.list_waiting.new.list.room = omega (arith, moved.whole.waiting_room, c.list_waiting.ensures.room) in
    record {
      whole = record {
        valid = subst (λ (x : Group). IsValid x.setup) (sym same) moved.whole.valid;
        group_is = counted_same ∙ moved.whole.group_is ∙ sym same;
        spare_is = omega (arith, c.feed.ensures.room, c.act-reply.ensures.room, moved.whole.spare_is);
        clock_low = moved.whole.clock_low;
        waiting_room = subst (λ (x : Group). length x.setup.tasks ≤ c.list_waiting.new.list.room) (sym same) room;
      };
      ranked = c.act-reply.ensures.acted past moved.ranked;
      counted = subst (λ (x : Group). requests.IsAt c.feed.new.self (after x step past)) moved.whole.group_is (c.feed.ensures.at past moved.counted between);
      clock_is = moved.clock_is ∙ sym (ap now (after-acted g step past));
    }
