use Rattle.std.proofs.lemmas.Result.{on_ok_weaker}
use Rattle.rank_afresh.specs.Standing.{group_of}
use Rattle.span_feed.proofs.Stillness.{still-seen}
use Rattle.span_feed.proofs.seeing.see_task.Goals as goal

pub returns-then-is_at_rest-clause-row : goal.returns-then-is_at_rest-clause-row
returns-then-is_at_rest-clause-row c = λ past at clock known still.
    let rests = c.is_at_rest.ensures c.if-is_at_rest.true in
    still-seen (group_of c.args.afresh.now) past c.args.ready.now c.args.lane.now c.args.row.now rests.0 known.0 still rests.1

pub returns-clause-row : goal.returns-clause-row
returns-clause-row c = λ past at clock known _. c.in_ok-see_task_knowing.ensures.row past at clock known.0 known.1

pub returns-clause-knows : goal.returns-clause-knows
returns-clause-knows c = λ past at known. (c.in_ok-see_task_knowing.ensures.ready past at known.0, c.in_ok-see_task_knowing.ensures.away past at known.0 known.1)
