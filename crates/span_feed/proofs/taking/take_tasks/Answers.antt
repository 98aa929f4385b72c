use Rattle.std.proofs.Common.{◌≡◌, ◌∙◌, ℕ, ◌<◌, List, length, sym, ap, subst, arith}
use Rattle.std.specs.Prelude.{None, slice_index_or}
use Rattle.rt_model.specs.Group.{Group}
use Rattle.chart_cells.specs.Kept.{finished}
use Rattle.chart_rows.specs.ReadyJobs.{ready_cell}
use Rattle.chart_rows.specs.Rows.{TaskKept}
use Rattle.span_feed.specs.Begun.{IsLeft}
use Rattle.span_feed.specs.Lane.{TaskLane, track_to}
use Rattle.span_feed.specs.Spanned.{task_more}
use Rattle.span_feed.specs.Still.{IsStill}
use Rattle.span_feed.proofs.Beside.{next-x, next-y, taken-more}
use Rattle.span_feed.proofs.Taken.{IsTaken, taken-begun, taken-cleared, taken-still, taken-tracks}
use Rattle.span_feed.proofs.taking.take_tasks.Goals as goal

pub take-requires-clause-run : goal.take-requires-clause-run
take-requires-clause-run c = λ j h.
    let js = c.args.ready.now in
    let r : TaskKept = c.index-rows-i.result in
    let below : c.loop-i.i < length c.args.lanes.now = omega (arith, c.loop-i-test.true, c.requires.long) in
    let same : r ≡ slice_index_or c.args.rows.now c.loop-i.i r =
    next-x (IsTaken js c.args.from c.args.to) c.loop-i.i c.args.rows.now c.loop-i.rows c.args.lanes.now c.loop-i.lanes r r c.index-lanes-i.result c.index-lanes-i.result
    c.loop-i-test.true below c.loop-i.auto.rows c.loop-i.auto.lanes c.loop-i.invariant c.index-rows-i.is c.index-lanes-i.is r c.index-lanes-i.result in
    let known = ap (λ (k : TaskKept). slice_index_or js k.task None) (sym same ∙ c.index-rows-i.is) ∙ h in
    subst (λ (k : TaskKept). (x : List ℕ) × (k.kept ≡ finished x (ready_cell j))) (sym same ∙ c.index-rows-i.is) (c.requires.shown c.loop-i.i r c.loop-i-test.true j known)

pub take-requires-clause-rested : goal.take-requires-clause-rested
take-requires-clause-rested c = λ j rests.
    let js = c.args.ready.now in
    let r : TaskKept = c.index-rows-i.result in
    let l : TaskLane = c.index-lanes-i.result in
    let below : c.loop-i.i < length c.args.lanes.now = omega (arith, c.loop-i-test.true, c.requires.long) in
    let row = next-x (IsTaken js c.args.from c.args.to) c.loop-i.i c.args.rows.now c.loop-i.rows c.args.lanes.now c.loop-i.lanes r r l l
    c.loop-i-test.true below c.loop-i.auto.rows c.loop-i.auto.lanes c.loop-i.invariant c.index-rows-i.is c.index-lanes-i.is r l in
    let lane = next-y (IsTaken js c.args.from c.args.to) c.loop-i.i c.args.rows.now c.loop-i.rows c.args.lanes.now c.loop-i.lanes r r l l
    c.loop-i-test.true below c.loop-i.auto.rows c.loop-i.auto.lanes c.loop-i.invariant c.index-rows-i.is c.index-lanes-i.is r l in
    let was = ap (λ (x : TaskLane). x.stays) (sym lane ∙ c.index-lanes-i.is) ∙ rests in
    sym (ap (λ (k : TaskKept). slice_index_or js k.task None) (sym row ∙ c.index-rows-i.is)) ∙ c.requires.rested c.loop-i.i l r c.loop-i-test.true j was

pub loop-i-preserved : goal.loop-i-preserved
loop-i-preserved c =
    let js = c.args.ready.now in
    let r : TaskKept = c.index-rows-i.result in
    let below : c.loop-i.i < length c.args.lanes.now = omega (arith, c.loop-i-test.true, c.requires.long) in
    let left = subst (λ (k : TaskKept). (g : Group) → IsLeft g (slice_index_or js k.task None) k c.take.new.row) (sym c.index-rows-i.is) c.in_ok-take.ensures.row in
    let track = c.in_ok-take.ensures.track ∙ (λ t. task_more c.args.from c.args.to (sym c.index-rows-i.is t) (track_to c.args.from (sym c.index-lanes-i.is t))) in
    let still = subst (λ (k : TaskKept). IsStill (slice_index_or js k.task None) c.take.new.self c.take.new.row) (sym c.index-rows-i.is) c.in_ok-take.ensures.still in
    taken-more (IsTaken js c.args.from c.args.to) c.loop-i.i c.args.rows.now c.loop-i.rows c.args.lanes.now c.loop-i.lanes r c.take.new.row c.index-lanes-i.result c.take.new.self
    c.loop-i-test.true below c.loop-i.auto.rows c.loop-i.auto.lanes c.loop-i.invariant c.index-rows-i.is c.index-lanes-i.is (left, track, still)

pub returns-clause-cleared : goal.returns-clause-cleared
returns-clause-cleared c =
    taken-cleared c.args.ready.now c.args.from c.args.to c.loop-i.i c.args.rows.now c.loop-i.rows c.args.lanes.now c.loop-i.lanes c.loop-i-test.false c.requires.long c.loop-i.auto.rows c.loop-i.auto.lanes c.loop-i.invariant

pub returns-clause-begun : goal.returns-clause-begun
returns-clause-begun c =
    taken-begun c.args.ready.now c.args.from c.args.to c.loop-i.i c.args.rows.now c.loop-i.rows c.args.lanes.now c.loop-i.lanes c.loop-i-test.false c.requires.long c.loop-i.auto.rows c.loop-i.auto.lanes c.loop-i.invariant

pub returns-clause-lanes : goal.returns-clause-lanes
returns-clause-lanes c =
    taken-tracks c.args.ready.now c.args.from c.args.to c.loop-i.i c.args.rows.now c.loop-i.rows c.args.lanes.now c.loop-i.lanes c.loop-i-test.false c.requires.long c.loop-i.auto.rows c.loop-i.auto.lanes c.loop-i.invariant

pub returns-clause-still : goal.returns-clause-still
returns-clause-still c = taken-still c.args.ready.now c.args.from c.args.to c.loop-i.i c.args.rows.now c.loop-i.rows c.args.lanes.now c.loop-i.lanes c.loop-i-test.false c.requires.long c.loop-i.auto.rows c.loop-i.auto.lanes c.loop-i.invariant
