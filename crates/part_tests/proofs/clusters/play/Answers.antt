use Rattle.std.proofs.Common.{◌≢◌, ℕ, ◌<◌, map, slice_index, arith}
use Rattle.std.specs.Prelude.{None, Some, option_map}
use Rattle.cluster_table.specs.Clusters.{KeptCluster, after_take, left_by, relinked, with_key}
use Rattle.cluster_table.specs.Table.{Table, HasProcessor, HasTask, changed_at}
use Rattle.cluster_table.proofs.Stays.{Stays, has-processor-changed, has-processor-relinked, has-task-changed, has-task-relinked, stays-after_take, stays-left_by, stays-with_key}
use Rattle.part_tests.proofs.clusters.play.Goals as goal

abbrev Fits : Table → Type 0
Fits table =
    (q t : ℕ) → q < 5 → q ≢ 2 → t < 8 → HasProcessor table (slice_index table.homes q) q × HasTask table (slice_index table.homes q) t

fits-changed : (table : Table) (c : ℕ) (change : KeptCluster → KeptCluster) → Stays change → Fits table → Fits (changed_at c change table)
fits-changed table c change stays fit q t low apart room =
    let here = fit q t low apart room in
    (has-processor-changed c change table _ q stays here.0, has-task-changed c change table _ t stays here.1)

fits-relinked : (table : Table) → Fits table → Fits (record table { clusters = map (option_map relinked) table.clusters })
fits-relinked table fit q t low apart room =
    let here = fit q t low apart room in
    (has-processor-relinked table _ q here.0, has-task-relinked table _ t here.1)

pub set-requires : goal.set-requires
set-requires g c = rw c.home-c.ensures (c.requires.fit c.args.q.0 c.in-Ready.task (omega arith) (omega arith) (omega arith)).1

pub set-requires-in-Gone : goal.set-requires-in-Gone
set-requires-in-Gone g c = rw c.home-c.ensures (c.requires.fit c.args.q.0 c.in-Gone.task (omega arith) (omega arith) (omega arith)).1

pub take_irq-requires : goal.take_irq-requires
take_irq-requires g c = rw c.home-c.ensures (c.requires.fit c.args.q.0 0 (omega arith) (omega arith) (omega arith)).0

pub leave-requires : goal.leave-requires
leave-requires g c = rw c.home-c.ensures (c.requires.fit c.args.q.0 0 (omega arith) (omega arith) (omega arith)).0

pub linked-requires : goal.linked-requires
linked-requires g c = rw c.home-c.ensures (c.requires.fit c.args.q.0 0 (omega arith) (omega arith) (omega arith)).0

pub runs-requires : goal.runs-requires
runs-requires g c = rw c.home-c.ensures (c.requires.fit c.args.q.0 0 (omega arith) (omega arith) (omega arith)).0

pub heap-requires : goal.heap-requires
heap-requires g c =
    let there = (c.requires.fit c.args.q.0 0 (omega arith) (omega arith) (omega arith)).0 in
    rw c.home-c.ensures (there.0, there.1)

pub returns-in-Ready-clause-fit : goal.returns-in-Ready-clause-fit
returns-in-Ready-clause-fit g c = rw c.set.ensures (fits-changed c.args.table.now c.home-c.result.0 (with_key c.in-Ready.task (Some c.key.result)) (stays-with_key c.in-Ready.task (Some c.key.result)) c.requires.fit)

pub returns-in-Gone-clause-fit : goal.returns-in-Gone-clause-fit
returns-in-Gone-clause-fit g c = rw c.set-in-Gone.ensures (fits-changed c.args.table.now c.home-c.result.0 (with_key c.in-Gone.task None) (stays-with_key c.in-Gone.task None) c.requires.fit)

pub returns-in-Irq-clause-fit : goal.returns-in-Irq-clause-fit
returns-in-Irq-clause-fit g c = rw c.take_irq.ensures.changed (fits-changed c.args.table.now c.home-c.result.0 (after_take c.args.q.0 c.in-Irq.np) (stays-after_take c.args.q.0 c.in-Irq.np) c.requires.fit)

pub returns-in-Leave-clause-fit : goal.returns-in-Leave-clause-fit
returns-in-Leave-clause-fit g c = rw c.leave.ensures (fits-changed c.args.table.now c.home-c.result.0 (left_by c.args.q.0) (stays-left_by c.args.q.0) c.requires.fit)

pub returns-in-Place-clause-fit : goal.returns-in-Place-clause-fit
returns-in-Place-clause-fit g c = rw c.place_changed.ensures.clusters (fits-relinked c.args.table.now c.requires.fit)
