use Rattle.std.proofs.Common.{◌∙◌, ◌+◌, sym, arith}
use Rattle.job_facts.proofs.RowSums.{sums-none}
use Rattle.job_views.specs.RowsShown.{row_shown}
use Rattle.job_views.specs.inside.SumsShown.{sums_shown}
use Rattle.job_views.proofs.Lines.{jobs-few, line-of, sums-next}
use Rattle.job_views.proofs.table.JobTable.sums.Goals as goal

pub loop-i-init : goal.loop-i-init
loop-i-init c = (c.new-sums.ensures.fits, λ g past is few. c.new-sums.ensures.none ∙ sym sums-none)

pub add-requires : goal.add-requires
add-requires c =
    let few = jobs-few c.requires.0 c.requires.1 c.args.self.now c.args.task.now c.args.clock.0 c.args.requests.now c.requires.2 c.args.jobs c.requires.3 in
    (c.loop-i.i, omega (arith, few, c.loop-i-test.true), c.loop-i.invariant.0)

pub loop-i-preserved : goal.loop-i-preserved
loop-i-preserved c = (
  c.add.ensures.fits c.loop-i.i c.loop-i.invariant.0,
  λ g past is few.
      sums-next g c.args.task.now.number.0 past c.loop-i.i (sums_shown c.loop-i.sums) (sums_shown c.add.new.self) (row_shown c.row.result) c.add.ensures.added
      (c.row.ensures g past (line-of g past c.args.self.now c.args.task.now c.args.clock.0 c.args.requests.now is (c.loop-i.i + 1) (omega arith) (omega (arith, few, c.loop-i-test.true))))
      (c.loop-i.invariant.1 g past is few),
)
