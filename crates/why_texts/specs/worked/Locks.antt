-- Worked texts: a free semaphore that a ceiling keeps from a task, sections that nest, and a wait for a semaphore of another processor.
use Rattle.std.specs.Prelude.{◌≡◌, [], ◌∷◌, Some, codes, refl}
use Rattle.std.specs.Fmt.{digits}
use Rattle.rt_model.specs.worked.Computed.{computed}
use Rattle.rt_model.specs.worked.Samples.{entries_of}
use Rattle.trace_views.specs.worked.Sharing.{remote_lines}
use Rattle.chart_texts.specs.Named.{then}
use Rattle.chart_texts.specs.worked.Nested.{nested, nested_lines}
use Rattle.chart_texts.specs.worked.Sharing.{ceiling, ceiling_lines, remote}
use Rattle.why_texts.specs.worked.Computed.{written}
use Rattle.why_texts.specs.WhyText.{why_text}

-- the ceiling of what another task holds keeps the task waiting, though nobody holds the semaphore that it asks for
pub ceiling_queued : why_text ceiling.setup (entries_of ceiling_lines ∷ []) 0 4 ≡ Some (
    then (codes "4 1 0 lock 2 queued 0:@monitor") (
    then (codes "processor 0 ran control") (
    then (codes "accepted: it waits for the semaphore, and the processor runs nothing") (
    then (codes "links before") (
    then (codes "  processor 0 linked control") (
    then (codes "before the act") (
    then (codes "  clock 1") (
    then (codes "  cluster 0 ranks control | monitor") (
    then (codes "  processor 0 runs control linked control") (
    then (codes "  sem sensor PCP held by monitor ceiling 2/1/1") (
    then (codes "  sem motor PCP held by - ceiling 2/1/1") (
    then (codes "  task control job 1 eligible, base 2/1/1 key 2/1/1, release 1 deadline 1001, used 0 of 1") (
    then (codes "  task monitor job 1 eligible, base 2/5/2 key 2/5/2, release 0 deadline 1000, used 0 of 2, holds sensor") (
    then (codes "after the act") (
    then (codes "  clock 1") (
    then (codes "  cluster 0 ranks monitor |") (
    then (codes "  processor 0 runs - linked monitor pending") (
    then (codes "  sem sensor PCP held by monitor ceiling 2/1/1") (
    then (codes "  sem motor PCP held by - ceiling 2/1/1 waiting control") (
    then (codes "  task control job 1 blocked at motor, kept by monitor with sensor, base 2/1/1 key 2/1/1, release 1 deadline 1001, used 0 of 1") (
    then (codes "  task monitor job 1 eligible, base 2/5/2 key 2/1/1, release 0 deadline 1000, used 0 of 2, holds sensor") []))))))))))))))))))))
    )
unfolding computed written digits
ceiling_queued = refl

-- a task waits for a semaphore that is held, and the highest ceiling is that of another one
pub nested_queued : why_text nested.setup (entries_of nested_lines ∷ []) 0 20 ≡ Some (
    then (codes "20 5 0 lock 3 queued 0:@J3") (
    then (codes "processor 0 ran J2") (
    then (codes "accepted: it waits for the semaphore, and the processor runs nothing") (
    then (codes "links before") (
    then (codes "  processor 0 linked J2") (
    then (codes "before the act") (
    then (codes "  clock 5") (
    then (codes "  cluster 0 ranks J2 | J3") (
    then (codes "  processor 0 runs J2 linked J2") (
    then (codes "  sem S1 PCP held by - ceiling 2/1/1") (
    then (codes "  sem S2 PCP held by J3 ceiling 2/1/1") (
    then (codes "  sem S3 PCP held by J3 ceiling 2/2/2") (
    then (codes "  task J1 job 1 not there, released at 7") (
    then (codes "  task J2 job 1 eligible, base 2/2/2 key 2/2/2, release 4 deadline 104, used 2 of 4") (
    then (codes "  task J3 job 1 eligible, base 2/3/3 key 2/3/3, release 0 deadline 100, used 4 of 7, holds S2 S3") (
    then (codes "after the act") (
    then (codes "  clock 5") (
    then (codes "  cluster 0 ranks J3 |") (
    then (codes "  processor 0 runs - linked J3 pending") (
    then (codes "  sem S1 PCP held by - ceiling 2/1/1") (
    then (codes "  sem S2 PCP held by J3 ceiling 2/1/1") (
    then (codes "  sem S3 PCP held by J3 ceiling 2/2/2 waiting J2") (
    then (codes "  task J1 job 1 not there, released at 7") (
    then (codes "  task J2 job 1 blocked at S3, kept by J3 with S2, base 2/2/2 key 2/2/2, release 4 deadline 104, used 2 of 4") (
    then (codes "  task J3 job 1 eligible, base 2/3/3 key 2/2/2, release 0 deadline 100, used 4 of 7, holds S2 S3") []))))))))))))))))))))))))
    )
unfolding computed written digits
nested_queued = refl

-- a boosted holder, and a processor that is left without a link
pub remote_queued : why_text remote.setup (entries_of remote_lines ∷ []) 0 3 ≡ Some (
    then (codes "3 0 1 lock 1 queued 1:-") (
    then (codes "processor 1 ran filter") (
    then (codes "accepted: it waits for the semaphore, and the processor runs nothing") (
    then (codes "links before") (
    then (codes "  processor 0 linked driver") (
    then (codes "  processor 1 linked filter") (
    then (codes "before the act") (
    then (codes "  clock 0") (
    then (codes "  cluster 0 ranks driver |") (
    then (codes "  processor 0 runs driver linked driver") (
    then (codes "  cluster 1 ranks filter |") (
    then (codes "  processor 1 runs filter linked filter") (
    then (codes "  sem buffer MPCP held by driver") (
    then (codes "  task pulse job 1 not there, no arrival") (
    then (codes "  task driver job 1 eligible, base 2/5/2 key 1/3/2, release 0 deadline 1000, used 0 of 2, holds buffer") (
    then (codes "  task filter job 1 eligible, base 2/3/3 key 2/3/3, release 0 deadline 1000, used 0 of 2") (
    then (codes "after the act") (
    then (codes "  clock 0") (
    then (codes "  cluster 0 ranks driver |") (
    then (codes "  processor 0 runs driver linked driver") (
    then (codes "  cluster 1 ranks |") (
    then (codes "  processor 1 runs - linked -") (
    then (codes "  sem buffer MPCP held by driver waiting filter") (
    then (codes "  task pulse job 1 not there, no arrival") (
    then (codes "  task driver job 1 eligible, base 2/5/2 key 1/3/2, release 0 deadline 1000, used 0 of 2, holds buffer") (
    then (codes "  task filter job 1 blocked at buffer, kept by driver, base 2/3/3 key 2/3/3, release 0 deadline 1000, used 0 of 2") [])))))))))))))))))))))))))
    )
unfolding computed written digits
remote_queued = refl
