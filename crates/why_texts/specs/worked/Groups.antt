-- Worked texts: an entry of the second group, and a unit that the reservation has no budget for.
use Rattle.std.specs.Prelude.{◌≡◌, [], ◌∷◌, None, Some, codes, refl}
use Rattle.std.specs.Fmt.{digits}
use Rattle.rt_model.specs.worked.Computed.{computed}
use Rattle.rt_model.specs.worked.Samples.{entries_of}
use Rattle.chart_texts.specs.Named.{then}
use Rattle.chart_texts.specs.worked.Groups.{apart, island_lines, land_lines, served, served_lines}
use Rattle.why_texts.specs.worked.Computed.{written}
use Rattle.why_texts.specs.WhyText.{why_text}

-- the text has the clusters, processors and tasks of the group alone
pub island_irq : why_text apart.setup (entries_of land_lines ∷ entries_of island_lines ∷ []) 1 2 ≡ Some (
    then (codes "2 3 2 irq runs @island 2:@island") (
    then (codes "processor 2 ran -") (
    then (codes "accepted: the processor runs its link from now on") (
    then (codes "links before") (
    then (codes "  processor 2 linked -") (
    then (codes "before the act") (
    then (codes "  clock 3") (
    then (codes "  cluster 2 ranks island |") (
    then (codes "  processor 2 runs - linked island pending") (
    then (codes "  task island job 1 eligible, base 2/13/3 key 2/13/3, release 3 deadline 13, used 0 of 2") (
    then (codes "after the act") (
    then (codes "  clock 3") (
    then (codes "  cluster 2 ranks island |") (
    then (codes "  processor 2 runs island linked island") (
    then (codes "  task island job 1 eligible, base 2/13/3 key 2/13/3, release 3 deadline 13, used 0 of 2") []))))))))))))))
    )
unfolding computed written digits
island_irq = refl

-- there is no entry 5 in the second group, and no third group
pub no_entry : why_text apart.setup (entries_of land_lines ∷ entries_of island_lines ∷ []) 1 5 ≡ None
unfolding why_text
no_entry = refl

pub no_group : why_text apart.setup (entries_of land_lines ∷ entries_of island_lines ∷ []) 2 0 ≡ None
unfolding why_text
no_group = refl

pub served_work : why_text served.setup (entries_of served_lines ∷ []) 0 9 ≡ Some (
    then (codes "9 5 0 work nobudget") (
    then (codes "processor 0 ran print") (
    then (codes "refused: no budget is left in the reservation") (
    then (codes "links before") (
    then (codes "  processor 0 linked batch") (
    then (codes "before the act") (
    then (codes "  clock 5") (
    then (codes "  cluster 0 ranks batch |") (
    then (codes "  processor 0 runs print linked batch pending") (
    then (codes "  resv server sporadic left 0 of 2 refilled 1 front print") (
    then (codes "  resv rest polling left 10 of 10 refilled 0 front batch") (
    then (codes "  task mail job 2 not there, no arrival") (
    then (codes "  task print job 1 without budget, base 2/1/1 key 2/1/1, release 4 deadline 14, used 1 of 2") (
    then (codes "  task batch job 1 eligible, base 2/2/2 key 2/2/2, release 0 deadline 100, used 0 of 20") (
    then (codes "after the act") (
    then (codes "  clock 5") (
    then (codes "  cluster 0 ranks batch |") (
    then (codes "  processor 0 runs print linked batch pending") (
    then (codes "  resv server sporadic left 0 of 2 refilled 1 front print") (
    then (codes "  resv rest polling left 10 of 10 refilled 0 front batch") (
    then (codes "  task mail job 2 not there, no arrival") (
    then (codes "  task print job 1 without budget, base 2/1/1 key 2/1/1, release 4 deadline 14, used 1 of 2") (
    then (codes "  task batch job 1 eligible, base 2/2/2 key 2/2/2, release 0 deadline 100, used 0 of 20") []))))))))))))))))))))))
    )
unfolding computed written digits
served_work = refl
