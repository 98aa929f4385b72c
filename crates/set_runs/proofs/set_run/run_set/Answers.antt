use Rattle.std.proofs.Common.{rules, arith}
use Rattle.set_runs.proofs.SetRuns.{all-runs, group-there}
use Rattle.set_runs.proofs.set_run.run_set.Goals as goal

pub map_indices-requires-after_bounds : goal.map_indices-requires-after_bounds
map_indices-requires-after_bounds g c κs within = λ i low.
    let there = group-there c.args.setup.now c.count_groups.result i c.parts-parts.ensures.valid c.count_groups.ensures low in
    ((there.0, there.1), search rules)

pub returns : goal.returns
returns g c =
    all-runs (λ v. v.items) c.args.setup.now c.count_groups.result c.in_ok-runs.runs.items c.all_run.result c.parts-parts.ensures.valid c.count_groups.ensures
    (omega (arith, c.in_ok-runs.ensures.len, c.in_ok-runs.runs.ok.0))
    (λ i d low. (c.in_ok-runs.ensures.each i d low).1.met) c.all_run.ensures
