use Rattle.std.proofs.Common.{◌≡◌, ◌-◌, length, take, drop, length-drop, arith}
use Rattle.std.proofs.lemmas.List.{drop-map, take-map, take_all}
use Rattle.rt_base.specs.declared.TaskNo.{TaskNo}
use Rattle.why_states.proofs.clusters.split_top.Goals as goal

pub returns-then-count-ranking-clause-top : goal.returns-then-count-ranking-clause-top
returns-then-count-ranking-clause-top c = grind (arith, take-map (λ (t : TaskNo). t.0) c.args.count c.args.ranking.now)

pub returns-then-count-ranking-clause-behind : goal.returns-then-count-ranking-clause-behind
returns-then-count-ranking-clause-behind c =
    let xs = c.args.ranking.now in
    let n = c.args.count in
    let behind : take (length xs - n) (drop n xs) ≡ drop n xs = take_all (length xs - n) (drop n xs) (omega (arith, length-drop n xs)) in
    let whole : take (length xs) xs ≡ xs = take_all (length xs) xs (omega arith) in
    grind (arith, behind, whole, drop-map (λ (t : TaskNo). t.0) n xs)
