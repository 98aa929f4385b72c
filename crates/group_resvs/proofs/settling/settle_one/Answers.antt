use Rattle.std.proofs.Common.{◌≡◌, ℕ, ◌-◌, ◌<◌, List, length, get_or, ◌∙◌, subst, refl, sym, arith}
use Rattle.std.specs.Prelude.{Option, None}
use Rattle.std.proofs.lemmas.List.{get_or-map, length-map, map-set}
use Rattle.rt_base.specs.TaskNos.{number_of_task, numbers_of_tasks}
use Rattle.group_resvs.specs.GroupResvs.{AllServe}
use Rattle.group_resvs.proofs.ChangedLists.{all_changed-set}
use Rattle.group_resvs.proofs.TouchedLaws.{all-serve, all_settled-one}
use Rattle.group_resvs.proofs.settling.settle_one.Goals as goal

pub returns-clause-resvs : goal.returns-clause-resvs
returns-clause-resvs c = c.settle_one.ensures ∙ all_settled-one c.args.resvs.now (numbers_of_tasks c.args.serves.now) c.args.resv c.requires.others

pub returns-clause-serves : goal.returns-clause-serves
returns-clause-serves c =
    let wide = length-map c.args.serves.now number_of_task in
    subst (AllServe c.settle_one.new.self) (sym (map-set number_of_task c.args.serves.now (c.args.resv.0 - 1) c.served_by-now.result))
    (all-serve c.args.resvs.now (numbers_of_tasks c.args.serves.now) c.args.resv c.requires.others c.settle_one.new.self (number_of_task c.served_by-now.result) c.settle_one.ensures c.served_by-now.ensures (wide ∙ c.requires.all))

pub returns-clause-changed : goal.returns-clause-changed
returns-clause-changed c =
    let os : List (Option ℕ) = numbers_of_tasks c.args.serves.now in
    let i : ℕ = c.args.resv.0 - 1 in
    let now : Option ℕ = number_of_task c.served_by-now.result in
    let here = c.requires.others.within c.args.resv refl in
    let low = here.low in
    let high = here.high in
    let inside : i < length c.args.serves.now = omega (arith, low, high, c.requires.all) in
    let before : number_of_task (get_or c.args.serves.now i None) ≡ get_or os i None = sym (get_or-map number_of_task c.args.serves.now i None None inside) in
    c.put_changed.ensures.items ∙ rw (c.clear.ensures.items, before, map-set) (sym (all_changed-set os i now (omega (arith, inside, length-map c.args.serves.now number_of_task))))
