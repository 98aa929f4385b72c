use Rattle.std.proofs.Common.{◌≡◌, ◌<◌, List, [], ◌∷◌, ◌++◌, refl, sym, ap, ◌∙◌, arith}
use Rattle.std.specs.Prelude.{Result, Ok, Err, false, is_err, is_ok, if◌then◌else◌}
use Rattle.rt_plays.specs.Groups.{GroupHistory}
use Rattle.rt_plays.specs.Plays.{group_count}
use Rattle.trace_laws.specs.PlayedGroups.{full_group, groups_from}
use Rattle.trace_upgrade.proofs.TextLaws.{group-next, groups-end, groups-next}
use Rattle.trace_upgrade.proofs.groups.groups_said.Goals as goal

-- what was not refused was put behind the others
pushed : {A E : Type 0} (r : Result A E) (xs ys : List GroupHistory) → is_err r ≡ false → (if is_ok r then xs else ys) ≡ xs
pushed (Ok a) xs ys h = refl
pushed (Err e) xs ys h = cc

pub loop-number-init : goal.loop-number-init
loop-number-init c = λ hs told count. record { later = hs; count = omega (arith, count); same = ap (λ (xs : List GroupHistory). xs ++ groups_from c.args.setup.now 0 hs) c.new-groups.ensures.items; told = told }

pub group_said-requires-clause-says : goal.group_said-requires-clause-says
group_said-requires-clause-says c =
    let p = c.args.setup.now in
    let hs = c.requires.says.0 in
    let low : c.loop-number.number < group_count p = omega (arith, c.loop-number-test.true, c.count_groups-number-end.ensures) in
    let left = c.loop-number.invariant hs c.requires.says.1 c.requires.says.2 in
    let next = group-next c.args.k.now p hs c.loop-number.number c.loop-number.groups.items c.loop-number.left.now low left in
    (next.es, next.later, next.told)

pub loop-number-preserved : goal.loop-number-preserved
loop-number-preserved c = λ hs told count.
    let k = c.args.k.now in
    let p = c.args.setup.now in
    let n = c.loop-number.number in
    let groups = c.loop-number.groups.items in
    let low : n < group_count p = omega (arith, c.loop-number-test.true, c.count_groups-number-end.ensures) in
    let next = group-next k p hs n groups c.loop-number.left.now low (c.loop-number.invariant hs told count) in
    let said = c.in_ok-group.ensures next.es next.later next.told in
    let items : c.push.new.self.items ≡ groups ++ full_group p n next.es ∷ [] =
    c.push.ensures.items ∙ pushed c.push.result _ _ (sym c.is_err.ensures.value ∙ c.if-is_err.false) ∙ ap (λ (x : GroupHistory). groups ++ x ∷ []) said.0 in
    groups-next k p hs n groups c.loop-number.left.now next c.in_ok-group.rest.now c.push.new.self.items items said.1

pub returns : goal.returns
returns c = λ hs told count.
    let p = c.args.setup.now in
    let all : c.loop-number.number ≡ group_count p = omega (arith, c.loop-number-test.false, c.loop-number.auto.number-end, c.count_groups-number-end.ensures) in
    groups-end c.args.k.now p hs c.loop-number.number c.loop-number.groups.items c.loop-number.left.now all (c.loop-number.invariant hs told count)
