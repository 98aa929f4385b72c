use Rattle.std.proofs.Common.{◌≡◌, ◌*◌, ◌≤◌, ℕ, List, [], length, sym, ap, ◌∙◌, subst, arith}
use Rattle.std.specs.Prelude.{filter}
use Rattle.rt_base.specs.declared.TheConstants.{MOST_CPUS, MOST_STEPS}
use Rattle.rt_base.specs.declared.CpuNo.{CpuNo}
use Rattle.rt_task.specs.declared.Parts.{Parts}
use Rattle.rt_task.specs.declared.Drive.{Drive}
use Rattle.rt_task.specs.declared.Step.{Step}
use Rattle.rt_rules.specs.Numbers.{has}
use Rattle.rt_model.specs.Group.{group_processors}
use Rattle.rt_plays.specs.Groups.{GroupHistory}
use Rattle.rt_plays.specs.Drives.{horizon, steps_given}
use Rattle.rt_plays.specs.Order.{steps_in_group}
use Rattle.rt_plays.specs.Plays.{group_with}
use Rattle.rt_plays.specs.Room.{room}
use Rattle.cpu_site.specs.StepChains.{IsChained}
use Rattle.cpu_site.specs.Cpus.{cpu_numbers}
use Rattle.cpu_site.specs.Playing.{room_in}
use Rattle.cpu_site.proofs.Advancing.{playing-opened, steps-low}
use Rattle.cpu_site.proofs.Drives.{room-few, room-is}
use Rattle.cpu_site.proofs.Numbering.{cpus-read}
use Rattle.rt_plays.proofs.GroupLimits.{turns-few}
use Rattle.cpu_site.proofs.SetFacts.{group-steps_few}
use Rattle.cpu_site.proofs.player.Player.open.Goals as goal

-- the steps that are read are those of the group
steps-own : (p q : Parts) (n : ℕ) (given mine : List Step) (cpus : List CpuNo) → p ≡ q → given ≡ steps_given p.drive → mine ≡ filter (λ (s : Step). has s.cpu.0 (cpu_numbers cpus)) given
    → cpu_numbers cpus ≡ group_processors (group_with q n) → mine ≡ steps_in_group (group_with q n) (steps_given q.drive)
steps-own p q n given mine cpus same given_is mine_is cpus_are =
    mine_is ∙ ap (λ (ns : List ℕ). filter (λ (s : Step). has s.cpu.0 ns) given) cpus_are ∙ ap (steps_in_group (group_with q n)) (given_is ∙ ap (λ (x : Parts). steps_given x.drive) same)

pub chained-requires : goal.chained-requires
chained-requires c =
    let are = steps-own _ c.args.setup.now c.args.group.0 _ c.in_ok-steps.steps.items c.args.cpus.now c.parts.ensures.parts c.steps_given.ensures c.in_ok-steps.ensures c.requires.cpus in
    rw c.as_slice.ensures.value (steps-low (group_with c.args.setup.now c.args.group.0) c.in_ok-steps.steps.items c.parts.ensures.valid are)

pub room_in-room-requires-clause-steps : goal.room_in-room-requires-clause-steps
room_in-room-requires-clause-steps c =
    let are = steps-own _ c.args.setup.now c.args.group.0 _ c.in_ok-steps.steps.items c.args.cpus.now c.parts.ensures.parts c.steps_given.ensures c.in_ok-steps.ensures c.requires.cpus in
    let few = group-steps_few (group_with c.args.setup.now c.args.group.0) c.parts.ensures.valid in
    omega (arith, few, ap length are, c.in_ok-steps.steps.ok.0, c.len.ensures)

pub room_in-room-requires-clause-turns : goal.room_in-room-requires-clause-turns
room_in-room-requires-clause-turns c =
    let g = group_with c.args.setup.now c.args.group.0 in
    let few = turns-few g c.parts.ensures.valid in
    let many : length c.args.cpus.now ≡ length (group_processors g) = cpus-read g c.args.cpus.now c.requires.cpus in
    let far : horizon c.parts.result.now.drive ≡ horizon c.args.setup.now.drive = ap (λ (p : Parts). horizon p.drive) c.parts.ensures.parts in
    subst (λ (n : ℕ). n * length c.args.cpus.now * 18 ≤ MOST_STEPS) (sym far) (subst (λ (n : ℕ). horizon c.args.setup.now.drive * n * 18 ≤ MOST_STEPS) (sym many) few)

-- the room that is reckoned is that of the group
room-own : (p : Parts) (n : ℕ) (drive : Drive) (steps : List Step) (cpus : List CpuNo) (count read : ℕ) → drive ≡ p.drive → steps ≡ steps_in_group (group_with p n) (steps_given p.drive) → count ≡ length steps
    → cpu_numbers cpus ≡ group_processors (group_with p n) → read ≡ room_in drive count (length cpus) → read ≡ room (group_with p n)
room-own p n drive steps cpus count read same are long cpus_are is =
    is ∙ ap (λ (d : Drive). room_in d count (length cpus)) same
    ∙ room-is (group_with p n) steps count (length cpus) are long (cpus-read (group_with p n) cpus cpus_are)

pub open-requires-clause-room : goal.open-requires-clause-room
open-requires-clause-room c =
    let g = group_with c.args.setup.now c.args.group.0 in
    let are = steps-own _ c.args.setup.now c.args.group.0 _ c.in_ok-steps.steps.items c.args.cpus.now c.parts.ensures.parts c.steps_given.ensures c.in_ok-steps.ensures c.requires.cpus in
    let long : c.len.result ≡ length c.in_ok-steps.steps.items = omega (arith, c.in_ok-steps.steps.ok.0, c.len.ensures) in
    let own = room-own c.args.setup.now c.args.group.0 _ c.in_ok-steps.steps.items c.args.cpus.now c.len.result _ (ap (λ (p : Parts). p.drive) c.parts.ensures.parts) are long c.requires.cpus c.room_in-room.ensures in
    let few = room-few g c.parts.ensures.valid in
    omega (arith, own, few)

pub invariant_of-result : goal.invariant_of-result
invariant_of-result c =
    let are = steps-own _ c.args.setup.now c.args.group.0 _ c.in_ok-steps.steps.items c.args.cpus.now c.parts.ensures.parts c.steps_given.ensures c.in_ok-steps.ensures c.requires.cpus in
    let long : c.len.result ≡ length c.in_ok-steps.steps.items = omega (arith, c.in_ok-steps.steps.ok.0, c.len.ensures) in
    let own = room-own c.args.setup.now c.args.group.0 _ c.in_ok-steps.steps.items c.args.cpus.now c.len.result _ (ap (λ (p : Parts). p.drive) c.parts.ensures.parts) are long c.requires.cpus c.room_in-room.ensures in
    let chain : IsChained c.in_ok-steps.steps.items MOST_CPUS c.in_ok-positions.positions.items c.in_ok-positions.nexts.items = subst (λ (ss : List Step). IsChained ss MOST_CPUS c.in_ok-positions.positions.items c.in_ok-positions.nexts.items) c.as_slice.ensures.value c.in_ok-positions.ensures in
    playing-opened c.args.setup.now c.args.group.0 c.in_ok-steps.steps.items c.in_ok-positions.positions.items c.in_ok-positions.nexts.items c.in_ok-engine.engine (record { valid = c.parts.ensures.valid; there = c.requires.group }) are chain
    (c.in_ok-engine.ensures ∙ ap (λ (k : ℕ). let h : GroupHistory = record { setup = c.args.setup.now; group = c.args.group.0; entries = []; spare = k } in h) own) c.in_ok-setup.setup c.in_ok-setup.ensures

pub returns-clause-group : goal.returns-clause-group
returns-clause-group c =
    let are = steps-own _ c.args.setup.now c.args.group.0 _ c.in_ok-steps.steps.items c.args.cpus.now c.parts.ensures.parts c.steps_given.ensures c.in_ok-steps.ensures c.requires.cpus in
    let long : c.len.result ≡ length c.in_ok-steps.steps.items = omega (arith, c.in_ok-steps.steps.ok.0, c.len.ensures) in
    let own = room-own c.args.setup.now c.args.group.0 _ c.in_ok-steps.steps.items c.args.cpus.now c.len.result _ (ap (λ (p : Parts). p.drive) c.parts.ensures.parts) are long c.requires.cpus c.room_in-room.ensures in
    c.in_ok-engine.ensures ∙ ap (λ (k : ℕ). let h : GroupHistory = record { setup = c.args.setup.now; group = c.args.group.0; entries = []; spare = k } in h) own
