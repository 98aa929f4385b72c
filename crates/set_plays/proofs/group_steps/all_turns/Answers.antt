use Rattle.std.proofs.Common.{◌≡◌, ◌≤◌, ◌*◌, ℕ, [], length, ap, ◌∙◌, arith}
use Rattle.std.proofs.lemmas.List.{length-map}
use Rattle.rt_base.specs.declared.CpuNo.{CpuNo}
use Rattle.rt_base.specs.declared.TheConstants.{MOST_STEPS}
use Rattle.rt_model.specs.Group.{Group, group_processors}
use Rattle.rt_plays.specs.Plays.{group_with}
use Rattle.rt_plays.proofs.GroupLimits.{processor-some}
use Rattle.set_plays.specs.TurnsLeft.{AreTurnsOf}
use Rattle.set_plays.proofs.TurnLaws.{length-rounds}
use Rattle.set_plays.proofs.TurnRoom.{horizon-few, turns-few}
use Rattle.set_plays.proofs.group_steps.all_turns.Goals as goal

pub new-requires : goal.new-requires
new-requires c =
    let g : Group = group_with c.args.setup.now c.args.group.0 in
    let some = processor-some g c.parts-parts.ensures.valid c.requires.there in
    let count = ap length c.in_ok-cpus.ensures in
    record { some = omega (arith, some, count, length-map c.in_ok-cpus.cpus.items (λ (q : CpuNo). q.0)) }

pub returns : goal.returns
returns c =
    let g : Group = group_with c.args.setup.now c.args.group.0 in
    let h : ℕ = c.args.horizon in
    let few : h * length (group_processors g) * 18 ≤ MOST_STEPS = turns-few c.args.setup.now c.args.group.0 h c.parts-parts.ensures.valid c.requires.horizon in
    let soon = horizon-few c.args.setup.now c.args.group.0 h c.parts-parts.ensures.valid c.requires.there c.requires.horizon in
    let turns : AreTurnsOf g c.new.result = c.new.ensures.turns g c.in_ok-cpus.ensures (omega (arith, soon)) in
    let room : c.new.result.horizon * length c.new.result.cpus * 18 ≡ h * length (group_processors g) * 18 =
    ap (λ n. n * length c.new.result.cpus * 18) c.new.ensures.horizon ∙ ap (λ qs. h * length qs * 18) turns.processors in
    record {
      of = turns;
      steps_are = c.new.ensures.all g [] c.in_ok-cpus.ensures;
      few = omega (arith, few, room);
      enough = omega (arith, length-rounds g h 0 [], room);
    }
