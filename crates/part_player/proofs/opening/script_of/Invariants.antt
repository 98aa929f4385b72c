use Rattle.std.proofs.Common.{◌≡◌, take}
use Rattle.rt_plays.specs.Scripts.{script}
use Rattle.part_player.proofs.opening.script_of.Given as goal

abbrev pub invariant-loop-step : goal.invariant-loop-step
invariant-loop-step l = l.own.items ≡ script (take l.step-index l.steps) l.cpu.0
