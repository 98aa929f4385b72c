use Rattle.std.proofs.Common.{◌≡◌, [], false, map, drop, Some}
use Rattle.rt_base.specs.declared.SemNo.{SemNo}
use Rattle.rt_task.specs.Bodies.{goes_on}
use Rattle.rt_task.specs.Lookups.{is_stacked_sem}
use Rattle.set_rules.proofs.rules.bodies.is_well_formed.Given as goal

-- whether the rest goes on from what is held is whether all goes on from nothing
abbrev pub invariant-loop-i : goal.invariant-loop-i
invariant-loop-i l = goes_on (map (λ (s : SemNo). s.0) l.uses) (is_stacked_sem l.d) (drop l.i l.pieces) (Some l.h) ≡ goes_on (map (λ (s : SemNo). s.0) l.uses) (is_stacked_sem l.d) l.pieces (Some (record { held = []; np = false }))
