use Rattle.std.proofs.Common.{◌≡◌, map, drop}
use Rattle.std.specs.List.{list_all}
use Rattle.rt_base.specs.declared.SemNo.{SemNo}
use Rattle.rt_task.specs.RuleWords as words
use Rattle.set_rules.proofs.rules.name.uses_are_known.Given as goal

abbrev pub invariant-loop-s : goal.invariant-loop-s
invariant-loop-s l = list_all (words.is_known l.d.sems) (map (λ (s : SemNo). s.0) (drop l.s-index l.uses)) ≡ list_all (words.is_known l.d.sems) (map (λ (s : SemNo). s.0) l.uses)
