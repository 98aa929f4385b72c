use Rattle.std.proofs.Common.{◌≡◌, ℕ, true, map, take}
use Rattle.rt_base.specs.declared.SemNo.{SemNo}
use Rattle.set_rules.specs.inside.NamesSeen.{has_number}
use Rattle.rt_task.specs.RuleWords.{has, no_repeat}
use Rattle.set_rules.proofs.rules.name.are_without_repeat.Given as goal

-- no number so far came twice
abbrev pub invariant-loop-s : goal.invariant-loop-s
invariant-loop-s l = record {
  so_far : no_repeat (map (λ (s : SemNo). s.0) (take l.s-index l.uses)) ≡ true;
  numbers : (n : ℕ) → has_number l.numbers n ≡ has n (map (λ (s : SemNo). s.0) (take l.s-index l.uses));
}
