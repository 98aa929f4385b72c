use Rattle.std.proofs.Common.{◌≡◌, drop, map}
use Rattle.set_explain.specs.Rules.{first_some}
use Rattle.set_explain.specs.Shown.{shown}
use Rattle.set_explain.proofs.rule.first.Given as goal

abbrev pub invariant-loop-rule : goal.invariant-loop-rule
invariant-loop-rule l = first_some (map shown (drop l.rule-index l.broken)) ≡ first_some (map shown l.broken)
