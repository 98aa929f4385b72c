-- A rule as the definitions have it.
use Rattle.std.specs.Prelude.{Option, option_map}
use Rattle.set_explain.specs.Causes as causes
use Rattle.set_explain.specs.Rules as rules
use Rattle.set_explain.specs.declared.cause.Cause.{Cause}
use Rattle.set_explain.specs.declared.cause.Cause.TheVariants.{Broken, NotJson, Unnamed}
use Rattle.set_explain.specs.declared.rule.Rule.{Rule}

abbrev pub rule_shown : Rule → rules.Rule
rule_shown r = record { member = r.member.now; says = r.says.now }

abbrev pub cause_shown : Cause → causes.Cause
cause_shown (Broken r) = causes.broken (rule_shown r)
cause_shown (NotJson line column) = causes.not_json line column
cause_shown Unnamed = causes.unnamed

abbrev pub shown : Option Rule → Option rules.Rule
shown o = option_map rule_shown o
