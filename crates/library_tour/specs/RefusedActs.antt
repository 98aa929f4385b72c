-- The rules of the tour's own tool: its one number rises at each refused act.
use Rattle.std.specs.Prelude.{ℕ, not, List}
use Rattle.rt_model.specs.Past.{accepted}
use Rattle.trace_tools.specs.Rules.{each_number, never, raise_first}
use Rattle.trace_tools.specs.Tools.{Rules}

abbrev pub refused_rules : Rules
refused_rules = record { next = λ state e. raise_first (not (accepted e.entry.reply)) state; total = each_number; ended = never; name = 82 }
