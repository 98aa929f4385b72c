use Rattle.std.proofs.Common.{◌∙◌, ap}
use Rattle.why_lines.specs.GroupSets.{group_in}
use Rattle.why_states.specs.inside.Keys.{highest_of}
use Rattle.why_states.proofs.Facts.{ceiling-by-priority}
use Rattle.why_states.proofs.ceilings.ceiling_of.Goals as goal

pub returns : goal.returns
returns c = λ plugin. c.highest_key.ensures ∙ ap (highest_of (group_in c.args.set.now) c.args.sem.0) c.requires ∙ ceiling-by-priority (group_in c.args.set.now) c.args.sem.0 plugin
