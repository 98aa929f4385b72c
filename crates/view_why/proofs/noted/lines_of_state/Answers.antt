use Rattle.std.proofs.Common.{◌∙◌, ◌++◌, ap}
use Rattle.why_texts.specs.StateText.{state_text}
use Rattle.why_states.specs.States as states
use Rattle.view_why.proofs.noted.lines_of_state.Goals as goal

pub returns : goal.returns
returns c = λ past is. c.in_ok-put_state.ensures past is ∙ ap (λ ys. ys ++ state_text (states.group_of c.args.state.now) past) c.new-lines.ensures.items
