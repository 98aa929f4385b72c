use Rattle.view_command.proofs.Numbers.{number-said}
use Rattle.view_command.proofs.words.number_in.Goals as goal

pub returns : goal.returns
returns c = number-said c.args.word.now c.decimal_in.result c.decimal_in.ensures
