use Rattle.svg_texts.proofs.Lanes.{lanes_tell_apart_lem}
use Rattle.svg_texts.proofs.lanes_tell_apart.Goals as goal

pub returns : goal.returns
returns c = lanes_tell_apart_lem
