use Rattle.std.proofs.Common.{◌∙◌}
use Rattle.group_engine.proofs.state.GroupState.home.Goals as goal

pub home-requires : goal.home-requires
home-requires c = c.requires.1.homes_are.there c.args.cpu.0 c.requires.2

pub returns : goal.returns
returns c = λ at kept inside. c.home.ensures ∙ kept.homes_are.are c.args.cpu.0 inside
