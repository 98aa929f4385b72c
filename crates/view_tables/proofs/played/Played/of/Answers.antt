use Rattle.std.proofs.Common.{[], subst}
use Rattle.rt_model.specs.Group.{Group}
use Rattle.rt_model.specs.Histories.{past_from, past_of}
use Rattle.view_tables.specs.inside.Playing.{IsPlayed}
use Rattle.view_tables.proofs.played.Played.of.Goals as goal

pub returns-clause-played : goal.returns-clause-played
unfolding past_of
returns-clause-played c =
    subst (λ (g : Group). IsPlayed (past_from g [] c.args.entries.now) c.take.new.self) c.in_ok-played.ensures.group (c.in_ok-take.ensures.played [] c.in_ok-played.ensures.opened)
