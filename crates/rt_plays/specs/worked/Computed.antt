-- A proof that computes with plays says `unfolding computed_plays`.
use Rattle.rt_model.specs.worked.Computed.{computed}
use Rattle.rt_plays.specs.Turns.{turns_begun, steps_since, has_none, had_none, is_over, is_between, has_left}
use Rattle.rt_plays.specs.NextSteps.{act_going_on, going_on, beginning, next_steps}
use Rattle.rt_plays.specs.BodyPlays.{has_ended, is_whole}
use Rattle.rt_plays.specs.Order.{history, acts_played, turn, round, rounds}

unfoldable computed_turns : Unit {0}
unfolding turns_begun steps_since has_none had_none is_over is_between has_left act_going_on going_on beginning next_steps has_ended
computed_turns = tt

unfoldable pub computed_plays : Unit {0}
unfolding computed computed_turns is_whole history acts_played turn round rounds
computed_plays = tt
