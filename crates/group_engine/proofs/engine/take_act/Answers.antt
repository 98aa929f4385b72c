use Rattle.group_engine.proofs.Stepping.{at_tick, can_act, ended-is, has_room, reply-is, sound-step}
use Rattle.group_engine.proofs.engine.take_act.Goals as goal

pub act-answer-requires-clause-at : goal.act-answer-requires-clause-at
act-answer-requires-clause-at c = (at_tick _ _ _ _ _ c.requires.1, can_act _ _ _ _ _ c.requires.1)

pub act-answer-requires-clause-room : goal.act-answer-requires-clause-room
act-answer-requires-clause-room c = has_room _ _ _ _ _ c.requires.1

pub returns-clause-reply : goal.returns-clause-reply
returns-clause-reply c = λ at m. reply-is _ _ _ _ _ m c.act-answer.result c.act-answer.new.self (c.act-answer.ensures.acted (at_tick _ _ _ _ _ m) (can_act _ _ _ _ _ m))

pub returns-clause-sound : goal.returns-clause-sound
returns-clause-sound c = λ at m.
    rw c.with.ensures
    (sound-step _ _ _ _ _ m c.act-answer.result c.act-answer.new.self c.act-answer.ensures.room (c.act-answer.ensures.acted (at_tick _ _ _ _ _ m) (can_act _ _ _ _ _ m)))

pub returns-clause-ended : goal.returns-clause-ended
returns-clause-ended c = λ at m.
    rw c.with.ensures
    (ended-is _ _ _ _ _ m c.act-answer.result c.act-answer.new.self (c.act-answer.ensures.acted (at_tick _ _ _ _ _ m) (can_act _ _ _ _ _ m)))
