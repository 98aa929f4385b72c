use Rattle.std.proofs.Common.{refl}
use Rattle.group_engine.proofs.LinksKept.{marked-first}
use Rattle.group_engine.proofs.Stepping.{ended-first, sound-open}
use Rattle.group_engine.proofs.engine.Engine.open.Goals as goal

pub invariant_of-result : goal.invariant_of-result
invariant_of-result c =
    let p = c.in_ok-state.ensures.played in
    let kept = c.in_ok-state.ensures.at in
    rw c.new-2.ensures (record { sound = sound-open _ c.args.room _ p c.requires.room c.in_ok-state.ensures.room kept; taken_is = refl; ended_is = ended-first _; placed_are = marked-first _ _ })
