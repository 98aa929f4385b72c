use Rattle.group_engine.proofs.ActMoves.{can-list}
use Rattle.group_engine.proofs.state.GroupState.list_waiting.Goals as goal

pub list_waiting-requires : goal.list_waiting-requires
list_waiting-requires c = (c.requires.at.0, can-list c.requires.at.0 c.args.cpu.0 c.args.act c.args.parts.now c.args.self.now c.args.list.now.room c.requires.at.1 c.requires.room)

pub returns-clause-waiting : goal.returns-clause-waiting
returns-clause-waiting c = λ at can.
    c.list_waiting.ensures.waiting at (can-list at c.args.cpu.0 c.args.act c.args.parts.now c.args.self.now c.args.list.now.room can c.requires.room)
