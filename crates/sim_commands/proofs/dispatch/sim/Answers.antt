use Rattle.std.proofs.Common.{map, subst}
use Rattle.set_input.specs.Ends.{writing}
use Rattle.sim_commands.specs.LoadAnswers.{LoadAnswers}
use Rattle.sim_commands.proofs.LoadLaws.{one_number}
use Rattle.sim_commands.proofs.dispatch.sim.Goals as goal

pub returns-in-Some-clause-load : goal.returns-in-Some-clause-load
returns-in-Some-clause-load g c m is =
    subst (λ k. LoadAnswers (map g.T.TraceTool.tool c.args.tools.items) k (writing g.K.Sink.held g.K.Sink.faults c.args.out.now c.load.new.out) c.load.result)
    (one_number c.args.words.now c.in-Some.n m c.in-Some.ensures is) c.load.ensures.answers
