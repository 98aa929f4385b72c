use Rattle.std.proofs.Common.{refl}
use Rattle.set_plays.specs.TurnsLeft.{TurnsAhead, cpu_numbers}
use Rattle.set_plays.proofs.CursorLaws.{turns_left-first}
use Rattle.set_plays.proofs.turns_left.TurnsLeft.new.Goals as goal

pub returns-clause-all : goal.returns-clause-all
returns-clause-all c g was cpus =
    let all : TurnsAhead = record { horizon = c.args.horizon; cpus = cpu_numbers c.args.cpus.items; tick = 0; position = 0; done = 0 } in
    turns_left-first g all was refl refl refl cpus
