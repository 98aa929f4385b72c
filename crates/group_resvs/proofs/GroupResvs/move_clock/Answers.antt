use Rattle.std.proofs.Common.{ap, sym, arith}
use Rattle.resv_core.specs.Served.{Served}
use Rattle.resv_core.proofs.SettledLaws.{all-standing}
use Rattle.group_resvs.specs.GroupResvs.{GroupResvs}
use Rattle.group_resvs.proofs.GroupResvs.move_clock.Goals as goal

pub returns-else-clock-tick : goal.returns-else-clock-tick
returns-else-clock-tick c =
    let clock = ap (λ (a : GroupResvs). a.resvs.clock) c.self.view_is in
    sym (ap (λ (v : Served). record c.args.self.now { resvs = v }) (all-standing c.args.self.now.resvs c.args.tick.0 (omega (arith, c.requires, c.clock.ensures, clock))))
