use Rattle.std.proofs.Common.{ap, sym, subst}
use Rattle.rt_base.specs.TaskNos.{numbers}
use Rattle.group_core.specs.Facts as core
use Rattle.rank_afresh.specs.Facts.{CanRenew, Facts, WithRoom}
use Rattle.rank_afresh.proofs.Moving.{end-clocked}
use Rattle.rank_afresh.proofs.facts.Facts.move_clock.Goals as goal

pub end-requires-clause-can : goal.end-requires-clause-can
end-requires-clause-can c =
    let x : core.Facts = c.self.inside.core.facts in
    let f : Facts = record {
      kept = x.kept;
      sems = x.sems;
      resvs = x.resvs;
      clusters = c.self.inside.clusters.items;
      moments = c.self.inside.moments;
      looked = numbers c.self.inside.looked.items;
    } in
    let can : CanRenew c.args.parts.now f = subst (λ (w : WithRoom). CanRenew c.args.parts.now w.facts) (sym c.self.view_is) c.requires.renew in
    end-clocked c.args.parts.now c.args.tick.0 c.clock-clock.result f c.move_clock.new.self.facts c.take_due.new.self (numbers c.take_due.new.due.items) can c.requires.tick
    (ap (λ (w : core.WithRoom). w.facts) c.move_clock.ensures) c.take_due.ensures.taken_out.count_same c.take_due.ensures.due
