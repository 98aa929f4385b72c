use Rattle.std.proofs.Common.{◌∙◌, ◌<◌, length, ap, arith}
use Rattle.std.proofs.lemmas.Result.{on_ok_weaker}
use Rattle.rt_rules.specs.Numbers.{is}
use Rattle.view_acts.specs.ShownActs.{act_shown}
use Rattle.chart_feed.specs.Clocks.{arrived, clocks_at, ended}
use Rattle.chart_feed.proofs.Noted.{noted}
use Rattle.chart_feed.proofs.clocks.note_act.Goals as goal

pub returns : goal.returns
returns c =
    on_ok_weaker c.end.result (λ made past keeps clock_is t low.
    let d = act_shown c.args.act.now in
    let second : t < length c.arrive.new.tasks = omega (arith, low, c.end.auto.tasks) in
    let first : t < length c.args.tasks.now = omega (arith, second, c.arrive.auto.tasks) in
    let k = clocks_at c.args.tasks.now t in
    made t second ∙ ap (ended (is t d.ended) c.args.clock) (c.in_ok-arrive.ensures t first)
    ∙ (λ i. ended (is t d.ended) (clock_is i) (arrived (is t (c.arrived.ensures i)) (clock_is i) k))
    ∙ noted t d past k (keeps t first)) c.end.ensures
