use Rattle.std.proofs.Common.{◌≡◌, ◌∙◌, ◌++◌, ap, arith}
use Rattle.std.specs.Prelude.{flat_map}
use Rattle.chart_texts.specs.Charts.{group_resvs}
use Rattle.why_texts.specs.ResvLines.{resv_line}
use Rattle.rt_base.specs.declared.ResvNo.{ResvNo}
use Rattle.why_states.proofs.Rows.{at-among, line-all, line-next}
use Rattle.why_states.specs.States.{IsAt, group_of}
use Rattle.why_states.proofs.resvs.put_resvs.Goals as goal

pub put_resv-requires-clause-resv : goal.put_resv-requires-clause-resv
put_resv-requires-clause-resv c = at-among (λ (x : ResvNo). x.0) c.args.state.now.resvs.now c.loop-resv.resv-index (record { 0 = 0 }) (group_resvs (group_of c.args.state.now)) c.loop-resv-test.true c.requires.1.resvs_are

pub loop-resv-preserved : goal.loop-resv-preserved
loop-resv-preserved c = λ past is.
    line-next (λ n. resv_line (group_of c.args.state.now) n past) (λ (x : ResvNo). x.0) c.args.state.now.resvs.now c.loop-resv.resv-index (record { 0 = 0 }) _ c.loop-resv.out.items c.put_resv.new.out.items c.loop-resv-test.true (c.loop-resv.invariant past is) (c.in_ok-put_resv.ensures past is)

pub returns : goal.returns
returns c = λ past is.
    line-all (λ n. resv_line (group_of c.args.state.now) n past) (λ (x : ResvNo). x.0) c.args.state.now.resvs.now c.loop-resv.resv-index _ c.loop-resv.out.items (omega (arith, c.loop-resv-test.false)) (c.loop-resv.invariant past is)
    ∙ ap (λ ns. c.args.out.now.items ++ flat_map (λ n. resv_line (group_of c.args.state.now) n past) ns) is.resvs_are
