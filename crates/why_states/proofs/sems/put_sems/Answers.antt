use Rattle.std.proofs.Common.{◌≡◌, ◌∙◌, ◌++◌, ap, arith}
use Rattle.std.specs.Prelude.{flat_map}
use Rattle.why_texts.specs.SemLines.{declared_sems}
use Rattle.why_texts.specs.SemLines.{sem_line}
use Rattle.rt_base.specs.declared.SemNo.{SemNo}
use Rattle.why_states.proofs.Rows.{at-among, line-all, line-next}
use Rattle.why_states.specs.States.{IsAt, group_of}
use Rattle.why_states.proofs.sems.put_sems.Goals as goal

pub put_sem-requires-clause-sem : goal.put_sem-requires-clause-sem
put_sem-requires-clause-sem c = at-among (λ (x : SemNo). x.0) c.args.state.now.sems.now c.loop-sem.sem-index (record { 0 = 0 }) (declared_sems (group_of c.args.state.now)) c.loop-sem-test.true c.requires.1.sems_are

pub loop-sem-preserved : goal.loop-sem-preserved
loop-sem-preserved c = λ past is.
    line-next (λ n. sem_line (group_of c.args.state.now) n past) (λ (x : SemNo). x.0) c.args.state.now.sems.now c.loop-sem.sem-index (record { 0 = 0 }) _ c.loop-sem.out.items c.put_sem.new.out.items c.loop-sem-test.true (c.loop-sem.invariant past is) (c.in_ok-put_sem.ensures past is)

pub returns : goal.returns
returns c = λ past is.
    line-all (λ n. sem_line (group_of c.args.state.now) n past) (λ (x : SemNo). x.0) c.args.state.now.sems.now c.loop-sem.sem-index _ c.loop-sem.out.items (omega (arith, c.loop-sem-test.false)) (c.loop-sem.invariant past is)
    ∙ ap (λ ns. c.args.out.now.items ++ flat_map (λ n. sem_line (group_of c.args.state.now) n past) ns) is.sems_are
