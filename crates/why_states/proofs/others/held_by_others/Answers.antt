use Rattle.std.proofs.Common.{◌≡◌, ◌∙◌, ◌++◌, ◌&&◌, ℕ, sym, ap, arith}
use Rattle.std.specs.Prelude.{filter}
use Rattle.rt_model.specs.Ceilings.{is_pcp}
use Rattle.rt_model.specs.Group.{protocol}
use Rattle.rt_model.specs.Holders.{holder}
use Rattle.why_texts.specs.Standings.{is_other}
use Rattle.why_texts.specs.SemLines.{declared_sems}
use Rattle.why_texts.specs.Standings.{held_by_others}
use Rattle.why_states.proofs.Facts.{declared-sem}
use Rattle.rt_base.specs.declared.SemNo.{SemNo}
use Rattle.why_states.proofs.Rows.{at-among, kept-all, kept-next, left-next}
use Rattle.why_states.specs.States.{IsAt, group_of}
use Rattle.why_states.proofs.others.held_by_others.Goals.{then-is_held_by_other+in_ok-push, else-is_held_by_other}
use Rattle.why_states.proofs.others.held_by_others.Goals as goal

pub is_held_by_other-requires-clause-sem : goal.is_held_by_other-requires-clause-sem
is_held_by_other-requires-clause-sem c = declared-sem (group_of c.args.state.now) _ (at-among (λ (x : SemNo). x.0) c.args.state.now.sems.now c.loop-sem.sem-index (record { 0 = 0 }) (declared_sems (group_of c.args.state.now)) c.loop-sem-test.true c.requires.1.sems_are)

pub loop-sem-preserved : goal.loop-sem-preserved
loop-sem-preserved c = λ past at.
    let xs = c.args.state.now.sems.now in
    let i = c.loop-sem.sem-index in
    let test = λ (n : ℕ). is_pcp (protocol (group_of c.args.state.now) n) && is_other (group_of c.args.state.now) c.args.task.0 (holder (group_of c.args.state.now) n past) in
    let told = c.is_held_by_other.ensures past at in
    elim c.if-is_held_by_other.branch [
      | then-is_held_by_other+in_ok-push w ↦ kept-next (λ (x : SemNo). x.0) test xs i (record { 0 = 0 }) _ c.loop-sem.held.items c.if-is_held_by_other.held.items c.loop-sem-test.true (sym told ∙ w.if-is_held_by_other.true) (ap (λ v. v.items) w.held-is ∙ w.in_ok-push.ensures.items) (c.loop-sem.invariant past at)
      | else-is_held_by_other w ↦ left-next (λ (x : SemNo). x.0) test xs i (record { 0 = 0 }) _ c.loop-sem.held.items c.if-is_held_by_other.held.items c.loop-sem-test.true (sym told ∙ w.if-is_held_by_other.false) (ap (λ v. v.items) w.held-is) (c.loop-sem.invariant past at)
    ]

pub returns : goal.returns
unfolding held_by_others
returns c = λ past at.
    let test = λ (n : ℕ). is_pcp (protocol (group_of c.args.state.now) n) && is_other (group_of c.args.state.now) c.args.task.0 (holder (group_of c.args.state.now) n past) in
    kept-all (λ (x : SemNo). x.0) test c.args.state.now.sems.now c.loop-sem.sem-index _ c.loop-sem.held.items (omega (arith, c.loop-sem-test.false)) (c.loop-sem.invariant past at)
    ∙ ap (λ ns. filter test ns) at.sems_are
