use Rattle.std.proofs.Common.{◌≡◌, ◌+◌, ◌<◌, ◌++◌, ◌∷◌, [], ℕ, Bool, true, false, not, List, length, take, get_or, sym, ap, ◌∙◌, subst, refl}
use Rattle.std.specs.Prelude.{is_none, is_some, Option, None, Some}
use Rattle.std.proofs.lemmas.List.{map-append, take_more}
use Rattle.rt_base.specs.declared.CpuNo.{CpuNo}
use Rattle.rt_task.specs.declared.Act.{Act}
use Rattle.rt_model.specs.Histories.{after}
use Rattle.rt_plays.specs.Turns.{has_none}
use Rattle.rank_afresh.specs.Standing.{group_of}
use Rattle.body_play.specs.Turns.{AreLooked, numbers_of}
use Rattle.trace_course.proofs.turns.look_at.Goals as goal
use Rattle.trace_course.proofs.turns.look_at.Goals.{then-awaits_look, else-awaits_look}

none-of : (o : Option Act) (b : Bool) → is_some o ≡ not b → b ≡ is_none o
none-of None true h = refl
none-of None false h = cc
none-of (Some act) true h = cc
none-of (Some act) false h = refl

-- one more processor was looked at
more-looked : (cpus : List CpuNo) (i : ℕ) (d : CpuNo) → i < length cpus → numbers_of (take (i + 1) cpus) ≡ numbers_of (take i cpus) ++ (get_or cpus i d).0 ∷ []
more-looked cpus i d low = ap numbers_of (take_more cpus i d low) ∙ map-append (λ (q : CpuNo). q.0) (take i cpus) (get_or cpus i d ∷ [])

pub loop-cpu-preserved : goal.loop-cpu-preserved
unfolding has_none
loop-cpu-preserved c = λ past step at looked.
    let g = group_of c.args.afresh.now in
    let d : CpuNo = record { 0 = 0 } in
    let i = c.loop-cpu.cpu-index in
    let cpu : CpuNo = get_or c.args.cpus.now i d in
    let qs = numbers_of (take i c.args.cpus.now) in
    let before : AreLooked g past step qs c.loop-cpu.turns = c.loop-cpu.invariant past step at looked in
    let one : AreLooked g past step (qs ++ cpu.0 ∷ []) c.if-awaits_look.turns =
    elim c.if-awaits_look.branch [
      | then-awaits_look w ↦ subst (AreLooked g past step (qs ++ cpu.0 ∷ [])) (sym w.turns-is) (w.look.ensures g past step qs before
          (none-of w.next_of.result w.is_none-is_none.result w.is_none-is_none.ensures ∙ ap {A = Option Act} (λ o. is_none o) (w.next_of.ensures (after g step past) at)))
      | else-awaits_look w ↦ subst (AreLooked g past step (qs ++ cpu.0 ∷ [])) (sym w.turns-is) (c.awaits_look.ensures g past step qs before w.if-awaits_look.false)
    ] in
    subst (λ (ns : List ℕ). AreLooked g past step ns c.if-awaits_look.turns) (sym (more-looked c.args.cpus.now i d c.loop-cpu-test.true)) one
