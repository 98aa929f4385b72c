use Rattle.std.proofs.Common.{◌-◌, List, ℕ, get_or, ap, refl, sym, ◌∙◌, subst, rules}
use Rattle.std.specs.Prelude.{Option}
use Rattle.rt_task.specs.declared.Act.TheVariants as acts
use Rattle.rt_task.specs.declared.Step.{Step}
use Rattle.body_play.specs.Turns.{numbers_of}
use Rattle.trace_course.specs.Next.{AreFollowing}
use Rattle.trace_course.specs.Followed.{position_in}
use Rattle.trace_course.proofs.Distances.{behind, following-first, following-next, next-first, next-set, next-without, position-there}
use Rattle.trace_course.proofs.following.following_of.Goals as goal

abbrev a_step : Step
a_step = record { cpu = record { 0 = 0 }; tick = record { 0 = 0 }; act = acts.Tick }

-- the number of the processor whose step is before that position
abbrev own : List Step → ℕ → ℕ
own steps position = (get_or steps (position - 1) a_step).cpu.0

pub loop-position-init : goal.loop-position-init
loop-position-init c = record {
  following_are = subst (AreFollowing c.args.steps.now) (sym (c.in_ok-following.ensures.items_if_clones_equal (search rules))) (following-first c.args.steps.now);
  next_are = next-first c.args.steps.now (numbers_of c.args.cpus.now) c.in_ok-next.next.items c.in_ok-next.ensures;
}

pub distance-requires : goal.distance-requires
distance-requires c =
    let steps = c.args.steps.now in
    let position = c.loop-position.position in
    let q = own steps position in
    let there = ap (λ (ps : List (Option ℕ)). position_in ps q) (sym c.as_slice.ensures.value) ∙ sym c.position_of.ensures ∙ c.in-Some.is in
    behind steps position q a_step c.loop-position.next.items c.loop-position-test.true c.loop-position.auto.position refl c.loop-position.invariant.next_are c.in-Some.to there

pub loop-position-preserved-in-Some : goal.loop-position-preserved-in-Some
loop-position-preserved-in-Some c =
    let steps = c.args.steps.now in
    let position = c.loop-position.position in
    let next = c.loop-position.next.items in
    let q = own steps position in
    let there = ap (λ (ps : List (Option ℕ)). position_in ps q) (sym c.as_slice.ensures.value) ∙ sym c.position_of.ensures ∙ c.in-Some.is in
    let are = c.loop-position.invariant in
    record {
      following_are =
          following-next steps position q a_step next c.loop-position-test.true c.loop-position.auto.position refl are.next_are c.loop-position.following.items c.in-Some.to c.distance.result are.following_are there
          c.distance.ensures;
      next_are = next-set steps position q a_step next c.loop-position-test.true c.loop-position.auto.position refl are.next_are (position-there next q c.in-Some.to there);
    }

pub loop-position-preserved : goal.loop-position-preserved
loop-position-preserved c =
    let steps = c.args.steps.now in
    let position = c.loop-position.position in
    let q = own steps position in
    let none = ap (λ (ps : List (Option ℕ)). position_in ps q) (sym c.as_slice.ensures.value) ∙ sym c.position_of.ensures ∙ c.in_default.is in
    let are = c.loop-position.invariant in
    record {
      following_are = are.following_are;
      next_are = next-without steps position q a_step c.loop-position.next.items c.loop-position-test.true c.loop-position.auto.position refl are.next_are none;
    }
