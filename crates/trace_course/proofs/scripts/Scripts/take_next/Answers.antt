use Rattle.std.proofs.Common.{◌≡◌, ◌<◌, Global, List, Vec, length, ℕ, ap, sym, subst, ◌∙◌, get_or, Some, ◌+◌, None, set, eqb-true}
use Rattle.std.proofs.lemmas.List.{get_or_default}
use Rattle.std.specs.Prelude.{MatchOption, Option, take}
use Rattle.rt_base.specs.declared.CpuNo.{CpuNo}
use Rattle.rt_task.specs.declared.Step.{Step}
use Rattle.rt_plays.specs.Drives.{steps_given}
use Rattle.rt_plays.specs.Scripts.{script}
use Rattle.trace_course.specs.Next.{AreFollowing, IsFollowing, IsNextAt}
use Rattle.trace_course.specs.Followed.{ArePositions, entry_by, longer, position_in}
use Rattle.trace_course.proofs.Positions.{at_position, found, found-is, none-found, position-inside, position-within, positions-next}
use Rattle.trace_course.proofs.scripts.Scripts.take_next.Goals as goal

same-step : (a b : Step) → Some a ≡ Some b → a ≡ b
same-step a b h = cc

-- where a next step was found, and where none was
next-at : (steps : List Step) (from q j : ℕ) (o : Option ℕ) → o ≡ Some j → MatchOption o (script steps q ≡ script (take from steps) q) (λ i. IsNextAt steps from q i) → IsNextAt steps from q j
next-at steps from q j o is h = subst (λ (x : Option ℕ). MatchOption x (script steps q ≡ script (take from steps) q) (λ i. IsNextAt steps from q i)) is h

none-at : (steps : List Step) (from q : ℕ) (o : Option ℕ) → o ≡ None → MatchOption o (script steps q ≡ script (take from steps) q) (λ i. IsNextAt steps from q i) → script steps q ≡ script (take from steps) q
none-at steps from q o is h = subst (λ (x : Option ℕ). MatchOption x (script steps q ≡ script (take from steps) q) (λ i. IsNextAt steps from q i)) is h

pub next_of-requires : goal.next_of-requires
next_of-requires c = position-within c.requires.0 c.args.steps.now c.args.self.now c.requires.1 c.args.cpu.0 c.in_ok-from.from (sym c.position.ensures ∙ c.in_ok-from.was)

pub distance-requires : goal.distance-requires
distance-requires c =
    let ps = c.requires.1 in
    let there = (next-at c.args.steps.now c.in_ok-from.from c.args.cpu.0 c.in_ok-j.j _ c.in_ok-j.was c.next_of.ensures).there in
    subst (λ n. c.in_ok-j.j < n) (ap length ps.steps_are ∙ sym ps.following_are.count) there

pub pass-requires : goal.pass-requires
pass-requires c =
    let at = c.requires.0 in
    let ps = c.requires.1 in
    position-inside at.group at.entries c.args.self.now.positions.items c.args.cpu.0 ps.positions_are
    (at_position at c.args.steps.now c.args.self.now ps c.args.cpu.0 c.in_ok-from.from (sym c.position.ensures ∙ c.in_ok-from.was)).0

pub returns-in_err-j-clause-next : goal.returns-in_err-j-clause-next
returns-in_err-j-clause-next c = λ at step ps next own.
    absurd (none-found at c.args.steps.now c.args.self.now ps step c.in_ok-from.from
    (ap (λ (q : CpuNo). position_in c.args.self.now.positions.items q.0) own ∙ sym c.position.ensures ∙ c.in_ok-from.was)
    (subst (λ (q : CpuNo). script c.args.steps.now q.0 ≡ script (take c.in_ok-from.from c.args.steps.now) q.0) (sym own)
    (none-at c.args.steps.now c.in_ok-from.from c.args.cpu.0 _ c.in_err-j.was c.next_of.ensures)) next)

pub returns-clause-taken : goal.returns-clause-taken
returns-clause-taken c = λ at step ps is.
    let steps = c.args.steps.now in
    let j = c.in_ok-j.j in
    let here = sym c.position.ensures ∙ c.in_ok-from.was in
    let next = next-at steps c.in_ok-from.from c.args.cpu.0 j _ c.in_ok-j.was c.next_of.ensures in
    let same : get_or steps j step ≡ step = get_or_default steps j step _ next.there ∙ same-step _ step is in
    let own : step.cpu.0 ≡ c.args.cpu.0 = ap (λ (x : Step). x.cpu.0) (sym same) ∙ eqb-true _ _ (next.of_cpu step) in
    let np = found at steps c.args.self.now ps step c.in_ok-from.from j (ap (position_in c.args.self.now.positions.items) own ∙ here)
    (subst (λ q. IsNextAt steps c.in_ok-from.from q j) (sym own) next) same in
    let far = subst (IsFollowing (steps_given at.group.setup.drive) j) (sym c.distance.ensures) (ps.following_are.each j np.there) in
    record {
      next = np.next;
      positions_are =
          subst (ArePositions at.group (longer at step)) (ap (λ q. set c.args.self.now.positions.items q (Some (j + c.distance.result))) own ∙ sym c.pass.ensures.positions)
          (positions-next at.group at.entries (entry_by at.group at.entries step) j c.distance.result c.args.self.now.positions.items ps.positions_are np far);
      following_are = subst (λ (following : Vec ℕ Global). AreFollowing (steps_given at.group.setup.drive) following.items) (sym c.pass.ensures.following) ps.following_are;
    }

pub returns-clause-next : goal.returns-clause-next
returns-clause-next c = λ at step ps next own.
    let at_it = next-at c.args.steps.now c.in_ok-from.from c.args.cpu.0 c.in_ok-j.j _ c.in_ok-j.was c.next_of.ensures in
    let same = found-is at c.args.steps.now c.args.self.now ps step c.in_ok-from.from c.in_ok-j.j
    (ap (λ (q : CpuNo). position_in c.args.self.now.positions.items q.0) own ∙ sym c.position.ensures ∙ c.in_ok-from.was)
    (subst (λ (q : CpuNo). IsNextAt c.args.steps.now c.in_ok-from.from q.0 c.in_ok-j.j) (sym own) at_it) next in
    ap Some (get_or_default c.args.steps.now c.in_ok-j.j _ step at_it.there ∙ same)

cpu-same : (a b : CpuNo) → a.0 ≡ b.0 → a ≡ b
cpu-same a b h = λ i. record { 0 = h i }

pub returns-clause-own : goal.returns-clause-own
returns-clause-own c = λ step is.
    let steps = c.args.steps.now in
    let next = next-at steps c.in_ok-from.from c.args.cpu.0 c.in_ok-j.j _ c.in_ok-j.was c.next_of.ensures in
    let same : get_or steps c.in_ok-j.j step ≡ step = get_or_default steps c.in_ok-j.j step _ next.there ∙ same-step _ step is in
    cpu-same step.cpu c.args.cpu (ap (λ (x : Step). x.cpu.0) (sym same) ∙ eqb-true _ _ (next.of_cpu step))
