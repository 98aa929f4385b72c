-- What is left of the turns: its first step and what is left then, and what is left where a turn is over.
use Rattle.std.proofs.Common.{◌≡◌, ℕ, zero, suc, ◌+◌, ◌-◌, ◌<◌, ◌≤◌, Bool, true, false, if◌then◌else◌, refl, sym, ap, ◌∙◌, subst, arith}
use Rattle.std.proofs.Common.{List, [], ◌∷◌, ◌++◌, drop, drop-cons, length, add-one}
use Rattle.std.proofs.lemmas.List.{drop_all}
use Rattle.std.proofs.lemmas.Bool.{eqb-true}
use Rattle.std.specs.Prelude.{Option, None, Some, IfSome, MatchOption, ◌==◌, slice_index}
use Rattle.rt_task.specs.declared.Act.{Act}
use Rattle.rt_task.specs.declared.Act.TheVariants as acts
use Rattle.rt_task.specs.declared.Step.{Step}
use Rattle.rt_task.specs.Validity.{IsValid}
use Rattle.rt_rules.specs.declared.history.Situation.{Situation}
use Rattle.rt_rules.specs.Numbers.{has}
use Rattle.rt_rules.proofs.BoolLaws.{or_true}
use Rattle.rt_rules.proofs.MemberLaws.{equal_self}
use Rattle.rt_model.specs.Group.{Group, group_processors}
use Rattle.rt_model.specs.Histories.{after, past_by}
use Rattle.rt_model.specs.Past.{Past}
use Rattle.rt_model.specs.Situations.{situation, next_act}
use Rattle.rt_model.specs.Steps.{IsActOf, IsStepOf}
use Rattle.rt_plays.specs.Homes.{IsProcessorOf}
use Rattle.rt_plays.specs.NextSteps.{step_at}
use Rattle.rt_plays.specs.Order.{acts_played, round, rounds}
use Rattle.body_play.proofs.ValidBodies.{next-fits}
use Rattle.set_plays.specs.TurnsLeft.{turn_left, round_left, rounds_left, turns_left, with_step, next_in_round, next_round, next_turn}
use Rattle.set_plays.specs.TurnsLeft.{TurnsAhead, cpu_of, AreTurnsOf, GoesOnBy, IsTurnOver}
use Rattle.set_plays.proofs.TurnLaws.{acts-none, acts-some, acts-zero, turn-lem}

-- ---- the turn under way

pub begins-tick : (g : Group) (c : TurnsAhead) (was : Past) → c.done ≡ 0 → GoesOnBy g c was acts.Tick
unfolding turn_left
begins-tick g c was none = rw none (turn-lem g (cpu_of c) c.tick was)

pub goes-on-irq : (g : Group) (c : TurnsAhead) (was : Past) → c.done ≡ 1 → GoesOnBy g c was acts.Irq
unfolding turn_left
goes-on-irq g c was one = rw one refl

-- where the Tick and the Irq were handed out, the acts are left
acts-left : (g : Group) (q t done : ℕ) (was : Past) → 2 ≤ done → turn_left g q t done was ≡ acts_played g (18 - done) q t was
unfolding turn_left
acts-left g q t zero was two = absurd (omega arith)
acts-left g q t (suc zero) was two = absurd (omega arith)
acts-left g q t (suc (suc n)) was two =
    let left : 16 - n ≡ 18 - suc (suc n) = omega arith in
    ap (λ k. acts_played g k q t was) left

pub goes-on-act : (g : Group) (c : TurnsAhead) (was : Past) (act : Act) → 2 ≤ c.done → c.done < 18
    → next_act g (situation g (cpu_of c) was) ≡ Some act → GoesOnBy g c was act
goes-on-act g c was act two low next =
    let q : ℕ = cpu_of c in
    let one : 18 - c.done ≡ suc (18 - (c.done + 1)) = omega arith in
    let later : Past = after g (step_at q c.tick act) was in
    acts-left g q c.tick c.done was two
    ∙ ap (λ k. acts_played g k q c.tick was) one
    ∙ acts-some g q (18 - (c.done + 1)) c.tick was act next
    ∙ ap (λ (steps : List Step). step_at q c.tick act ∷ steps) (sym (acts-left g q c.tick (c.done + 1) later (omega arith)))

pub over-none : (g : Group) (c : TurnsAhead) (was : Past) → 2 ≤ c.done → next_act g (situation g (cpu_of c) was) ≡ None → IsTurnOver g c was
over-none g c was two none = acts-left g (cpu_of c) c.tick c.done was two ∙ acts-none g (cpu_of c) (18 - c.done) c.tick was none

pub over-full : (g : Group) (c : TurnsAhead) (was : Past) → 18 ≤ c.done → IsTurnOver g c was
over-full g c was full =
    let zero_left : 18 - c.done ≡ 0 = omega arith in
    acts-left g (cpu_of c) c.tick c.done was (omega arith)
    ∙ ap (λ k. acts_played g k (cpu_of c) c.tick was) zero_left
    ∙ acts-zero g (cpu_of c) c.tick was

-- ---- rounds

module _ (g : Group) where
  rounds_left-step : (q : ℕ) (qs : List ℕ) (n t done : ℕ) (was : Past) (act : Act)
      → turn_left g q t done was ≡ step_at q t act ∷ turn_left g q t (done + 1) (after g (step_at q t act) was)
      → rounds_left g (q ∷ qs) (suc n) t done was
      ≡ step_at q t act ∷ rounds_left g (q ∷ qs) (suc n) t (done + 1) (after g (step_at q t act) was)
  unfolding round_left rounds_left past_by
  rounds_left-step q qs n t done was act next =
      let in_round : List Step → List Step = λ steps. steps ++ round g qs t (past_by g was steps) in
      ap (λ (steps : List Step). in_round steps ++ rounds g n (suc t) (past_by g was (in_round steps))) next

  round_left-over : (q : ℕ) (qs : List ℕ) (t done : ℕ) (was : Past) → turn_left g q t done was ≡ []
      → round_left g (q ∷ qs) t done was ≡ round g qs t was
  unfolding round_left past_by
  round_left-over q qs t done was over = ap (λ (steps : List Step). steps ++ round g qs t (past_by g was steps)) over

  round_left-all : (qs : List ℕ) (t : ℕ) (was : Past) → round_left g qs t 0 was ≡ round g qs t was
  unfolding round_left turn_left round
  round_left-all [] t was = refl
  round_left-all (q ∷ qs) t was = refl

  rounds_left-over : (q : ℕ) (qs : List ℕ) (n t done : ℕ) (was : Past) → turn_left g q t done was ≡ []
      → rounds_left g (q ∷ qs) (suc n) t done was ≡ rounds_left g qs (suc n) t 0 was
  unfolding rounds_left
  rounds_left-over q qs n t done was over =
      ap (λ (steps : List Step). steps ++ rounds g n (suc t) (past_by g was steps))
      (round_left-over q qs t done was over ∙ sym (round_left-all qs t was))

  rounds_left-all : (n t : ℕ) (was : Past) → rounds_left g (group_processors g) n t 0 was ≡ rounds g n t was
  unfolding rounds_left rounds
  rounds_left-all zero t was = refl
  rounds_left-all (suc n) t was =
      ap (λ (steps : List Step). steps ++ rounds g n (suc t) (past_by g was steps)) (round_left-all (group_processors g) t was)

  -- a round that no processor plays any more is followed by the next
  rounds_left-none : (n t : ℕ) (was : Past) → rounds_left g [] (suc n) t 0 was ≡ rounds g n (suc t) was
  unfolding rounds_left round_left past_by
  rounds_left-none n t was = refl

-- ---- all turns

pub turns_left-first : (g : Group) (c : TurnsAhead) (was : Past) → c.tick ≡ 0 → c.position ≡ 0 → c.done ≡ 0 → c.cpus ≡ group_processors g
    → turns_left g c was ≡ rounds g c.horizon 0 was
unfolding turns_left
turns_left-first g c was tick position done cpus =
    let all : c.horizon - 0 ≡ c.horizon = omega arith in
    rw (position, tick, done, cpus, all) (rounds_left-all g c.horizon 0 was)

pub turns_left-none : (g : Group) (c : TurnsAhead) (was : Past) → c.horizon ≤ c.tick → turns_left g c was ≡ []
unfolding turns_left rounds_left
turns_left-none g c was over =
    let zero_left : c.horizon - c.tick ≡ 0 = omega arith in
    ap (λ n. rounds_left g (drop c.position c.cpus) n c.tick c.done was) zero_left

module _ (g : Group) (c : TurnsAhead) (was : Past) (before : c.tick < c.horizon) (there : c.position < length c.cpus) where
  behind : List ℕ
  behind = drop (c.position + 1) c.cpus

  rest : ℕ
  rest = c.horizon - (c.tick + 1)

  -- the processors that have not ended their turn begin with the one whose turn is under way
  turns_left-now : (done : ℕ) (later : Past)
      → turns_left g (record c { done = done }) later ≡ rounds_left g (cpu_of c ∷ behind) (suc rest) c.tick done later
  unfolding turns_left behind rest
  turns_left-now done later =
      let here : drop c.position c.cpus ≡ cpu_of c ∷ drop (c.position + 1) c.cpus = rw add-one (drop-cons c.cpus c.position 0 there) in
      let one : c.horizon - c.tick ≡ suc (c.horizon - (c.tick + 1)) = omega arith in
      ap (λ (qs : List ℕ). rounds_left g qs (c.horizon - c.tick) c.tick done later) here
      ∙ ap (λ n. rounds_left g (cpu_of c ∷ drop (c.position + 1) c.cpus) n c.tick done later) one

  pub turns_left-step : (act : Act) → GoesOnBy g c was act
      → turns_left g c was ≡ step_at (cpu_of c) c.tick act ∷ turns_left g (with_step c) (after g (step_at (cpu_of c) c.tick act) was)
  turns_left-step act next =
      let s : Step = step_at (cpu_of c) c.tick act in
      turns_left-now c.done was
      ∙ rounds_left-step g (cpu_of c) behind rest c.tick c.done was act next
      ∙ ap (λ (steps : List Step). s ∷ steps) (sym (turns_left-now (c.done + 1) (after g s was)))

  -- where the turn under way is over, all that is left is from the turn behind it on
  turns_left-next_in_round : IsTurnOver g c was → turns_left g c was ≡ turns_left g (next_in_round c) was
  unfolding turns_left behind rest
  turns_left-next_in_round over =
      let one : suc (c.horizon - (c.tick + 1)) ≡ c.horizon - c.tick = omega arith in
      turns_left-now c.done was
      ∙ rounds_left-over g (cpu_of c) behind rest c.tick c.done was over
      ∙ ap (λ n. rounds_left g (drop (c.position + 1) c.cpus) n c.tick 0 was) one

  turns_left-next_round : c.cpus ≡ group_processors g → c.position + 1 ≡ length c.cpus → IsTurnOver g c was
      → turns_left g c was ≡ turns_left g (next_round c) was
  unfolding turns_left behind rest
  turns_left-next_round cpus last over =
      let n : ℕ = c.horizon - (c.tick + 1) in
      let none : drop (c.position + 1) c.cpus ≡ [] = drop_all (c.position + 1) c.cpus (omega arith) in
      let next : suc c.tick ≡ c.tick + 1 = omega arith in
      turns_left-now c.done was
      ∙ rounds_left-over g (cpu_of c) behind rest c.tick c.done was over
      ∙ ap (λ (qs : List ℕ). rounds_left g qs (suc n) c.tick 0 was) none
      ∙ rounds_left-none g n c.tick was
      ∙ sym (rounds_left-all g n (suc c.tick) was)
      ∙ ap (λ (qs : List ℕ). rounds_left g qs n (suc c.tick) 0 was) (sym cpus)
      ∙ ap (λ t. rounds_left g c.cpus n t 0 was) next

  pub turns_left-over : c.cpus ≡ group_processors g → IsTurnOver g c was → turns_left g c was ≡ turns_left g (next_turn c) was
  turns_left-over cpus over = by_case (c.position + 1 == length c.cpus) refl
    where
      by_case : (b : Bool) → (c.position + 1 == length c.cpus) ≡ b
          → turns_left g c was ≡ turns_left g (if b then next_round c else next_in_round c) was
      by_case true last = turns_left-next_round cpus (eqb-true (c.position + 1) (length c.cpus) last) over
      by_case false more = turns_left-next_in_round over

-- ---- the steps are of the group

listed : (qs : List ℕ) (k : ℕ) → k < length qs → has (slice_index qs k) qs ≡ true
listed [] k low = absurd (omega arith)
listed (q ∷ qs) zero low = rw (equal_self q)
listed (q ∷ qs) (suc k) low = rw (listed qs k (omega arith)) (or_true (slice_index qs k == q))

pub processor-of : (g : Group) (c : TurnsAhead) → AreTurnsOf g c → IsProcessorOf g (cpu_of c)
processor-of g c turns = subst (λ (ns : List ℕ). has (cpu_of c) ns ≡ true) turns.processors (listed c.cpus c.position turns.position)

pub step-of : (g : Group) (c : TurnsAhead) (act : Act) → AreTurnsOf g c → c.tick < c.horizon → IsActOf g act
    → IsStepOf g (step_at (cpu_of c) c.tick act)
step-of g c act turns before fits =
    let most = turns.horizon in
    record { processor = processor-of g c turns; tick = omega arith; act = fits }

-- ---- what is told of an act that may be none

-- what a processor is asked for is how its turn goes on, or that it is over
pub told-left : (g : Group) (c : TurnsAhead) (was : Past) (o : Option Act) → 2 ≤ c.done → c.done < 18
    → o ≡ next_act g (situation g (cpu_of c) was) → MatchOption o (IsTurnOver g c was) (GoesOnBy g c was)
told-left g c was None two low told = over-none g c was two (sym told)
told-left g c was (Some act) two low told = goes-on-act g c was act two low (sym told)

pub told-fits : (g : Group) (s : Situation) (o : Option Act) → IsValid g.setup → o ≡ next_act g s → IfSome o (IsActOf g)
told-fits g s None valid told = tt
told-fits g s (Some act) valid told = next-fits g valid s act (sym told)
