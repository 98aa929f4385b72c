-- The steps of turns: one after another, and how many they are.
use Rattle.std.proofs.Common.{◌≡◌, ℕ, zero, suc, ◌+◌, ◌*◌, ◌≤◌, List, [], ◌∷◌, ◌++◌, length, refl, sym, ap, ◌∙◌, arith, length-append}
use Rattle.std.specs.Prelude.{Option, None, Some}
use Rattle.rt_task.specs.declared.Act.{Act}
use Rattle.rt_task.specs.declared.Act.TheVariants as acts
use Rattle.rt_task.specs.declared.Parts.{Parts}
use Rattle.rt_task.specs.declared.Step.{Step}
use Rattle.rt_rules.specs.declared.history.Situation.{Situation}
use Rattle.rt_model.specs.Group.{Group, group_processors}
use Rattle.rt_model.specs.Histories.{after, past_by}
use Rattle.rt_model.specs.Past.{Past}
use Rattle.rt_model.specs.Situations.{situation, next_act}
use Rattle.rt_plays.specs.NextSteps.{step_at}
use Rattle.rt_plays.specs.Order.{acts_played, turn, round, rounds}
use Rattle.rt_plays.specs.Plays.{group_with}
use Rattle.rt_plays.specs.Groups.{GroupHistory, group_of, past}

-- ---- the acts

pub acts-some : (g : Group) (q n t : ℕ) (was : Past) (act : Act) → next_act g (situation g q was) ≡ Some act
    → acts_played g (suc n) q t was ≡ step_at q t act ∷ acts_played g n q t (after g (step_at q t act) was)
unfolding acts_played
acts-some g q n t was act e =
    let played : Act → List Step = λ a. step_at q t a ∷ acts_played g n q t (after g (step_at q t a) was) in
    ap (λ (o : Option Act). elim o as (λ _. List Step) [ None ↦ [] | Some a ↦ played a ]) e

pub acts-none : (g : Group) (q n t : ℕ) (was : Past) → next_act g (situation g q was) ≡ None → acts_played g n q t was ≡ []
unfolding acts_played
acts-none g q zero t was e = refl
acts-none g q (suc n) t was e =
    let played : Act → List Step = λ a. step_at q t a ∷ acts_played g n q t (after g (step_at q t a) was) in
    ap (λ (o : Option Act). elim o as (λ _. List Step) [ None ↦ [] | Some a ↦ played a ]) e

pub acts-zero : (g : Group) (q t : ℕ) (was : Past) → acts_played g 0 q t was ≡ []
unfolding acts_played
acts-zero g q t was = refl

-- what a processor is asked for in its situation is its next act
pub asked : (p : Parts) (h : GroupHistory) (q : ℕ) (s : Situation) (o : Option Act) → h.setup ≡ p → s ≡ situation (group_of h) q (past h)
    → ((n : ℕ) → o ≡ next_act (group_with p n) s) → o ≡ next_act (group_of h) (situation (group_of h) q (past h))
asked p h q s o of_setup told answer =
    answer h.group ∙ ap (λ (x : Parts). next_act (group_with x h.group) s) (sym of_setup) ∙ ap (next_act (group_of h)) told

-- ---- turns and rounds

pub turn-lem : (g : Group) (q t : ℕ) (was : Past)
    → let begun : Past = after g (step_at q t acts.Irq) (after g (step_at q t acts.Tick) was) in
    turn g q t was ≡ step_at q t acts.Tick ∷ step_at q t acts.Irq ∷ acts_played g 16 q t begun
unfolding turn past_by
turn-lem g q t was = refl

round-cons : (g : Group) (q : ℕ) (qs : List ℕ) (t : ℕ) (was : Past)
    → round g (q ∷ qs) t was ≡ turn g q t was ++ round g qs t (past_by g was (turn g q t was))
unfolding round
round-cons g q qs t was = refl

round-none : (g : Group) (t : ℕ) (was : Past) → round g [] t was ≡ []
unfolding round
round-none g t was = refl

rounds-more : (g : Group) (n t : ℕ) (was : Past)
    → rounds g (suc n) t was ≡ round g (group_processors g) t was ++ rounds g n (suc t) (past_by g was (round g (group_processors g) t was))
unfolding rounds
rounds-more g n t was = refl

rounds-none : (g : Group) (t : ℕ) (was : Past) → rounds g 0 t was ≡ []
unfolding rounds
rounds-none g t was = refl

-- ---- how many

acts-few : (g : Group) (n q t : ℕ) (was : Past) → length (acts_played g n q t was) ≤ n
unfolding acts_played
acts-few g zero q t was = omega arith
acts-few g (suc n) q t was = by_case (next_act g (situation g q was)) (λ act. acts-few g n q t (after g (step_at q t act) was))
  where
    by_case : (o : Option Act) → ((act : Act) → length (acts_played g n q t (after g (step_at q t act) was)) ≤ n)
        → let played : Act → List Step = λ act. step_at q t act ∷ acts_played g n q t (after g (step_at q t act) was) in
        length (elim o as (λ _. List Step) [ None ↦ [] | Some act ↦ played act ]) ≤ suc n
    by_case None few = omega arith
    by_case (Some act) few = let h = few act in omega arith

-- a turn has at most a Tick, an Irq and sixteen acts
turn-few : (g : Group) (q t : ℕ) (was : Past) → length (turn g q t was) ≤ 18
turn-few g q t was =
    let rest : List Step = acts_played g 16 q t (after g (step_at q t acts.Irq) (after g (step_at q t acts.Tick) was)) in
    let few : length rest ≤ 16 = acts-few g 16 q t (after g (step_at q t acts.Irq) (after g (step_at q t acts.Tick) was)) in
    rw (turn-lem g q t was) (omega (arith, few))

round-few : (g : Group) (qs : List ℕ) (t : ℕ) (was : Past) → length (round g qs t was) ≤ length qs * 18
round-few g [] t was = rw (round-none g t was) (omega arith)
round-few g (q ∷ qs) t was =
    let steps : List Step = turn g q t was in
    let rest = round-few g qs t (past_by g was steps) in
    let one = turn-few g q t was in
    rw (round-cons g q qs t was) (omega (arith, length-append steps (round g qs t (past_by g was steps)), one, rest))

-- each processor has at most 18 steps in each round
pub length-rounds : (g : Group) (n t : ℕ) (was : Past) → length (rounds g n t was) ≤ n * length (group_processors g) * 18
length-rounds g zero t was = rw (rounds-none g t was) (omega arith)
length-rounds g (suc n) t was =
    let steps : List Step = round g (group_processors g) t was in
    let rest = length-rounds g n (suc t) (past_by g was steps) in
    let one = round-few g (group_processors g) t was in
    let cpus : ℕ = length (group_processors g) in
    let all : suc n * cpus * 18 ≡ cpus * 18 + n * cpus * 18 = omega arith in
    rw (rounds-more g n t was) (omega (arith, length-append steps (rounds g n (suc t) (past_by g was steps)), one, rest, all))
