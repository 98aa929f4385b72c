-- The turns of a group's processors that are left to be played, in the order of one thread.
use Rattle.std.specs.Prelude.{◌≡◌, ℕ, zero, suc, ◌+◌, ◌-◌, ◌<◌, ◌≤◌, ◌==◌, if◌then◌else◌}
use Rattle.std.specs.Prelude.{List, [], ◌∷◌, ◌++◌, drop, length, map, slice_index}
use Rattle.rt_base.specs.declared.CpuNo.{CpuNo}
use Rattle.rt_base.specs.declared.TheConstants.{MOST_TURN_ACTS, MOST_TURN_STEPS, TICK_END}
use Rattle.rt_task.specs.declared.Act.{Act}
use Rattle.rt_task.specs.declared.Act.TheVariants as acts
use Rattle.rt_task.specs.declared.Step.{Step}
use Rattle.rt_model.specs.Group.{Group, group_processors}
use Rattle.rt_model.specs.Histories.{after, past_by}
use Rattle.rt_model.specs.Past.{Past}
use Rattle.rt_plays.specs.NextSteps.{step_at}
use Rattle.rt_plays.specs.Order.{acts_played, turn, round, rounds}

abbrev pub cpu_numbers : List CpuNo → List ℕ
cpu_numbers qs = map (λ (q : CpuNo). q.0) qs

-- a position in the turns of these processors below the horizon: the turn under way, of the processor at this position, and how many of
-- its steps were handed out
pub record TurnsAhead : Type 0 where
  pub horizon : ℕ
  pub cpus : List ℕ
  pub tick : ℕ
  pub position : ℕ
  pub done : ℕ

-- the processor of the turn under way
abbrev pub cpu_of : TurnsAhead → ℕ
cpu_of c = slice_index c.cpus c.position

module _ (g : Group) where
  -- what is left of turn t of processor q once so many of its steps were handed out: all of it, all but the Tick, or the acts that
  -- may still come
  unfoldable pub turn_left : ℕ → ℕ → ℕ → Past → List Step
  turn_left q t zero past = turn g q t past
  turn_left q t (suc zero) past = step_at q t acts.Irq ∷ acts_played g MOST_TURN_ACTS q t (after g (step_at q t acts.Irq) past)
  turn_left q t (suc (suc n)) past = acts_played g (MOST_TURN_ACTS - n) q t past

  -- what is left of round t, which these processors have not ended: of the first one's turn, and then the others' turns
  unfoldable pub round_left : List ℕ → ℕ → ℕ → Past → List Step
  round_left [] t done past = []
  round_left (q ∷ qs) t done past = turn_left q t done past ++ round g qs t (past_by g past (turn_left q t done past))

  -- what is left of n rounds, of which round t is under way
  unfoldable pub rounds_left : List ℕ → ℕ → ℕ → ℕ → Past → List Step
  rounds_left qs zero t done past = []
  rounds_left qs (suc n) t done past = round_left qs t done past ++ rounds g n (suc t) (past_by g past (round_left qs t done past))

  -- the steps that are left
  unfoldable pub turns_left : TurnsAhead → Past → List Step
  turns_left c past = rounds_left (drop c.position c.cpus) (c.horizon - c.tick) c.tick c.done past

  -- they are the turns of the group's processors
  pub record AreTurnsOf (c : TurnsAhead) : Type 0 where
    pub processors : c.cpus ≡ group_processors g
    pub horizon : c.horizon ≤ TICK_END
    pub position : c.position < length c.cpus
    pub done : c.done ≤ MOST_TURN_STEPS

  -- the turn under way goes on by this act
  abbrev pub GoesOnBy : TurnsAhead → Past → Act → Type 0
  GoesOnBy c past act =
      let step : Step = step_at (cpu_of c) c.tick act in
      turn_left (cpu_of c) c.tick c.done past ≡ step ∷ turn_left (cpu_of c) c.tick (c.done + 1) (after g step past)

  -- the turn under way is over
  abbrev pub IsTurnOver : TurnsAhead → Past → Type 0
  IsTurnOver c past = turn_left (cpu_of c) c.tick c.done past ≡ []

-- one step more of the turn under way was handed out
abbrev pub with_step : TurnsAhead → TurnsAhead
with_step c = record c { done = c.done + 1 }

-- the turn of the next processor in this round, and that of the first one in the next
abbrev pub next_in_round : TurnsAhead → TurnsAhead
next_in_round c = record c { position = c.position + 1; done = 0 }

abbrev pub next_round : TurnsAhead → TurnsAhead
next_round c = record c { tick = c.tick + 1; position = 0; done = 0 }

-- the turn behind the one under way
abbrev pub next_turn : TurnsAhead → TurnsAhead
next_turn c = if c.position + 1 == length c.cpus then next_round c else next_in_round c
