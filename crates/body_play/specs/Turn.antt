-- How far one processor is in its turns, and which step may come next.
use Rattle.std.specs.Prelude.{◌≡◌, ◌⊎◌, ℕ, ◌+◌, ◌-◌, ◌<◌, Bool, true, false, not, ◌&&◌, ◌||◌, ◌==◌, nat_le, nat_lt, Option, None, Some}
use Rattle.std.specs.Prelude.{if◌then◌else◌}
use Rattle.rt_base.specs.declared.TheConstants.{MOST_TURN_ACTS}
use Rattle.rt_task.specs.declared.Act.{Act}
use Rattle.rt_task.specs.declared.Act.TheVariants as acts
use Rattle.rt_task.specs.declared.Step.{Step}
use Rattle.body_play.specs.declared.turn.Turn.{Turn}

-- the next act was not yet looked at since the last step
abbrev pub stepped : ℕ → ℕ → Turn
stepped begun since = record { begun = begun; since = since; had_none = false }

-- the act that goes on with the turn, where this is the processor's next act
abbrev pub act_on : Turn → Option Act → Option Act
act_on t next = if t.since == 0 then Some acts.Irq else (if nat_le (MOST_TURN_ACTS + 1) t.since then None else next)

pub record GoesOn (t : Turn) (next : Option Act) (s : Step) : Type 0 where
  pub begun : 0 < t.begun
  pub number : s.tick.0 ≡ t.begun - 1
  pub act_is : act_on t next ≡ Some s.act

abbrev pub is_between : Turn → Bool
is_between t = t.begun == 0 || (nat_le 1 t.since && (nat_le (MOST_TURN_ACTS + 1) t.since || t.had_none))

pub record Begins (t : Turn) (horizon : ℕ) (s : Step) : Type 0 where
  pub act_is : s.act ≡ acts.Tick
  pub number : s.tick.0 ≡ t.begun
  pub between : is_between t ≡ true
  pub left : t.begun < horizon

-- after a step that goes on with the turn, or begins the next one
abbrev pub IsTaken : Turn → Option Act → ℕ → Step → Turn → Type 0
IsTaken t next horizon s u = (GoesOn t next s × (u ≡ stepped t.begun (t.since + 1))) ⊎ (Begins t horizon s × (u ≡ stepped (t.begun + 1) 0))

-- after an entry of the group, where the next act is none then or not
abbrev pub seen : Turn → Bool → Turn
seen t none = record { begun = t.begun; since = t.since; had_none = t.had_none || none }

-- whether its next act still counts: its turn has begun with an interrupt, and has acts left
abbrev pub counts_none : ℕ → Bool
counts_none since = nat_le 1 since && not (nat_le (MOST_TURN_ACTS + 1) since)

-- whether a look can change what comes next
abbrev pub awaits_look : Turn → Bool
awaits_look t = counts_none t.since && not t.had_none

abbrev pub has_ended : Turn → ℕ → Bool
has_ended t horizon = is_between t && not (nat_lt t.begun horizon)
