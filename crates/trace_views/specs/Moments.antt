-- The states of a history: its past at opening and after each move; and its units of work.
use Rattle.std.specs.Prelude.{ℕ, Bool, true, false, ◌&&◌, ◌==◌, nat_lt, List, [], ◌∷◌, reverse, take, filter, find, filter_map}
use Rattle.std.specs.Prelude.{Option, None, Some, if◌then◌else◌}
use Rattle.rt_model.specs.Past.{Past, PastAct, Clock, Acted, now, accepted, is_work, operation}

-- newest first, the opening last
unfoldable pub moments : Past → List Past
moments [] = [] ∷ []
moments (e ∷ past) = (e ∷ past) ∷ moments past

-- those whose clock is a tick; and where there are none, the newest before
abbrev pub own : ℕ → Past → List Past
own t past = filter (λ p. now p == t) (moments past)

unfoldable pub at_tick : ℕ → Past → List Past
at_tick t past =
    let states = own t past in
    if is_nothing states then take 1 (filter (λ p. nat_lt (now p) t) (moments past)) else states
  where
    is_nothing : List Past → Bool
    is_nothing [] = true
    is_nothing (p ∷ ps) = false

-- an act with the state before it
pub record Moment : Type 0 where
  pub act : PastAct
  pub before : Past

-- the act that led to a state; opening and moves of the clock are none
abbrev pub act_of : Past → Option Moment
act_of [] = None
act_of (Clock tick ∷ past) = None
act_of (Acted d ∷ past) = Some (record { act = d; before = past })

-- whether an act is a unit of work
abbrev pub is_unit : Moment → Bool
is_unit m = accepted m.act.reply && is_work (operation m.act.act)

-- the acts among the moves that led to states
abbrev pub acts_among : List Past → List Moment
acts_among states = filter_map act_of states

-- of some states, newest first, the oldest that passes
abbrev pub first_where : (Past → Bool) → List Past → Option Past
first_where test states = find test (reverse states)
