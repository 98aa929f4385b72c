-- What contracts see of a clock and of its seats.
use Rattle.std.specs.Prelude.{ℕ, ◌+◌, ◌/◌}
use Rattle.atomic_table.specs.Seated.{TableId}

-- which clock it is, and how many seats it has
pub record Clock : Type 0 where
  pub table : TableId
  pub seats : ℕ

-- a seat: its clock, how many turns it has passed, the word that its last look found (0 where it made none), and how often it has looked
pub record ClockSeatView : Type 0 where
  pub clock : Clock
  pub passes : ℕ
  pub found : ℕ
  pub looks : ℕ

-- the turn that the seat's last look answered: the word that it found, which is the number of all passes, divided by the number of seats
abbrev pub last_turn : ClockSeatView → ℕ
last_turn s = s.found / s.clock.seats

-- the seat, after one look that found this word
abbrev pub looked : ℕ → ClockSeatView → ClockSeatView
looked word s = record s { found = word; looks = s.looks + 1 }

-- the seat, after one pass
abbrev pub passed : ClockSeatView → ClockSeatView
passed s = record s { passes = s.passes + 1 }

-- a seat of a new clock
abbrev pub fresh : Clock → ClockSeatView
fresh c = record { clock = c; passes = 0; found = 0; looks = 0 }
