-- The numbers that are drawn for a load: a linear congruence on 64 bits, of which the upper half is a number.
use Rattle.std.specs.Prelude.{ℕ, ◌+◌, ◌*◌, ◌/◌, ◌%◌, ◌^◌}
use Rattle.load_set.specs.declared.draws.Drawn.{Drawn}

-- a draw moves the state on
unfoldable pub drawn : ℕ → ℕ
drawn x = (x * 6364136223846793005 + 1442695040888963407) % 2 ^ 64

-- and gives its upper half
unfoldable pub upper : ℕ → ℕ
upper x = x / 2 ^ 32

-- the four numbers that are drawn for a task, from a state
abbrev pub draw_from : ℕ → Drawn
draw_from x = record {
  period = upper (drawn x);
  cost = upper (drawn (drawn x));
  locks = upper (drawn (drawn (drawn x)));
  sem = upper (drawn (drawn (drawn (drawn x))));
}

-- the state after them
abbrev pub after_four : ℕ → ℕ
after_four x = drawn (drawn (drawn (drawn x)))
