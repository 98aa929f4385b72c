-- The rules of the tools that the tests make.
use Rattle.std.specs.Prelude.{ℕ, Bool, true, false, [], ◌∷◌, Some, nat_le, slice_index}
use Rattle.trace_tools.specs.Tools.{Rules, Tool}
use Rattle.trace_tools.specs.Rules.{each_number, never, raise_first}

-- ends after its third entry; its total is how many it was fed
abbrev pub three_rules : Rules
three_rules = record {
  next = λ state e. raise_first true state;
  total = each_number;
  ended = λ state. nat_le 3 (slice_index state 0);
  name = 88;
}

-- has every total, each its own number
abbrev pub endless_rules : Rules
endless_rules = record { next = λ state e. state; total = λ state i. Some i; ended = never; name = 89 }

-- a tool with every total, or one that ends after its third entry
abbrev pub strange : Bool → ℕ → Tool
strange true fed = record { rules = endless_rules; state = [] }
strange false fed = record { rules = three_rules; state = fed ∷ [] }
