-- What an engine that keeps its entries has of them.
use Rattle.std.specs.Prelude.{◌≡◌, ℕ, ◌+◌, ◌≤◌, List, length}
use Rattle.rt_rules.specs.declared.history.Entry.{Entry}
use Rattle.rt_plays.specs.Groups.{GroupHistory}

-- these are the entries of the history, and there is memory for as many more as it has room for
pub record Keeps (h : GroupHistory) (entries : List Entry) (capacity : ℕ) : Type 0 where
  pub entries_are : entries ≡ h.entries
  pub reserved : length h.entries + h.spare ≤ capacity
