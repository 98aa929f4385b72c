-- The groups of a setup, each with its whole history.
use Rattle.std.specs.Prelude.{ℕ, ◌+◌, List, [], ◌∷◌}
use Rattle.rt_task.specs.declared.Parts.{Parts}
use Rattle.rt_rules.specs.declared.history.Entry.{Entry}
use Rattle.rt_plays.specs.Groups.{GroupHistory}

-- a group with its history, and no room for more
abbrev pub full_group : Parts → ℕ → List Entry → GroupHistory
full_group p n es = record { setup = p; group = n; entries = es; spare = 0 }

-- the groups from a number on, each with its history
abbrev pub groups_from : Parts → ℕ → List (List Entry) → List GroupHistory
groups_from p n [] = []
groups_from p n (es ∷ more) = full_group p n es ∷ groups_from p (n + 1) more
