-- What histories come to: how many entries and requests they have, and the most critical sections that a request saw end.
use Rattle.std.specs.Prelude.{ℕ, ◌+◌, List, [], ◌∷◌, length, max}
use Rattle.rt_task.specs.declared.Parts.{Parts}
use Rattle.rt_rules.specs.declared.history.Entry.{Entry}
use Rattle.rt_model.specs.Group.{Group}
use Rattle.rt_model.specs.Histories.{past_of}
use Rattle.rt_changes.specs.Tallies.{Tally, tallies}
use Rattle.trace_writer.specs.declared.summary.Summary.{Summary}

-- the greatest number of critical sections that ended while a request was open and its task priority-blocked; 0 where there is none
abbrev pub most_ends : List Tally → ℕ
most_ends [] = 0
most_ends (x ∷ xs) = max x.ends (most_ends xs)

-- the history of a group
abbrev pub summary_in : Group → List Entry → Summary
summary_in g es =
    let requests : List Tally = tallies g (past_of g es) in
    record { entries = length es; requests = length requests; most = most_ends requests }

-- two together
abbrev pub joined : Summary → Summary → Summary
joined a b = record { entries = a.entries + b.entries; requests = a.requests + b.requests; most = max a.most b.most }

abbrev pub nothing : Summary
nothing = record { entries = 0; requests = 0; most = 0 }

-- the groups from a number on, each with its history
abbrev pub summary_from : Parts → ℕ → List (List Entry) → Summary
summary_from p n [] = nothing
summary_from p n (es ∷ more) = joined (summary_in (record { setup = p; number = n }) es) (summary_from p (n + 1) more)
