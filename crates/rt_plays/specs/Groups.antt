-- A group of a setup and its history, as contracts see them.
use Rattle.std.specs.Prelude.{◌≡◌, ℕ, ◌-◌, true, ◌==◌, List, [], ◌∷◌, ◌++◌, All}
use Rattle.std.specs.List.{list_any}
use Rattle.rt_task.specs.declared.Parts.{Parts}
use Rattle.rt_task.specs.declared.Cluster.{Cluster}
use Rattle.rt_rules.specs.declared.history.Entry.{Entry}
use Rattle.rt_model.specs.Group.{Group}
use Rattle.rt_model.specs.Past.{Past}
use Rattle.rt_model.specs.Histories.{past_of, IsLegal}
use Rattle.rt_model.specs.Steps.{IsStepOf}

-- a group of a setup: its entries so far, and room for how many more
pub record GroupHistory : Type 0 where
  pub setup : Parts
  pub group : ℕ
  pub entries : List Entry
  pub spare : ℕ

abbrev pub group_of : GroupHistory → Group
group_of h = record { setup = h.setup; number = h.group }

-- the past that the entries made
abbrev pub past : GroupHistory → Past
past h = past_of (group_of h) h.entries

abbrev pub with_entry : Entry → GroupHistory → GroupHistory
with_entry e h = record h { entries = h.entries ++ e ∷ []; spare = h.spare - 1 }

-- each reply is the answer in the past that the entries before it made
abbrev pub IsLegalNow : GroupHistory → Type 0
IsLegalNow h = IsLegal (group_of h) h.entries

-- each entry's step is one of the group
abbrev pub AreStepsOf : Group → List Entry → Type 0
AreStepsOf g es = All (λ (e : Entry). IsStepOf g e.step) es

-- the group is one of the setup's: a cluster is in it
abbrev pub IsGroupOf : Parts → ℕ → Type 0
IsGroupOf p n = list_any (λ (c : Cluster). c.group.0 == n) p.clusters ≡ true
