-- The lines of a cluster: how its eligible tasks are ranked, and of each of its processors what it runs and its link.
use Rattle.std.specs.Prelude.{ℕ, Bool, true, false, List, [], ◌∷◌, ◌++◌, drop, flat_map, map, codes, decimal}
use Rattle.rt_rules.specs.Keys.{Ranked}
use Rattle.rt_model.specs.Group.{Group, cpus, processors}
use Rattle.rt_model.specs.Links.{linked, pending}
use Rattle.rt_model.specs.Past.{Past}
use Rattle.rt_model.specs.Runs.{runs}
use Rattle.rt_model.specs.Tops.{ranking, top}
use Rattle.why_texts.specs.Pieces.{Piece, state_line, task_names, task_or_dash}

-- an interrupt is pending, or none
abbrev pub pending_piece : Bool → Piece
pending_piece true = codes " pending"
pending_piece false = []

module _ (g : Group) where
  -- the eligible tasks behind the top
  unfoldable pub behind_top : ℕ → Past → List ℕ
  behind_top c past = drop (cpus g c) (map (λ (r : Ranked). r.task) (ranking g c past))

  -- the top stands before the bar
  abbrev pub rank_line : ℕ → Past → List ℕ
  rank_line c past = state_line (
      codes "cluster " ∷ decimal c ∷ codes " ranks" ∷ task_names g (top g c past) ∷ codes " |" ∷ task_names g (behind_top c past) ∷ [])

  abbrev pub cpu_line : ℕ → Past → List ℕ
  cpu_line q past = state_line (
      codes "processor " ∷ decimal q ∷ codes " runs " ∷ task_or_dash g (runs q past) ∷ codes " linked " ∷ task_or_dash g (linked g q past)
      ∷ pending_piece (pending g q past) ∷ [])

  abbrev pub cluster_lines : ℕ → Past → List ℕ
  cluster_lines c past = rank_line c past ++ flat_map (λ q. cpu_line q past) (processors g c)
