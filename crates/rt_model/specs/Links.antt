-- Link-based scheduling (Block, Leontyev, Brandenburg and Anderson, RTCSA 2007): links, and pending interrupts.
use Rattle.std.specs.Prelude.{ℕ, Bool, not, List, [], ◌∷◌, Option, ◌-◌, map}
use Rattle.rt_rules.specs.Numbers.{same}
use Rattle.rt_rules.specs.Placing.{placed, link_at}
use Rattle.rt_model.specs.Group.{Group, first_cpu, processors, cluster_with}
use Rattle.rt_model.specs.Past.{Past}
use Rattle.rt_model.specs.Runs.{runs}
use Rattle.rt_model.specs.Tops.{top}

module _ (g : Group) where
  unfoldable pub runs_of : ℕ → Past → List (Option ℕ)
  runs_of c past = map (λ q. runs q past) (processors g c)

  -- the links of a cluster's processors: placed at opening, where nothing runs or is linked, and after each move
  unfoldable pub links : ℕ → Past → List (Option ℕ)
  links c [] = placed (top g c []) (runs_of c []) (runs_of c [])
  links c (e ∷ past) = placed (top g c (e ∷ past)) (runs_of c (e ∷ past)) (links c past)

  unfoldable pub linked : ℕ → Past → Option ℕ
  linked q past = link_at (links (cluster_with g q) past) (q - first_cpu g (cluster_with g q))

  -- an interrupt is pending where what a processor runs is not its link
  unfoldable pub pending : ℕ → Past → Bool
  pending q past = not (same (linked q past) (runs q past))
