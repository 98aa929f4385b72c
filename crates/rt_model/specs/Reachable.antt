-- The pasts that moves make, from the opening on. A law of every moment is a law of these.
use Rattle.std.specs.Prelude.{ℕ, [], ◌∷◌}
use Rattle.rt_task.specs.declared.Act.{Act}
use Rattle.rt_model.specs.Group.{Group}
use Rattle.rt_model.specs.Outcomes.{past_act}
use Rattle.rt_model.specs.Past.{Clock, Acted, Past}

pub data IsReachable (g : Group) : Past → Type 0 where
  opened : IsReachable g []
  clocked : {past : Past} → (tick : ℕ) → IsReachable g past → IsReachable g (Clock tick ∷ past)
  acted : {past : Past} → (q : ℕ) (act : Act) → IsReachable g past → IsReachable g (Acted (past_act g q act past) ∷ past)
