-- Where each cluster's processors end, as code keeps it.
use Rattle.std.specs.Prelude.{ℕ, ◌+◌, List, [], ◌∷◌}
use Rattle.rt_task.specs.declared.draft.DraftCluster.{DraftCluster}

-- the number after each cluster's last processor, counted from n
abbrev pub ends_from : ℕ → List DraftCluster → List ℕ
ends_from n [] = []
ends_from n (k ∷ ks) = (n + k.cpus) ∷ ends_from (n + k.cpus) ks
