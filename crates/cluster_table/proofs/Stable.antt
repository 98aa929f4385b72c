-- Once the first tasks of a cluster are placed, placing changes no link, until others are the first tasks.
use Rattle.std.proofs.Common.{◌≡◌, ℕ, zero, suc, ◌≤◌, Bool, List, [], ◌∷◌, length, replicate, refl, sym, ap, ◌∙◌, arith}
use Rattle.std.specs.Prelude.{None}
use Rattle.std.proofs.lemmas.List.{take-map}
use Rattle.rt_rules.specs.Keys.{Ranked}
use Rattle.rt_rules.specs.Placing.{kept, tasks_in}
use Rattle.rt_rules.specs.Rankings.{tasks_of}
use Rattle.rt_laws.proofs.links.PlacedAgain.{placed-again}
use Rattle.ready_queue.specs.Queue.{first_tasks, in_order}
use Rattle.ready_queue.proofs.SplitLaws.{split-none}
use Rattle.link_table.specs.Linked.{IsOfCluster, IsSound}
use Rattle.link_table.proofs.Filling.{filled-none}
use Rattle.link_table.proofs.StayLaws.{placed_links-stay}
use Rattle.cluster_table.proofs.FirstTasks.{distinct-first_tasks, few-first_tasks}
use Rattle.cluster_table.specs.Clusters.{KeptCluster, IsStable, after_take, fresh, left_by, relinked}

pub stable-relinked : (k : KeptCluster) → IsSound k.linked → k.cpus ≡ length k.linked.runs → IsStable (relinked k)
stable-relinked k sound all =
    let few : length (first_tasks k.cpus k.keys) ≤ k.cpus = few-first_tasks k.cpus k.keys in
    placed-again (first_tasks k.cpus k.keys) k.linked.runs k.linked.links (distinct-first_tasks k.cpus k.keys) sound.runs_once sound.linked_once sound.same_length (omega (arith, few, all))

-- where placing again changes no link, it changes nothing
pub relinked-stable : (k : KeptCluster) → IsStable k → relinked k ≡ k
relinked-stable k stable = ap {B = KeptCluster} (λ ls. record k { linked = record k.linked { links = ls } }) stable

-- nothing is eligible, and nothing is linked
pub stable-fresh : (first cpus room : ℕ) → IsStable (fresh first cpus room)
stable-fresh first cpus room = rw none (rw (idle (tasks_in (replicate cpus None)) cpus) (filled-none (replicate cpus None)))
  where
    none : first_tasks cpus (replicate room None) ≡ []
    none =
        take-map (λ (r : Ranked). r.task) cpus (in_order (replicate room None))
        ∙ ap tasks_of (sym (split-none cpus room).top_is)

    idle : (running : List ℕ) (n : ℕ) → kept [] running (replicate n None) (replicate n None) ≡ replicate n None
    idle running zero = refl
    idle running (suc n) = ap (λ ls. None ∷ ls) (idle running n)

-- links that are placed stay so as a processor takes an interrupt, and as it comes to run nothing
pub stable-run : (k : KeptCluster) (q : ℕ) (np : Bool) → IsSound k.linked → k.cpus ≡ length k.linked.runs → IsOfCluster k.linked q → IsStable k
    → IsStable (after_take q np k) × IsStable (left_by q k)
stable-run k q np sound all of_cluster stable =
    let few = few-first_tasks k.cpus k.keys in
    placed_links-stay k.linked (first_tasks k.cpus k.keys) q np sound of_cluster (distinct-first_tasks k.cpus k.keys) (omega (arith, few, all)) stable
