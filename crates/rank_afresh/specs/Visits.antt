-- The clusters that the end of a move goes to, and where each task and processor is at home.
use Rattle.std.specs.Prelude.{◌≡◌, ℕ, ◌<◌, ⊤, true, List, length, slice_index_or}
use Rattle.rt_rules.specs.Numbers.{has}
use Rattle.rank_afresh.specs.declared.ran.Ran.{Ran}
use Rattle.rank_afresh.specs.declared.ran.Ran.TheVariants as rans
use Rattle.rank_afresh.specs.Clusters.{ClusterFacts, has_cpu}
use Rattle.rank_afresh.specs.Facts.{cluster_at}

-- how many clusters there are, by the numbers of tasks and of processors the positions of their clusters, and the positions to go to
pub record VisitFacts : Type 0 where
  pub count : ℕ
  pub task_homes : List ℕ
  pub cpu_homes : List ℕ
  pub positions : List ℕ

-- the position at this number is n
pub record IsHome (homes : List ℕ) (i n : ℕ) : Type 0 where
  pub inside : i < length homes
  pub here : slice_index_or homes i 0 ≡ n

-- with more positions
pub record HasMore (old new : VisitFacts) : Type 0 where
  pub stay : (n : ℕ) → has n old.positions ≡ true → has n new.positions ≡ true
  pub rest : new ≡ record old { positions = new.positions }

-- the cluster whose position is at this number is gone to
abbrev pub IsVisited : VisitFacts → List ℕ → ℕ → Type 0
IsVisited v homes i = (n : ℕ) → n < v.count → IsHome homes i n → has n v.positions ≡ true

-- each cluster is
abbrev pub AreAllVisited : VisitFacts → Type 0
AreAllVisited v = (n : ℕ) → n < v.count → has n v.positions ≡ true

-- each cluster on whose processors what runs may be another is
abbrev pub IsRanVisited : VisitFacts → Ran → Type 0
IsRanVisited v rans.Nowhere = ⊤
IsRanVisited v (rans.At q) = IsVisited v v.cpu_homes q.0
IsRanVisited v rans.Anywhere = AreAllVisited v

-- and so is the cluster of each of these tasks
pub record AreVisited (touched changed : List ℕ) (ran : Ran) (v : VisitFacts) : Type 0 where
  pub touched_are : (t : ℕ) → has t touched ≡ true → IsVisited v v.task_homes t
  pub changed_are : (t : ℕ) → has t changed ≡ true → IsVisited v v.task_homes t
  pub ran_is : IsRanVisited v ran

-- these are the homes of the tasks and processors of the clusters
pub record AreHomes (cs : List ClusterFacts) (v : VisitFacts) : Type 0 where
  pub count_is : v.count ≡ length cs
  pub tasks_at : (n t : ℕ) → has t (cluster_at cs n).tasks ≡ true → IsHome v.task_homes t n
  pub cpus_at : (n q : ℕ) → has_cpu (cluster_at cs n) q ≡ true → IsHome v.cpu_homes q n
