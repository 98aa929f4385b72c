-- The marks of clusters that were placed anew.
use Rattle.std.specs.Prelude.{◌≡◌, ℕ, ◌==◌, Bool, false, true, List, Option, None, Some, if◌then◌else◌, slice_index_or, slice_set}
use Rattle.rt_base.specs.declared.ClusterNo.{ClusterNo}
use Rattle.cluster_table.specs.declared.marks.Marked.{Marked}
use Rattle.cluster_table.specs.declared.marks.Marked.TheVariants.{Nothing, Only, Several}
use Rattle.cluster_table.specs.Table.{Table, cluster_at}

-- which clusters have a mark; where several have one, by the number of each cluster of a set whether it has
pub record Marks : Type 0 where
  pub marks : List Bool
  pub marked : Marked

abbrev pub is_several : Marked → Bool
is_several Nothing = false
is_several (Only d) = false
is_several Several = true

abbrev is_marked : Marked → List Bool → ℕ → Bool
is_marked Nothing marks c = false
is_marked (Only d) marks c = c == d.0
is_marked Several marks c = slice_index_or marks c true

-- of a cluster that is none of the set nothing is known while several have a mark
abbrev pub has_mark : Marks → ℕ → Bool
has_mark m c = is_marked m.marked m.marks c

abbrev is_something : Marked → Bool
is_something Nothing = false
is_something (Only d) = true
is_something Several = true

abbrev pub has_any : Marks → Bool
has_any m = is_something m.marked

abbrev only_of : Marked → Option ClusterNo
only_of Nothing = None
only_of (Only d) = Some d
only_of Several = None

-- the only cluster with a mark
abbrev pub only_one : Marks → Option ClusterNo
only_one m = only_of m.marked

abbrev one_more : ClusterNo → List Bool → Marked → Marks
one_more c marks Nothing = record { marks = marks; marked = Only c }
one_more c marks (Only d) = if c.0 == d.0 then record { marks = marks; marked = Only d } else record {
  marks = slice_set (slice_set marks d.0 true) c.0 true;
  marked = Several;
}
one_more c marks Several = record { marks = slice_set marks c.0 true; marked = Several }

-- the cluster has a mark from now on
abbrev pub with_mark : ClusterNo → Marks → Marks
with_mark c m = one_more c m.marks m.marked

abbrev pub IsUnmarked : Marks → ℕ → Type 0
IsUnmarked m c = has_mark m c ≡ false

-- a cluster without a mark had none before, and is as it was
abbrev pub StayUnmarked : Marks → Marks → Table → Table → Type 0
StayUnmarked before after t t' = (c : ℕ) → IsUnmarked after c → IsUnmarked before c × (cluster_at t' c ≡ cluster_at t c)
