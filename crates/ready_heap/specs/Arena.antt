-- Nodes in a slab, by the number of their task.
use Rattle.std.specs.Prelude.{◌≡◌, ℕ, ◌≤◌, List, length, count_by, Option, None, Some, is_some, IsSome, slice_index_or}
use Rattle.slab.specs.Slab.{Slab, get, slab_len}
use Rattle.rt_rules.specs.declared.Key.{Key}
use Rattle.ready_heap.specs.declared.arena.Node.{Node}

-- the node under a slab's key that is kept, if any
abbrev pub node_in : Slab Node → Option ℕ → Option Node
node_in nodes None = None
node_in nodes (Some at) = get nodes at

abbrev pub with_position : ℕ → Node → Node
with_position position n = record n { position = position }

abbrev pub with_key : Key → Node → Node
with_key key n = record n { key = key }

-- each kept key has a node, which is of one task alone, and there is room for a node of each task
pub record IsArena (nodes : Slab Node) (kept : List (Option ℕ)) : Type 0 where
  pub live : (t at : ℕ) → slice_index_or kept t None ≡ Some at → IsSome (get nodes at)
  pub once : (t u at : ℕ) → slice_index_or kept t None ≡ Some at → slice_index_or kept u None ≡ Some at → t ≡ u
  pub count : slab_len nodes ≡ count_by is_some kept
  pub room : length kept ≤ nodes.capacity
