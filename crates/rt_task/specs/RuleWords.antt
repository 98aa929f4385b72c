-- The words that the rules of a set are said in.
use Rattle.std.specs.List.{list_any, list_all}
use Rattle.std.specs.Prelude.{ℕ, ◌-◌, Bool, true, false, not, ◌&&◌, ◌||◌, ◌==◌, nat_lt, nat_le, max, List, [], ◌∷◌, length, map, sum_by}
use Rattle.std.specs.Prelude.{Option, None, Some}
use Rattle.rt_base.specs.declared.SemNo.{SemNo}
use Rattle.rt_base.specs.declared.TheConstants.{MOST_NAME_BYTES, MOST_OPERATIONS, MOST_PRIO, TICK_END}
use Rattle.rt_task.specs.declared.Act.{Act}
use Rattle.rt_task.specs.declared.Kind.{Kind}
use Rattle.rt_task.specs.declared.Kind.TheVariants.{Periodic, Sporadic}
use Rattle.rt_task.specs.declared.Op.{Op}
use Rattle.rt_task.specs.declared.PluginKind.{PluginKind}
use Rattle.rt_task.specs.declared.PluginKind.TheVariants.{GsnEdf, CEdf, PsnEdf, PFp, PRes}
use Rattle.rt_task.specs.declared.Protocol.{Protocol}
use Rattle.rt_task.specs.declared.Protocol.TheVariants.{Fmlp, Omlp, Pcp, Mpcp, Srp}
use Rattle.rt_task.specs.declared.draft.DraftDrive.{DraftDrive}
use Rattle.rt_task.specs.declared.draft.DraftDrive.TheVariants.{Steps, Horizon}
use Rattle.rt_task.specs.declared.draft.DraftTask.{DraftTask}
use Rattle.rt_task.specs.declared.draft.Piece.{Piece}
use Rattle.rt_task.specs.declared.draft.Piece.TheVariants.{Works, Once}
use Rattle.rt_task.specs.declared.Op.TheVariants as ops
use Rattle.rt_task.specs.declared.Act.TheVariants as acts

abbrev pub within : ℕ → ℕ → ℕ → Bool
within low high n = nat_le low n && nat_le n high

abbrev pub is_empty : {A : Type 0} → List A → Bool
is_empty [] = true
is_empty (x ∷ xs) = false

abbrev pub has : ℕ → List ℕ → Bool
has n ns = list_any (λ m. m == n) ns

-- a number from 1 that stands for an element
abbrev pub is_known : {A : Type 0} → List A → ℕ → Bool
is_known xs n = within 1 (length xs) n

abbrev pub all_same : List ℕ → Bool
all_same [] = true
all_same (x ∷ xs) = list_all (λ y. y == x) xs

abbrev pub first_of : List ℕ → Option ℕ
first_of [] = None
first_of (x ∷ xs) = Some x

abbrev pub greatest : List ℕ → ℕ
greatest [] = 0
greatest (x ∷ xs) = max x (greatest xs)

-- none of the numbers comes twice
abbrev pub no_repeat : List ℕ → Bool
no_repeat [] = true
no_repeat (x ∷ xs) = not (has x xs) && no_repeat xs

-- a duration or a tick that is not 0
abbrev pub is_span : ℕ → Bool
is_span n = within 1 (TICK_END - 1) n

abbrev pub is_prio : ℕ → Bool
is_prio n = within 1 MOST_PRIO n

abbrev pub is_name_byte : ℕ → Bool
is_name_byte b = within 48 57 b || (within 65 90 b || (within 97 122 b || (b == 95 || b == 45)))

abbrev pub is_name : List ℕ → Bool
is_name n = within 1 MOST_NAME_BYTES (length n) && list_all is_name_byte n

abbrev pub is_p_res : PluginKind → Bool
is_p_res PRes = true
is_p_res _ = false

-- exactly one processor a cluster
abbrev pub is_partitioned : PluginKind → Bool
is_partitioned GsnEdf = false
is_partitioned CEdf = false
is_partitioned _ = true

-- how many clusters a plugin has
abbrev pub allows_clusters : PluginKind → ℕ → Bool
allows_clusters GsnEdf n = n == 1
allows_clusters _ n = nat_lt 0 n

abbrev pub stands_under : Protocol → PluginKind → Bool
stands_under Fmlp PRes = false
stands_under Fmlp _ = true
stands_under Omlp GsnEdf = true
stands_under Omlp CEdf = true
stands_under Omlp _ = false
stands_under Pcp PFp = true
stands_under Pcp _ = false
stands_under Mpcp PFp = true
stands_under Mpcp _ = false
stands_under Srp PsnEdf = true
stands_under Srp _ = false

-- whether the tasks that declare a semaphore are of one cluster, and not only of one group
abbrev pub is_of_one_cluster : Protocol → PluginKind → Bool
is_of_one_cluster Omlp plugin = true
is_of_one_cluster Pcp plugin = true
is_of_one_cluster Srp plugin = true
is_of_one_cluster Fmlp GsnEdf = true
is_of_one_cluster Fmlp CEdf = true
is_of_one_cluster _ plugin = false

-- whether requests nest, and unlocks are last in, first out
abbrev pub is_stacked : Protocol → Bool
is_stacked Pcp = true
is_stacked Srp = true
is_stacked _ = false

abbrev pub is_fmlp : Protocol → Bool
is_fmlp Fmlp = true
is_fmlp _ = false

abbrev pub is_periodic : Kind → Bool
is_periodic Periodic = true
is_periodic Sporadic = false

abbrev pub sem_numbers : DraftTask → List ℕ
sem_numbers t = map (λ (s : SemNo). s.0) t.uses

abbrev pub piece_len : Piece → ℕ
piece_len (Works n) = n
piece_len (Once op) = 1

abbrev pub body_len : List Piece → ℕ
body_len pieces = sum_by piece_len pieces

abbrev pub op_in_range : Op → Bool
op_in_range (ops.Sleep n) = is_span n
op_in_range _ = true

abbrev pub piece_in_range : Piece → Bool
piece_in_range (Works n) = within 1 MOST_OPERATIONS n
piece_in_range (Once op) = op_in_range op

abbrev pub act_in_range : Act → Bool
act_in_range (acts.Do op) = op_in_range op
act_in_range _ = true

abbrev pub has_horizon : DraftDrive → Bool
has_horizon (Steps s) = false
has_horizon (Horizon h) = true
