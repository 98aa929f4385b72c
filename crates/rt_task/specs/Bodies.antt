-- Well-formed bodies: end is the last operation, and no operation is refused to a job that is granted each lock.
use Rattle.std.specs.List.{list_any}
use Rattle.std.specs.Prelude.{ℕ, Bool, true, false, not, ◌&&◌, ◌||◌, ◌==◌, nat_le, List, [], ◌∷◌, length, Option, None, Some, if◌then◌else◌}
use Rattle.rt_base.specs.declared.TheConstants.{MOST_HELD}
use Rattle.rt_task.specs.declared.Op.{Op}
use Rattle.rt_task.specs.declared.draft.Piece.{Piece}
use Rattle.rt_task.specs.declared.draft.Piece.TheVariants.{Works, Once}
use Rattle.rt_task.specs.RuleWords.{is_empty, has}
use Rattle.rt_task.specs.declared.Op.TheVariants as ops

-- what a job holds, the newest first, and whether it is non-preemptive
pub record Holding : Type 0 where
  pub held : List ℕ
  pub np : Bool

-- at its release it holds nothing and is preemptive
abbrev pub at_release : Holding
at_release = record { held = []; np = false }

abbrev pub without : ℕ → List ℕ → List ℕ
without s [] = []
without s (x ∷ xs) = if x == s then xs else x ∷ without s xs

abbrev pub is_newest : ℕ → List ℕ → Bool
is_newest s [] = false
is_newest s (x ∷ xs) = x == s

-- what a body may do, over the semaphores that its task declares and the protocol of each
module _ (declared : List ℕ) (pcp : ℕ → Bool) where
  unfoldable pub nests : ℕ → List ℕ → Bool
  nests s [] = false
  nests s held = not (pcp s) || (list_any (λ r. not (pcp r)) held || (has s held || nat_le MOST_HELD (length held)))

  -- an operation that is not refused, each lock granted
  unfoldable pub after_op : Op → Holding → Option Holding
  after_op ops.Work h = Some h
  after_op (ops.Lock s) h =
      if not h.np && (has s.0 declared && not (nests s.0 h.held)) then Some (record h { held = s.0 ∷ h.held }) else None
  after_op (ops.Unlock s) h =
      if has s.0 h.held
      && (not (pcp s.0) || is_newest s.0 h.held) then Some (record h { held = without s.0 h.held }) else None
  after_op (ops.Sleep n) h = if not h.np && is_empty h.held then Some h else None
  after_op ops.NpOn h = if h.np then None else Some (record h { np = true })
  after_op ops.NpOff h = if h.np then Some (record h { np = false }) else None
  after_op ops.End h = if not h.np && is_empty h.held then Some h else None

  -- end is the last operation and stands nowhere else, and none is refused
  unfoldable pub goes_on : List Piece → Option Holding → Bool
  goes_on pieces None = false
  goes_on [] (Some h) = false
  goes_on (Works n ∷ rest) (Some h) = goes_on rest (Some h)
  goes_on (Once ops.End ∷ []) (Some h) = not h.np && is_empty h.held
  goes_on (Once ops.End ∷ x ∷ rest) (Some h) = false
  goes_on (Once op ∷ rest) (Some h) = goes_on rest (after_op op h)
