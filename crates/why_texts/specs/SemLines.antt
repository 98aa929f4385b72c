-- The line of a semaphore: who holds it, and who waits for it.
use Rattle.std.specs.Prelude.{ℕ, not, List, [], ◌∷◌, ◌++◌, filter, flat_map, codes}
use Rattle.rt_task.specs.declared.Protocol.{Protocol}
use Rattle.rt_task.specs.declared.Protocol.TheVariants.{Pcp}
use Rattle.rt_rules.specs.Numbers.{is, is_empty}
use Rattle.rt_model.specs.Ceilings.{ceiling}
use Rattle.rt_model.specs.Group.{Group, protocol, sems, tasks, users}
use Rattle.rt_model.specs.Holders.{awaits, holder}
use Rattle.rt_model.specs.Past.{Past}
use Rattle.set_canonical.specs.Words.{protocol_word}
use Rattle.why_texts.specs.Pieces.{Piece, key_piece, sem_name, state_line, task_name, task_or_dash}

module _ (g : Group) where
  -- the semaphores that a task of the group declares
  unfoldable pub declared_sems : List ℕ
  declared_sems = filter (λ s. not (is_empty (users g s))) (sems g)

  -- its ceiling, under PCP
  abbrev pub ceiling_piece : Protocol → ℕ → Piece
  ceiling_piece Pcp s = codes " ceiling " ++ key_piece (ceiling g s)
  ceiling_piece _ s = []

  -- the tasks that wait for it, by number
  unfoldable pub waiting_for : ℕ → Past → List ℕ
  waiting_for s past = filter (λ t. is s (awaits g t past)) (tasks g)

  abbrev pub waiting_piece : List ℕ → Piece
  waiting_piece ts = flat_map (λ t. codes " waiting " ++ task_name g t) ts

  abbrev pub sem_line : ℕ → Past → List ℕ
  sem_line s past = state_line (
      codes "sem " ∷ sem_name g s ∷ codes " " ∷ protocol_word (protocol g s) ∷ codes " held by " ∷ task_or_dash g (holder g s past)
      ∷ ceiling_piece (protocol g s) s ∷ waiting_piece (waiting_for s past) ∷ [])
