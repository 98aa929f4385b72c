-- Lines, and the pieces that they are made of: names of tasks and of semaphores, and keys.
use Rattle.std.specs.List.{concat}
use Rattle.std.specs.Prelude.{ℕ, List, [], ◌∷◌, ◌++◌, flat_map, Option, None, Some, codes, decimal}
use Rattle.rt_rules.specs.declared.Key.{Key}
use Rattle.rt_model.specs.Group.{Group, sem, task}

abbrev pub Piece : Type 0
Piece = List ℕ

-- pieces one behind the other, and a line feed; a line of a state has two blanks before it
abbrev pub line : List Piece → List ℕ
line pieces = concat pieces ++ 10 ∷ []

abbrev pub state_line : List Piece → List ℕ
state_line pieces = 32 ∷ 32 ∷ line pieces

-- a key: its band, major and minor part
abbrev pub key_piece : Key → Piece
key_piece k = concat (decimal k.band ∷ codes "/" ∷ decimal k.major ∷ codes "/" ∷ decimal k.minor ∷ [])

module _ (g : Group) where
  -- a task, or a dash for none; and tasks, each after a blank
  abbrev pub task_name : ℕ → Piece
  task_name t = (task g t).name

  abbrev pub task_or_dash : Option ℕ → Piece
  task_or_dash None = codes "-"
  task_or_dash (Some t) = task_name t

  abbrev pub task_names : List ℕ → Piece
  task_names ts = flat_map (λ t. 32 ∷ task_name t) ts

  -- a semaphore, or a dash for none; and semaphores, each after a blank
  abbrev pub sem_name : ℕ → Piece
  sem_name s = (sem g s).name

  abbrev pub sem_or_dash : Option ℕ → Piece
  sem_or_dash None = codes "-"
  sem_or_dash (Some s) = sem_name s

  abbrev pub sem_names : List ℕ → Piece
  sem_names ss = flat_map (λ s. 32 ∷ sem_name s) ss
