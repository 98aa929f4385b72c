-- Tasks, semaphores and numbers as one character each.
use Rattle.std.specs.Prelude.{ℕ, ◌-◌, List, codes, slice_index_or}

abbrev pub task_letters : List ℕ
task_letters = codes "ABCDEFGHIJKLMNOPQRSTUVWXYZabcdefghijklmnopqrstuvwxyz0123456789"

abbrev pub sem_letters : List ℕ
sem_letters = codes "abcdefghijklmnopqrstuvwxyzABCDEFGHIJKLMNOPQRSTUVWXYZ0123456789"

abbrev pub number_letters : List ℕ
number_letters = codes "0123456789abcdefghijklmnopqrstuvwxyzABCDEFGHIJKLMNOPQRSTUVWXYZ"

-- behind the letters there is a star for all that follow
abbrev pub letter_in : List ℕ → ℕ → ℕ
letter_in letters i = slice_index_or letters i 42

-- tasks and semaphores are numbered from 1; processors and budgets are numbers from 0 on
unfoldable pub task_letter : ℕ → ℕ
task_letter t = letter_in task_letters (t - 1)

unfoldable pub sem_letter : ℕ → ℕ
sem_letter s = letter_in sem_letters (s - 1)

unfoldable pub number_letter : ℕ → ℕ
number_letter n = letter_in number_letters n
