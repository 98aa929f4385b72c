-- Numbers of semaphores as plain numbers.
use Rattle.std.specs.Prelude.{ℕ, List, map, Option, option_map}
use Rattle.rt_base.specs.declared.SemNo.{SemNo}

abbrev pub number_of_sem : Option SemNo → Option ℕ
number_of_sem o = option_map (λ (s : SemNo). s.0) o

abbrev pub sem_numbers : List SemNo → List ℕ
sem_numbers ss = map (λ (s : SemNo). s.0) ss
