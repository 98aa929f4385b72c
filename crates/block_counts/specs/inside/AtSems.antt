-- What an entry does at a semaphore, as definitions speak of it.
use Rattle.rt_rules.specs.SemState.{SemAct, Asks, Frees, Neither}
use Rattle.block_counts.specs.declared.at_sem.AtSem.{AtSem}
use Rattle.block_counts.specs.declared.at_sem.AtSem.TheVariants as does

-- asking and freeing, by numbers
abbrev pub sem_act_of : AtSem → SemAct
sem_act_of (does.Asks t s) = Asks t.0 s.0
sem_act_of (does.Frees t s) = Frees t.0 s.0
sem_act_of does.Neither = Neither
