-- An MPCP semaphore as contracts see it.
use Rattle.std.specs.Prelude.{List}
use Rattle.rt_rules.specs.declared.Key.{Key}
use Rattle.rt_rules.specs.SemState.{SemState}

-- who holds and who waits, and the key with which each task below the room asked last
pub record MpcpState : Type 0 where
  pub state : SemState
  pub keys : List Key
