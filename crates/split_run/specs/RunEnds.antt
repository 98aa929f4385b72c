-- What a split run comes to in which each processor has played its script.
use Rattle.rt_task.specs.declared.Parts.{Parts}
use Rattle.split_part.specs.Ends.{AllPlayed, EndOf, IsSplitEnd}

pub record IsRunEnd (p : Parts) (e : EndOf) : Type 0 where
  pub is_end : IsSplitEnd p e
  pub played : AllPlayed p e
