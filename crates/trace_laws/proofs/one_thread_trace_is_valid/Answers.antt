use Rattle.std.proofs.Common.{refl}
use Rattle.rt_plays.specs.Order.{histories}
use Rattle.rt_plays.proofs.PlayLaws.{orders-are_plays}
use Rattle.trace_laws.proofs.one_thread_trace_is_valid.Goals as goal

pub returns : goal.returns
returns c = λ tools v p text is. record { histories = histories p; plays = orders-are_plays p; text_is = is; count = refl }
