-- MPCP: of the requests that wait for a semaphore, that of the highest base key is granted.
use Rattle.std.specs.Prelude.{◌≡◌, true, false, ◌∷◌}
use Rattle.rt_task.specs.declared.Protocol.TheVariants.{Mpcp}
use Rattle.rt_model.specs.BaseKeys.{above}
use Rattle.rt_model.specs.Blocking.{Asked}
use Rattle.rt_model.specs.Group.{protocol}
use Rattle.rt_laws.specs.EveryPast.{EveryMove}
use Rattle.rt_laws.specs.InOrder.{waits}

-- MPCP (Rajkumar, ICDCS 1990): at the move in which a request is granted after it waited, the base key of its task is higher than that of
-- the task of each request for the semaphore that waits on.
abbrev pub HighestIsGranted : Type 0
HighestIsGranted =
    EveryMove
    (λ g e past. (a b : Asked) → protocol g b.sem ≡ Mpcp → a.sem ≡ b.sem → waits g b past ≡ true → waits g b (e ∷ past) ≡ false →
    waits g a (e ∷ past) ≡ true → above g past b.task a.task ≡ true)
