-- FMLP: requests for a semaphore are served first in, first out.
use Rattle.std.specs.Prelude.{◌≡◌, ◌<◌, Bool, true, false, ◌∷◌, Contains}
use Rattle.rt_task.specs.Validity.{IsValid}
use Rattle.rt_task.specs.declared.Protocol.TheVariants.{Fmlp}
use Rattle.rt_model.specs.Blocking.{Asked, is_open, requests}
use Rattle.rt_model.specs.Group.{Group, protocol}
use Rattle.rt_model.specs.Past.{Past}
use Rattle.rt_model.specs.Reachable.{IsReachable}
use Rattle.rt_laws.specs.EveryPast.{EveryPast, EveryMove}

-- a request has not been granted yet
abbrev pub waits : Group → Asked → Past → Bool
waits g a past = is_open g a.no a.task a.sem past

-- two requests for one FMLP semaphore, the first of which was made before the second
pub record AreInLine (g : Group) (a b : Asked) : Type 0 where
  pub is_fmlp : protocol g a.sem ≡ Fmlp
  pub same_sem : b.sem ≡ a.sem
  pub before : a.no < b.no

-- FMLP (Block, Leontyev, Brandenburg and Anderson, RTCSA 2007): while a request waits, so does each request for its semaphore that was
-- made after it.
abbrev pub LaterRequestsWait : Type 0
LaterRequestsWait =
    EveryPast (λ g past. (a b : Asked) → AreInLine g a b → Contains (requests past) b → waits g a past ≡ true → waits g b past ≡ true)

-- So at the move in which a request is granted after it waited, none that was made before it waits any more.
abbrev pub GrantedInOrder : Type 0
GrantedInOrder =
    EveryMove
    (λ g e past. (a b : Asked) → AreInLine g a b → waits g b past ≡ true → waits g b (e ∷ past) ≡ false → waits g a past ≡ false)

-- two FMLP requests that wait, and then the first has been granted, while the second waits on
pub record StandInLine : Type 0 where
  pub group : Group
  pub earlier : Past
  pub later : Past
  pub is_valid : IsValid group.setup
  pub is_made : IsReachable group earlier
  pub is_made_later : IsReachable group later
  pub a : Asked
  pub b : Asked
  pub in_line : AreInLine group a b
  pub listed : Contains (requests earlier) b
  pub first_waits : waits group a earlier ≡ true
  pub second_waits : waits group b earlier ≡ true
  pub first_granted : waits group a later ≡ false
  pub second_waits_on : waits group b later ≡ true
