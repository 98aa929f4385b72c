-- Suspension-oblivious blocking (Brandenburg and Anderson, RTSS 2010), and the critical sections that end while a request waits.
use Rattle.std.specs.Prelude.{ℕ, ◌+◌, ◌-◌, ◌*◌, Bool, false, ◌&&◌, ◌==◌, nat_lt, List, [], ◌∷◌, ◌++◌, length, Option, None, Some}
use Rattle.std.specs.Prelude.{if◌then◌else◌, is_some, count_by}
use Rattle.rt_task.specs.declared.Protocol.{Protocol}
use Rattle.rt_task.specs.declared.Protocol.TheVariants.{Fmlp, Omlp}
use Rattle.rt_rules.specs.KeyOrder.{higher}
use Rattle.rt_rules.specs.Numbers.{is}
use Rattle.rt_rules.specs.SemState.{SemAct, Asks, Frees}
use Rattle.rt_model.specs.BaseKeys.{base_key}
use Rattle.rt_model.specs.Group.{Group, cpus, home, tasks_of, users, protocol}
use Rattle.rt_model.specs.Holders.{awaits}
use Rattle.rt_model.specs.Past.{Past, sem_act, entries_in}
use Rattle.rt_model.specs.Releases.{exists}

module _ (g : Group) where
  -- a task waits, and fewer than m tasks of its cluster have a current job with a higher base key
  unfoldable pub is_blocked : ℕ → Past → Bool
  is_blocked t past =
      let above = count_by (λ u. exists g u past && higher (base_key g u past) (base_key g t past)) (tasks_of g (home g t)) in
      is_some (awaits g t past) && nat_lt above (cpus g (home g t))

-- a request is an accepted Lock; it goes by its entry's number
abbrev pub asks : ℕ → SemAct → Bool
asks t (Asks u s) = t == u
asks t _ = false

unfoldable pub newest_request : ℕ → Past → Option ℕ
newest_request t [] = None
newest_request t (e ∷ past) = if asks t (sem_act e) then Some (entries_in past) else newest_request t past

abbrev pub frees : ℕ → SemAct → Bool
frees s (Frees u r) = s == r
frees s _ = false

module _ (g : Group) where
  -- the request has not been granted yet: its task waits, and has asked for nothing since
  unfoldable pub is_open : ℕ → ℕ → ℕ → Past → Bool
  is_open r t s past = is s (awaits g t past) && is r (newest_request t past)

  -- how many critical sections of the semaphore ended while the request was open, and how many of them while its task was
  -- priority-blocked
  unfoldable pub ends_all : ℕ → ℕ → ℕ → Past → ℕ
  ends_all r t s [] = 0
  ends_all r t s (e ∷ past) = if frees s (sem_act e) && is_open r t s past then ends_all r t s past + 1 else ends_all r t s past

  unfoldable pub ends : ℕ → ℕ → ℕ → Past → ℕ
  ends r t s [] = 0
  ends r t s (e ∷ past) =
      if frees s (sem_act e) && (is_open r t s past && is_blocked g t past) then ends r t s past + 1 else ends r t s past

  -- the bound on these, under OMLP (Brandenburg and Anderson, RTSS 2010) on `ends`, under FMLP (Block, Leontyev, Brandenburg and
  -- Anderson, RTCSA 2007) on both
  unfoldable pub bound_by : Protocol → ℕ → ℕ → Option ℕ
  bound_by Omlp t s = Some (2 * cpus g (home g t) - 1)
  bound_by Fmlp t s = Some (length (users g s) - 1)
  bound_by _ t s = None

  unfoldable pub bound : ℕ → ℕ → Option ℕ
  bound t s = bound_by (protocol g s) t s

-- the requests of a past, in order of asking
pub record Asked : Type 0 where
  pub no : ℕ
  pub task : ℕ
  pub sem : ℕ

abbrev pub asked_by : SemAct → ℕ → List Asked → List Asked
asked_by (Asks t s) n rs = rs ++ record { no = n; task = t; sem = s } ∷ []
asked_by _ n rs = rs

unfoldable pub requests : Past → List Asked
requests [] = []
requests (e ∷ past) = asked_by (sem_act e) (entries_in past) (requests past)
