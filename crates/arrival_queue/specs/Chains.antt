-- How the arrivals are kept: all in one list in their order, each with the position of its task's next one.
use Rattle.std.specs.Prelude.{◌≡◌, ◌≢◌, ℕ, suc, ◌<◌, List, [], ◌∷◌, drop, filter, length, map, Option, None, Some, slice_index_or}
use Rattle.std.specs.Prelude.{slice_set, unwrap_or, ◌==◌}
use Rattle.arrival_queue.specs.declared.Arrival.{Arrival}
use Rattle.arrival_queue.specs.declared.Ends.{Ends}

abbrev pub no_arrival : Arrival
no_arrival = record { task = 0; clock = 0; next = None }

abbrev pub no_ends : Ends
no_ends = record { first = None; newest = None }

abbrev pub arrival_at : List Arrival → ℕ → Arrival
arrival_at ns i = slice_index_or ns i no_arrival

-- where the arrival at a position, if there is one, has a next one
abbrev pub followed : List Arrival → Option ℕ → ℕ → List Arrival
followed ns None next = ns
followed ns (Some i) next = slice_set ns i (record (arrival_at ns i) { next = Some next })

-- the clocks of a task's arrivals among some
abbrev pub clocks_of : ℕ → List Arrival → List ℕ
clocks_of t ns = map (λ (a : Arrival). a.clock) (filter (λ (a : Arrival). a.task == t) ns)

-- those of a task that wait: from the first that was not taken on
abbrev pub queue_of : List Arrival → ℕ → Ends → List ℕ
queue_of ns t e = clocks_of t (drop (unwrap_or e.first (length ns)) ns)

abbrev pub queues_from : List Arrival → ℕ → List Ends → List (List ℕ)
queues_from ns t [] = []
queues_from ns t (e ∷ es) = queue_of ns t e ∷ queues_from ns (suc t) es

abbrev pub waiting_of : List Arrival → List Ends → List (List ℕ)
waiting_of ns es = queues_from ns 0 es

-- no arrival from one position on, before another, is of the task
abbrev pub NoneOf : ℕ → List Arrival → ℕ → ℕ → Type 0
NoneOf t ns from to = (i : ℕ) → from < i → i < to → (arrival_at ns i).task ≢ t

-- the next arrival of a task after a position, if there is one
pub record IsNext (ns : List Arrival) (t i : ℕ) (next : Option ℕ) : Type 0 where
  pub none : next ≡ None → NoneOf t ns i (length ns)
  pub after : (j : ℕ) → next ≡ Some j → i < j
  pub inside : (j : ℕ) → next ≡ Some j → j < length ns
  pub same : (j : ℕ) → next ≡ Some j → (arrival_at ns j).task ≡ t
  pub between : (j : ℕ) → next ≡ Some j → NoneOf t ns i j

-- the newest arrival of a task, if there is one
pub record IsNewest (ns : List Arrival) (t : ℕ) (newest : Option ℕ) : Type 0 where
  pub none : newest ≡ None → (i : ℕ) → i < length ns → (arrival_at ns i).task ≢ t
  pub inside : (j : ℕ) → newest ≡ Some j → j < length ns
  pub same : (j : ℕ) → newest ≡ Some j → (arrival_at ns j).task ≡ t
  pub last : (j : ℕ) → newest ≡ Some j → NoneOf t ns j (length ns)

-- the first one that waits, if there is one, is of the task
pub record IsFirst (ns : List Arrival) (t : ℕ) (first : Option ℕ) : Type 0 where
  pub inside : (i : ℕ) → first ≡ Some i → i < length ns
  pub same : (i : ℕ) → first ≡ Some i → (arrival_at ns i).task ≡ t

pub record IsChained (ns : List Arrival) (es : List Ends) : Type 0 where
  pub nexts : (i : ℕ) → i < length ns → IsNext ns (arrival_at ns i).task i (arrival_at ns i).next
  pub newest : (t : ℕ) → t < length es → IsNewest ns t (slice_index_or es t no_ends).newest
  pub first : (t : ℕ) → t < length es → IsFirst ns t (slice_index_or es t no_ends).first
