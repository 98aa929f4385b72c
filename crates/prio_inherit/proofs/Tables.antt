-- What is kept while a task ceases or begins to wait.
use Rattle.std.proofs.Common.{◌≡◌, ℕ, ◌+◌, ◌-◌, ◌<◌, ◌≤◌, ◌^◌, true, List, length, get_or, set, sym, ap, ◌∙◌, subst, arith, length-set, get_or-set_same}
use Rattle.std.specs.Prelude.{Option, None, Some, is_some}
use Rattle.std.proofs.lemmas.List.{get_or_read}
use Rattle.rt_base.specs.declared.TaskNo.{TaskNo}
use Rattle.rt_base.specs.TaskNos.{number_of_task, numbers_of_tasks}
use Rattle.rt_rules.specs.declared.Key.{Key}
use Rattle.rt_rules.specs.KeyOrder.{higher}
use Rattle.sem_laws.specs.KeptKeys.{key_at}
use Rattle.prio_inherit.specs.Counts.{IsCounted, IsTable}
use Rattle.prio_inherit.specs.Local.{IsLocal, IsSettling}
use Rattle.prio_inherit.specs.Waits.{next_of}
use Rattle.prio_inherit.proofs.Counting.{count-some, counted-cut, count-fits, counted-join}
use Rattle.prio_inherit.proofs.Settling.{told-below, next_of-numbers, length-numbers, settle-cut, local-cut}

-- a task waits no longer for that one
pub record IsCut (bases : List (Option Key)) (nexts : List (Option ℕ)) (keys : List Key) (counts : List ℕ) (t h : ℕ) : Type 0 where
  pub settling : IsSettling bases (set nexts t None) keys (Some h)
  pub counted : IsCounted (set nexts t None) counts
  pub within : t < length (set nexts t None)
  pub lower : higher (key_at keys h) (key_at keys t) ≡ true → IsLocal bases (set nexts t None) keys h

module _ (bases : List (Option Key)) (os : List (Option TaskNo)) (boosts : List (Option Key)) (keys : List Key) (counts : List ℕ) (ok : IsTable bases (numbers_of_tasks os) boosts keys counts) (t : ℕ) (h : TaskNo) (r : Option TaskNo) (told : is_some (get_or bases t None) ≡ true) (read : r ≡ get_or os t r) (held : r ≡ Some h) (n : ℕ) (count : n ≡ get_or counts h.0 n) where
  below : t < length (numbers_of_tasks os)
  below = omega (arith, told-below bases t told, ok.inherit.bases_length)

  leaves : next_of (numbers_of_tasks os) t ≡ Some h.0
  leaves = next_of-numbers os t ∙ ap number_of_task (sym (get_or_read os t r (omega (arith, below, length-numbers os)) read None) ∙ held)

  held-below : h.0 < length (numbers_of_tasks os)
  held-below = ok.inherit.within t h.0 leaves

  kept : n ≡ get_or counts h.0 0
  kept = get_or_read counts h.0 n (omega (arith, held-below, ok.counted.counts_length)) count 0

  pub is-waited : 1 ≤ n
  is-waited = omega (arith, kept, count-some (numbers_of_tasks os) counts ok.counted t h.0 below held-below leaves)

  pub cut : IsCut bases (numbers_of_tasks os) keys (set counts h.0 (n - 1)) t h.0
  cut = record {
    settling = subst (IsSettling bases (set (numbers_of_tasks os) t None) keys) leaves (settle-cut bases (numbers_of_tasks os) boosts keys ok.inherit t);
    counted = counted-cut (numbers_of_tasks os) counts ok.counted t h.0 below held-below leaves (n - 1) (omega (arith, is-waited, kept));
    within = omega (arith, below, length-set {A = Option ℕ} (numbers_of_tasks os) t None);
    lower = local-cut bases (numbers_of_tasks os) boosts keys ok.inherit t h.0 leaves;
  }

-- a task waits for that one, after it was taken from the one before
module _ (bases : List (Option Key)) (nexts : List (Option ℕ)) (boosts : List (Option Key)) (keys : List Key) (counts : List ℕ) (bases' : List (Option Key)) (nexts' : List (Option ℕ)) (t h : ℕ) (ok : IsTable bases nexts boosts keys counts) (same : bases ≡ bases') (taken : nexts ≡ set nexts' t None) (told : is_some (get_or bases' t None) ≡ true) (told' : is_some (get_or bases' h None) ≡ true) (n : ℕ) (count : n ≡ get_or counts h n) where
  waits-below : t < length nexts
  waits-below = omega (arith, told-below bases' t told, ap length same, ok.inherit.bases_length)

  holds-below : h < length nexts
  holds-below = omega (arith, told-below bases' h told', ap length same, ok.inherit.bases_length)

  free : next_of nexts t ≡ None
  free = ap (λ ns. next_of ns t) taken ∙ get_or-set_same nexts' t None None (omega (arith, waits-below, ap length taken, length-set {A = Option ℕ} nexts' t None))

  kept-count : n ≡ get_or counts h 0
  kept-count = get_or_read counts h n (omega (arith, holds-below, ok.counted.counts_length)) count 0

  pub joins-fit : n + 1 < 2 ^ 32
  joins-fit = omega (arith, kept-count, count-fits nexts counts ok.counted t h waits-below holds-below free)

  pub joins-counted : IsCounted (set nexts t (Some h)) (set counts h (n + 1))
  joins-counted = counted-join nexts counts ok.counted t h waits-below holds-below free (n + 1) (ap (λ (i : ℕ). i + 1) kept-count)
