-- How many steps unlock a semaphore.
use Rattle.std.proofs.Common.{◌≡◌, ℕ, zero, suc, ◌+◌, ◌<◌, ◌≤◌, Bool, true, false, List, [], ◌∷◌, length, map, take, refl, ap, arith}
use Rattle.std.specs.Prelude.{◌==◌, ◌&&◌, filter, if◌then◌else◌, slice_index_or}
use Rattle.rt_task.specs.Validity.{IsValid}
use Rattle.rt_task.specs.declared.Act.{Act}
use Rattle.rt_task.specs.declared.Parts.{Parts}
use Rattle.rt_task.specs.declared.Step.{Step}
use Rattle.rt_rules.specs.Numbers.{numbers_from}
use Rattle.rt_plays.specs.Drives.{steps_given}
use Rattle.rt_plays.specs.Room.{processor_count}
use Rattle.rt_plays.specs.Scripts.{script}
use Rattle.split_set.specs.SplitSets.{is_split_set}
use Rattle.split_counts.specs.Room.{is_unlock}
use Rattle.split_inbox.specs.Sums.{sum_of}
use Rattle.split_inbox.specs.declared.TheConstants.{MOST_GRANTS}
use Rattle.split_laws.specs.Counts.{count_steps}
use Rattle.split_turns.proofs.ListLaws.{kept-within, lengths-within, map-same, script-count}
use Rattle.part_player.proofs.OwnParts.{few-steps}
use Rattle.part_seat.specs.PartSeats.{unlocks_of}

-- those of a processor that pass a test, counted one by one
pub counted-more : (test : Act → Bool) (q : ℕ) (xs : List Step) (i : ℕ) (d : Step) → i < length xs
    → count_steps test (script (take (suc i) xs) q) ≡ count_steps test (script (take i xs) q) + (if (slice_index_or xs i d).cpu.0 == q && test (slice_index_or xs i d).act then 1 else 0)
counted-more test q [] i d high = absurd (omega (arith, high))
counted-more test q (x ∷ xs) zero d high = first (x.cpu.0 == q) (test x.act) refl
  where
    first : (b c : Bool) → test x.act ≡ c → count_steps test (if b then x ∷ [] else []) ≡ 0 + (if b && c then 1 else 0)
    first true true e = rw e refl
    first true false e = rw e refl
    first false c e = refl
counted-more test q (x ∷ xs) (suc i) d high = next (x.cpu.0 == q) (counted-more test q xs i d (omega (arith, high)))
  where
    more : ℕ
    more = if (slice_index_or xs i d).cpu.0 == q && test (slice_index_or xs i d).act then 1 else 0

    step : (c : Bool) (m n : ℕ) → m ≡ n + more → (if c then suc m else m) ≡ (if c then suc n else n) + more
    step true m n e = omega (arith, e)
    step false m n e = e

    next : (b : Bool) → count_steps test (script (take (suc i) xs) q) ≡ count_steps test (script (take i xs) q) + more
        → count_steps test (if b then x ∷ script (take (suc i) xs) q else script (take (suc i) xs) q) ≡ count_steps test (if b then x ∷ script (take i xs) q else script (take i xs) q) + more
    next true e = step (test x.act) _ _ e
    next false e = e

-- all processors of a split set together unlock at most as often as an inbox has room for
pub unlocks-few : (p : Parts) → IsValid p → is_split_set p ≡ true → sum_of (unlocks_of p) ≤ MOST_GRANTS
unlocks-few p valid split =
    let uses : List Step = filter (λ (x : Step). is_unlock x.act) (steps_given p.drive) in
    let same = ap sum_of (map-same (λ q. length (script uses q)) (λ q. count_steps is_unlock (script (steps_given p.drive) q)) (λ q. script-count is_unlock q (steps_given p.drive)) (numbers_from 0 (processor_count p))) in
    let within = lengths-within uses 0 (processor_count p) in
    let kept = kept-within is_unlock (steps_given p.drive) in
    let few = few-steps p valid split in
    omega (arith, same, within, kept, few)
