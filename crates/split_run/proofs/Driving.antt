-- The seats of a run, once each has played its script, and what the run has come to.
use Rattle.std.proofs.Common.{◌≡◌, ℕ, ◌<◌, List, [], ◌∷◌, ◌++◌, length, map, get_or, sym, ap, ◌∙◌, subst, arith, append_assoc}
use Rattle.std.specs.Prelude.{IfOk, Result, Ok, Err}
use Rattle.std.proofs.lemmas.List.{append-nil, get_or-map, length-map, map_push, nil_from_length}
use Rattle.rt_base.specs.declared.NoMemory.{NoMemory}
use Rattle.rt_task.specs.declared.Parts.{Parts}
use Rattle.split_rules.specs.PartHistories.{steps_of}
use Rattle.part_player.specs.Players.{own_script}
use Rattle.part_seat.specs.PartSeats.{PartSeatView}
use Rattle.part_seat.specs.Steps.{IsStep}
use Rattle.part_seat.specs.declared.passed.Played2.TheVariants.{Ended}
use Rattle.split_part.specs.Ends.{AllPlayed, EndOf, IsSplitEnd}
use Rattle.split_part.specs.Splits.{AreSeatsOf, IsSeatOf, SplitOf}
use Rattle.split_writer.specs.PartPlays.{ArePartPlays}
use Rattle.split_run.specs.inside.Driven.{AreAnswered, AreDriven, IsDriven}
use Rattle.split_run.specs.RunEnds.{IsRunEnd}

-- a step that finds none left
pub ended : (x : SplitOf) (first before after : PartSeatView) → IsSeatOf x before → before.part.cpu ≡ first.part.cpu → IsStep Ended before after → IsSeatOf x after → IsDriven x first after
ended x first before after was cpu step is = record {
  seat = is;
  cpu_is = step.same.cpu ∙ cpu;
  played =
      ap (steps_of first.part.cpu) step.step.0
      ∙ ap (λ q. steps_of q before.part.entries) (sym cpu)
      ∙ step.step.2
      ∙ ap (λ p. own_script p before.part.cpu) was.setup
      ∙ ap (own_script x.setup) cpu;
}

-- ---- the seats for which memory did not run out

abbrev oks : List PartSeatView → List (Result PartSeatView NoMemory)
oks seats = map (λ a. Ok a) seats

pub one-more : (runs : List (Result PartSeatView NoMemory)) (seats seats' : List PartSeatView) (rest rest' : List (Result PartSeatView NoMemory)) (r : Result PartSeatView NoMemory) (a : PartSeatView)
    → runs ≡ oks seats ++ rest → rest ≡ r ∷ rest' → r ≡ Ok a → seats' ≡ seats ++ a ∷ [] → runs ≡ oks seats' ++ rest'
one-more runs seats seats' rest rest' r a are next is more =
    are
    ∙ ap (λ l. oks seats ++ l) (next ∙ ap (λ y. y ∷ rest') is)
    ∙ sym (append_assoc (oks seats) (Ok a ∷ []) rest')
    ∙ ap (λ l. l ++ rest') (sym (map_push (λ b. let y : Result PartSeatView NoMemory = Ok b in y) seats a))
    ∙ ap (λ l. oks l ++ rest') (sym more)

pub all-there : (runs : List (Result PartSeatView NoMemory)) (seats : List PartSeatView) (rest : List (Result PartSeatView NoMemory)) → runs ≡ oks seats ++ rest → length rest ≡ 0 → runs ≡ oks seats
all-there runs seats rest are none = are ∙ ap (λ l. oks seats ++ l) (nil_from_length rest none) ∙ append-nil (oks seats)

module _ (x : SplitOf) (seats : List PartSeatView) (are : AreSeatsOf x seats) (runs : List (Result PartSeatView NoMemory)) (answered : AreAnswered x seats runs) where
  module _ (after : List PartSeatView) (is : runs ≡ oks after) where
    long : length after ≡ length seats
    long = let m = ap length is ∙ length-map after (λ a. let y : Result PartSeatView NoMemory = Ok a in y) in let n = answered.all in omega (arith, m, n)

    driven-at : (q : ℕ) (d : PartSeatView) → q < length after → IsDriven x (get_or seats q d) (get_or after q d)
    driven-at q d low =
        let same : get_or runs q (Ok d) ≡ Ok (get_or after q d) = ap (λ l. get_or l q (Ok d)) is ∙ get_or-map (λ a. let y : Result PartSeatView NoMemory = Ok a in y) after q d (Ok d) low in
        let all = long in
        subst (λ (r : Result PartSeatView NoMemory). IfOk r (λ a. IsDriven x (get_or seats q d) a)) same (answered.each q d (Ok d) (omega (arith, low, all)))

    cpu-at : (q : ℕ) (d : PartSeatView) → q < length after → (get_or seats q d).part.cpu ≡ q
    cpu-at q d low = let all = long in (are.each q d (omega (arith, low, all))).1

    all-driven : AreDriven x after
    all-driven = record {
      seats_are = record {
        count = long ∙ are.count;
        each = λ q d low. ((driven-at q d low).seat, (driven-at q d low).cpu_is ∙ cpu-at q d low);
      };
      played = λ q d low. subst (λ n. steps_of n (get_or after q d).part.entries ≡ own_script x.setup n) (cpu-at q d low) (driven-at q d low).played;
    }

  pub seats-driven : {X : Type 0} (items : X → List PartSeatView) (r : Result X NoMemory) → IfOk r (λ v. runs ≡ oks (items v)) → IfOk r (λ v. AreDriven x (items v))
  seats-driven items (Ok v) is = all-driven (items v) is
  seats-driven items (Err e) is = is

-- ---- the end

pub run-end : {X : Type 0} (p : Parts) (end : X → EndOf) (r : Result X NoMemory) → IfOk r (λ v. IsSplitEnd p (end v)) → IfOk r (λ v. AllPlayed p (end v)) → IfOk r (λ v. IsRunEnd p (end v))
run-end p end (Ok v) is played = record { is_end = is; played = played }
run-end p end (Err e) is played = is

-- its partitions can be written
pub part-plays : (p : Parts) (e : EndOf) → IsRunEnd p e → ArePartPlays p e.parts
part-plays p e end =
    let count = end.is_end.part_count in
    record {
      count = count;
      each = λ q low. record { legal = end.is_end.parts_legal q (omega (arith, low, count)); script_is = end.played q (omega (arith, low, count)) };
    }
