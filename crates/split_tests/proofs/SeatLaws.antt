-- The seats of a run, of which one was stepped.
use Rattle.std.proofs.Common.{◌≡◌, ◌≢◌, ℕ, ◌<◌, List, get_or, length, set, sym, ap, ◌∙◌, subst, arith, eqb-true, refl}
use Rattle.std.specs.Prelude.{◌==◌, Bool, true, false, Result, Ok, Err, IfOk, IfErr}
use Rattle.std.proofs.lemmas.List.{get_or-set_other, get_or-set_same, length-set}
use Rattle.rt_rules.proofs.MemberLaws.{equal_self}
use Rattle.rt_base.specs.declared.NoMemory.{NoMemory}
use Rattle.part_seat.specs.PartSeats.{PartSeatView, with_room}
use Rattle.part_seat.specs.Steps.{IsStep}
use Rattle.part_seat.specs.declared.passed.Played2.{Played2}
use Rattle.split_part.specs.Splits.{AreSeatsOf, IsSeatOf, SplitOf}

-- a step leaves the seat that of its processor
pub same-cpu : (r : Result Played2 NoMemory) (a a' : PartSeatView) → IfOk r (λ p. IsStep p a a') → IfErr r (λ _. a' ≡ with_room a'.part.room a) → a'.part.cpu ≡ a.part.cpu
same-cpu (Ok p) a a' step memory = step.same.cpu
same-cpu (Err e) a a' step memory = ap (λ (b : PartSeatView). b.part.cpu) memory

pub one-stepped : (x : SplitOf) (seats : List PartSeatView) (q : ℕ) (a d : PartSeatView) → AreSeatsOf x seats → q < length seats → IsSeatOf x a
    → a.part.cpu ≡ (get_or seats q d).part.cpu → AreSeatsOf x (set seats q a)
one-stepped x seats q a d are low is cpu = record {
  count = length-set seats q a ∙ are.count;
  each = λ r e high. at r e (let l = length-set seats q a in omega (arith, l, high)) (r == q) refl;
}
  where
    at : (r : ℕ) (e : PartSeatView) → r < length seats → (b : Bool) → r == q ≡ b → IsSeatOf x (get_or (set seats q a) r e) × ((get_or (set seats q a) r e).part.cpu ≡ r)
    at r e high true same =
        let k : q ≡ r = sym (eqb-true r q same) in
        subst (λ n. IsSeatOf x (get_or (set seats q a) n e) × ((get_or (set seats q a) n e).part.cpu ≡ n)) k
        (let here = get_or-set_same seats q a e low in
        (subst (λ b. IsSeatOf x b) (sym here) is, ap (λ (b : PartSeatView). b.part.cpu) here ∙ cpu ∙ (are.each q d low).1))
    at r e high false other =
        let there = get_or-set_other seats q r a e (apart r other) in
        (subst (λ b. IsSeatOf x b) (sym there) (are.each r e high).0, ap (λ (b : PartSeatView). b.part.cpu) there ∙ (are.each r e high).1)
      where
        apart : (n : ℕ) → n == q ≡ false → n ≢ q
        apart n k e = let t = equal_self q in let u = ap (λ m. m == q) e in cc
