-- What asking and freeing do to the line.
use Rattle.std.proofs.Common.{◌≡◌, ℕ, ◌<◌, ◌≤◌, true, false, ◌⊎◌, inl, inr, eqb-true, List, [], ◌∷◌, ◌++◌, length, sym, ◌∙◌, arith}
use Rattle.std.specs.Prelude.{◌==◌}
use Rattle.rt_rules.specs.Numbers.{has, rest}
use Rattle.rt_rules.proofs.PlacingLaws.{either}
use Rattle.rt_rules.proofs.MemberLaws.{has-push, has-rest}
use Rattle.rt_rules.proofs.DistinctLaws.{distinct-append, distinct-rest, length-few}
use Rattle.fmlp_sem.specs.FmlpLine.{IsRoomy}

-- a task that is not in the line has a place in it
pub room_for : (room capacity : ℕ) (line : List ℕ) (t : ℕ) → IsRoomy room capacity line → t < room → has t line ≡ false → length line < capacity
room_for room capacity line t ok below outside =
    let few : length (t ∷ line) ≤ room = length-few room (t ∷ line) (outside, ok.once) (λ u h. under u (either (u == t) (has u line) h)) in
    omega (arith, ok.reserved)
  where
    under : (u : ℕ) → (u == t ≡ true) ⊎ (has u line ≡ true) → u < room
    under u (inl m) = let e : u ≡ t = eqb-true u t m in omega arith
    under u (inr m) = ok.below u m

pub roomy-push : (room capacity : ℕ) (line : List ℕ) (t capacity' : ℕ) → IsRoomy room capacity line → t < room → has t line ≡ false → capacity ≤ capacity' → IsRoomy room capacity' (line ++ t ∷ [])
roomy-push room capacity line t capacity' ok below outside grows = record {
  once = distinct-append t line ok.once outside;
  below = λ u h. under u (either (u == t) (has u line) (sym (has-push u t line) ∙ h));
  reserved = omega (arith, ok.reserved);
  limit = ok.limit;
}
  where
    under : (u : ℕ) → (u == t ≡ true) ⊎ (has u line ≡ true) → u < room
    under u (inl m) = let e : u ≡ t = eqb-true u t m in omega arith
    under u (inr m) = ok.below u m

pub roomy-rest : (room capacity : ℕ) (line : List ℕ) → IsRoomy room capacity line → IsRoomy room capacity (rest line)
roomy-rest room capacity line ok = record {
  once = distinct-rest line ok.once;
  below = λ u h. ok.below u (has-rest u line h);
  reserved = ok.reserved;
  limit = ok.limit;
}
