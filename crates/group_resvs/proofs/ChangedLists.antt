-- The list of changed clients: it grows reservation by reservation, and where one alone changes it is that of the one.
use Rattle.std.proofs.Common.{◌≡◌, ℕ, true, zero, suc, ◌+◌, ◌<◌, List, [], ◌∷◌, ◌++◌, length, get_or, set, take, refl, sym, ap, ◌∙◌, arith}
use Rattle.std.specs.Prelude.{Option, None, Some}
use Rattle.rt_rules.proofs.MemberLaws.{equal_self}
use Rattle.rt_rules.specs.Numbers.{same}
use Rattle.group_resvs.specs.GroupResvs.{all_changed, changed_of}

append-nil : (xs : List ℕ) → xs ≡ xs ++ []
append-nil [] = refl
append-nil (x ∷ xs) = ap (λ ys. x ∷ ys) (append-nil xs)

append-three : (xs ys zs : List ℕ) → xs ++ (ys ++ zs) ≡ (xs ++ ys) ++ zs
append-three [] ys zs = refl
append-three (x ∷ xs) ys zs = ap (λ ws. x ∷ ws) (append-three xs ys zs)

more : (os ns : List (Option ℕ)) (i : ℕ) → i < length os → i < length ns
    → all_changed (take (suc i) os) (take (suc i) ns) ≡ all_changed (take i os) (take i ns) ++ changed_of (get_or os i None) (get_or ns i None)
more [] ns i low low' = absurd (omega arith)
more (o ∷ os) [] i low low' = absurd (omega arith)
more (o ∷ os) (n ∷ ns) zero low low' = sym (append-nil (changed_of o n))
more (o ∷ os) (n ∷ ns) (suc i) low low' =
    ap (λ ws. changed_of o n ++ ws) (more os ns i (omega (arith, low)) (omega (arith, low')))
    ∙ append-three (changed_of o n) (all_changed (take i os) (take i ns)) (changed_of (get_or os i None) (get_or ns i None))

pub all_changed-more : (os ns : List (Option ℕ)) (i : ℕ) → i < length os → i < length ns
    → all_changed (take (i + 1) os) (take (i + 1) ns) ≡ all_changed (take i os) (take i ns) ++ changed_of (get_or os i None) (get_or ns i None)
all_changed-more os ns i low low' =
    let on : i + 1 ≡ suc i = omega arith in
    ap (λ n. all_changed (take n os) (take n ns)) on ∙ more os ns i low low'

-- ---- where nothing changes, and where one does

same-self : (o : Option ℕ) → same o o ≡ true
same-self None = refl
same-self (Some t) = equal_self t

changed_of-self : (o : Option ℕ) → changed_of o o ≡ []
changed_of-self o = rw (same-self o) refl

pub all_changed-self : (os : List (Option ℕ)) → all_changed os os ≡ []
all_changed-self [] = refl
all_changed-self (o ∷ os) = rw (changed_of-self o) (all_changed-self os)

pub all_changed-set : (os : List (Option ℕ)) (i : ℕ) (n : Option ℕ) → i < length os → all_changed os (set os i n) ≡ changed_of (get_or os i None) n
all_changed-set [] i n low = absurd (omega arith)
all_changed-set (o ∷ os) zero n low = rw (all_changed-self os) (sym (append-nil (changed_of o n)))
all_changed-set (o ∷ os) (suc i) n low = rw (changed_of-self o) (all_changed-set os i n (omega (arith, low)))
