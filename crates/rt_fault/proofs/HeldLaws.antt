-- What a sink tells over several writes.
use Rattle.std.proofs.Common.{◌≡◌, ℕ, ◌+◌, ◌-◌, Bool, true, false, nat_le, List, [], ◌++◌, length, take, drop, Option, None, Some, if◌then◌else◌, refl, arith, append_assoc, append-nil, length-append}
use Rattle.std.proofs.lemmas.Bool.Decides.{nat_tests}
use Rattle.std.proofs.lemmas.List.{take-append-le, take-append-drop, take_all}
use Rattle.std.proofs.Math.Seq.{take-append_seam}
use Rattle.rt_fault.specs.Held.{Held, Untold, Told, Over, Extends, ExtendsByPrefix, Stays, fits, spare_after}

-- no byte came
pub Extends-none : (h : Held) → Extends h h []
Extends-none Untold = tt
Extends-none (Told xs None) = simp append-nil
Extends-none (Told xs (Some s)) = simp append-nil (grind (arith, nat_tests))
Extends-none Over = refl

-- where the first text fits, the two fit exactly where the second fits in what is left
fits-append : (s a b : ℕ) → nat_le a s ≡ true → nat_le b (s - a) ≡ nat_le (a + b) s
fits-append s a b h = grind (arith, nat_tests)

-- where the first text does not fit, the two do not
fits-append_over : (s a b : ℕ) → nat_le a s ≡ false → nat_le (a + b) s ≡ false
fits-append_over s a b h = grind (arith, nat_tests)

-- the two texts, by whether the first fits
extends_by_case :
    (t : Bool) (s : ℕ) (l xs ys : List ℕ) (b c : Held) → nat_le (length xs) s ≡ t
    → Extends (Told l (Some s)) b xs → Extends b c ys → Extends (Told l (Some s)) c (xs ++ ys)
extends_by_case true s l xs ys b c h p q =
    let b_is : b ≡ Told (l ++ xs) (Some (s - length xs)) = rw h at p in
    let c_is = rw b_is at q in
    let spare_is : s - (length xs + length ys) ≡ s - length xs - length ys = omega arith in
    rw (length-append, ← fits-append s (length xs) (length ys) h, spare_is, ← append_assoc) c_is
extends_by_case false s l xs ys b c h p q =
    let b_is : b ≡ Over = rw h at p in
    let c_is : c ≡ Over = rw b_is at q in
    simp (length-append, fits-append_over s (length xs) (length ys) h) c_is

-- one text, then another
pub Extends-append : (a b c : Held) (xs ys : List ℕ) → Extends a b xs → Extends b c ys → Extends a c (xs ++ ys)
Extends-append Untold b c xs ys p q = tt
Extends-append (Told l None) b c xs ys p q = rw (← append_assoc) (rw p at q)
Extends-append (Told l (Some s)) b c xs ys p q = extends_by_case (nat_le (length xs) s) s l xs ys b c refl p q
Extends-append Over b c xs ys p q = rw p at q

-- a sink that tells does not come to tell nothing
tells_by_case :
    (t : Bool) (A : Type 0) (l : List ℕ) (spare : Option ℕ) → Untold ≡ (if t then Told l spare else Over) → A
tells_by_case true A l spare e = cc
tells_by_case false A l spare e = cc

-- a text, then no byte
pub Extends-stays : (a b c : Held) (xs : List ℕ) → Extends a b xs → Stays b c → Extends a c xs
Extends-stays Untold b c xs p q = tt
Extends-stays (Told l spare) Untold c xs p q =
    tells_by_case (fits spare (length xs)) (Extends (Told l spare) c xs) (l ++ xs) (spare_after spare (length xs)) p
Extends-stays (Told l spare) (Told m room) c xs p q = rw q p
Extends-stays (Told l spare) Over c xs p q = rw q p
Extends-stays Over Untold c xs p q = cc
Extends-stays Over (Told m room) c xs p q = cc
Extends-stays Over Over c xs p q = q

-- a whole text is a first part of itself
pub ExtendsByPrefix-whole : (a b : Held) (xs : List ℕ) → Extends a b xs → ExtendsByPrefix a b xs
ExtendsByPrefix-whole a b xs p = (length xs, omega arith, rw (take_all (length xs) xs (omega arith)) p)

-- a text that came is a first part of any that begins with it
pub ExtendsByPrefix-front : (a b : Held) (xs front rest : List ℕ) → xs ≡ front ++ rest → Extends a b front → ExtendsByPrefix a b xs
ExtendsByPrefix-front a b xs front rest e p =
    (length front, rw (e, length-append) (omega arith), rw (e, take-append_seam) p)

-- one text, then a first part of another
pub ExtendsByPrefix-append :
    (a b c : Held) (xs ys : List ℕ) → Extends a b xs → ExtendsByPrefix b c ys → ExtendsByPrefix a c (xs ++ ys)
ExtendsByPrefix-append a b c xs ys p (n, within, q) =
    ExtendsByPrefix-front a c (xs ++ ys) (xs ++ take n ys) (drop n ys)
    (rw (append_assoc, take-append-drop)) (Extends-append a b c xs (take n ys) p q)

-- a first part of a text is one of any text that begins with it
pub ExtendsByPrefix-more : (a b : Held) (xs ys : List ℕ) → ExtendsByPrefix a b xs → ExtendsByPrefix a b (xs ++ ys)
ExtendsByPrefix-more a b xs ys (n, within, p) =
    (n, rw length-append (omega arith), rw (take-append-le n xs ys within) p)
