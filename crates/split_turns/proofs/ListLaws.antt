-- Lists that are made from numbers, the processors of clusters, and the steps of each processor.
use Rattle.std.proofs.Common.{◌≡◌, ℕ, zero, suc, ◌+◌, ◌<◌, ◌≤◌, Bool, true, false, List, [], ◌∷◌, ◌++◌, length, map, get_or, refl, sym, ap, ◌∙◌, arith, eqb-true, leb-true}
use Rattle.std.proofs.lemmas.List.{map-append}
use Rattle.std.proofs.lemmas.Bool.{leb-false}
use Rattle.std.specs.Prelude.{◌==◌, nat_le, filter, if◌then◌else◌, sum_by}
use Rattle.std.proofs.lemmas.List.Sums.{sum_by-cons}
use Rattle.rt_task.specs.declared.Act.{Act}
use Rattle.rt_task.specs.declared.Cluster.{Cluster}
use Rattle.rt_task.specs.declared.Step.{Step}
use Rattle.rt_rules.specs.Numbers.{numbers_from}
use Rattle.rt_model.specs.Group.{first_in}
use Rattle.rt_plays.specs.Scripts.{script}
use Rattle.split_inbox.specs.Sums.{sum_of}
use Rattle.split_laws.specs.Counts.{count_steps}

numbers-more : (a n : ℕ) → numbers_from a (n + 1) ≡ numbers_from a n ++ (a + n) ∷ []
numbers-more a zero = let e : a ≡ a + 0 = omega arith in ap (λ (k : ℕ). k ∷ []) e
numbers-more a (suc n) =
    let e : suc n + 1 ≡ suc (n + 1) = omega arith in
    let f : suc a + n ≡ a + suc n = omega arith in
    ap (numbers_from a) e ∙ ap (λ (l : List ℕ). a ∷ l) (numbers-more (suc a) n) ∙ ap (λ (k : ℕ). a ∷ (numbers_from (suc a) n ++ k ∷ [])) f

-- one element more
pub mapped-more : {A : Type 0} (f : ℕ → A) (n : ℕ) (xs ys : List A) (x : A) → ys ≡ xs ++ x ∷ [] → xs ≡ map f (numbers_from 0 n) → x ≡ f n
    → ys ≡ map f (numbers_from 0 (n + 1))
mapped-more f n xs ys x more so_far is =
    let e : 0 + n ≡ n = omega arith in
    more ∙ ap (λ zs. zs ++ x ∷ []) so_far ∙ ap (λ z. map f (numbers_from 0 n) ++ z ∷ []) is
    ∙ sym (ap (map f) (numbers-more 0 n) ∙ map-append f (numbers_from 0 n) ((0 + n) ∷ []) ∙ ap (λ m. map f (numbers_from 0 n) ++ f m ∷ []) e)

pub length-mapped : {A : Type 0} (f : ℕ → A) (a n : ℕ) → length (map f (numbers_from a n)) ≡ n
length-mapped f a zero = refl
length-mapped f a (suc n) = ap suc (length-mapped f (suc a) n)

pub map-same : {A : Type 0} (f h : ℕ → A) → ((q : ℕ) → f q ≡ h q) → (qs : List ℕ) → map f qs ≡ map h qs
map-same f h same [] = refl
map-same f h same (q ∷ qs) = ap (λ y. y ∷ map f qs) (same q) ∙ ap (λ l. h q ∷ l) (map-same f h same qs)

-- ---- the first processor of a cluster

abbrev pub cpus_of : Cluster → ℕ
cpus_of k = k.cpus

pub first-none : (ks : List Cluster) → first_in ks 0 ≡ 0
first-none [] = refl
first-none (k ∷ ks) = refl

pub first-more : (ks : List Cluster) (c : ℕ) (d : Cluster) → c < length ks → first_in ks (c + 1) ≡ first_in ks c + (get_or ks c d).cpus
first-more [] c d h = absurd (omega arith)
first-more (k ∷ ks) zero d h = let n : first_in ks 0 ≡ 0 = first-none ks in omega (arith, n)
first-more (k ∷ ks) (suc c) d h =
    let e : suc c + 1 ≡ suc (c + 1) = omega arith in
    let r : first_in ks (c + 1) ≡ first_in ks c + (get_or ks c d).cpus = first-more ks c d (omega arith) in
    rw e (omega (arith, r))

pub first-within : (ks : List Cluster) (c : ℕ) (d : Cluster) → c < length ks → first_in ks c + (get_or ks c d).cpus ≤ sum_by cpus_of ks
first-within [] c d h = absurd (omega arith)
first-within (k ∷ ks) zero d h = omega (arith, sum_by-cons cpus_of k ks)
first-within (k ∷ ks) (suc c) d h = let r : first_in ks c + (get_or ks c d).cpus ≤ sum_by cpus_of ks = first-within ks c d (omega arith) in omega (arith, r, sum_by-cons cpus_of k ks)

-- a cluster past the last has all processors before it
pub first-past : (ks : List Cluster) (c e : ℕ) → length ks ≤ c → length ks ≤ e → first_in ks c ≡ first_in ks e
first-past [] c e h k = refl
first-past (x ∷ ks) zero e h k = absurd (omega arith)
first-past (x ∷ ks) (suc c) zero h k = absurd (omega arith)
first-past (x ∷ ks) (suc c) (suc e) h k = ap (λ n. x.cpus + n) (first-past ks c e (omega arith) (omega arith))

-- ---- the steps of a processor

-- those that pass a test, of one processor, are counted by the test in its script
pub script-count : (test : Act → Bool) (q : ℕ) (xs : List Step) → length (script (filter (λ (x : Step). test x.act) xs) q) ≡ count_steps test (script xs q)
script-count test q [] = refl
script-count test q (x ∷ xs) = by_both (test x.act) (x.cpu.0 == q) refl refl (script-count test q xs)
  where
    by_both : (a b : Bool) → test x.act ≡ a → x.cpu.0 == q ≡ b → length (script (filter (λ (y : Step). test y.act) xs) q) ≡ count_steps test (script xs q)
        → length (script (if a then x ∷ filter (λ (y : Step). test y.act) xs else filter (λ (y : Step). test y.act) xs) q) ≡ count_steps test (if b then x ∷ script xs q else script xs q)
    by_both true true h k e = rw (h, k) (ap suc e)
    by_both true false h k e = rw k e
    by_both false true h k e = rw h e
    by_both false false h k e = e

abbrev one_if : Bool → ℕ
one_if b = if b then 1 else 0

script-more : (x : Step) (xs : List Step) (q : ℕ) → length (script (x ∷ xs) q) ≡ one_if (x.cpu.0 == q) + length (script xs q)
script-more x xs q = by_cpu (x.cpu.0 == q)
  where
    by_cpu : (b : Bool) → length (if b then x ∷ script xs q else script xs q) ≡ one_if b + length (script xs q)
    by_cpu true = omega arith
    by_cpu false = omega arith

abbrev pub lengths : List Step → ℕ → ℕ → List ℕ
lengths xs a n = map (λ q. length (script xs q)) (numbers_from a n)

-- a step is of one processor, and of none below the first one asked for where its own is
at-least : (c a : ℕ) → one_if (c == a) + one_if (nat_le (suc a) c) ≤ one_if (nat_le a c)
at-least c a = by_all (c == a) (nat_le (suc a) c) (nat_le a c) refl refl refl
  where
    by_all : (x y z : Bool) → c == a ≡ x → nat_le (suc a) c ≡ y → nat_le a c ≡ z → one_if x + one_if y ≤ one_if z
    by_all true true z h k m = let e = eqb-true c a h in let l = leb-true (suc a) c k in absurd (omega (arith, e, l))
    by_all true false true h k m = omega arith
    by_all true false false h k m = let e = eqb-true c a h in let l = leb-false a c m in absurd (omega (arith, e, l))
    by_all false true true h k m = omega arith
    by_all false true false h k m = let e = leb-true (suc a) c k in let l = leb-false a c m in absurd (omega (arith, e, l))
    by_all false false z h k m = omega arith

lengths-more : (x : Step) (xs : List Step) (a n : ℕ) → sum_of (lengths (x ∷ xs) a n) ≤ one_if (nat_le a x.cpu.0) + sum_of (lengths xs a n)
lengths-more x xs a zero = omega arith
lengths-more x xs a (suc n) =
    let h = script-more x xs a in
    let i = lengths-more x xs (suc a) n in
    let k = at-least x.cpu.0 a in
    omega (arith, h, i, k)

one-most : (b : Bool) → one_if b ≤ 1
one-most true = omega arith
one-most false = omega arith

lengths-none : (a n : ℕ) → sum_of (lengths [] a n) ≡ 0
lengths-none a zero = refl
lengths-none a (suc n) = let i = lengths-none (suc a) n in omega (arith, i)

-- so those of different processors are together at most all
pub lengths-within : (xs : List Step) (a n : ℕ) → sum_of (lengths xs a n) ≤ length xs
lengths-within [] a n = let i = lengths-none a n in omega (arith, i)
lengths-within (x ∷ xs) a n =
    let h = lengths-more x xs a n in
    let i = lengths-within xs a n in
    let k = one-most (nat_le a x.cpu.0) in
    omega (arith, h, i, k)

pub kept-within : (test : Act → Bool) (xs : List Step) → length (filter (λ (x : Step). test x.act) xs) ≤ length xs
kept-within test [] = omega arith
kept-within test (x ∷ xs) = by_test (test x.act) (kept-within test xs)
  where
    by_test : (b : Bool) → length (filter (λ (y : Step). test y.act) xs) ≤ length xs
        → length (if b then x ∷ filter (λ (y : Step). test y.act) xs else filter (λ (y : Step). test y.act) xs) ≤ suc (length xs)
    by_test true h = omega (arith, h)
    by_test false h = omega (arith, h)
