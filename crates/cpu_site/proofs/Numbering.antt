-- The positions of a group's processors, and entries by position and by number.
use Rattle.std.proofs.Common.{◌≡◌, ◌≢◌, ℕ, zero, suc, ◌+◌, ◌<◌, Bool, true, false, List, [], ◌∷◌, length, get_or, refl, sym, ap, ◌∙◌, subst, arith, eqb-true}
use Rattle.std.specs.Prelude.{◌==◌, if◌then◌else◌}
use Rattle.std.proofs.lemmas.Bool.Decides.{nat_tests}
use Rattle.std.proofs.lemmas.List.Elements.{All-head, All-tail}
use Rattle.std.proofs.lemmas.List.{get_or-map, length-map}
use Rattle.rt_base.specs.declared.CpuNo.{CpuNo}
use Rattle.rt_rules.specs.Distinct.{IsDistinct}
use Rattle.rt_rules.specs.Numbers.{has}
use Rattle.rt_rules.proofs.BoolLaws.{or_true}
use Rattle.rt_rules.proofs.MemberLaws.{equal_self}
use Rattle.rt_rules.specs.declared.history.Entry.{Entry}
use Rattle.rt_model.specs.Group.{Group, group_processors}
use Rattle.rt_plays.specs.Homes.{AreAtHome, IsProcessorOf}
use Rattle.rt_plays.proofs.ProcessorLaws.{processors-distinct}
use Rattle.turn_cell.specs.Words.{entries_of, AgreeOn}
use Rattle.cpu_site.specs.declared.story.GroupOf.{GroupOf}
use Rattle.cpu_site.specs.Cpus.{cpu_numbers}
use Rattle.cpu_site.specs.Raises.{cpu_at, cpu_count}
use Rattle.cpu_site.specs.Seats.{cpu_of, group_at, position_in, position_of_cpu}

-- a number of the list is at its position
position-there : (xs : List ℕ) (q : ℕ) → has q xs ≡ true → (position_in xs q < length xs) × (get_or xs (position_in xs q) 0 ≡ q)
position-there [] q h = cc
position-there (x ∷ xs) q h = by_case (x == q) refl (position-there xs q)
  where
    by_case : (b : Bool) → (x == q) ≡ b → (has q xs ≡ true → (position_in xs q < length xs) × (get_or xs (position_in xs q) 0 ≡ q))
        → ((if b then 0 else position_in xs q + 1) < length (x ∷ xs)) × (get_or (x ∷ xs) (if b then 0 else position_in xs q + 1) 0 ≡ q)
    by_case true is later = (omega arith, eqb-true x q is)
    by_case false is later =
        let other : (q == x) ≡ false = grind (arith, nat_tests, is) in
        let rest : has q xs ≡ true = rw other at h in
        let tail = later rest in
        let next : position_in xs q + 1 ≡ suc (position_in xs q) = omega arith in
        (omega (arith, tail.0), rw next tail.1)

pub at-has : (xs : List ℕ) (i : ℕ) → i < length xs → has (get_or xs i 0) xs ≡ true
at-has [] i lt = absurd (omega (arith, lt))
at-has (x ∷ xs) zero lt = rw (equal_self x) refl
at-has (x ∷ xs) (suc i) lt = rw (at-has xs i (omega (arith, lt))) (or_true (get_or xs i 0 == x))

-- and where none stands twice, at no other
position-only : (xs : List ℕ) (i : ℕ) → IsDistinct xs → i < length xs → position_in xs (get_or xs i 0) ≡ i
position-only [] i d lt = absurd (omega (arith, lt))
position-only (x ∷ xs) zero d lt = rw (equal_self x) refl
position-only (x ∷ xs) (suc i) d lt =
    let other : (x == get_or xs i 0) ≡ false = by_case (x == get_or xs i 0) refl in
    let rest : position_in xs (get_or xs i 0) ≡ i = position-only xs i d.1 (omega (arith, lt)) in
    rw (other, rest) (omega arith)
  where
    by_case : (b : Bool) → (x == get_or xs i 0) ≡ b → b ≡ false
    by_case true is =
        let same : x ≡ get_or xs i 0 = eqb-true x (get_or xs i 0) is in
        let there : has x xs ≡ true = subst (λ y. has y xs ≡ true) (sym same) (at-has xs i (omega (arith, lt))) in
        let none : has x xs ≡ false = d.0 in
        cc
    by_case false is = refl

-- the number that is read at a position is that of the processor there, which is of the group
pub cpu-read : (g : Group) (cpus : List CpuNo) (k : ℕ) (d : CpuNo) → cpu_numbers cpus ≡ group_processors g → k < length cpus → cpu_at g k ≡ (get_or cpus k d).0
cpu-read g cpus k d are low = ap (λ (ns : List ℕ). get_or ns k 0) (sym are) ∙ get_or-map (λ (x : CpuNo). x.0) cpus k d 0 low

pub cpus-read : (g : Group) (cpus : List CpuNo) → cpu_numbers cpus ≡ group_processors g → length cpus ≡ cpu_count g
cpus-read g cpus are = sym (length-map cpus (λ (x : CpuNo). x.0)) ∙ ap length are

pub cpu-listed : (g : Group) (cpus : List CpuNo) (k : ℕ) (d : CpuNo) → cpu_numbers cpus ≡ group_processors g → k < length cpus → IsProcessorOf g (get_or cpus k d).0
cpu-listed g cpus k d are low =
    subst (λ q. IsProcessorOf g q) (cpu-read g cpus k d are low) (at-has (group_processors g) k (let all = cpus-read g cpus are in omega (arith, all, low)))

module _ (s : GroupOf) where
  -- a processor of the group is at its position
  pub cpu-there : (q : ℕ) → IsProcessorOf (group_at s) q → (position_in (group_processors (group_at s)) q < cpu_count (group_at s)) × (cpu_at (group_at s) (position_in (group_processors (group_at s)) q) ≡ q)
  cpu-there q there = position-there (group_processors (group_at s)) q there

  pub cpu-position : (i q : ℕ) → i < cpu_count (group_at s) → cpu_at (group_at s) i ≡ q → position_in (group_processors (group_at s)) q ≡ i
  cpu-position i q low at = subst (λ x. position_in (group_processors (group_at s)) x ≡ i) at (position-only (group_processors (group_at s)) i (processors-distinct (group_at s)) low)

  pub cpu-of_group : (i q : ℕ) → i < cpu_count (group_at s) → cpu_at (group_at s) i ≡ q → IsProcessorOf (group_at s) q
  cpu-of_group i q low at = subst (λ x. IsProcessorOf (group_at s) x) at (at-has (group_processors (group_at s)) i low)

  module _ (i q : ℕ) (low : i < cpu_count (group_at s)) (at : cpu_at (group_at s) i ≡ q) where
    -- an entry is of the position where it is of the processor
    same-test : (e : Entry) → IsProcessorOf (group_at s) (cpu_of e) → (position_of_cpu s e == i) ≡ (cpu_of e == q)
    same-test e home = by_case (cpu_of e == q) refl
      where
        by_case : (b : Bool) → (cpu_of e == q) ≡ b → (position_of_cpu s e == i) ≡ b
        by_case true is =
            let same : cpu_of e ≡ q = eqb-true (cpu_of e) q is in
            let position : position_of_cpu s e ≡ i = ap (position_in (group_processors (group_at s))) same ∙ cpu-position i q low at in
            grind (arith, nat_tests, position)
        by_case false is = by_position (position_of_cpu s e == i) refl
          where
            by_position : (b : Bool) → (position_of_cpu s e == i) ≡ b → b ≡ false
            by_position false other = refl
            by_position true here =
                let position : position_of_cpu s e ≡ i = eqb-true (position_of_cpu s e) i here in
                let same : cpu_of e ≡ q = sym (cpu-there (cpu_of e) home).1 ∙ ap (cpu_at (group_at s)) position ∙ at in
                let no : cpu_of e ≢ q = grind (arith, nat_tests, is) in
                absurd (no same)

    pub entries-same : (es : List Entry) → AreAtHome (group_at s) es → entries_of (position_of_cpu s) i es ≡ entries_of cpu_of q es
    entries-same [] home = refl
    entries-same (e ∷ es) home =
        let first = same-test e (All-head (λ (x : Entry). IsProcessorOf (group_at s) (cpu_of x)) e es home) in
        let rest = entries-same es (All-tail (λ (x : Entry). IsProcessorOf (group_at s) (cpu_of x)) e es home) in
        ap (λ b. if b then e ∷ entries_of (position_of_cpu s) i es else entries_of (position_of_cpu s) i es) first ∙ ap (λ xs. if cpu_of e == q then e ∷ xs else xs) rest

    pub agree-same : (xs ys : List Entry) → AreAtHome (group_at s) xs → AreAtHome (group_at s) ys → AgreeOn (position_of_cpu s) i xs ys → AgreeOn cpu_of q xs ys
    agree-same xs ys home home' agree = sym (entries-same xs home) ∙ agree ∙ entries-same ys home'
