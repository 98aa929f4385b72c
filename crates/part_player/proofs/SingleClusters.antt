-- Clusters of one processor: a processor's number is its cluster's.
use Rattle.std.proofs.Common.{◌≡◌, ℕ, zero, suc, ◌-◌, ◌<◌, ◌≤◌, true, false, List, [], ◌∷◌, length, refl, ap, arith}
use Rattle.std.proofs.lemmas.Bool.Decides.{nat_tests}
use Rattle.std.proofs.lemmas.List.Sums.{sum_by-cons}
use Rattle.std.specs.Prelude.{nat_lt, slice_index_or, sum_by}
use Rattle.rt_task.specs.declared.Cluster.{Cluster}
use Rattle.rt_model.specs.Group.{cluster_in, first_in, no_cluster}

abbrev pub AreSingle : List Cluster → Type 0
AreSingle ks = (i : ℕ) → i < length ks → (slice_index_or ks i no_cluster).cpus ≡ 1

rest-single : (k : Cluster) (ks : List Cluster) → AreSingle (k ∷ ks) → AreSingle ks
rest-single k ks single i low = single (suc i) (omega arith)

pub single-first : (ks : List Cluster) (c : ℕ) → AreSingle ks → c ≤ length ks → first_in ks c ≡ c
single-first [] c single low = omega arith
single-first (k ∷ ks) zero single low = refl
single-first (k ∷ ks) (suc c) single low =
    let one : k.cpus ≡ 1 = single 0 (omega arith) in
    let more = single-first ks c (rest-single k ks single) (omega arith) in
    omega (arith, one, more)

pub single-in : (ks : List Cluster) (q : ℕ) → AreSingle ks → q < length ks → cluster_in ks q ≡ q
single-in [] q single low = absurd (omega arith)
single-in (k ∷ ks) zero single low =
    let one : k.cpus ≡ 1 = single 0 (omega arith) in
    let here : nat_lt 0 k.cpus ≡ true = grind (arith, nat_tests) in
    rw here refl
single-in (k ∷ ks) (suc q) single low =
    let one : k.cpus ≡ 1 = single 0 (omega arith) in
    let past : nat_lt (suc q) k.cpus ≡ false = grind (arith, nat_tests) in
    let less : suc q - k.cpus ≡ q = omega arith in
    rw (past, less) (ap suc (single-in ks q (rest-single k ks single) (omega arith)))

pub single-sum : (ks : List Cluster) → AreSingle ks → sum_by (λ (k : Cluster). k.cpus) ks ≡ length ks
single-sum [] single = refl
single-sum (k ∷ ks) single =
    let one : k.cpus ≡ 1 = single 0 (omega arith) in
    let more = single-sum ks (rest-single k ks single) in
    omega (arith, one, more, sum_by-cons (λ (c : Cluster). c.cpus) k ks)
