-- Laws of where each cluster's processors end.
use Rattle.std.proofs.Common.{◌≡◌, ℕ, zero, suc, ◌+◌, ◌-◌, ◌<◌, ◌≤◌, List, [], ◌∷◌, true, false, cond, length, get_or, nat_lt, nat_le, ap, sym, ◌∙◌, arith}
use Rattle.std.specs.List.Sorted.{IsPartitionPoint, IsPartitionedBy}
use Rattle.std.proofs.lemmas.Bool.{leb-true, leb-false, le-leb, lt-ltb, le-ltb}
use Rattle.rt_task.specs.declared.draft.DraftCluster.{DraftCluster}
use Rattle.set_rules.specs.Ends.{ends_from}
use Rattle.rt_task.specs.Lookups.{cluster_among}

-- an end is not below where the count began
ends_from-above : (n : ℕ) (ks : List DraftCluster) (i d : ℕ) → i < length (ends_from n ks) → n ≤ get_or (ends_from n ks) i d
ends_from-above n [] i d lt = absurd (omega arith)
ends_from-above n (k ∷ ks) zero d lt = omega arith
ends_from-above n (k ∷ ks) (suc i) d lt = let h = ends_from-above (n + k.cpus) ks i d (omega arith) in omega arith

ends_from-rise : (n : ℕ) (ks : List DraftCluster) (i j d : ℕ) → i ≤ j → j < length (ends_from n ks) → get_or (ends_from n ks) i d ≤ get_or (ends_from n ks) j d
ends_from-rise n [] i j d le lt = absurd (omega arith)
ends_from-rise n (k ∷ ks) zero zero d le lt = omega arith
ends_from-rise n (k ∷ ks) zero (suc j) d le lt = ends_from-above (n + k.cpus) ks j d (omega arith)
ends_from-rise n (k ∷ ks) (suc i) zero d le lt = absurd (omega arith)
ends_from-rise n (k ∷ ks) (suc i) (suc j) d le lt = ends_from-rise (n + k.cpus) ks i j d (omega arith) (omega arith)

pub ends_from-partitioned : (n : ℕ) (ks : List DraftCluster) (q : ℕ) → IsPartitionedBy (λ e. nat_le e q) (ends_from n ks)
ends_from-partitioned n ks q i j d le lt h = le-leb _ _ (let a = ends_from-rise n ks i j d le lt in let b = leb-true (get_or (ends_from n ks) j d) q h in omega arith)

-- the cluster of a processor is where the ends pass it
pub cluster_among-point : (n : ℕ) (ks : List DraftCluster) (q i : ℕ) → n ≤ q → i ≤ length (ends_from n ks)
    → IsPartitionPoint (λ e. nat_le e q ≡ true) (λ e. nat_le e q ≡ false) (ends_from n ks) i → i ≡ cluster_among ks (q - n)
cluster_among-point n [] q i le bound h = omega arith
cluster_among-point n (k ∷ ks) q zero le bound h =
    let above : q < n + k.cpus = leb-false (n + k.cpus) q (h.1 0 0 (omega arith) (omega arith)) in
    let here : nat_lt (q - n) k.cpus ≡ true = lt-ltb (q - n) k.cpus (omega arith) in
    sym (ap (λ b. cond b 0 (suc (cluster_among ks ((q - n) - k.cpus)))) here)
cluster_among-point n (k ∷ ks) q (suc i) le bound h =
    let past : n + k.cpus ≤ q = leb-true (n + k.cpus) q (h.0 0 0 (omega arith) (omega arith)) in
    let later : nat_lt (q - n) k.cpus ≡ false = le-ltb (q - n) k.cpus (omega arith) in
    let rest : i ≡ cluster_among ks (q - (n + k.cpus)) = cluster_among-point (n + k.cpus) ks q i past (omega arith)
    ((λ m d lo hi. h.0 (suc m) d (omega arith) (omega arith)), (λ m d lo hi. h.1 (suc m) d (omega arith) (omega arith))) in
    ap suc (rest ∙ ap (cluster_among ks) (let e : q - (n + k.cpus) ≡ (q - n) - k.cpus = omega arith in e))
    ∙ sym (ap (λ b. cond b 0 (suc (cluster_among ks ((q - n) - k.cpus)))) later)
