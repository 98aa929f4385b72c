-- The cluster of each processor, as the definitions find it.
use Rattle.std.proofs.Common.{◌≡◌, ℕ, suc, ◌+◌, ◌-◌, ◌<◌, ◌≤◌, Bool, true, false, List, [], ◌∷◌, ◌++◌, length, get_or, replicate, refl, sym, ◌∙◌, arith, add-zero, length-append}
use Rattle.std.specs.Prelude.{nat_lt, if◌then◌else◌, sum_by}
use Rattle.std.proofs.lemmas.Bool.Decides.{nat_tests}
use Rattle.std.proofs.lemmas.List.{get_or-append_right, get_or-replicate, get_or_append_left, length-replicate}
use Rattle.std.proofs.lemmas.List.Sums.{sum_by-cons}
use Rattle.rt_task.specs.declared.Cluster.{Cluster}
use Rattle.rt_model.specs.Group.{cluster_in}
use Rattle.rank_afresh.specs.Homes.{homes_from}
use Rattle.rank_afresh.proofs.SetLists.{cpus_of}

pub length-homes : (c : ℕ) (ks : List Cluster) → length (homes_from c ks) ≡ sum_by cpus_of ks
length-homes c [] = refl
length-homes c (k ∷ ks) =
    omega (arith, length-append (replicate k.cpus c) (homes_from (suc c) ks), length-replicate k.cpus c, length-homes (suc c) ks, sum_by-cons cpus_of k ks)

pub home-at : (c : ℕ) (ks : List Cluster) (q d : ℕ) → q < sum_by cpus_of ks → get_or (homes_from c ks) q d ≡ c + cluster_in ks q
home-at c [] q d low = absurd (omega arith)
home-at c (k ∷ ks) q d low = by_case (nat_lt q k.cpus) refl (home-at (suc c) ks (q - k.cpus) d)
  where
    count : length (replicate k.cpus c) ≡ k.cpus
    count = length-replicate k.cpus c

    by_case : (b : Bool) → nat_lt q k.cpus ≡ b → (q - k.cpus < sum_by cpus_of ks → get_or (homes_from (suc c) ks) (q - k.cpus) d ≡ suc c + cluster_in ks (q - k.cpus))
        → get_or (replicate k.cpus c ++ homes_from (suc c) ks) q d ≡ c + (if b then 0 else suc (cluster_in ks (q - k.cpus)))
    by_case true e rest =
        let here : q < k.cpus = grind (arith, nat_tests, e) in
        get_or_append_left (replicate k.cpus c) (homes_from (suc c) ks) d q (omega (arith, count, here)) ∙ get_or-replicate k.cpus q c d here ∙ sym (rw add-zero)
    by_case false e rest =
        let beyond : k.cpus ≤ q = grind (arith, nat_tests, e) in
        let more : q - k.cpus < sum_by cpus_of ks = omega (arith, beyond, low, sum_by-cons cpus_of k ks) in
        get_or-append_right (replicate k.cpus c) (homes_from (suc c) ks) k.cpus q d count beyond ∙ rest more ∙ omega arith
