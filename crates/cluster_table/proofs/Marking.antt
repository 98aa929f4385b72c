-- The marks of clusters, as one more is placed.
use Rattle.std.proofs.Common.{◌≡◌, ◌≢◌, ℕ, ◌<◌, ◌≤◌, ◌⊎◌, inl, inr, Bool, false, true, ◌==◌, List, length, set, get_or, refl, sym, ap, ◌∙◌, arith, length-set, get_or-set_same, get_or-set_other}
use Rattle.std.specs.Prelude.{None, Option, Some, if◌then◌else◌, option_map}
use Rattle.std.proofs.lemmas.Bool.{cases_eq, cases_lt}
use Rattle.std.proofs.lemmas.Bool.Decides.{nat_tests}
use Rattle.std.proofs.lemmas.List.{get_or_past}
use Rattle.rt_base.specs.declared.ClusterNo.{ClusterNo}
use Rattle.cluster_table.specs.declared.marks.Marked.{Marked}
use Rattle.cluster_table.specs.declared.marks.Marked.TheVariants.{Nothing, Only, Several}
use Rattle.cluster_table.specs.Marks.{IsUnmarked, Marks, has_any, only_one, with_mark}
use Rattle.cluster_table.specs.Placed.{PlacedCluster}
use Rattle.cluster_table.specs.Table.{clusters_seen}
use Rattle.cluster_table.proofs.Seen.{at-seen}

-- where a cluster is written as marked, another that is not was not before
unwritten-other : (marks : List Bool) (c d : ℕ) → get_or (set marks c true) d true ≡ false → (d ≢ c) × (get_or marks d true ≡ false)
unwritten-other marks c d h = by_number (cases_eq d c)
  where
    has_one : get_or (set marks c true) c true ≡ true
    has_one = by_place (cases_lt c (length marks))
      where
        by_place : (c < length marks) ⊎ (length marks ≤ c) → get_or (set marks c true) c true ≡ true
        by_place (inl low) = get_or-set_same marks c true true low
        by_place (inr past) = get_or_past (set marks c true) c true (omega (arith, past, length-set marks c true))

    by_number : (d ≡ c) ⊎ (d ≢ c) → (d ≢ c) × (get_or marks d true ≡ false)
    by_number (inl same) = let has : true ≡ false = sym has_one ∙ rw same at h in cc
    by_number (inr apart) = (apart, sym (get_or-set_other marks c d true true apart) ∙ h)

-- a cluster without a mark is not the one that was marked last, and had none before
pub unmarked-other : (m : Marks) (c : ClusterNo) (d : ℕ) → IsUnmarked (with_mark c m) d → (d ≢ c.0) × IsUnmarked m d
unmarked-other m c d h = by_kind m.marked h
  where
    by_same : (e : ClusterNo) (b : Bool) → c.0 == e.0 ≡ b
        → IsUnmarked (if b then record { marks = m.marks; marked = Only e } else record { marks = set (set m.marks e.0 true) c.0 true; marked = Several }) d
        → (d ≢ c.0) × IsUnmarked (record { marks = m.marks; marked = Only e }) d
    by_same e true same out = (λ is. let has : true ≡ false = sym (ap (λ n. n == e.0) is ∙ same) ∙ out in cc, out)
    by_same e false apart out =
        let last = unwritten-other (set m.marks e.0 true) c.0 d out in
        (last.0, grind (arith, nat_tests, (unwritten-other m.marks e.0 d last.1).0))

    by_kind : (k : Marked) → IsUnmarked (with_mark c (record { marks = m.marks; marked = k })) d → (d ≢ c.0) × IsUnmarked (record { marks = m.marks; marked = k }) d
    by_kind Nothing out = (grind (arith, nat_tests, out), refl)
    by_kind (Only e) out = by_same e (c.0 == e.0) refl out
    by_kind Several out = unwritten-other m.marks c.0 d out

-- where there is no mark, no cluster has one
pub unmarked-none : (m : Marks) → has_any m ≡ false → (d : ℕ) → IsUnmarked m d
unmarked-none m h d = by_kind m.marked h
  where
    by_kind : (k : Marked) → has_any (record { marks = m.marks; marked = k }) ≡ false → IsUnmarked (record { marks = m.marks; marked = k }) d
    by_kind Nothing none = refl
    by_kind (Only e) none = cc
    by_kind Several none = cc

-- no cluster but the only one with a mark has one
pub unmarked-apart : (m : Marks) (c : ClusterNo) → only_one m ≡ Some c → (d : ℕ) → d ≢ c.0 → IsUnmarked m d
unmarked-apart m c h d apart = by_kind m.marked h
  where
    by_kind : (k : Marked) → only_one (record { marks = m.marks; marked = k }) ≡ Some c → IsUnmarked (record { marks = m.marks; marked = k }) d
    by_kind Nothing only = cc
    by_kind (Only e) only = let same : e ≡ c = cc in rw same (grind (arith, nat_tests, apart))
    by_kind Several only = cc

-- another cluster is as it was
pub seen-other : (ks : List (Option PlacedCluster)) (c d : ℕ) (k : Option PlacedCluster) → d ≢ c
    → get_or (clusters_seen (set ks c k)) d None ≡ get_or (clusters_seen ks) d None
seen-other ks c d k apart =
    at-seen (set ks c k) d ∙ ap (option_map (λ (k : PlacedCluster). k.cluster)) (get_or-set_other ks c d k None apart) ∙ sym (at-seen ks d)
