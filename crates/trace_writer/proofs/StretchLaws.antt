-- Where in a list of a group's processors those of each cluster stand, as one processor more is listed.
use Rattle.std.proofs.Common.{◌≡◌, ◌≢◌, ℕ, ◌+◌, ◌<◌, ◌≤◌, ◌⊎◌, inl, inr, ◌==◌, List, length, set, get_or, replicate, subst, arith, get_or-set_same, get_or-set_other}
use Rattle.std.specs.Prelude.{All, if◌then◌else◌}
use Rattle.std.proofs.lemmas.Bool.{cases_eq, cases_lt}
use Rattle.std.proofs.lemmas.Bool.Decides.{nat_tests}
use Rattle.std.proofs.lemmas.List.{get_or-map}
use Rattle.std.proofs.lemmas.List.Elements.{All-replicate, All-set}
use Rattle.rt_base.specs.declared.CpuNo.{CpuNo}
use Rattle.rt_model.specs.Group.{Group, cluster_with}
use Rattle.rt_plays.specs.Homes.{IsProcessorOf}
use Rattle.rt_plays.proofs.AtHomeLaws.{processors_are_at_home}
use Rattle.trace_text.specs.Groups.{cpu_numbers}
use Rattle.trace_writer.specs.declared.stretches.Stretch.{Stretch}
use Rattle.trace_writer.specs.Stretches.{AreStretches, IsInside, IsOutside, IsPart, nowhere}

-- a stretch with a position more, behind it
abbrev pub widened : Stretch → ℕ → Stretch
widened s i = record { start = if s.end == 0 then i else s.start; end = i + 1 }

widened-part : (s : Stretch) (i : ℕ) → IsPart i s → IsPart (i + 1) (widened s i)
widened-part s i part = grind (arith, nat_tests, part.0, part.1)

widened-inside : (s : Stretch) (i k : ℕ) → IsPart i s → IsInside s k → IsInside (widened s i) k
widened-inside s i k part inside = grind (arith, nat_tests, part.0, part.1, inside.0, inside.1)

widened-at : (s : Stretch) (i : ℕ) → IsPart i s → IsInside (widened s i) i
widened-at s i part = grind (arith, nat_tests, part.0, part.1)

-- the processor at a position, by its number
pub number-at : (qs : List CpuNo) (k : ℕ) (d : CpuNo) → k < length qs → get_or (cpu_numbers qs) k 0 ≡ (get_or qs k d).0
number-at qs k d low = get_or-map (λ (q : CpuNo). q.0) qs k d 0 low

-- before any processor is listed
pub stretches-none : (g : Group) (qs : List ℕ) (count : ℕ) → AreStretches g qs 0 (replicate count nowhere)
stretches-none g qs count = record {
  parts = All-replicate (IsPart 0) count nowhere (omega arith, omega arith);
  inside = λ k low. absurd (omega (arith, low));
}

-- the cluster of a processor is one of the set
pub home-low : (g : Group) (qs : List CpuNo) (k : ℕ) (d : CpuNo) (home : ℕ) → k < length qs → All (λ q. IsProcessorOf g q.0) qs → home ≡ cluster_with g (get_or qs k d).0
    → home < length g.setup.clusters
home-low g qs k d home low there is = rw is (processors_are_at_home g _ (there k d low)).inside

module _ (g : Group) (qs : List ℕ) (i : ℕ) (stretches : List Stretch) (are : AreStretches g qs i stretches) where
  -- and with one processor more, whose cluster has the stretch s so far
  pub stretches-next : (home : ℕ) (s : Stretch) → home ≡ cluster_with g (get_or qs i 0) → home < length stretches → s ≡ get_or stretches home nowhere → AreStretches g qs (i + 1) (set stretches home (widened s i))
  stretches-next home s home_is low is = record {
    parts = All-set (IsPart (i + 1)) stretches home (widened s i) (widened-part s i part) (λ k d there. let other = are.parts k d there in (other.0, omega (arith, other.1)));
    inside = inside;
  }
    where
      part : IsPart i s
      part = rw is (are.parts home nowhere low)

      cluster : ℕ → ℕ
      cluster k = cluster_with g (get_or qs k 0)

      inside : (k : ℕ) → k < i + 1 → IsInside (get_or (set stretches home (widened s i)) (cluster k) nowhere) k
      inside k few = by_place (cases_lt k i)
        where
          by_home : k < i → (cluster k ≡ home) ⊎ (cluster k ≢ home) → IsInside (get_or (set stretches home (widened s i)) (cluster k) nowhere) k
          by_home before (inl same) =
              rw (same, get_or-set_same stretches home (widened s i) nowhere low)
              (widened-inside s i k part (rw is (subst (λ c. IsInside (get_or stretches c nowhere) k) same (are.inside k before))))
          by_home before (inr apart) = rw (get_or-set_other stretches home (cluster k) (widened s i) nowhere apart) (are.inside k before)

          by_place : (k < i) ⊎ (i ≤ k) → IsInside (get_or (set stretches home (widened s i)) (cluster k) nowhere) k
          by_place (inl before) = by_home before (cases_eq (cluster k) home)
          by_place (inr behind) =
              let here : k ≡ i = omega (arith, few, behind) in
              rw (here, ← home_is, get_or-set_same stretches home (widened s i) nowhere low) (widened-at s i part)

  -- a processor outside the stretch of a cluster is of another
  pub outside-apart : (k c : ℕ) (s : Stretch) → k < i → s ≡ get_or stretches c nowhere → IsOutside s k → cluster_with g (get_or qs k 0) ≢ c
  outside-apart k c s low is out = λ same. by_side out (rw is (subst (λ d. IsInside (get_or stretches d nowhere) k) same (are.inside k low)))
    where
      by_side : IsOutside s k → IsInside s k → ⊥
      by_side (inl before) inside = omega (arith, before, inside.0)
      by_side (inr behind) inside = omega (arith, behind, inside.1)
