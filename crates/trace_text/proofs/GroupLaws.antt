-- The groups of a setup: they are few, and histories with their numbers are those of all of them.
use Rattle.std.proofs.Common.{◌≡◌, ℕ, ◌-◌, ◌<◌, ◌≤◌, Bool, true, false, ◌||◌, List, [], ◌∷◌, map, length, eqb-true, inl, inr, refl, sym, ap, ◌∙◌, arith}
use Rattle.std.proofs.lemmas.Bool.{cases_lt}
use Rattle.std.specs.Prelude.{◌==◌, All}
use Rattle.std.specs.List.{list_any}
use Rattle.std.proofs.lemmas.List.{length-map}
use Rattle.rt_task.specs.declared.Cluster.{Cluster}
use Rattle.rt_task.specs.declared.Parts.{Parts}
use Rattle.rt_task.specs.Validity.{IsValid}
use Rattle.rt_rules.specs.Distinct.{IsDistinct}
use Rattle.rt_rules.specs.Numbers.{has, numbers_from, without}
use Rattle.rt_rules.proofs.BoolLaws.{or_true}
use Rattle.rt_rules.proofs.MemberLaws.{equal_self, has-left, length-without, turned}
use Rattle.rt_rules.proofs.NumberLaws.{distinct-numbers_from, length-numbers_from, numbers_from-below}
use Rattle.rt_plays.specs.Plays.{group_count}
use Rattle.rt_plays.specs.Groups.{GroupHistory}
use Rattle.rt_plays.proofs.GroupCount.{groups_are_counted}
use Rattle.rt_plays.proofs.SetLimits.{sets_are_in_limits}
use Rattle.trace_text.specs.Groups.{AreGroupsOf}

-- different numbers of a list are no more than the list has
few-members : (us ts : List ℕ) → IsDistinct us → ((t : ℕ) → has t us ≡ true → has t ts ≡ true) → length us ≤ length ts
few-members [] ts distinct inside = omega arith
few-members (u ∷ us) ts distinct inside =
    let there : has u ts ≡ true = inside u (rw (equal_self u)) in
    let rest = few-members us (without u ts) distinct.1 left in
    omega (arith, rest, length-without u ts there)
  where
    left : (t : ℕ) → has t us ≡ true → has t (without u ts) ≡ true
    left t h = by_case (t == u) refl
      where
        by_case : (b : Bool) → t == u ≡ b → has t (without u ts) ≡ true
        by_case true e = let again : has u us ≡ true = rw (eqb-true t u e) at h in let once : has u us ≡ false = distinct.0 in cc
        by_case false e = has-left t u ts e ∙ inside t (rw h (or_true (t == u)))

group-members : (ks : List Cluster) (n : ℕ) → list_any (λ (k : Cluster). k.group.0 == n) ks ≡ true → has n (map (λ (k : Cluster). k.group.0) ks) ≡ true
group-members [] n h = h
group-members (k ∷ ks) n h = rw (turned n k.group.0) (by_case (k.group.0 == n) h (group-members ks n))
  where
    by_case : (b : Bool) → b || list_any (λ (x : Cluster). x.group.0 == n) ks ≡ true → (list_any (λ (x : Cluster). x.group.0 == n) ks ≡ true → has n (map (λ (x : Cluster). x.group.0) ks) ≡ true)
        → b || has n (map (λ (x : Cluster). x.group.0) ks) ≡ true
    by_case true m rest = refl
    by_case false m rest = rest m

-- there are no more groups than clusters
pub groups-few : (p : Parts) → IsValid p → group_count p ≤ 64
groups-few p valid =
    let numbers : List ℕ = map (λ (k : Cluster). k.group.0) p.clusters in
    let all = few-members (numbers_from 0 (group_count p)) numbers (distinct-numbers_from 0 (group_count p))
    (λ n h. group-members p.clusters n ((groups_are_counted p n valid).1 (omega (arith, numbers_from-below n 0 (group_count p) h)))) in
    omega (arith, all, length-numbers_from 0 (group_count p), length-map p.clusters (λ (k : Cluster). k.group.0), (sets_are_in_limits p valid).few_clusters)

-- the groups of a setup are as many as their histories
pub groups-counted : (p : Parts) (hs : List GroupHistory) → IsValid p → AreGroupsOf p hs → length hs ≡ group_count p
groups-counted p hs valid are =
    let last : group_count p - 1 < length hs = are.are_all (group_count p - 1) ((groups_are_counted p (group_count p - 1) valid).1 (omega arith)) in
    elim (cases_lt 0 (length hs)) [
      | inl some ↦ (let inside : length hs - 1 < group_count p = (groups_are_counted p (length hs - 1) valid).0 (are.are_groups (length hs - 1) (omega arith)) in omega (arith, some, last, inside))
      | inr none ↦ omega (arith, none, last)
    ]

-- histories of the setup with the numbers of all its groups are those of its groups
pub all-groups : (p : Parts) (hs : List GroupHistory) → IsValid p → All (λ (h : GroupHistory). h.setup ≡ p) hs → map (λ (h : GroupHistory). h.group) hs ≡ numbers_from 0 (group_count p) → AreGroupsOf p hs
all-groups p hs valid of_setup numbers =
    let count : length hs ≡ group_count p = sym (length-map hs (λ (h : GroupHistory). h.group)) ∙ ap length numbers ∙ length-numbers_from 0 (group_count p) in
    record {
      of_setup = of_setup;
      in_order = numbers ∙ ap (numbers_from 0) (sym count);
      are_groups = λ n low. (groups_are_counted p n valid).1 (omega (arith, low, count));
      are_all = λ n there. let low : n < group_count p = (groups_are_counted p n valid).0 there in omega arith;
    }
