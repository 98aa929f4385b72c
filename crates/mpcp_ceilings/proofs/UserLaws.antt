-- One more user.
use Rattle.std.proofs.Common.{Bool, List, [], ap, arith, cond, eqb-true, false, length, map, min, refl, sym, true, ℕ, ◌++◌, ◌∙◌, ◌∷◌, ◌≡◌, ◌≤◌, ◌<◌, get_or, set, subst, ◌||◌}
use Rattle.std.proofs.lemmas.Bool.Decides.{nat_tests}
use Rattle.std.proofs.lemmas.List.{get_or-set_same, get_or-set_other, length-set}
use Rattle.std.specs.Prelude.{None, Option, Some, if◌then◌else◌, nat_lt, ⊤, ◌==◌}
use Rattle.rt_base.specs.declared.ClusterNo.{ClusterNo}
use Rattle.rt_base.specs.declared.SemNo.{SemNo}
use Rattle.rt_rules.specs.Numbers.{has}
use Rattle.rt_rules.proofs.BoolLaws.{clash}
use Rattle.rt_rules.proofs.MemberLaws.{equal_self}
use Rattle.mpcp_ceilings.specs.Ceilings.{smallest_outside}
use Rattle.mpcp_ceilings.specs.inside.Noting.{lowered, noted_uses, with_user}
use Rattle.mpcp_ceilings.specs.declared.user_prios.UserPrios.{UserPrios}

-- the smallest among other clusters is no smaller than the smallest of all
abbrev pub IsAbove : ℕ → Option ℕ → Type 0
IsAbove n None = ⊤
IsAbove n (Some m) = n ≤ m

abbrev pub IsOrdered : Option UserPrios → Type 0
IsOrdered None = ⊤
IsOrdered (Some u) = IsAbove u.smallest u.elsewhere

-- noting a user again changes nothing
pub with_user-twice : (p : ℕ) (c : ClusterNo) (o : Option UserPrios) → with_user p c (Some (with_user p c o)) ≡ with_user p c o
with_user-twice p c None = grind (arith, nat_tests)
with_user-twice p c (Some u) = grind (arith, nat_tests)

pub with_user-ordered : (p : ℕ) (c : ClusterNo) (o : Option UserPrios) → IsOrdered o → IsOrdered (Some (with_user p c o))
with_user-ordered p c None h = tt
with_user-ordered p c (Some u) h = by_case (u.cluster.0 == c.0) (nat_lt p u.smallest) u.elsewhere refl h
  where
    by_case : (b a : Bool) (e : Option ℕ) → nat_lt p u.smallest ≡ a → IsAbove u.smallest e → IsOrdered (Some (if b then record { smallest = min p u.smallest; cluster = u.cluster; elsewhere = e } else (if a then record { smallest = p; cluster = c; elsewhere = Some u.smallest } else record { smallest = u.smallest; cluster = u.cluster; elsewhere = Some (lowered p e) })))
    by_case true a None k above = tt
    by_case true a (Some m) k above = omega (arith, above)
    by_case false true e k above = grind (arith, nat_tests, k)
    by_case false false None k above = grind (arith, nat_tests, k)
    by_case false false (Some m) k above = grind (arith, nat_tests, k, above)

pub outside-with_user : (k p : ℕ) (c : ClusterNo) (o : Option UserPrios) → IsOrdered o → smallest_outside k (Some (with_user p c o)) ≡ (if c.0 == k then smallest_outside k o else Some (lowered p (smallest_outside k o)))
outside-with_user k p c None h = refl
outside-with_user k p c (Some u) h = by_case u.elsewhere refl h
  where
    by_case : (e : Option ℕ) → u.elsewhere ≡ e → IsAbove u.smallest e → smallest_outside k (Some (with_user p c (Some u))) ≡ (if c.0 == k then smallest_outside k (Some u) else Some (lowered p (smallest_outside k (Some u))))
    by_case None is above = grind (arith, nat_tests, is)
    by_case (Some m) is above = grind (arith, nat_tests, is, above)

-- ---- one more user of each of some semaphores

pub noted-length : (p : ℕ) (c : ClusterNo) (ss : List SemNo) (rows : List (Option UserPrios)) → length (noted_uses p c ss rows) ≡ length rows
noted-length p c [] rows = refl
noted-length p c (s ∷ ss) rows = noted-length p c ss _ ∙ length-set rows s.0 _

pub noted-at : (p : ℕ) (c : ClusterNo) (ss : List SemNo) (rows : List (Option UserPrios)) (s : ℕ) → s < length rows → get_or (noted_uses p c ss rows) s None ≡ (if has s (map (λ (n : SemNo). n.0) ss) then Some (with_user p c (get_or rows s None)) else get_or rows s None)
noted-at p c [] rows s low = refl
noted-at p c (u ∷ ss) rows s low = by_case (s == u.0) refl (noted-at p c ss changed s (rw (length-set rows u.0 (Some (with_user p c (get_or rows u.0 None)))) low))
  where
    changed : List (Option UserPrios)
    changed = set rows u.0 (Some (with_user p c (get_or rows u.0 None)))

    Rest : Type 0
    Rest = get_or (noted_uses p c ss changed) s None ≡ (if has s (map (λ (n : SemNo). n.0) ss) then Some (with_user p c (get_or changed s None)) else get_or changed s None)

    again : (b : Bool) (o : Option UserPrios) → (if b then Some (with_user p c (Some (with_user p c o))) else Some (with_user p c o)) ≡ Some (with_user p c o)
    again true o = ap {B = Option UserPrios} (λ x. Some x) (with_user-twice p c o)
    again false o = refl

    by_case : (b : Bool) → s == u.0 ≡ b → Rest → get_or (noted_uses p c ss changed) s None ≡ (if b || has s (map (λ (n : SemNo). n.0) ss) then Some (with_user p c (get_or rows s None)) else get_or rows s None)
    by_case true e rest =
        let same : s ≡ u.0 = eqb-true s u.0 e in
        let inside : u.0 < length rows = subst (λ n. n < length rows) same low in
        let at : get_or changed s None ≡ Some (with_user p c (get_or rows s None)) = subst (λ n. get_or changed n None ≡ Some (with_user p c (get_or rows n None))) (sym same) (get_or-set_same rows u.0 (Some (with_user p c (get_or rows u.0 None))) None inside) in
        rest ∙ ap (λ o. if has s (map (λ (n : SemNo). n.0) ss) then Some (with_user p c o) else o) at ∙ again (has s (map (λ (n : SemNo). n.0) ss)) (get_or rows s None)
    by_case false e rest =
        let at : get_or changed s None ≡ get_or rows s None = get_or-set_other rows u.0 s (Some (with_user p c (get_or rows u.0 None))) None (λ same. clash (s == u.0) (subst (λ n. n == u.0 ≡ true) (sym same) (equal_self u.0)) e) in
        rest ∙ ap (λ o. if has s (map (λ (n : SemNo). n.0) ss) then Some (with_user p c o) else o) at
