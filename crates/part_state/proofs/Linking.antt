-- The best of the tasks that may run, looked for from the last to the first.
use Rattle.std.proofs.Common.{◌≡◌, ℕ, zero, suc, ◌-◌, ◌<◌, ◌≤◌, Bool, true, false, List, [], ◌∷◌, length, drop, get_or, Some, None}
use Rattle.std.proofs.Common.{refl, ap, ◌∙◌, subst, arith}
use Rattle.std.specs.Prelude.{Option, if◌then◌else◌}
use Rattle.rt_base.specs.TaskNos.{numbers}
use Rattle.rt_base.specs.declared.TaskNo.{TaskNo}
use Rattle.rt_task.specs.declared.Parts.{Parts}
use Rattle.rt_rules.specs.declared.Key.{Key}
use Rattle.rt_rules.specs.Keys.{Ranked, ahead, inserted}
use Rattle.rt_rules.specs.Numbers.{has}
use Rattle.rt_rules.specs.Rankings.{ranked_by}
use Rattle.rt_rules.proofs.BoolLaws.{or_true}
use Rattle.rt_rules.proofs.MemberLaws.{equal_self}
use Rattle.mpcp_ceilings.specs.Ceilings.{CeilingTable}
use Rattle.part_state.specs.inside.Candidates.{head}
use Rattle.part_state.specs.Reads.{better, better_with, key_in, may_run}
use Rattle.part_state.specs.States.{PartState}

module _ (p : Parts) (c : CeilingTable) (s : PartState) (t : ℕ) where
  pub no-better : (o : Option Ranked) → may_run p c s t ≡ false → o ≡ better_with p c s t o
  no-better o e = rw e refl

  pub the-first : may_run p c s t ≡ true → (k : Key) → k ≡ key_in p c s t → Some (record { key = k; task = t }) ≡ better_with p c s t None
  the-first e k same = rw e (ap (λ j. Some (record { key = j; task = t })) same)

  pub goes-first : may_run p c s t ≡ true → (k : Key) → k ≡ key_in p c s t → (b : Ranked) → ahead (record { key = k; task = t }) b ≡ true
      → Some (record { key = k; task = t }) ≡ better_with p c s t (Some b)
  goes-first e k same b first =
      let goes : ahead (record { key = key_in p c s t; task = t }) b ≡ true = subst (λ j. ahead (record { key = j; task = t }) b ≡ true) same first in
      rw (e, goes) (ap (λ j. Some (record { key = j; task = t })) same)

  head-inserted : (r : Ranked) (rs : List Ranked) → better p c s r (head rs) ≡ head (inserted r rs)
  head-inserted r [] = refl
  head-inserted r (b ∷ bs) = by_case (ahead r b) refl
    where
      by_case : (x : Bool) → ahead r b ≡ x → (if ahead r b then Some r else Some b) ≡ head (if ahead r b then r ∷ b ∷ bs else (b ∷ inserted r bs))
      by_case true e = rw e refl
      by_case false e = rw e refl

  pub head-ranked : (ts : List ℕ) → better_with p c s t (head (ranked_by (key_in p c s) (may_run p c s) ts))
      ≡ head (ranked_by (key_in p c s) (may_run p c s) (t ∷ ts))
  head-ranked ts = by_case (may_run p c s t) refl
    where
      by_case : (x : Bool) → may_run p c s t ≡ x → better_with p c s t (head (ranked_by (key_in p c s) (may_run p c s) ts))
          ≡ head (ranked_by (key_in p c s) (may_run p c s) (t ∷ ts))
      by_case true e = rw e (head-inserted (record { key = key_in p c s t; task = t }) (ranked_by (key_in p c s) (may_run p c s) ts))
      by_case false e = rw e refl

-- the task at a position is one of the list
pub there : (us : List TaskNo) (j : ℕ) (d : TaskNo) → j < length us → has (get_or us j d).0 (numbers us) ≡ true
there [] j d h = absurd (omega arith)
there (u ∷ us) zero d h = rw equal_self refl
there (u ∷ us) (suc j) d h = rw (there us j d (omega arith)) (or_true _)

cut : {A : Type 0} (xs : List A) (i : ℕ) (d : A) → i < length xs → drop i xs ≡ get_or xs i d ∷ drop (suc i) xs
cut [] i d h = absurd (omega arith)
cut (x ∷ xs) zero d h = refl
cut (x ∷ xs) (suc i) d h = cut xs i d (omega arith)

pub one-more : (us : List TaskNo) (i : ℕ) (d : TaskNo) → 0 < i → i ≤ length us
    → numbers (drop (i - 1) us) ≡ (get_or us (i - 1) d).0 ∷ numbers (drop i us)
one-more us i d some few =
    let e : suc (i - 1) ≡ i = omega arith in
    ap numbers (cut us (i - 1) d (omega arith)) ∙ ap (λ n. (get_or us (i - 1) d).0 ∷ numbers (drop n us)) e
