-- PCP: after an Unlock at most one of the waiting requests is granted.
use Rattle.std.proofs.Common.{Bool, List, [], arith, cond, eqb-true, false, inl, inr, length, refl, true, ℕ, ◌&&◌, ◌+◌, ◌∷◌, ◌≡◌, ◌≤◌, ◌⊎◌}
use Rattle.std.specs.Prelude.{if◌then◌else◌, ⊤, ◌==◌}
use Rattle.rt_rules.specs.Distinct.{IsDistinct}
use Rattle.rt_rules.specs.Numbers.{has}
use Rattle.rt_rules.specs.Pcp.{PcpState, TaskSem, by_key, granted, in_order, passes, tested}
use Rattle.rt_rules.proofs.BoolLaws.{clash, either, or_true, unless}
use Rattle.rt_rules.proofs.MemberLaws.{equal_self}
use Rattle.rt_rules.proofs.PairLaws.{has-by_key, has_pair, tasks_of_pairs}
use Rattle.rt_rules.proofs.PcpLaws.{passes-cons}

-- no later one is above an earlier one
abbrev pub IsFalling : (ℕ → ℕ → Bool) → List TaskSem → Type 0
IsFalling before [] = ⊤
IsFalling before (p ∷ ps) = ((t : ℕ) → has t (tasks_of_pairs ps) ≡ true → before t p.task ≡ false) × IsFalling before ps

-- an order in which none is before itself
pub record IsStrict (before : ℕ → ℕ → Bool) : Type 0 where
  pub trans : (x y z : ℕ) → before x y ≡ true → before y z ≡ true → before x z ≡ true
  pub self : (x : ℕ) → before x x ≡ false

falling-by_key : (before : ℕ → ℕ → Bool) → IsStrict before → (p : TaskSem) (qs : List TaskSem) → IsFalling before qs → IsFalling before (by_key before p qs)
falling-by_key before order p [] f = (λ t h. cc, tt)
falling-by_key before order p (q ∷ qs) f = by_case (before p.task q.task) refl (falling-by_key before order p qs f.1)
  where
    under : before p.task q.task ≡ true → (t : ℕ) → (t == q.task ≡ true) ⊎ (has t (tasks_of_pairs qs) ≡ true) → before t p.task ≡ false
    under e t (inl k) = unless _ (λ m. let n : before q.task p.task ≡ true = rw (eqb-true t q.task k) at m in clash _ (order.trans q.task p.task q.task n e) (order.self q.task))
    under e t (inr k) = unless _ (λ m. clash _ (order.trans t p.task q.task m e) (f.0 t k))

    behind : before p.task q.task ≡ false → (t : ℕ) → (t ≡ p.task) ⊎ (has t (tasks_of_pairs qs) ≡ true) → before t q.task ≡ false
    behind e t (inl k) = rw k e
    behind e t (inr k) = f.0 t k

    by_case : (b : Bool) → before p.task q.task ≡ b → IsFalling before (by_key before p qs) → IsFalling before (cond b (p ∷ q ∷ qs) (q ∷ by_key before p qs))
    by_case true e r = (λ t h. under e t (either (t == q.task) _ h), f)
    by_case false e r = (λ t h. behind e t (has-by_key before t p qs h), r)

-- an order is falling
pub falling-in_order : (before : ℕ → ℕ → Bool) → IsStrict before → (ps : List TaskSem) → IsFalling before (in_order before ps)
falling-in_order before order [] = tt
falling-in_order before order (p ∷ ps) = falling-by_key before order p (in_order before ps) (falling-in_order before order ps)

-- who does not pass is not granted
tested-none : (above_ceiling : ℕ → ℕ → Bool) (ps : List TaskSem) (l : PcpState) → ((t : ℕ) → has t (tasks_of_pairs ps) ≡ true → passes above_ceiling l.held t ≡ false) → tested above_ceiling ps l ≡ l
tested-none above_ceiling [] l h = refl
tested-none above_ceiling (p ∷ ps) l h = let no : passes above_ceiling l.held p.task ≡ false = h p.task (rw (equal_self p.task)) in rw no (tested-none above_ceiling ps l (λ t k. h t (rw k (or_true (t == p.task)))))

-- at most one of the tries is granted
pub tested-one : (before above_ceiling : ℕ → ℕ → Bool) (ps : List TaskSem) (l : PcpState) → IsDistinct (tasks_of_pairs ps) → IsFalling before ps → ((p : TaskSem) (t : ℕ) → has_pair p.task p.sem ps ≡ true → before t p.task ≡ false → above_ceiling t p.sem ≡ false) → length (tested above_ceiling ps l).held ≤ length l.held + 1
tested-one before above_ceiling [] l d f low = omega arith
tested-one before above_ceiling (p ∷ ps) l d f low = by_case (passes above_ceiling l.held p.task) refl (tested-one before above_ceiling ps l d.1 f.1 (λ q t h k. low q t (rw h (or_true (q.task == p.task && q.sem == p.sem))) k))
  where
    none_more : (t : ℕ) → has t (tasks_of_pairs ps) ≡ true → passes above_ceiling (p ∷ l.held) t ≡ false
    none_more t h =
        let under : above_ceiling t p.sem ≡ false = low p t (rw (equal_self p.task, equal_self p.sem)) (f.0 t h) in
        let other : p.task == t ≡ false = unless _ (λ m. let same : p.task ≡ t = eqb-true p.task t m in let k : has p.task (tasks_of_pairs ps) ≡ true = rw same h in clash _ k d.0) in
        rw (passes-cons above_ceiling p l.held t, other, under)

    by_case : (b : Bool) → passes above_ceiling l.held p.task ≡ b → length (tested above_ceiling ps l).held ≤ length l.held + 1 → length (tested above_ceiling ps (if b then granted p l else l)).held ≤ length l.held + 1
    by_case true e r = rw (tested-none above_ceiling ps (granted p l) none_more) (omega arith)
    by_case false e r = r
