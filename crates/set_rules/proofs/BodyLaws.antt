-- Laws of what a job holds while its body is gone through.
use Rattle.std.proofs.Common.{◌≡◌, ◌≢◌, ℕ, ◌+◌, ◌-◌, ◌==◌, ◌<◌, ◌≤◌, zero, suc, List, [], ◌∷◌, Bool, true, false, not, ◌&&◌, cond, length, drop, get_or, Some, None, refl, ap, sym, ◌∙◌, arith, add-one, drop-cons, length-drop}
use Rattle.std.specs.List.{remove}
use Rattle.std.specs.List.{position, position_from}
use Rattle.std.proofs.lemmas.List.{drop_all}
use Rattle.std.proofs.lemmas.Bool.{or_parts, or_from}
use Rattle.std.proofs.lemmas.Bool.Decides.{nat_tests}
use Rattle.std.proofs.lemmas.Iterator.Adapters.{position_from-zero}
use Rattle.rt_task.specs.declared.Op.{Op}
use Rattle.rt_task.specs.declared.Op.TheVariants as ops
use Rattle.rt_task.specs.declared.draft.Piece.{Piece}
use Rattle.rt_task.specs.declared.draft.Piece.TheVariants.{Works, Once}
use Rattle.rt_task.specs.Bodies.{Holding, without, after_op, goes_on}
use Rattle.rt_task.specs.RuleWords.{has, is_empty}

-- the first that is s is let go
pub without-at : (s : ℕ) (xs : List ℕ) (i d : ℕ) → i < length xs → (get_or xs i d == s) ≡ true → ((k : ℕ) → k < i → (get_or xs k d == s) ≡ false) → without s xs ≡ remove xs i
without-at s [] i d lt at before = absurd (omega arith)
without-at s (x ∷ xs) zero d lt at before = ap (λ b. cond b xs (x ∷ without s xs)) at
without-at s (x ∷ xs) (suc i) d lt at before =
    ap (λ b. cond b xs (x ∷ without s xs)) (before 0 (omega arith))
    ∙ ap (λ ys. x ∷ ys) (without-at s xs i d (omega arith) at (λ k h. before (suc k) (omega arith)))

pub without-none : (s : ℕ) (xs : List ℕ) → has s xs ≡ false → without s xs ≡ xs
without-none s [] h = refl
without-none s (x ∷ xs) h =
    let parts = or_parts (x == s) (has s xs) h in
    ap (λ b. cond b xs (x ∷ without s xs)) parts.0 ∙ ap (λ ys. x ∷ ys) (without-none s xs parts.1)

has-no_position_from : (s n : ℕ) (xs : List ℕ) → position_from (λ m. m == s) n xs ≡ None → has s xs ≡ false
has-no_position_from s n [] h = refl
has-no_position_from s n (x ∷ xs) h = by_test (x == s) refl (has-no_position_from s (n + 1) xs)
  where
    by_test : (b : Bool) → (x == s) ≡ b → (position_from (λ m. m == s) (n + 1) xs ≡ None → has s xs ≡ false) → has s (x ∷ xs) ≡ false
    by_test true e rest = absurd (let f = sym h ∙ ap (λ b. cond b (Some n) (position_from (λ m. m == s) (n + 1) xs)) e in cc)
    by_test false e rest = or_from (x == s) (has s xs) e (rest (sym (ap (λ b. cond b (Some n) (position_from (λ m. m == s) (n + 1) xs)) e) ∙ h))

pub has-no_position : (s : ℕ) (xs : List ℕ) → position (λ m. m == s) xs ≡ None → has s xs ≡ false
has-no_position s xs h = has-no_position_from s 0 xs (sym (position_from-zero (λ m. m == s) xs) ∙ h)

-- ---- a body, from the piece at i on

module _ (declared : List ℕ) (pcp : ℕ → Bool) (ps : List Piece) (i : ℕ) (x : Piece) (lt : i < length ps) (h : Holding) where
  split : drop i ps ≡ get_or ps i x ∷ drop (i + 1) ps
  split = rw add-one (drop-cons ps i x lt)

  from_piece : (y : Piece) → get_or ps i x ≡ y → goes_on declared pcp (drop i ps) (Some h) ≡ goes_on declared pcp (y ∷ drop (i + 1) ps) (Some h)
  from_piece y e = ap (λ qs. goes_on declared pcp qs (Some h)) split ∙ ap (λ y. goes_on declared pcp (y ∷ drop (i + 1) ps) (Some h)) e

  pub goes_on-works : (n : ℕ) → get_or ps i x ≡ Works n → goes_on declared pcp (drop (i + 1) ps) (Some h) ≡ goes_on declared pcp (drop i ps) (Some h)
  unfolding goes_on
  goes_on-works n e = sym (from_piece (Works n) e)

  pub goes_on-op : (op : Op) → get_or ps i x ≡ Once op → op ≢ ops.End → goes_on declared pcp (drop (i + 1) ps) (after_op declared pcp op h) ≡ goes_on declared pcp (drop i ps) (Some h)
  unfolding goes_on
  goes_on-op op e other = by_op op other ∙ sym (from_piece (Once op) e)
    where
      by_op : (op : Op) → op ≢ ops.End → goes_on declared pcp (drop (i + 1) ps) (after_op declared pcp op h) ≡ goes_on declared pcp (Once op ∷ drop (i + 1) ps) (Some h)
      by_op ops.Work other = refl
      by_op (ops.Lock s) other = refl
      by_op (ops.Unlock s) other = refl
      by_op (ops.Sleep n) other = refl
      by_op ops.NpOn other = refl
      by_op ops.NpOff other = refl
      by_op ops.End other = absurd (other refl)

  pub goes_on-end : get_or ps i x ≡ Once ops.End → goes_on declared pcp (drop i ps) (Some h) ≡ ((i == length ps - 1) && (not h.np && is_empty h.held))
  unfolding goes_on
  goes_on-end e = from_piece (Once ops.End) e ∙ by_rest (drop (i + 1) ps) (length-drop (i + 1) ps)
    where
      by_rest : (rest : List Piece) → length rest ≡ length ps - (i + 1) → goes_on declared pcp (Once ops.End ∷ rest) (Some h) ≡ ((i == length ps - 1) && (not h.np && is_empty h.held))
      by_rest [] count = let last : (i == length ps - 1) ≡ true = grind (arith, nat_tests) in ap (λ b. b && (not h.np && is_empty h.held)) (sym last)
      by_rest (y ∷ rest) count = let more : (i == length ps - 1) ≡ false = grind (arith, nat_tests) in ap (λ b. b && (not h.np && is_empty h.held)) (sym more)

pub goes_on-nothing : (declared : List ℕ) (pcp : ℕ → Bool) (ps : List Piece) (i : ℕ) (h : Holding) → length ps ≤ i → goes_on declared pcp (drop i ps) (Some h) ≡ false
unfolding goes_on
goes_on-nothing declared pcp ps i h le = ap (λ qs. goes_on declared pcp qs (Some h)) (drop_all i ps le)

pub goes_on-refused : (declared : List ℕ) (pcp : ℕ → Bool) (ps : List Piece) → goes_on declared pcp ps None ≡ false
unfolding goes_on
goes_on-refused declared pcp ps = refl
