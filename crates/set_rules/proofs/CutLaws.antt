-- A body written out and gathered again in runs of Work: what the rules say of it stays the same.
use Rattle.std.proofs.Common.{◌≡◌, ℕ, zero, suc, ◌+◌, ◌<◌, ◌≤◌, List, [], ◌∷◌, ◌++◌, Bool, true, false, cond, nat_lt, nat_le, Option, Some, None, refl, ap, sym, ◌∙◌, arith}
use Rattle.std.specs.Prelude.{flat_map, replicate}
use Rattle.std.specs.List.{list_all}
use Rattle.std.proofs.lemmas.List.Sums.{sum_by-cons}
use Rattle.std.proofs.lemmas.Bool.{and_parts, and_from, ltb-true, leb-true, le-leb}
use Rattle.rt_base.specs.declared.TheConstants.{MOST_OPERATIONS}
use Rattle.rt_task.specs.declared.Op.{Op}
use Rattle.rt_task.specs.declared.Op.TheVariants as ops
use Rattle.rt_task.specs.declared.draft.Piece.{Piece}
use Rattle.rt_task.specs.declared.draft.Piece.TheVariants.{Works, Once}
use Rattle.rt_task.specs.Bodies.{Holding, after_op, goes_on}
use Rattle.rt_task.specs.Draft.{one_more_work, runs, operations}
use Rattle.rt_task.specs.RuleWords.{is_empty, within, piece_in_range, piece_len, body_len}
use Rattle.set_rules.proofs.BodyLaws.{goes_on-refused}

abbrev pub recut : List Piece → List Piece
recut ps = runs (flat_map operations ps)

-- ---- a fact that one more unit of Work in front keeps

works-front : {A : Type 0} (f : List Piece → A) (os : List Op) (n : ℕ) → ((ps : List Piece) → f (one_more_work ps) ≡ f ps) → f (runs (replicate n ops.Work ++ os)) ≡ f (runs os)
unfolding runs
works-front f os zero h = refl
works-front f os (suc n) h = h (runs (replicate n ops.Work ++ os)) ∙ works-front f os n h

-- ---- emptiness

one_more-some : (ps : List Piece) → is_empty (one_more_work ps) ≡ false
one_more-some [] = refl
one_more-some (Works n ∷ rest) = by_test (nat_lt n MOST_OPERATIONS)
  where
    by_test : (b : Bool) → is_empty (cond b (Works (n + 1) ∷ rest) (Works 1 ∷ Works n ∷ rest)) ≡ false
    by_test true = refl
    by_test false = refl
one_more-some (Once op ∷ rest) = refl

some_works : (n : ℕ) (os : List Op) → 1 ≤ n → is_empty (runs (replicate n ops.Work ++ os)) ≡ false
unfolding runs
some_works zero os h = absurd (omega arith)
some_works (suc n) os h = one_more-some (runs (replicate n ops.Work ++ os))

in_range_parts : (n : ℕ) → within 1 MOST_OPERATIONS n ≡ true → (1 ≤ n) × (n ≤ MOST_OPERATIONS)
in_range_parts n h = let p = and_parts (nat_le 1 n) (nat_le n MOST_OPERATIONS) h in (leb-true 1 n p.0, leb-true n MOST_OPERATIONS p.1)

pub is_empty-recut : (ps : List Piece) → list_all piece_in_range ps ≡ true → is_empty (recut ps) ≡ is_empty ps
unfolding runs
is_empty-recut [] h = refl
is_empty-recut (Works n ∷ rest) h = some_works n (flat_map operations rest) (in_range_parts n (and_parts (within 1 MOST_OPERATIONS n) (list_all piece_in_range rest) h).0).0
is_empty-recut (Once ops.Work ∷ rest) h = one_more-some (recut rest)
is_empty-recut (Once (ops.Lock s) ∷ rest) h = refl
is_empty-recut (Once (ops.Unlock s) ∷ rest) h = refl
is_empty-recut (Once (ops.Sleep n) ∷ rest) h = refl
is_empty-recut (Once ops.NpOn ∷ rest) h = refl
is_empty-recut (Once ops.NpOff ∷ rest) h = refl
is_empty-recut (Once ops.End ∷ rest) h = refl

-- ---- a test of each piece

module _ (q : Piece → Bool) (one : q (Works 1) ≡ true) (more : (n : ℕ) → n < MOST_OPERATIONS → q (Works n) ≡ true → q (Works (n + 1)) ≡ true) where
  all-one_more : (ps : List Piece) → list_all q ps ≡ true → list_all q (one_more_work ps) ≡ true
  all-one_more [] h = and_from (q (Works 1)) true one refl
  all-one_more (Works n ∷ rest) h = by_test (nat_lt n MOST_OPERATIONS) refl
    where
      parts : (q (Works n) ≡ true) × (list_all q rest ≡ true)
      parts = and_parts (q (Works n)) (list_all q rest) h

      by_test : (b : Bool) → nat_lt n MOST_OPERATIONS ≡ b → list_all q (cond b (Works (n + 1) ∷ rest) (Works 1 ∷ Works n ∷ rest)) ≡ true
      by_test true e = and_from (q (Works (n + 1))) (list_all q rest) (more n (ltb-true n MOST_OPERATIONS e) parts.0) parts.1
      by_test false e = and_from (q (Works 1)) (list_all q (Works n ∷ rest)) one h
  all-one_more (Once op ∷ rest) h = and_from (q (Works 1)) (list_all q (Once op ∷ rest)) one h

  all-works : (os : List Op) (n : ℕ) → list_all q (runs os) ≡ true → list_all q (runs (replicate n ops.Work ++ os)) ≡ true
  unfolding runs
  all-works os zero h = h
  all-works os (suc n) h = all-one_more (runs (replicate n ops.Work ++ os)) (all-works os n h)

  pub all-recut : (ps : List Piece) → list_all q ps ≡ true → list_all q (recut ps) ≡ true
  unfolding runs
  all-recut [] h = refl
  all-recut (Works n ∷ rest) h = all-works (flat_map operations rest) n (all-recut rest (and_parts (q (Works n)) (list_all q rest) h).1)
  all-recut (Once ops.Work ∷ rest) h = all-one_more (recut rest) (all-recut rest (and_parts (q (Once ops.Work)) (list_all q rest) h).1)
  all-recut (Once (ops.Lock s) ∷ rest) h = let p = and_parts (q (Once (ops.Lock s))) (list_all q rest) h in and_from (q (Once (ops.Lock s))) (list_all q (recut rest)) p.0 (all-recut rest p.1)
  all-recut (Once (ops.Unlock s) ∷ rest) h = let p = and_parts (q (Once (ops.Unlock s))) (list_all q rest) h in and_from (q (Once (ops.Unlock s))) (list_all q (recut rest)) p.0 (all-recut rest p.1)
  all-recut (Once (ops.Sleep n) ∷ rest) h = let p = and_parts (q (Once (ops.Sleep n))) (list_all q rest) h in and_from (q (Once (ops.Sleep n))) (list_all q (recut rest)) p.0 (all-recut rest p.1)
  all-recut (Once ops.NpOn ∷ rest) h = let p = and_parts (q (Once ops.NpOn)) (list_all q rest) h in and_from (q (Once ops.NpOn)) (list_all q (recut rest)) p.0 (all-recut rest p.1)
  all-recut (Once ops.NpOff ∷ rest) h = let p = and_parts (q (Once ops.NpOff)) (list_all q rest) h in and_from (q (Once ops.NpOff)) (list_all q (recut rest)) p.0 (all-recut rest p.1)
  all-recut (Once ops.End ∷ rest) h = let p = and_parts (q (Once ops.End)) (list_all q rest) h in and_from (q (Once ops.End)) (list_all q (recut rest)) p.0 (all-recut rest p.1)

pub all_in_range-recut : (ps : List Piece) → list_all piece_in_range ps ≡ true → list_all piece_in_range (recut ps) ≡ true
all_in_range-recut ps h = all-recut piece_in_range refl (λ n lt e. and_from (nat_le 1 (n + 1)) (nat_le (n + 1) MOST_OPERATIONS) (le-leb 1 (n + 1) (omega arith)) (le-leb (n + 1) MOST_OPERATIONS (omega arith))) ps h

-- ---- going on

goes_on-one_more : (declared : List ℕ) (pcp : ℕ → Bool) (h : Option Holding) (ps : List Piece) → goes_on declared pcp (one_more_work ps) h ≡ goes_on declared pcp ps h
unfolding goes_on
goes_on-one_more declared pcp None ps = goes_on-refused declared pcp (one_more_work ps) ∙ sym (goes_on-refused declared pcp ps)
goes_on-one_more declared pcp (Some h) [] = refl
goes_on-one_more declared pcp (Some h) (Works n ∷ rest) = by_test (nat_lt n MOST_OPERATIONS)
  where
    by_test : (b : Bool) → goes_on declared pcp (cond b (Works (n + 1) ∷ rest) (Works 1 ∷ Works n ∷ rest)) (Some h) ≡ goes_on declared pcp rest (Some h)
    by_test true = refl
    by_test false = refl
goes_on-one_more declared pcp (Some h) (Once op ∷ rest) = refl

end_alike : (declared : List ℕ) (pcp : ℕ → Bool) (h : Holding) (ps qs : List Piece) → is_empty ps ≡ is_empty qs → goes_on declared pcp (Once ops.End ∷ ps) (Some h) ≡ goes_on declared pcp (Once ops.End ∷ qs) (Some h)
unfolding goes_on
end_alike declared pcp h [] [] e = refl
end_alike declared pcp h [] (q ∷ qs) e = absurd cc
end_alike declared pcp h (p ∷ ps) [] e = absurd cc
end_alike declared pcp h (p ∷ ps) (q ∷ qs) e = refl

pub goes_on-recut : (declared : List ℕ) (pcp : ℕ → Bool) (ps : List Piece) (h : Option Holding) → list_all piece_in_range ps ≡ true → goes_on declared pcp (recut ps) h ≡ goes_on declared pcp ps h
unfolding goes_on after_op runs
goes_on-recut declared pcp ps None r = goes_on-refused declared pcp (recut ps) ∙ sym (goes_on-refused declared pcp ps)
goes_on-recut declared pcp [] (Some h) r = refl
goes_on-recut declared pcp (Works n ∷ rest) (Some h) r =
    works-front (λ qs. goes_on declared pcp qs (Some h)) (flat_map operations rest) n (goes_on-one_more declared pcp (Some h))
    ∙ goes_on-recut declared pcp rest (Some h) (and_parts (piece_in_range (Works n)) (list_all piece_in_range rest) r).1
goes_on-recut declared pcp (Once ops.Work ∷ rest) (Some h) r = goes_on-one_more declared pcp (Some h) (recut rest) ∙ goes_on-recut declared pcp rest (Some h) (and_parts (piece_in_range (Once ops.Work)) (list_all piece_in_range rest) r).1
goes_on-recut declared pcp (Once (ops.Lock s) ∷ rest) (Some h) r = goes_on-recut declared pcp rest (after_op declared pcp (ops.Lock s) h) (and_parts (piece_in_range (Once (ops.Lock s))) (list_all piece_in_range rest) r).1
goes_on-recut declared pcp (Once (ops.Unlock s) ∷ rest) (Some h) r = goes_on-recut declared pcp rest (after_op declared pcp (ops.Unlock s) h) (and_parts (piece_in_range (Once (ops.Unlock s))) (list_all piece_in_range rest) r).1
goes_on-recut declared pcp (Once (ops.Sleep n) ∷ rest) (Some h) r = goes_on-recut declared pcp rest (after_op declared pcp (ops.Sleep n) h) (and_parts (piece_in_range (Once (ops.Sleep n))) (list_all piece_in_range rest) r).1
goes_on-recut declared pcp (Once ops.NpOn ∷ rest) (Some h) r = goes_on-recut declared pcp rest (after_op declared pcp ops.NpOn h) (and_parts (piece_in_range (Once ops.NpOn)) (list_all piece_in_range rest) r).1
goes_on-recut declared pcp (Once ops.NpOff ∷ rest) (Some h) r = goes_on-recut declared pcp rest (after_op declared pcp ops.NpOff h) (and_parts (piece_in_range (Once ops.NpOff)) (list_all piece_in_range rest) r).1
goes_on-recut declared pcp (Once ops.End ∷ rest) (Some h) r = end_alike declared pcp h (recut rest) rest (is_empty-recut rest (and_parts (piece_in_range (Once ops.End)) (list_all piece_in_range rest) r).1)

-- ---- length

body_len-front : (p : Piece) (ps : List Piece) → body_len (p ∷ ps) ≡ piece_len p + body_len ps
body_len-front p ps = sum_by-cons piece_len p ps

body_len-one_more : (ps : List Piece) → body_len (one_more_work ps) ≡ 1 + body_len ps
body_len-one_more [] = refl
body_len-one_more (Works n ∷ rest) = by_test (nat_lt n MOST_OPERATIONS)
  where
    by_test : (b : Bool) → body_len (cond b (Works (n + 1) ∷ rest) (Works 1 ∷ Works n ∷ rest)) ≡ 1 + body_len (Works n ∷ rest)
    by_test true = let e = body_len-front (Works (n + 1)) rest in let f = body_len-front (Works n) rest in omega arith
    by_test false = body_len-front (Works 1) (Works n ∷ rest)
body_len-one_more (Once op ∷ rest) = body_len-front (Works 1) (Once op ∷ rest)

body_len-works : (n : ℕ) (os : List Op) → body_len (runs (replicate n ops.Work ++ os)) ≡ n + body_len (runs os)
unfolding runs
body_len-works zero os = omega arith
body_len-works (suc n) os = let e = body_len-one_more (runs (replicate n ops.Work ++ os)) in let f = body_len-works n os in omega arith

again : (op : Op) (ps qs : List Piece) → body_len ps ≡ body_len qs → body_len (Once op ∷ ps) ≡ body_len (Once op ∷ qs)
again op ps qs e = body_len-front (Once op) ps ∙ ap (λ m. 1 + m) e ∙ sym (body_len-front (Once op) qs)

pub body_len-recut : (ps : List Piece) → body_len (recut ps) ≡ body_len ps
unfolding runs
body_len-recut [] = refl
body_len-recut (Works n ∷ rest) = body_len-works n (flat_map operations rest) ∙ ap (λ m. n + m) (body_len-recut rest) ∙ sym (body_len-front (Works n) rest)
body_len-recut (Once ops.Work ∷ rest) = body_len-one_more (recut rest) ∙ ap (λ m. 1 + m) (body_len-recut rest) ∙ sym (body_len-front (Once ops.Work) rest)
body_len-recut (Once (ops.Lock s) ∷ rest) = again (ops.Lock s) (recut rest) rest (body_len-recut rest)
body_len-recut (Once (ops.Unlock s) ∷ rest) = again (ops.Unlock s) (recut rest) rest (body_len-recut rest)
body_len-recut (Once (ops.Sleep n) ∷ rest) = again (ops.Sleep n) (recut rest) rest (body_len-recut rest)
body_len-recut (Once ops.NpOn ∷ rest) = again ops.NpOn (recut rest) rest (body_len-recut rest)
body_len-recut (Once ops.NpOff ∷ rest) = again ops.NpOff (recut rest) rest (body_len-recut rest)
body_len-recut (Once ops.End ∷ rest) = again ops.End (recut rest) rest (body_len-recut rest)
