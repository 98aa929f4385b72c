-- Each task of a load passes the rules of tasks.
use Rattle.std.proofs.Common.{◌≡◌, ◌∙◌, ◌≤◌, ◌<◌, ◌+◌, ◌-◌, ◌*◌, ◌%◌, ◌^◌, ◌==◌, ℕ, zero, suc, List, [], ◌∷◌, ◌++◌, Bool, true, false, not, ◌&&◌, ◌||◌, None, Some, cond, map, length, length-append, drop, nat_lt, nat_le, refl, ap, sym, arith}
use Rattle.std.specs.Prelude.{bytes_eq, decimal}
use Rattle.std.specs.List.{list_all, list_any}
use Rattle.std.proofs.Math.Nat.{mod-lt}
use Rattle.std.proofs.lemmas.Bool.{and_from, or_from, or_right, false_from_ne_true, le-leb, lt-ltb, eq-eqb}
use Rattle.std.proofs.lemmas.Fmt.{decimal_by_steps, decimal_injective, length-decimal-le}
use Rattle.std.proofs.lemmas.List.Folds.{list_all-append, list_any-append}
use Rattle.std.proofs.lemmas.Slice.Eq.{bytes_eq-Decides}
use Rattle.rt_base.specs.declared.TheConstants.{MOST_NAME_BYTES, MOST_OPERATIONS, TICK_END}
use Rattle.rt_base.specs.declared.SemNo.{SemNo}
use Rattle.rt_task.specs.declared.Op.TheVariants as ops
use Rattle.rt_task.specs.declared.draft.Piece.TheVariants.{Works, Once}
use Rattle.rt_task.specs.Lookups.{is_stacked_sem}
use Rattle.rt_task.specs.declared.draft.DraftTask.{DraftTask}
use Rattle.rt_task.specs.Bodies.{at_release, goes_on, after_op, nests}
use Rattle.rt_task.specs.NameRules.{task_name, piece_is_known}
use Rattle.rt_task.specs.RangeRules.{task_range}
use Rattle.rt_task.specs.Refusals.{first_failing}
use Rattle.rt_task.specs.RuleWords.{is_empty, body_len, is_name, is_name_byte, is_span, is_known, no_repeat, piece_in_range, within}
use Rattle.rt_task.specs.SharingRules.{task_sharing}
use Rattle.rt_task.specs.SizeRules.{task_size}
use Rattle.rt_task.specs.Validity.{task_shape}
use Rattle.load_set.specs.declared.draws.Drawn.{Drawn}
use Rattle.load_set.specs.Draws.{draw_from, after_four}
use Rattle.load_set.specs.Load.{name_of, cluster_of, tens, cost_of, has_lock, sem_of, uses_of}
use Rattle.load_set.proofs.LoadDraft.{pieces_of, drafted, drafts_from, draft_with}

-- ---- numbers

within-from : (low high n : ℕ) → low ≤ n → n ≤ high → within low high n ≡ true
within-from low high n l h = and_from (nat_le low n) (nat_le n high) (le-leb low n l) (le-leb n high h)

tens-bounds : (d : Drawn) → (1 ≤ tens d) × (tens d ≤ 100)
tens-bounds d = let h : d.period % 100 < 100 = mod-lt d.period (omega arith) in (omega arith, omega arith)

cost-bounds : (d : Drawn) → (1 ≤ cost_of d) × (cost_of d ≤ 100)
cost-bounds d =
    let t = tens-bounds d in
    let h : d.cost % tens d < tens d = mod-lt d.cost (omega (arith, t.0)) in
    (omega arith, omega (arith, h, t.1))

pub sem-bounds : (i : ℕ) (d : Drawn) → (1 ≤ sem_of i d) × (sem_of i d ≤ 6)
sem-bounds i d =
    let c : cluster_of i < 2 = mod-lt (i - 1) (omega arith) in
    let s : d.sem % 3 < 3 = mod-lt d.sem (omega arith) in
    (omega arith, omega (arith, c, s))

-- ---- names

digit : (m : ℕ) → m < 10 → is_name_byte (48 + m) ≡ true
digit m lt = ap (λ b. b || (within 65 90 (48 + m) || (within 97 122 (48 + m) || (48 + m == 95 || 48 + m == 45)))) (within-from 48 57 (48 + m) (omega arith) (omega arith))

decimal-bytes : (n : ℕ) → n < 2 ^ 64 → list_all is_name_byte (decimal n) ≡ true
decimal-bytes = decimal_by_steps (λ m ds. list_all is_name_byte ds ≡ true)
    (λ m lt. and_from (is_name_byte (48 + m)) true (digit m lt) refl)
    (λ m ds le so_far. list_all-append is_name_byte ds ((48 + m % 10) ∷ []) ∙ and_from (list_all is_name_byte ds) (is_name_byte (48 + m % 10) && true) so_far
    (and_from (is_name_byte (48 + m % 10)) true (digit (m % 10) (mod-lt m (omega arith))) refl))

pub is_name-name : (letter i : ℕ) → is_name_byte letter ≡ true → i ≤ 40 → is_name (name_of letter i) ≡ true
is_name-name letter i byte le =
    let count : length (decimal i) ≤ 2 = length-decimal-le 2 i (omega arith) (omega arith) (omega arith) in
    and_from (within 1 MOST_NAME_BYTES (length (name_of letter i))) (list_all is_name_byte (name_of letter i))
    (within-from 1 MOST_NAME_BYTES (length (name_of letter i)) (omega arith) (omega (arith, count)))
    (and_from (is_name_byte letter) (list_all is_name_byte (decimal i)) byte (decimal-bytes i (omega arith)))

names-differ : (letter i j : ℕ) → i < j → j ≤ 40 → bytes_eq (name_of letter i) (name_of letter j) ≡ false
names-differ letter i j lt le = false_from_ne_true (bytes_eq (name_of letter i) (name_of letter j)) (λ e.
    let same : decimal i ≡ decimal j = ap (drop 1) ((bytes_eq-Decides (name_of letter i) (name_of letter j)).0 e) in
    let number : i ≡ j = decimal_injective i j (omega arith) (omega arith) same in
    omega (arith, number, lt))

-- no element has the name of this letter with a number from i on
abbrev pub AreNamedBefore : {A : Type 0} → (A → List ℕ) → ℕ → ℕ → List A → Type 0
AreNamedBefore name letter i earlier = (j : ℕ) → i ≤ j → j ≤ 40 → list_any (λ x. bytes_eq (name x) (name_of letter j)) earlier ≡ false

pub named-next : {A : Type 0} (name : A → List ℕ) (letter i : ℕ) (earlier : List A) (y : A) → name y ≡ name_of letter i → AreNamedBefore name letter i earlier → AreNamedBefore name letter (suc i) (earlier ++ y ∷ [])
named-next name letter i earlier y is before j lo hi =
    list_any-append (λ x. bytes_eq (name x) (name_of letter j)) earlier (y ∷ [])
    ∙ or_from (list_any (λ x. bytes_eq (name x) (name_of letter j)) earlier) (bytes_eq (name y) (name_of letter j) || false) (before j (omega arith) hi)
    (or_from (bytes_eq (name y) (name_of letter j)) false (ap (λ n. bytes_eq n (name_of letter j)) is ∙ names-differ letter i j (omega arith) hi) refl)

-- ---- bodies

pieces-range : (b : Bool) (s w : ℕ) → within 1 MOST_OPERATIONS w ≡ true → list_all piece_in_range (pieces_of b s w) ≡ true
pieces-range true s w h = and_from (within 1 MOST_OPERATIONS w) true h refl
pieces-range false s w h = and_from (within 1 MOST_OPERATIONS w) true h refl

same : (n : ℕ) → (n == n) ≡ true
same n = eq-eqb n n refl

-- the only semaphore that is declared, which is granted
lock-goes_on : (pcp : ℕ → Bool) (s : ℕ) → after_op (s ∷ []) pcp (ops.Lock (record { 0 = s })) at_release ≡ Some (record { held = s ∷ []; np = false })
unfolding after_op nests
lock-goes_on pcp s = ap (λ b. cond ((b || false) && true) (Some (record { held = s ∷ []; np = false })) None) (same s)

unlock-goes_on : (pcp : ℕ → Bool) (s : ℕ) → after_op (s ∷ []) pcp (ops.Unlock (record { 0 = s })) (record { held = s ∷ []; np = false }) ≡ Some at_release
unfolding after_op
unlock-goes_on pcp s =
    ap (λ b. cond ((b || false) && (not (pcp s) || b)) (Some (record { held = cond b [] (s ∷ []); np = false })) None) (same s)
    ∙ ap (λ c. cond c (Some at_release) None) (or_right (not (pcp s)) true refl)

pieces-go_on : (pcp : ℕ → Bool) (b : Bool) (s w : ℕ) → goes_on (map (λ (n : SemNo). n.0) (uses_of b s)) pcp (pieces_of b s w) (Some at_release) ≡ true
unfolding goes_on
pieces-go_on pcp true s w =
    ap (goes_on (s ∷ []) pcp (Works w ∷ Once (ops.Unlock (record { 0 = s })) ∷ Once ops.End ∷ [])) (lock-goes_on pcp s)
    ∙ ap (goes_on (s ∷ []) pcp (Once ops.End ∷ [])) (unlock-goes_on pcp s)
pieces-go_on pcp false s w = refl

pieces-fit : (b : Bool) (s w : ℕ) → w ≤ 100 → nat_le (body_len (pieces_of b s w)) MOST_OPERATIONS ≡ true
pieces-fit true s w le = le-leb (body_len (pieces_of true s w)) MOST_OPERATIONS (omega arith)
pieces-fit false s w le = le-leb (body_len (pieces_of false s w)) MOST_OPERATIONS (omega arith)

-- ---- the rules on one task

-- the tasks before number i
pub record IsBefore (i : ℕ) (earlier : List DraftTask) : Type 0 where
  pub count : length earlier + 1 ≡ i
  pub names : AreNamedBefore (λ (x : DraftTask). x.name) 116 i earlier

module _ (ts earlier : List DraftTask) (i : ℕ) (d : Drawn) where
  pub shape-passes : task_shape (draft_with ts) earlier (drafted i d) ≡ true
  unfolding task_shape drafted
  shape-passes = by_lock (has_lock d)
    where
      by_lock : (b : Bool) → not (is_empty (pieces_of b (sem_of i d) (cost_of d))) ≡ true
      by_lock true = refl
      by_lock false = refl

  pub range-passes : task_range (draft_with ts) earlier (drafted i d) ≡ true
  unfolding task_range drafted
  range-passes =
      let t = tens-bounds d in
      let c = cost-bounds d in
      let span : is_span (10 * tens d) ≡ true = within-from 1 (TICK_END - 1) (10 * tens d) (omega (arith, t.0)) (omega (arith, t.1)) in
      let cluster : nat_lt (cluster_of i) 2 ≡ true = lt-ltb (cluster_of i) 2 (mod-lt (i - 1) (omega arith)) in
      rw (
        within-from 1 (TICK_END - 1) (cost_of d) c.0 (omega (arith, c.1)),
        span,
        cluster,
        pieces-range (has_lock d) (sem_of i d) (cost_of d) (within-from 1 MOST_OPERATIONS (cost_of d) c.0 (omega (arith, c.1))),
      )
      refl

  pub size-passes : task_size (draft_with ts) earlier (drafted i d) ≡ true
  unfolding task_size drafted
  size-passes = pieces-fit (has_lock d) (sem_of i d) (cost_of d) (cost-bounds d).1

  pub sharing-passes : task_sharing (draft_with ts) earlier (drafted i d) ≡ true
  unfolding task_sharing drafted
  sharing-passes =
      let goes = pieces-go_on (is_stacked_sem (draft_with ts)) (has_lock d) (sem_of i d) (cost_of d) in
      ap (λ b. b && true) (or_right (is_empty (pieces_of (has_lock d) (sem_of i d) (cost_of d))) _ goes)

  known : is_known (draft_with ts).sems (sem_of i d) ≡ true
  known = let s = sem-bounds i d in within-from 1 6 (sem_of i d) s.0 s.1

  uses-known : (b : Bool) → list_all (is_known (draft_with ts).sems) (map (λ (n : SemNo). n.0) (uses_of b (sem_of i d))) ≡ true
  uses-known true = and_from (is_known (draft_with ts).sems (sem_of i d)) true known refl
  uses-known false = refl

  uses-once : (b : Bool) → no_repeat (map (λ (n : SemNo). n.0) (uses_of b (sem_of i d))) ≡ true
  uses-once true = refl
  uses-once false = refl

  pieces-known : (b : Bool) → list_all (piece_is_known (draft_with ts)) (pieces_of b (sem_of i d) (cost_of d)) ≡ true
  pieces-known true = rw known refl
  pieces-known false = refl

  pub name-passes : IsBefore i earlier → i ≤ 40 → task_name (draft_with ts) earlier (drafted i d) ≡ true
  unfolding task_name drafted
  name-passes before le =
      rw (
        eq-eqb i (length earlier + 1) (sym before.count),
        is_name-name 116 i refl le,
        before.names i (omega arith) le,
        uses-known (has_lock d),
        uses-once (has_lock d),
        pieces-known (has_lock d),
      )
      refl

  pub one-more-before : IsBefore i earlier → IsBefore (suc i) (earlier ++ drafted i d ∷ [])
  unfolding drafted
  one-more-before before = record {
    count = let n = length-append earlier (drafted i d ∷ []) in omega (arith, n, before.count);
    names = named-next (λ (x : DraftTask). x.name) 116 i earlier (drafted i d) refl before.names;
  }

-- a rule that each task of the load passes where those before it are before
pub tasks-pass : (rule : List DraftTask → DraftTask → Bool) → ((earlier : List DraftTask) (i : ℕ) (d : Drawn) → IsBefore i earlier → i ≤ 40 → rule earlier (drafted i d) ≡ true)
    → (n i x : ℕ) (earlier : List DraftTask) → IsBefore i earlier → i + n ≤ 41 → first_failing rule earlier (drafts_from n i x) ≡ None
unfolding drafts_from
tasks-pass rule passes zero i x earlier before le = refl
tasks-pass rule passes (suc n) i x earlier before le =
    let t = drafted i (draw_from x) in
    ap (λ b. cond b (first_failing rule (earlier ++ t ∷ []) (drafts_from n (suc i) (after_four x))) (Some (length earlier))) (passes earlier i (draw_from x) before (omega arith))
    ∙ tasks-pass rule passes n (suc i) (after_four x) (earlier ++ t ∷ []) (one-more-before [] earlier i (draw_from x) before) (omega arith)
