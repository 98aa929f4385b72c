-- The canonical text of a valid set stands on one line.
use Rattle.std.proofs.Common.{◌≡◌, ◌≢◌, ℕ, zero, suc, ◌<◌, ◌≤◌, ◌==◌, Bool, true, false, not, ◌&&◌, List, [], ◌∷◌, ◌++◌, All, inl, inr, refl, arith}
use Rattle.std.proofs.lemmas.Bool.{and_parts, cases_lt}
use Rattle.std.proofs.lemmas.Bool.Decides.{nat_tests}
use Rattle.std.proofs.lemmas.List.Elements.{All-nil, All-cons}
use Rattle.json.specs.Print.{escape_byte, escape, quoted, token_text}
use Rattle.json.specs.Token.{boolean as boolean_token}
use Rattle.json.proofs.Printed.Strings.{escape_byte_plain}
use Rattle.serde_json.specs.Data.{unsigned, negative, float, Data, null, boolean, number, string, array, object, Items, no_items, item, Members, no_members, member}
use Rattle.serde_json.specs.Written.{compact_text, items_text, members_text, comma_if}
use Rattle.rt_task.specs.declared.Parts.{Parts}
use Rattle.rt_task.specs.Draft.{draft_of}
use Rattle.rt_task.specs.Validity.{refusal_of, IsValid}
use Rattle.set_canonical.specs.Canonical.{canonical, set_data}
use Rattle.set_laws.proofs.CompactLaws.{IsStored, AreStored, MembersStored}
use Rattle.set_laws.proofs.Passing.{rows}
use Rattle.set_laws.proofs.StoredLaws.{is_stored}
use Rattle.trace_read.proofs.WordLaws.{is_free, is_free-append, IsNoDigit, decimal-free}

-- ---- a string's line feeds are escaped

abbrev frees_below : ℕ → Bool
frees_below zero = true
frees_below (suc n) = is_free 10 (escape_byte n) && frees_below n

free_below : (n : ℕ) → frees_below n ≡ true → (x : ℕ) → x < n → is_free 10 (escape_byte x) ≡ true
free_below zero e x h = absurd (omega arith)
free_below (suc n) e x h =
    let parts = and_parts (is_free 10 (escape_byte n)) (frees_below n) e in
    elim (cases_lt x n) [ inl low ↦ free_below n parts.1 x low | inr high ↦ (let same : x ≡ n = omega arith in rw same parts.0) ]

low_free : frees_below 93 ≡ true
unfolding escape_byte
low_free = refl

high_free : (x : ℕ) → 93 ≤ x → is_free 10 (x ∷ []) ≡ true
high_free x h = grind (arith, nat_tests)

escape_byte-free : (x : ℕ) → is_free 10 (escape_byte x) ≡ true
escape_byte-free x = elim (cases_lt x 93) [
  | inl low ↦ free_below 93 low_free x low
  | inr high ↦ rw (escape_byte_plain x (λ e. omega arith) (λ e. omega arith) (omega arith)) (high_free x high)
]

escape-free : (s : List ℕ) → is_free 10 (escape s) ≡ true
escape-free [] = refl
escape-free (x ∷ xs) = is_free-append 10 (escape_byte x) (escape xs) (escape_byte-free x) (escape-free xs)

quoted-free : (s : List ℕ) → is_free 10 (quoted s) ≡ true
quoted-free s = is_free-append 10 (escape s) (34 ∷ []) (escape-free s) refl

-- ---- the compact text of a value

feed : IsNoDigit 10
feed = record { differs = λ d h. grind (arith, nat_tests) }

boolean-free : (b : Bool) → is_free 10 (token_text (boolean_token b)) ≡ true
boolean-free true = refl
boolean-free false = refl

comma_if-free : (b : Bool) → is_free 10 (comma_if b) ≡ true
comma_if-free true = refl
comma_if-free false = refl

mutual
  compact_text-free : (d : Data) → IsStored d → is_free 10 (compact_text d) ≡ true
  compact_text-free null h = refl
  compact_text-free (boolean b) h = boolean-free b
  compact_text-free (number (unsigned n)) h = decimal-free 10 n feed h
  compact_text-free (number (negative z)) h = absurd h
  compact_text-free (number (float x)) h = absurd h
  compact_text-free (string s) h = quoted-free s
  compact_text-free (array ds) h = is_free-append 10 (91 ∷ []) (items_text false ds) refl (items_text-free false ds h)
  compact_text-free (object ms) h = is_free-append 10 (123 ∷ []) (members_text false ms) refl (members_text-free false ms h.1)

  items_text-free : (later : Bool) (ds : Items) → AreStored ds → is_free 10 (items_text later ds) ≡ true
  items_text-free later no_items h = refl
  items_text-free later (item d ds) h =
      is_free-append 10 (comma_if later) (compact_text d ++ items_text true ds) (comma_if-free later)
      (is_free-append 10 (compact_text d) (items_text true ds) (compact_text-free d h.0) (items_text-free true ds h.1))

  members_text-free : (later : Bool) (ms : Members) → MembersStored ms → is_free 10 (members_text later ms) ≡ true
  members_text-free later no_members h = refl
  members_text-free later (member k d ms) h =
      let value = is_free-append 10 (compact_text d) (members_text true ms) (compact_text-free d h.1) (members_text-free true ms h.2) in
      let after_colon = is_free-append 10 (58 ∷ []) (compact_text d ++ members_text true ms) refl value in
      is_free-append 10 (comma_if later) (quoted k ++ 58 ∷ (compact_text d ++ members_text true ms)) (comma_if-free later)
      (is_free-append 10 (quoted k) (58 ∷ (compact_text d ++ members_text true ms)) (quoted-free k) after_colon)

-- ---- one line

pub one_line-from_free : (w : List ℕ) → is_free 10 w ≡ true → All (λ (c : ℕ). c ≢ 10) w
one_line-from_free [] h = All-nil (λ (c : ℕ). c ≢ 10)
one_line-from_free (x ∷ xs) h =
    let parts = and_parts (not (x == 10)) (is_free 10 xs) h in
    All-cons (λ (c : ℕ). c ≢ 10) x xs (differs x parts.0) (one_line-from_free xs parts.1)
  where
    differs : (x : ℕ) → not (x == 10) ≡ true → x ≢ 10
    differs x h = grind (arith, nat_tests)

pub canonical-one_line : (p : Parts) → IsValid p → All (λ (c : ℕ). c ≢ 10) (canonical p)
unfolding canonical refusal_of
canonical-one_line p valid = one_line-from_free (compact_text (set_data p)) (compact_text-free (set_data p) (is_stored p (rows (draft_of p) valid)))
