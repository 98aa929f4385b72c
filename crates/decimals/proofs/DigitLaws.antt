-- The digits of a number and of the next one.
use Rattle.std.proofs.Common.{◌≡◌, ℕ, ◌+◌, ◌-◌, ◌/◌, ◌%◌, ◌^◌, ◌<◌, ◌≤◌, List, [], ◌∷◌, ◌++◌, length, get_or, set, decimal, ap, sym, ◌∙◌, ⊎_elim, arith, length-append}
use Rattle.std.proofs.Math.Seq.{set-append_seam, get_or-append_seam}
use Rattle.std.proofs.lemmas.Bool.{cases_lt}
use Rattle.std.proofs.lemmas.Fmt.{decimal_digit, decimal_step_wide}

-- the last digit of a number, and of the next one
record EndsInDigit (n : ℕ) : Type 0 where
  front : List ℕ
  digits : decimal n ≡ front ++ ((48 + n % 10) ∷ [])
  next : n % 10 < 9 → decimal (n + 1) ≡ front ++ ((48 + n % 10 + 1) ∷ [])

ends_in_digit : (n : ℕ) → n < 2 ^ 64 → EndsInDigit n
ends_in_digit n small = ⊎_elim (λ (one : n < 10). of_one one) (λ (more : 10 ≤ n). of_more more) (cases_lt n 10)
  where
    of_one : n < 10 → EndsInDigit n
    of_one one = record {
      front = [];
      digits = decimal_digit n one ∙ ap (λ d. d ∷ []) (omega arith);
      next = λ low. decimal_digit (n + 1) (omega arith) ∙ ap (λ d. d ∷ []) (omega arith);
    }

    of_more : 10 ≤ n → EndsInDigit n
    of_more more = record {
      front = decimal (n / 10);
      digits = decimal_step_wide n more (omega arith);
      next = λ low.
          let same : (n + 1) / 10 ≡ n / 10 = omega arith in
          let last : 48 + (n + 1) % 10 ≡ 48 + n % 10 + 1 = omega arith in
          decimal_step_wide (n + 1) (omega arith) (omega arith) ∙ (λ i. decimal (same i) ++ (last i ∷ []));
    }

module _ (n : ℕ) (small : n < 2 ^ 64) where
  at_last : (e : EndsInDigit n) → length (decimal n) - 1 ≡ length e.front
  at_last e = omega (arith, ap length e.digits, length-append e.front ((48 + n % 10) ∷ []))

  pub last_digit : (d : ℕ) → get_or (decimal n) (length (decimal n) - 1) d ≡ 48 + n % 10
  last_digit d = let e = ends_in_digit n small in rw (at_last e, e.digits) (get_or-append_seam e.front (48 + n % 10) [] d)

  pub decimal_raised : n % 10 < 9 → set (decimal n) (length (decimal n) - 1) (48 + n % 10 + 1) ≡ decimal (n + 1)
  decimal_raised low =
      let e = ends_in_digit n small in
      rw (at_last e, e.digits) (set-append_seam e.front (48 + n % 10) [] (48 + n % 10 + 1)) ∙ sym (e.next low)

  pub decimal_lowered : 0 < n % 10 → set (decimal n) (length (decimal n) - 1) (48 + n % 10 - 1) ≡ decimal (n - 1)
  decimal_lowered some =
      let e = ends_in_digit (n - 1) (omega arith) in
      let whole : n - 1 + 1 ≡ n = omega arith in
      let last : 48 + (n - 1) % 10 + 1 ≡ 48 + n % 10 = omega arith in
      let lower : 48 + n % 10 - 1 ≡ 48 + (n - 1) % 10 = omega arith in
      let digits : decimal n ≡ e.front ++ ((48 + n % 10) ∷ []) =
      ap decimal (sym whole) ∙ e.next (omega arith) ∙ ap (λ (d : ℕ). e.front ++ (d ∷ [])) last in
      let at : length (decimal n) - 1 ≡ length e.front = omega (arith, ap length digits, length-append e.front ((48 + n % 10) ∷ [])) in
      rw (at, digits) (set-append_seam e.front (48 + n % 10) [] (48 + n % 10 - 1)) ∙ ap (λ (d : ℕ). e.front ++ (d ∷ [])) lower ∙ sym e.digits

-- a number of two digits
pub two_digits : (n : ℕ) → 10 ≤ n → n < 100 → decimal n ≡ (48 + n / 10) ∷ (48 + n % 10) ∷ []
two_digits n more small =
    decimal_step_wide n more (omega arith) ∙ ap (λ (ds : List ℕ). ds ++ ((48 + n % 10) ∷ [])) (decimal_digit (n / 10) (omega arith))
