-- Ticks in microseconds, digit by digit.
use Rattle.std.proofs.Common.{◌≡◌, ◌∙◌, ℕ, ◌+◌, ◌*◌, ◌/◌, ◌%◌, ◌^◌, ◌<◌, ◌≤◌, List, [], ◌∷◌, ◌++◌, decimal, ap, ap₂, arith, append_assoc}
use Rattle.std.proofs.lemmas.Fmt.{decimal_digit, decimal_step_wide}
use Rattle.event_texts.specs.Records.{microseconds}

abbrev pub digit : ℕ → ℕ
digit n = 48 + n % 10

tenfold : (n : ℕ) → 0 < n → n < 10 ^ 7 → decimal (10 * n) ≡ decimal n ++ 48 ∷ []
tenfold n some small =
    let front : 10 * n / 10 ≡ n = omega arith in
    let last : digit (10 * n) ≡ 48 = omega arith in
    decimal_step_wide (10 * n) (omega arith) (omega arith) ∙ ap₂ (λ (q d : ℕ). decimal q ++ d ∷ []) front last

thousandfold : (n : ℕ) → 0 < n → n < 10 ^ 5 → microseconds n ≡ decimal n ++ 48 ∷ 48 ∷ 48 ∷ []
thousandfold n some small =
    let thrice : 1000 * n ≡ 10 * (10 * (10 * n)) = omega arith in
    let twice = tenfold (10 * n) (omega arith) (omega arith) ∙ ap (λ (ds : List ℕ). ds ++ 48 ∷ []) (tenfold n some (omega arith)) in
    ap decimal thrice ∙ tenfold (10 * (10 * n)) (omega arith) (omega arith) ∙ ap (λ (ds : List ℕ). ds ++ 48 ∷ []) twice
    ∙ simp append_assoc

one : (n : ℕ) → n < 10 → decimal n ≡ digit n ∷ []
one n small = decimal_digit n small ∙ ap (λ (d : ℕ). (48 + d) ∷ []) (omega arith)

-- one digit more
more : (n : ℕ) (ds : List ℕ) → 0 < n / 10 → n < 10 ^ 5 → decimal (n / 10) ≡ ds → decimal n ≡ ds ++ digit n ∷ []
more n ds some small h = decimal_step_wide n (omega arith) (omega arith) ∙ ap (λ (xs : List ℕ). xs ++ digit n ∷ []) h

-- ---- ticks of one digit up to five

module _ (n : ℕ) (small : n < 10 ^ 5) where
  put_as : (ds : List ℕ) → 0 < n → decimal n ≡ ds → microseconds n ≡ ds ++ 48 ∷ 48 ∷ 48 ∷ []
  put_as ds some h = thousandfold n some small ∙ ap (λ (xs : List ℕ). xs ++ 48 ∷ 48 ∷ 48 ∷ []) h

  pub one_digit : 0 < n → n / 10 ≡ 0 → microseconds n ≡ digit n ∷ 48 ∷ 48 ∷ 48 ∷ []
  one_digit some none = put_as (digit n ∷ []) some (one n (omega arith))

  pub two_digits : 0 < n / 10 → n / 10 / 10 ≡ 0 → microseconds n ≡ digit (n / 10) ∷ digit n ∷ 48 ∷ 48 ∷ 48 ∷ []
  two_digits some none = put_as (digit (n / 10) ∷ digit n ∷ []) (omega arith) (more n (digit (n / 10) ∷ []) some small (one (n / 10) (omega arith)))

  three : 0 < n / 10 / 10 → n / 10 / 10 / 10 ≡ 0 → decimal n ≡ digit (n / 10 / 10) ∷ digit (n / 10) ∷ digit n ∷ []
  three some none =
      more n (digit (n / 10 / 10) ∷ digit (n / 10) ∷ []) (omega arith) small (more (n / 10) (digit (n / 10 / 10) ∷ []) some (omega arith) (one (n / 10 / 10) (omega arith)))

  pub three_digits : 0 < n / 10 / 10 → n / 10 / 10 / 10 ≡ 0 → microseconds n ≡ digit (n / 10 / 10) ∷ digit (n / 10) ∷ digit n ∷ 48 ∷ 48 ∷ 48 ∷ []
  three_digits some none = put_as _ (omega arith) (three some none)

module _ (n : ℕ) (small : n < 10 ^ 5) where
  four : 0 < n / 10 / 10 / 10 → n / 10 / 10 / 10 < 10 → decimal n ≡ digit (n / 10 / 10 / 10) ∷ digit (n / 10 / 10) ∷ digit (n / 10) ∷ digit n ∷ []
  four some few =
      more n (digit (n / 10 / 10 / 10) ∷ digit (n / 10 / 10) ∷ digit (n / 10) ∷ []) (omega arith) small (three (n / 10) (omega arith) some (omega arith))

  pub four_digits : 0 < n / 10 / 10 / 10 → n / 10 / 10 / 10 < 10
      → microseconds n ≡ digit (n / 10 / 10 / 10) ∷ digit (n / 10 / 10) ∷ digit (n / 10) ∷ digit n ∷ 48 ∷ 48 ∷ 48 ∷ []
  four_digits some few = put_as n small _ (omega arith) (four some few)

module _ (n : ℕ) (small : n < 10 ^ 5) where
  five : 10 ≤ n / 10 / 10 / 10
      → decimal n ≡ digit (n / 10 / 10 / 10 / 10) ∷ digit (n / 10 / 10 / 10) ∷ digit (n / 10 / 10) ∷ digit (n / 10) ∷ digit n ∷ []
  five some =
      more n (digit (n / 10 / 10 / 10 / 10) ∷ digit (n / 10 / 10 / 10) ∷ digit (n / 10 / 10) ∷ digit (n / 10) ∷ []) (omega arith) small
      (four (n / 10) (omega arith) (omega arith) (omega arith))

  pub five_digits : 10 ≤ n / 10 / 10 / 10
      → microseconds n ≡ digit (n / 10 / 10 / 10 / 10) ∷ digit (n / 10 / 10 / 10) ∷ digit (n / 10 / 10) ∷ digit (n / 10) ∷ digit n ∷ 48 ∷ 48 ∷ 48 ∷ []
  five_digits some = put_as n small _ (omega arith) (five some)

pub ruleset digits = (one_digit, two_digits, three_digits, four_digits, five_digits)
