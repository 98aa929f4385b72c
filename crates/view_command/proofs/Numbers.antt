-- The number that a word is in decimal is found by its digits.
use Rattle.std.proofs.Common.{◌≡◌, ◌≢◌, ◌∙◌, ℕ, ◌^◌, ◌<◌, Bool, true, false, ◌&&◌, List, sym, ap, refl, lt-ltb}
use Rattle.std.specs.Prelude.{Option, None, Some, MatchOption, bytes_eq, decimal, nat_lt, if◌then◌else◌}
use Rattle.std.specs.Str.Parse.{digits_value}
use Rattle.std.proofs.lemmas.Bool.{and_parts, ltb-true}
use Rattle.std.proofs.lemmas.Fmt.{decimal_is_IsNumeral}
use Rattle.std.proofs.lemmas.Slice.Eq.{bytes_eq-Decides}
use Rattle.view_command.specs.Words.{IsDecimal, number_said}

abbrev said : Bool → ℕ → Option ℕ
said b n = if b then Some n else None

-- of a word that is the decimal text of a number
is-said : (w : List ℕ) (n : ℕ) → n < 2 ^ 64 → w ≡ decimal n → number_said w ≡ Some n
is-said w n low is =
    let value : digits_value 10 w ≡ n = ap (digits_value 10) is ∙ (decimal_is_IsNumeral n low).1 in
    let text : bytes_eq w (decimal n) ≡ true = (bytes_eq-Decides w (decimal n)).1 is in
    ap (λ m. said (bytes_eq w (decimal m) && nat_lt m (2 ^ 64)) m) value ∙ ap (λ b. said (b && nat_lt n (2 ^ 64)) n) text ∙ ap (λ b. said b n) (lt-ltb n (2 ^ 64) low)

-- and of one that is none
none-said : (w : List ℕ) → ((n : ℕ) → n < 2 ^ 64 → w ≢ decimal n) → number_said w ≡ None
none-said w none = by_test (bytes_eq w (decimal (digits_value 10 w)) && nat_lt (digits_value 10 w) (2 ^ 64)) refl
  where
    by_test : (b : Bool) → bytes_eq w (decimal (digits_value 10 w)) && nat_lt (digits_value 10 w) (2 ^ 64) ≡ b → said b (digits_value 10 w) ≡ None
    by_test false h = refl
    by_test true h =
        let parts = and_parts (bytes_eq w (decimal (digits_value 10 w))) (nat_lt (digits_value 10 w) (2 ^ 64)) h in
        absurd (none (digits_value 10 w) (ltb-true (digits_value 10 w) (2 ^ 64) parts.1) ((bytes_eq-Decides w (decimal (digits_value 10 w))).0 parts.0))

pub number-said : (w : List ℕ) (o : Option ℕ) → MatchOption o ((n : ℕ) → n < 2 ^ 64 → w ≢ decimal n) (IsDecimal w) → o ≡ number_said w
number-said w None h = sym (none-said w h)
number-said w (Some n) h = sym (is-said w n h.1 h.0)
