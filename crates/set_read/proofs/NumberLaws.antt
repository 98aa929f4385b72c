-- A text of digits is the number that they write.
use Rattle.std.proofs.Common.{◌≡◌, ℕ, ◌^◌, ◌<◌, List, [], ◌++◌, length, get_or, true, false, Some, refl, sym, ap, ◌∙◌, arith, append-nil, lt-ltb, ne_eqb}
use Rattle.std.proofs.lemmas.Str.Parse.{digit_at}
use Rattle.std.specs.Str.Parse.{AllDigits, digits_value}
use Rattle.std.proofs.lemmas.Float.Parse.{scan_numeral-text_of}
use Rattle.std.specs.Float.Numeral.{Parts, scan_numeral, numeral_digits, IsWellFormed}
use Rattle.serde_json.specs.Data.{unsigned}
use Rattle.serde_json.specs.Read.{number_of, is_integer}

abbrev digits : List ℕ → Parts
digits ds = record { whole = ds; point = false; fraction = []; exponent_negative = false; exponent = []; len = length (ds ++ []) }

pub number_of-digits : (ds : List ℕ) → AllDigits 10 ds → 0 < length ds → digits_value 10 ds < 2 ^ 64
    → number_of ds ≡ Some (unsigned (digits_value 10 ds))
unfolding number_of
number_of-digits ds all some fits =
    let digit = digit_at ds 0 all some in
    let no_minus : get_or ds 0 0 ≡ 45 → ⊥ = λ e. omega arith in
    let formed : IsWellFormed (digits ds) =
    record { whole_digits = all; fraction_digits = tt; exponent_digits = tt; no_point = λ _. refl; no_exponent = λ _. refl; len_is = refl } in
    let scanned : scan_numeral ds ≡ digits ds = ap scan_numeral (sym (append-nil ds)) ∙ scan_numeral-text_of (digits ds) formed in
    let value : numeral_digits (digits ds) ≡ digits_value 10 ds = rw append-nil refl in
    let whole : is_integer (digits ds) ≡ true = rw (lt-ltb _ _ some) refl in
    rw (ne_eqb (get_or ds 0 0) 45 no_minus, scanned, whole, value, lt-ltb _ _ fits) refl
