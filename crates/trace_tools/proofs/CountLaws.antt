-- Tools that count the entries of a kind.
use Rattle.std.proofs.Common.{◌≡◌, ◌∙◌, ℕ, ◌+◌, ◌≤◌, Bool, true, false, List, [], ◌∷◌, cond, refl, sym, ap, arith, lit≤}
use Rattle.std.specs.Prelude.{count_by, min}
use Rattle.std.proofs.lemmas.List.Sums.{sum_by-cons}
use Rattle.trace_tools.specs.declared.shown.Shown.{Shown}
use Rattle.trace_tools.specs.Tools.{Rules, Tool, after, totals}
use Rattle.trace_tools.specs.Entries.{counted_by, ends_late, is_switch, misses, most, switches}
use Rattle.trace_tools.specs.Rules.{each_number, never, new_misses, new_switches, raise_first, raised}
use Rattle.trace_tools.proofs.TotalLaws.{totals-numbers}

pub raised-within : (b : Bool) (n : ℕ) → n ≤ most → raised b n ≤ most
raised-within true n h = omega arith
raised-within false n h = h

-- one more, and then the rest, is the whole count
pub raised-then : (b : Bool) (n k : ℕ) → n ≤ most → min (raised b n + k) most ≡ min (n + (cond b 1 0 + k)) most
raised-then true n k h = omega arith
raised-then false n k h = omega arith

pub count-cons : (p : Shown → Bool) (e : Shown) (es : List Shown) → count_by p (e ∷ es) ≡ cond (p e) 1 0 + count_by p es
count-cons p e es = sum_by-cons (λ (x : Shown). cond (p x) 1 0) e es

-- the rules of a tool that counts the entries for which a test holds
abbrev counting_by : (Shown → Bool) → ℕ → Rules
counting_by p name = record { next = λ state e. raise_first (p e) state; total = each_number; ended = never; name = name }

abbrev at_count : (Shown → Bool) → ℕ → ℕ → Tool
at_count p name n = record { rules = counting_by p name; state = n ∷ [] }

count-after : (p : Shown → Bool) (name n : ℕ) (es : List Shown) → n ≤ most → after es (at_count p name n) ≡ at_count p name (min (n + count_by p es) most)
count-after p name n [] h =
    let same : n ≡ min (n + 0) most = omega arith in
    ap (at_count p name) same
count-after p name n (e ∷ es) h =
    count-after p name (raised (p e) n) es (raised-within (p e) n h) ∙ ap (at_count p name) (raised-then (p e) n (count_by p es) h)
    ∙ ap (λ (k : ℕ). at_count p name (min (n + k) most)) (sym (count-cons p e es))

one-total : (p : Shown → Bool) (name n : ℕ) → totals (at_count p name n) ≡ n ∷ []
one-total p name n = totals-numbers (at_count p name n) (n ∷ []) (λ i. refl) (lit≤ tt)

from-nothing : (p : Shown → Bool) (es : List Shown) → min (0 + count_by p es) most ≡ counted_by p es
from-nothing p es =
    let same : 0 + count_by p es ≡ count_by p es = omega arith in
    ap (λ (n : ℕ). min n most) same

count-totals : (p : Shown → Bool) (name : ℕ) (es : List Shown) → totals (after es (at_count p name 0)) ≡ counted_by p es ∷ []
count-totals p name es =
    let within : 0 ≤ most = lit≤ tt in
    ap totals (count-after p name 0 es within) ∙ one-total p name (min (0 + count_by p es) most) ∙ ap (λ (n : ℕ). n ∷ []) (from-nothing p es)

pub misses-counted : (es : List Shown) → totals (after es new_misses) ≡ misses es
misses-counted es = count-totals ends_late 77 es

pub switches-counted : (es : List Shown) → totals (after es new_switches) ≡ switches es
switches-counted es = count-totals is_switch 83 es
