-- The first entry that ended a job late.
use Rattle.std.proofs.Common.{◌≡◌, ◌∙◌, ℕ, ◌≤◌, Bool, true, false, List, [], ◌∷◌, length, cond, refl, ap, lit≤}
use Rattle.std.specs.Prelude.{None, Option, Some}
use Rattle.rt_base.specs.declared.TaskNo.{TaskNo}
use Rattle.rt_base.specs.declared.TheConstants.{MOST_TOTALS}
use Rattle.trace_tools.specs.declared.shown.Shown.{Shown}
use Rattle.trace_tools.specs.Tools.{Tool, after, totals}
use Rattle.trace_tools.specs.Entries.{first_miss, miss_of, or_else}
use Rattle.trace_tools.specs.Rules.{first_miss_rules, new_first_miss}
use Rattle.trace_tools.proofs.TotalLaws.{totals-numbers}

abbrev found : List ℕ → Tool
found numbers = record { rules = first_miss_rules; state = numbers }

-- once it has found one it stays as it is
found-stays : (n : ℕ) (ns : List ℕ) (es : List Shown) → after es (found (n ∷ ns)) ≡ found (n ∷ ns)
found-stays n ns [] = refl
found-stays n ns (e ∷ es) = found-stays n ns es

found-totals : (numbers : List ℕ) → length numbers ≤ MOST_TOTALS → totals (found numbers) ≡ numbers
found-totals numbers fits = totals-numbers (found numbers) numbers (λ i. refl) fits

miss_of-fits : (o : Option TaskNo) (e : Shown) → length (miss_of o e) ≤ MOST_TOTALS
miss_of-fits None e = lit≤ tt
miss_of-fits (Some t) e = by_case e.late
  where
    by_case : (b : Bool) → length (cond b (e.no ∷ t.0 ∷ []) []) ≤ MOST_TOTALS
    by_case true = lit≤ tt
    by_case false = lit≤ tt

found-after : (ms : List ℕ) (es : List Shown) → length ms ≤ MOST_TOTALS → totals (after es new_first_miss) ≡ first_miss es → totals (after es (found ms)) ≡ or_else ms (first_miss es)
found-after [] es fits later = later
found-after (n ∷ ns) es fits later = ap totals (found-stays n ns es) ∙ found-totals (n ∷ ns) fits

pub miss-found : (es : List Shown) → totals (after es new_first_miss) ≡ first_miss es
miss-found [] = found-totals [] (lit≤ tt)
miss-found (e ∷ es) = found-after (miss_of e.ended e) es (miss_of-fits e.ended e) (miss-found es)
