-- The totals over all groups of a set.
use Rattle.std.proofs.Common.{◌≡◌, ◌∙◌, ℕ, suc, ◌+◌, ◌<◌, Bool, List, [], ◌∷◌, length, refl, sym, ap, arith, subst}
use Rattle.std.specs.Prelude.{count_by, min, slice_index_or, sum_by, ⊤}
use Rattle.std.proofs.lemmas.List.Sums.{sum_by-append}
use Rattle.rt_task.specs.declared.Parts.{Parts}
use Rattle.rt_rules.specs.declared.history.Entry.{Entry}
use Rattle.rt_model.specs.Group.{Group}
use Rattle.rt_model.specs.Histories.{IsLegal}
use Rattle.rt_plays.specs.Plays.{group_with}
use Rattle.trace_text.specs.CountLines.{shown_entries, shown_from}
use Rattle.trace_tools.specs.Entries as tools
use Rattle.trace_tools.specs.declared.shown.Shown.{Shown}
use Rattle.trace_views.specs.TaskRows.{TaskRow}
use Rattle.trace_views.proofs.Sums.{one_if}
use Rattle.view_laws.specs.Sets.{SetTotalsAreCounts, total_of}
use Rattle.view_laws.specs.Totals.{is_unit, table_of}
use Rattle.view_laws.proofs.Legal.{AreLegal, each-legal, legal-play}
use Rattle.view_laws.proofs.SetMoves.{set-moves}
use Rattle.view_laws.proofs.Totals.{totals_are_counts}

-- what a test counts of the entries of each group it counts of all
counted-total : (p : Parts) (column : TaskRow → ℕ) (test : Shown → Bool) (n : ℕ) (hs : List (List Entry)) → AreLegal p n hs
    → ((k : ℕ) (es : List Entry) → IsLegal (group_with p k) es → sum_by column (table_of (group_with p k) es) ≡ count_by test (shown_entries (group_with p k) 0 [] es))
    → count_by test (shown_from p n hs) ≡ total_of column p n hs
counted-total p column test n [] legal each = refl
counted-total p column test n (es ∷ hs) legal each =
    sum_by-append (λ (e : Shown). one_if (test e)) (shown_entries (group_with p n) 0 [] es) (shown_from p (n + 1) hs)
    ∙ ap (λ k. k + count_by test (shown_from p (n + 1) hs)) (sym (each n es legal.0))
    ∙ ap (λ k. sum_by column (table_of (group_with p n) es) + k) (counted-total p column test (n + 1) hs legal.1 each)

pub set_totals_are_counts : SetTotalsAreCounts
set_totals_are_counts p hs valid played = record {
  late = ap (λ n. min n tools.most ∷ []) (counted-total p (λ (r : TaskRow). r.late) tools.ends_late 0 hs legal (λ k es h. (totals_are_counts (group_with p k) es valid h).late));
  moves = ap (λ n. min n tools.most ∷ []) (set-moves p valid hs legal);
  units = counted-total p (λ (r : TaskRow). r.units) is_unit 0 hs legal (λ k es h. (totals_are_counts (group_with p k) es valid h).units);
}
  where
    each : (m : ℕ) → m < length hs → IsLegal (group_with p (0 + m)) (slice_index_or hs m [])
    each m low =
        let number : m ≡ 0 + m = omega arith in
        subst (λ k. IsLegal (group_with p k) (slice_index_or hs m [])) number (legal-play p.drive (group_with p m) (slice_index_or hs m []) (played.plays m low))

    legal : AreLegal p 0 hs
    legal = each-legal p 0 hs each
