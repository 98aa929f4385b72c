-- The groups of a set, one after another: the lines of the next one, and what a bus is shown of it.
use Rattle.std.proofs.Common.{◌≡◌, ℕ, suc, ◌+◌, ◌<◌, ◌≤◌, List, [], ◌∷◌, ◌++◌, length, map, drop, get_or, refl, sym, ap, subst, ◌∙◌, arith, append-nil}
use Rattle.std.proofs.lemmas.Grind.{flat_map-append}
use Rattle.std.proofs.lemmas.List.{drop_all}
use Rattle.std.proofs.Math.Seq.{drop-cons}
use Rattle.rt_task.specs.declared.Parts.{Parts}
use Rattle.rt_rules.specs.declared.history.Entry.{Entry}
use Rattle.rt_model.specs.Histories.{IsLegalFrom, after}
use Rattle.rt_model.specs.Group.{Group}
use Rattle.rt_model.specs.Past.{Past}
use Rattle.rt_plays.specs.Order.{history}
use Rattle.rt_plays.specs.Plays.{group_with}
use Rattle.set_plays.specs.declared.group_steps.GroupSteps.{GroupSteps}
use Rattle.set_plays.specs.declared.group_steps.GroupSteps.TheVariants.{Given}
use Rattle.set_plays.specs.GroupSteps.{group_told, told_from}
use Rattle.trace_lines.specs.Grammar.{line_text}
use Rattle.trace_lines.specs.Known.{Known}
use Rattle.trace_lines.specs.Lines.{end_line}
use Rattle.trace_tools.specs.declared.shown.Shown.{Shown}
use Rattle.trace_tools.specs.Counters.{Counter, counters_after}
use Rattle.rt_plays.specs.Groups.{GroupHistory}
use Rattle.trace_text.specs.Groups.{histories}
use Rattle.trace_text.specs.CountLines.{shown_entries, shown_from}
use Rattle.trace_text.specs.TraceText.{group_lines, lines_from}
use Rattle.trace_text.proofs.LineLaws.{texts}
use Rattle.trace_text.proofs.ShownLaws.{counters_after-append}

-- what stands for the steps of a group beyond the last
abbrev pub no_steps : GroupSteps
no_steps = Given (record { ref_ptr = (0, 0); now = [] })

module _ (p : Parts) (xs : List GroupSteps) (i : ℕ) where
  -- the history of the next group, and those behind it
  pub told-next : (d : GroupSteps) → i < length xs → told_from p i (drop i xs) ≡ group_told p i (get_or xs i d) ∷ told_from p (i + 1) (drop (i + 1) xs)
  told-next d low =
      let next : suc i ≡ i + 1 = omega arith in
      ap (told_from p i) (drop-cons xs i d low) ∙ ap (λ n. group_told p i (get_or xs i d) ∷ told_from p (i + 1) (drop n xs)) next

  pub groups-next : (k : Known) (d : GroupSteps) → i < length xs
      → texts k (lines_from p i (told_from p i (drop i xs))) ≡ texts k (group_lines (group_with p i) (group_told p i (get_or xs i d))) ++ texts k (lines_from p (i + 1) (told_from p (i + 1) (drop (i + 1) xs)))
  groups-next k d low =
      ap (λ (hs : List (List Entry)). texts k (lines_from p i hs)) (told-next d low)
      ∙ flat_map-append (line_text k) (group_lines (group_with p i) (group_told p i (get_or xs i d))) (lines_from p (i + 1) (told_from p (i + 1) (drop (i + 1) xs)))

  pub groups-end : (k : Known) → length xs ≤ i → texts k (lines_from p i (told_from p i (drop i xs))) ≡ line_text k end_line
  groups-end k all = ap (λ (ys : List GroupSteps). texts k (lines_from p i (told_from p i ys))) (drop_all i xs all) ∙ append-nil (line_text k end_line)

  pub shown-next : (d : GroupSteps) (before fed : List Counter) → i < length xs → fed ≡ counters_after (shown_entries (group_with p i) 0 [] (group_told p i (get_or xs i d))) before
      → counters_after (shown_from p (i + 1) (told_from p (i + 1) (drop (i + 1) xs))) fed ≡ counters_after (shown_from p i (told_from p i (drop i xs))) before
  shown-next d before fed low shown =
      let own : List Shown = shown_entries (group_with p i) 0 [] (group_told p i (get_or xs i d)) in
      let others : List Shown = shown_from p (i + 1) (told_from p (i + 1) (drop (i + 1) xs)) in
      ap (counters_after others) shown ∙ sym (counters_after-append own others before)
      ∙ sym (ap (λ (hs : List (List Entry)). counters_after (shown_from p i hs) before) (told-next d low))

  pub shown-end : (counters : List Counter) → length xs ≤ i → counters_after (shown_from p i (told_from p i (drop i xs))) counters ≡ counters
  shown-end counters all = ap (λ (ys : List GroupSteps). counters_after (shown_from p i (told_from p i ys)) counters) (drop_all i xs all)

-- a legal history is that of its steps
pub legal-told : (g : Group) (was : Past) (es : List Entry) → IsLegalFrom g was es → history g was (map (λ (e : Entry). e.step) es) ≡ es
unfolding history
legal-told g was [] legal = refl
legal-told g was (e ∷ es) legal = rw (sym legal.0, legal-told g (after g e.step was) es legal.1) refl

-- what groups have played is told again by the steps of their histories
pub told-again : (p : Parts) (hs : List GroupHistory) (xs : List GroupSteps) (a : ℕ) → length xs ≡ length hs
    → ((n : ℕ) (d : GroupSteps) (h : GroupHistory) → n < length xs → group_told p (a + n) (get_or xs n d) ≡ (get_or hs n h).entries) → told_from p a xs ≡ histories hs
told-again p [] [] a count all = refl
told-again p [] (x ∷ xs) a count all = absurd (omega arith)
told-again p (h ∷ hs) [] a count all = absurd (omega arith)
told-again p (h ∷ hs) (x ∷ xs) a count all =
    let first : group_told p a x ≡ h.entries = subst (λ n. group_told p n x ≡ h.entries) (let e : a + 0 ≡ a = omega arith in e) (all 0 x h (omega arith)) in
    let rest = told-again p hs xs (a + 1) (omega (arith, count)) (λ n d k low. subst (λ m. group_told p m (get_or xs n d) ≡ (get_or hs n k).entries) (let e : a + suc n ≡ a + 1 + n = omega arith in e) (all (suc n) d k (omega (arith, low)))) in
    rw (first, rest) refl
