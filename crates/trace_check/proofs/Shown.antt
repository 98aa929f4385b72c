-- What a bus was shown of entries that were followed.
use Rattle.std.proofs.Common.{◌≡◌, ℕ, suc, ◌+◌, List, [], ◌∷◌, ◌++◌, length, map, refl, sym, ap, ◌∙◌, arith, append-nil, append_assoc}
use Rattle.rt_task.specs.declared.Parts.{Parts}
use Rattle.rt_rules.specs.declared.history.Entry.{Entry}
use Rattle.rt_model.specs.Group.{Group}
use Rattle.rt_model.specs.Histories.{after, past_from, past_of}
use Rattle.rt_model.specs.Past.{Past}
use Rattle.rt_model.proofs.Steps.{past_of-append}
use Rattle.rt_plays.specs.Plays.{group_with}
use Rattle.trace_tools.specs.declared.shown.Shown.{Shown}
use Rattle.trace_tools.specs.Counters.{Counter, counter_after, counter_line, counter_of, counters_after}
use Rattle.trace_tools.specs.Tools.{Tool}
use Rattle.trace_tools.proofs.BusLaws.{lines-after}
use Rattle.trace_text.specs.CountLines.{count_lines, shown_as, shown_entries, shown_from}
use Rattle.trace_text.proofs.ShownLaws.{counters_after-append}

module _ (g : Group) where
  shown-append : (i : ℕ) (past : Past) (es : List Entry) (e : Entry)
      → shown_entries g i past (es ++ e ∷ []) ≡ shown_entries g i past es ++ shown_as g (i + length es) e (after g e.step (past_from g past es)) ∷ []
  unfolding shown_entries past_from
  shown-append i past [] e = let same : i ≡ i + 0 = omega arith in ap (λ (n : ℕ). shown_as g n e (after g e.step past) ∷ []) same
  shown-append i past (x ∷ es) e =
      let next : i + 1 + length es ≡ i + suc (length es) = omega arith in
      ap (λ (ss : List Shown). shown_as g i x (after g x.step past) ∷ ss)
      (shown-append (i + 1) (after g x.step past) es e ∙ ap (λ (n : ℕ). shown_entries g (i + 1) (after g x.step past) es ++ shown_as g n e (after g e.step (past_from g (after g x.step past) es)) ∷ []) next)

  -- one entry more is shown
  pub shown-more : (es : List Entry) (e : Entry) (opened now later : List Counter) → now ≡ counters_after (shown_entries g 0 [] es) opened
      → later ≡ map (counter_after (shown_as g (length es) e (past_of g (es ++ e ∷ [])))) now → later ≡ counters_after (shown_entries g 0 [] (es ++ e ∷ [])) opened
  unfolding past_of
  shown-more es e opened now later was fed =
      let number : 0 + length es ≡ length es = omega arith in
      let entry : shown_as g (0 + length es) e (after g e.step (past_from g [] es)) ≡ shown_as g (length es) e (past_of g (es ++ e ∷ [])) =
      ap (λ (n : ℕ). shown_as g n e (after g e.step (past_from g [] es))) number ∙ ap (shown_as g (length es) e) (sym (past_of-append g es e)) in
      fed ∙ ap (map (counter_after (shown_as g (length es) e (past_of g (es ++ e ∷ []))))) was
      ∙ ap (λ (s : Shown). counters_after (s ∷ []) (counters_after (shown_entries g 0 [] es) opened)) (sym entry)
      ∙ sym (counters_after-append (shown_entries g 0 [] es) (shown_as g (0 + length es) e (after g e.step (past_from g [] es)) ∷ []) opened)
      ∙ ap (λ (ss : List Shown). counters_after ss opened) (sym (shown-append 0 [] es e))

  pub shown-none : (opened : List Counter) → opened ≡ counters_after (shown_entries g 0 [] []) opened
  unfolding shown_entries
  shown-none opened = refl

groups-append : (p : Parts) (n : ℕ) (hs : List (List Entry)) (es : List Entry) → shown_from p n (hs ++ es ∷ []) ≡ shown_from p n hs ++ shown_entries (group_with p (n + length hs)) 0 [] es
groups-append p n [] es = let same : n ≡ n + 0 = omega arith in append-nil (shown_entries (group_with p n) 0 [] es) ∙ ap (λ (m : ℕ). shown_entries (group_with p m) 0 [] es) same
groups-append p n (xs ∷ hs) es =
    let next : n + 1 + length hs ≡ n + suc (length hs) = omega arith in
    let own : List Shown = shown_entries (group_with p n) 0 [] xs in
    ap (λ (ss : List Shown). own ++ ss) (groups-append p (n + 1) hs es) ∙ sym (append_assoc own (shown_from p (n + 1) hs) (shown_entries (group_with p (n + 1 + length hs)) 0 [] es))
    ∙ ap (λ (m : ℕ). (own ++ shown_from p (n + 1) hs) ++ shown_entries (group_with p m) 0 [] es) next

-- the entries of one group more are shown
pub shown-group : (p : Parts) (n : ℕ) (hs : List (List Entry)) (es : List Entry) (opened was now : List Counter) → length hs ≡ n → was ≡ counters_after (shown_from p 0 hs) opened
    → now ≡ counters_after (shown_entries (group_with p n) 0 [] es) was → now ≡ counters_after (shown_from p 0 (hs ++ es ∷ [])) opened
shown-group p n hs es opened was now count before here =
    let number : n ≡ 0 + length hs = omega (arith, count) in
    here ∙ ap (counters_after (shown_entries (group_with p n) 0 [] es)) before
    ∙ ap (λ (m : ℕ). counters_after (shown_entries (group_with p m) 0 [] es) (counters_after (shown_from p 0 hs) opened)) number
    ∙ sym (counters_after-append (shown_from p 0 hs) (shown_entries (group_with p (0 + length hs)) 0 [] es) opened)
    ∙ ap (λ (ss : List Shown). counters_after ss opened) (sym (groups-append p 0 hs es))

-- the lines of the bus are those of its tools
pub lines-shown : (tools : List Tool) (p : Parts) (hs : List (List Entry)) (counters : List Counter) → counters ≡ counters_after (shown_from p 0 hs) (map counter_of tools) → map counter_line counters ≡ count_lines tools p hs
lines-shown tools p hs counters is = ap (map counter_line) is ∙ lines-after (shown_from p 0 hs) tools
