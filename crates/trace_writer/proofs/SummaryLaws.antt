-- What histories come to, group by group.
use Rattle.std.proofs.Common.{◌≡◌, ℕ, suc, ◌+◌, ◌*◌, ◌<◌, ◌≤◌, List, [], ◌∷◌, length, drop, get_or, refl, sym, ap, ◌∙◌, arith}
use Rattle.std.specs.Prelude.{max}
use Rattle.std.proofs.lemmas.List.{length-map, length-append}
use Rattle.std.proofs.Math.Seq.{drop-cons}
use Rattle.rt_base.specs.declared.TheConstants.{MOST_STEPS}
use Rattle.rt_task.specs.declared.Parts.{Parts}
use Rattle.rt_rules.specs.declared.history.Entry.{Entry}
use Rattle.rt_rules.specs.SemState.{Asks, Frees, Neither, SemAct}
use Rattle.rt_model.specs.Blocking.{asked_by, requests}
use Rattle.rt_model.specs.Group.{Group}
use Rattle.rt_model.specs.Histories.{past_of}
use Rattle.rt_model.specs.Past.{Acted, Clock, Past, entries_in, sem_act}
use Rattle.rt_plays.specs.Plays.{group_with}
use Rattle.set_plays.specs.declared.group_steps.GroupSteps.{GroupSteps}
use Rattle.set_plays.specs.GroupSteps.{group_told, told_from}
use Rattle.rt_changes.specs.Tallies.{Tally, tallies, tally}
use Rattle.block_counts.specs.SeenWords.{tallies_of, tally_of}
use Rattle.block_counts.specs.declared.seen.Seen.{Seen}
use Rattle.trace_writer.specs.declared.summary.Summary.{Summary}
use Rattle.trace_writer.specs.Summaries.{joined, most_ends, nothing, summary_from, summary_in}
use Rattle.trace_text.proofs.BlockLines.{entries-few}
use Rattle.trace_writer.proofs.GroupSequence.{told-next}
use Rattle.trace_text.proofs.ReplayLaws.{drop_end}

-- there are no more requests than entries
requests-few : (past : Past) → length (requests past) ≤ entries_in past
unfolding requests
requests-few [] = omega arith
requests-few (Clock tick ∷ past) = requests-few past
requests-few (Acted d ∷ past) = by_act (sem_act (Acted d)) (requests-few past)
  where
    by_act : (x : SemAct) → length (requests past) ≤ entries_in past → length (asked_by x (entries_in past) (requests past)) ≤ entries_in past + 1
    by_act (Asks t s) few = omega (arith, few, length-append (requests past) (record { no = entries_in past; task = t; sem = s } ∷ []))
    by_act (Frees t s) few = omega (arith, few)
    by_act Neither few = omega (arith, few)

pub tallies-few : (g : Group) (es : List Entry) → length es ≤ MOST_STEPS → length (tallies g (past_of g es)) ≤ 2 * MOST_STEPS
tallies-few g es few =
    omega (arith, length-map (requests (past_of g es)) (tally g (past_of g es)), requests-few (past_of g es), entries-few g es few)

-- what a group's history comes to, by its requests
pub requests-few-seen : (g : Group) (es : List Entry) (seen : List Seen) → length es ≤ MOST_STEPS → tallies_of seen ≡ tallies g (past_of g es) → length seen ≤ 2 * MOST_STEPS
requests-few-seen g es seen few are = omega (arith, length-map seen tally_of, ap (λ (xs : List Tally). length xs) are, tallies-few g es few)

pub summary-is : (g : Group) (es : List Entry) (seen : List Seen) (count most : ℕ) → count ≡ length es → tallies_of seen ≡ tallies g (past_of g es) → most ≡ most_ends (tallies_of seen)
    → record { entries = count; requests = length seen; most = most } ≡ summary_in g es
summary-is g es seen count most all are is =
    let requests : length seen ≡ length (tallies g (past_of g es)) = sym (length-map seen tally_of) ∙ ap (λ (xs : List Tally). length xs) are in
    rw (all, requests, is, are) refl

-- ---- together

pub joined-assoc : (a b c : Summary) → joined (joined a b) c ≡ joined a (joined b c)
joined-assoc a b c =
    let entries : (a.entries + b.entries) + c.entries ≡ a.entries + (b.entries + c.entries) = omega arith in
    let requests : (a.requests + b.requests) + c.requests ≡ a.requests + (b.requests + c.requests) = omega arith in
    let most : max (max a.most b.most) c.most ≡ max a.most (max b.most c.most) = omega arith in
    rw (entries, requests, most) refl

pub joined-nothing : (a : Summary) → joined a nothing ≡ a
joined-nothing a =
    let entries : a.entries + 0 ≡ a.entries = omega arith in
    let requests : a.requests + 0 ≡ a.requests = omega arith in
    let most : max a.most 0 ≡ a.most = omega arith in
    rw (entries, requests, most) refl

pub nothing-joined : (a : Summary) → joined nothing a ≡ a
nothing-joined a =
    let entries : 0 + a.entries ≡ a.entries = omega arith in
    let requests : 0 + a.requests ≡ a.requests = omega arith in
    let most : max 0 a.most ≡ a.most = omega arith in
    rw (entries, requests, most) refl

-- the next group, and those after it
pub summary-next : (p : Parts) (xs : List GroupSteps) (i : ℕ) (d : GroupSteps) (so_far own now all : Summary) → i < length xs
    → own ≡ summary_in (group_with p i) (group_told p i (get_or xs i d)) → now ≡ joined so_far own → joined so_far (summary_from p i (told_from p i (drop i xs))) ≡ all
    → joined now (summary_from p (i + 1) (told_from p (i + 1) (drop (i + 1) xs))) ≡ all
summary-next p xs i d so_far own now all low own_is now_is before =
    let others : Summary = summary_from p (i + 1) (told_from p (i + 1) (drop (i + 1) xs)) in
    let here : summary_from p i (told_from p i (drop i xs)) ≡ joined own others =
    ap (λ (hs : List (List Entry)). summary_from p i hs) (told-next p xs i d low) ∙ ap (λ (s : Summary). joined s others) (sym own_is) in
    ap (λ (s : Summary). joined s others) now_is ∙ joined-assoc so_far own others ∙ ap (joined so_far) (sym here) ∙ before

pub summary-end : (p : Parts) (xs : List GroupSteps) (i : ℕ) (s all : Summary) → length xs ≤ i → joined s (summary_from p i (told_from p i (drop i xs))) ≡ all → s ≡ all
summary-end p xs i s all past_all before =
    sym (joined-nothing s) ∙ ap (λ (ys : List GroupSteps). joined s (summary_from p i (told_from p i ys))) (sym (drop_end xs i past_all)) ∙ before

-- ---- the most ends

pub most-next : (xs : List Seen) (i : ℕ) (d : Seen) (so_far now all : ℕ) → i < length xs → now ≡ max (get_or xs i d).ends so_far
    → max so_far (most_ends (tallies_of (drop i xs))) ≡ all → max now (most_ends (tallies_of (drop (i + 1) xs))) ≡ all
most-next xs i d so_far now all low is before =
    let next : i + 1 ≡ suc i = omega arith in
    let here : most_ends (tallies_of (drop i xs)) ≡ max (get_or xs i d).ends (most_ends (tallies_of (drop (suc i) xs))) = ap (λ (ys : List Seen). most_ends (tallies_of ys)) (drop-cons xs i d low) in
    let same : most_ends (tallies_of (drop (i + 1) xs)) ≡ most_ends (tallies_of (drop (suc i) xs)) = ap (λ (n : ℕ). most_ends (tallies_of (drop n xs))) next in
    omega (arith, is, before, here, same)

pub most-end : (xs : List Seen) (i : ℕ) (s all : ℕ) → length xs ≤ i → max s (most_ends (tallies_of (drop i xs))) ≡ all → s ≡ all
most-end xs i s all past_all before =
    let none : most_ends (tallies_of (drop i xs)) ≡ 0 = ap (λ (ys : List Seen). most_ends (tallies_of ys)) (drop_end xs i past_all) in
    omega (arith, before, none)
