-- What is counted of a past is what is counted of the entries that are shown of it.
use Rattle.std.proofs.Common.{◌≡◌, ◌∙◌, ℕ, ◌+◌, Bool, true, false, List, [], ◌∷◌, refl, ap, arith}
use Rattle.std.specs.Prelude.{if◌then◌else◌, count_by}
use Rattle.std.proofs.lemmas.List.Sums.{sum_by-cons}
use Rattle.rt_rules.specs.declared.history.Entry.{Entry}
use Rattle.rt_model.specs.Group.{Group}
use Rattle.rt_model.specs.Histories.{IsLegalFrom, after, clock_moved, past_from, reply_to}
use Rattle.rt_model.specs.Outcomes.{past_act}
use Rattle.rt_model.specs.Past.{Acted, Clock, Past}
use Rattle.trace_text.specs.CountLines.{shown_as, shown_entries}
use Rattle.trace_tools.specs.declared.shown.Shown.{Shown}
use Rattle.trace_views.specs.JobMoves.{Test, count_moves}
use Rattle.trace_views.proofs.Sums.{one_if}

-- a test of entries says of each what a test of moves says of its act, and no move of the clock passes
pub record IsSameTest (g : Group) (any : Test) (test : Shown → Bool) : Type 0 where
  pub clocks : (tick : ℕ) (past : Past) → any (Clock tick) past ≡ false
  pub acts : (i : ℕ) (e : Entry) (past : Past) → e.reply ≡ reply_to g e.step past
      → any (Acted (past_act g e.step.cpu.0 e.step.act (clock_moved e.step past))) (clock_moved e.step past) ≡ test (shown_as g i e (after g e.step past))

pub moves_are_shown : (g : Group) (any : Test) (test : Shown → Bool) → IsSameTest g any test → (i : ℕ) (past : Past) (es : List Entry) → IsLegalFrom g past es
    → count_moves any (past_from g past es) ≡ count_moves any past + count_by test (shown_entries g i past es)
unfolding past_from shown_entries after count_moves
moves_are_shown g any test same i past [] legal = omega arith
moves_are_shown g any test same i past (e ∷ es) legal =
    let rest = moves_are_shown g any test same (i + 1) (after g e.step past) es legal.1 in
    let here : count_moves any (after g e.step past) ≡ count_moves any past + one_if (test (shown_as g i e (after g e.step past))) = one_more in
    let parts = sum_by-cons (λ (x : Shown). one_if (test x)) (shown_as g i e (after g e.step past)) (shown_entries g (i + 1) (after g e.step past) es) in
    rw parts (omega (arith, rest, here))
  where
    join : (x : Bool) (n : ℕ) → (if x then n + 1 else n) ≡ n + one_if x
    join true n = refl
    join false n = omega arith

    one_more : count_moves any (after g e.step past) ≡ count_moves any past + one_if (test (shown_as g i e (after g e.step past)))
    one_more = rw (same.clocks e.step.tick.0 past) (join (any (Acted (past_act g e.step.cpu.0 e.step.act (clock_moved e.step past))) (clock_moved e.step past)) (count_moves any past) ∙ ap (λ x. count_moves any past + one_if x) (same.acts i e past legal.0))
