-- What a bus was shown of the entries so far, and the lines that it gives.
use Rattle.std.proofs.Common.{◌≡◌, ℕ, zero, suc, ◌+◌, ◌<◌, ◌≤◌, List, [], ◌∷◌, ◌++◌, length, map, drop, refl, sym, ap, ◌∙◌, arith}
use Rattle.std.specs.Prelude.{Bool, IfSome, Option, slice_get}
use Rattle.rt_base.specs.declared.GroupNo.{GroupNo}
use Rattle.rt_base.specs.declared.TaskNo.{TaskNo}
use Rattle.rt_rules.specs.declared.history.Entry.{Entry}
use Rattle.rt_plays.specs.Endings.{ended_last}
use Rattle.rt_plays.specs.Groups.{GroupHistory, group_of, past}
use Rattle.trace_lines.specs.Grammar.{line_text}
use Rattle.trace_lines.specs.Known.{Known}
use Rattle.trace_tools.specs.declared.shown.Shown.{Shown}
use Rattle.trace_tools.specs.Counters.{Counter, counter_after, counter_line, counters_after}
use Rattle.trace_text.specs.CountLines.{ended_late, ended_task, shown_as}
use Rattle.trace_text.proofs.LineLaws.{texts}
use Rattle.trace_text.proofs.ReplayLaws.{drop_end}

-- ---- the entries that are shown

-- an entry as it is shown, by the task whose job it ended
pub shown-is : (h : GroupHistory) (group : GroupNo) (i : ℕ) (e : Entry) (ended : Option (TaskNo × Bool)) (s : Shown) → h.group ≡ group.0 → ended ≡ ended_last (group_of h) (past h)
    → s ≡ record { group = group; no = i; entry = e; ended = ended_task ended; late = ended_late ended } → s ≡ shown_as (group_of h) i e (past h)
shown-is h group i e ended s number_is ended_is is = rw (is, ended_is, number_is) refl

-- lists of entries that are shown one after the other
pub counters_after-append : (xs ys : List Shown) (counters : List Counter) → counters_after (xs ++ ys) counters ≡ counters_after ys (counters_after xs counters)
counters_after-append [] ys counters = refl
counters_after-append (x ∷ xs) ys counters = counters_after-append xs ys (map (counter_after x) counters)

-- ---- the count lines

-- the line of the next position, and those after it
counts-suc : (k : Known) (counters : List Counter) (i : ℕ) (text : List ℕ) → i < length counters → IfSome (slice_get counters i) (λ s. text ≡ line_text k (counter_line s))
    → texts k (map counter_line (drop i counters)) ≡ text ++ texts k (map counter_line (drop (suc i) counters))
counts-suc k [] i text low is = absurd (omega arith)
counts-suc k (s ∷ counters) zero text low is = ap (λ xs. xs ++ texts k (map counter_line counters)) (sym is)
counts-suc k (s ∷ counters) (suc i) text low is = counts-suc k counters i text (omega arith) is

pub counts-next : (k : Known) (counters : List Counter) (i : ℕ) (text : List ℕ) → i < length counters → IfSome (slice_get counters i) (λ s. text ≡ line_text k (counter_line s))
    → texts k (map counter_line (drop i counters)) ≡ text ++ texts k (map counter_line (drop (i + 1) counters))
counts-next k counters i text low is =
    let next : suc i ≡ i + 1 = omega arith in
    counts-suc k counters i text low is ∙ ap (λ (n : ℕ). text ++ texts k (map counter_line (drop n counters))) next

pub counts-end : (k : Known) (counters : List Counter) (i : ℕ) → length counters ≤ i → texts k (map counter_line (drop i counters)) ≡ []
counts-end k counters i past_all = rw (drop_end counters i past_all) refl
