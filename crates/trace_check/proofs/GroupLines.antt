-- The lines of a group's history, entry by entry.
use Rattle.std.proofs.Common.{◌≡◌, ◌≢◌, ℕ, ◌+◌, List, [], ◌∷◌, ◌++◌, All, length, refl, sym, ap, ◌∙◌, subst, arith, append_assoc}
use Rattle.std.proofs.lemmas.List.Elements.{All-append, All-cons, All-map, All-nil}
use Rattle.rt_rules.specs.declared.history.Entry.{Entry}
use Rattle.rt_model.specs.Blocking.{requests}
use Rattle.rt_model.specs.Group.{Group}
use Rattle.rt_model.specs.Past.{Past}
use Rattle.rt_model.specs.Histories.{after, changed, past_from, past_of, reply_to, IsLegalFrom}
use Rattle.rt_plays.proofs.PlayLaws.{part-is_begun}
use Rattle.rt_plays.specs.Plays.{IsBegunPlay, IsPlay}
use Rattle.trace_lines.specs.Lines.{Line, entry_line, end_line}
use Rattle.trace_text.specs.TraceText.{block_lines, block_of, entry_lines, group_lines, links_at}
use Rattle.trace_laws.proofs.Plays.{begun-legal, begun-whole}
use Rattle.trace_laws.proofs.ReadBack.{entries_first, histories_said, first-entries, said-entries}
use Rattle.trace_check.specs.inside.GroupLines.{IsOtherLine, lines_so_far, next_line, opening_line}
use Rattle.trace_course.specs.Followed.{IsNextStep, entry_by}

entry_lines-append : (g : Group) (i : ℕ) (past : Past) (es more : List Entry) → entry_lines g i past (es ++ more) ≡ entry_lines g i past es ++ entry_lines g (i + length es) (past_from g past es) more
unfolding entry_lines past_from
entry_lines-append g i past [] more = let e : i + 0 ≡ i = omega arith in rw e refl
entry_lines-append g i past (x ∷ es) more =
    let e : i + length (x ∷ es) ≡ (i + 1) + length es = omega arith in
    rw (e, entry_lines-append g (i + 1) (after g x.step past) es more) refl

-- more entries have more lines
pub lines_so_far-more : (g : Group) (es more : List Entry) → lines_so_far g (es ++ more) ≡ lines_so_far g es ++ entry_lines g (length es) (past_of g es) more
unfolding past_of
lines_so_far-more g es more =
    let e : 0 + length es ≡ length es = omega arith in
    ap (λ (ls : List Line). opening_line g ∷ ls) (entry_lines-append g 0 [] es more ∙ ap (λ (n : ℕ). entry_lines g 0 [] es ++ entry_lines g n (past_from g [] es) more) e)

entry_lines-next : (g : Group) (es : List Entry) (e : Entry) (more : List Entry)
    → entry_lines g (length es) (past_of g es) (e ∷ more) ≡ next_line g es e ∷ entry_lines g (length es + 1) (after g e.step (past_of g es)) more
unfolding entry_lines
entry_lines-next g es e more = refl

entry_lines-none : (g : Group) (i : ℕ) (past : Past) → entry_lines g i past [] ≡ []
unfolding entry_lines
entry_lines-none g i past = refl

pub lines_so_far-none : (g : Group) → lines_so_far g [] ≡ opening_line g ∷ []
lines_so_far-none g = ap (λ (ls : List Line). opening_line g ∷ ls) (entry_lines-none g 0 [])

-- the line of the next entry, and those after it
pub lines_so_far-next : (g : Group) (es : List Entry) (e : Entry) (more : List Entry)
    → lines_so_far g (es ++ e ∷ more) ≡ lines_so_far g es ++ next_line g es e ∷ entry_lines g (length es + 1) (after g e.step (past_of g es)) more
lines_so_far-next g es e more = lines_so_far-more g es (e ∷ more) ∙ ap (λ (ls : List Line). lines_so_far g es ++ ls) (entry_lines-next g es e more)

pub lines_so_far-last : (g : Group) (es : List Entry) (e : Entry) → lines_so_far g (es ++ e ∷ []) ≡ lines_so_far g es ++ next_line g es e ∷ []
lines_so_far-last g es e =
    lines_so_far-next g es e []
    ∙ ap (λ (ls : List Line). lines_so_far g es ++ next_line g es e ∷ ls) (entry_lines-none g (length es + 1) (after g e.step (past_of g es)))

-- a whole group has a line for each request too
pub group_lines-parts : (g : Group) (es : List Entry) → group_lines g es ≡ lines_so_far g es ++ block_lines g (past_of g es)
unfolding group_lines
group_lines-parts g es = refl

-- ---- what they say

pub said-so_far : (g : Group) (es : List Entry) (ls : List Line) → histories_said (lines_so_far g es ++ ls) ≡ (es ++ entries_first ls) ∷ histories_said ls
said-so_far g es ls = rw (first-entries g 0 [] es ls, said-entries g 0 [] es ls) refl

-- no line of them is `end`
abbrev pub IsNoEnd : Line → Type 0
IsNoEnd l = l ≢ end_line

entries-no_end : (g : Group) (i : ℕ) (past : Past) (es : List Entry) → All IsNoEnd (entry_lines g i past es)
unfolding entry_lines
entries-no_end g i past [] = All-nil IsNoEnd
entries-no_end g i past (e ∷ es) =
    All-cons IsNoEnd (entry_line i e (links_at g (after g e.step past) (changed g past (after g e.step past)))) (entry_lines g (i + 1) (after g e.step past) es) (λ same. cc) (entries-no_end g (i + 1) (after g e.step past) es)

pub so_far-no_end : (g : Group) (es : List Entry) → All IsNoEnd (lines_so_far g es)
so_far-no_end g es = All-cons IsNoEnd (opening_line g) (entry_lines g 0 [] es) (λ same. cc) (entries-no_end g 0 [] es)

pub blocks-no_end : (g : Group) (past : Past) → All IsNoEnd (block_lines g past)
unfolding block_lines
blocks-no_end g past = All-map IsNoEnd (block_of g past) (requests past) (λ k d low same. cc)

pub group-no_end : (g : Group) (es : List Entry) → All IsNoEnd (group_lines g es)
group-no_end g es = subst (All IsNoEnd) (sym (group_lines-parts g es)) (All-append IsNoEnd (lines_so_far g es) (block_lines g (past_of g es)) (so_far-no_end g es) (blocks-no_end g (past_of g es)))

pub blocks-other : (g : Group) (past : Past) → All IsOtherLine (block_lines g past)
unfolding block_lines
blocks-other g past = All-map IsOtherLine (block_of g past) (requests past) (λ k d low. tt)

-- ---- the next entry

-- its reply is the answer
legal-next : (g : Group) (past : Past) (es : List Entry) (e : Entry) (more : List Entry) → IsLegalFrom g past (es ++ e ∷ more) → e.reply ≡ reply_to g e.step (past_from g past es)
unfolding past_from
legal-next g past [] e more legal = legal.0
legal-next g past (x ∷ es) e more legal = legal-next g (after g x.step past) es e more legal.1

pub next-told : (g : Group) (es : List Entry) (e : Entry) (more : List Entry) → IsPlay g (es ++ e ∷ more) → e.reply ≡ reply_to g e.step (past_of g es)
unfolding past_of
next-told g es e more play = legal-next g [] es e more (begun-legal g (es ++ e ∷ more) (begun-whole g (es ++ e ∷ more) play))

-- and its step is one that may come next
pub next-step : (g : Group) (es : List Entry) (e : Entry) (more : List Entry) → IsPlay g (es ++ e ∷ more) → IsNextStep g es e.step
next-step g es e more play =
    subst (λ (x : Entry). IsBegunPlay g (es ++ x ∷ [])) (same e (next-told g es e more play)) (part-is_begun g (es ++ e ∷ []) more (subst (IsPlay g) (sym (append_assoc es (e ∷ []) more)) play))
  where
    same : (x : Entry) → x.reply ≡ reply_to g x.step (past_of g es) → x ≡ entry_by g es x.step
    same x told = λ i. record { step = x.step; reply = told i }
