-- An entry whose step was taken.
use Rattle.std.proofs.Common.{◌≡◌, ◌∙◌, ℕ, zero, suc, ◌+◌, ◌<◌, ◌≤◌, true, List, [], ◌∷◌, ◌++◌, drop, get_or, length, take, refl, sym, ap, arith, append_assoc, append-nil}
use Rattle.std.specs.Prelude.{None, Some, codes, flat_map, option_map, slice_get}
use Rattle.std.proofs.lemmas.Option.{slice_get-map, slice_get_past}
use Rattle.std.proofs.lemmas.List.Concat.{flat_map-cons}
use Rattle.std.proofs.lemmas.List.{map-append}
use Rattle.rt_base.specs.declared.CpuNo.{CpuNo}
use Rattle.rt_task.specs.Validity.{IsValid}
use Rattle.rt_task.specs.declared.Parts.{Parts}
use Rattle.rt_task.specs.declared.Step.{Step}
use Rattle.rt_rules.specs.declared.history.Entry.{Entry}
use Rattle.rt_rules.specs.Numbers.{has, is}
use Rattle.rt_rules.proofs.MemberLaws.{equal_self}
use Rattle.rt_model.specs.Group.{Group, group_processors, tasks}
use Rattle.rt_model.specs.Histories.{after, clock_moved, past_of}
use Rattle.rt_model.specs.Jobs.{done}
use Rattle.rt_model.specs.Links.{linked}
use Rattle.rt_model.specs.Outcomes.{ended, past_act}
use Rattle.rt_model.specs.Past.{Past}
use Rattle.rt_model.specs.Reachable.{IsReachable}
use Rattle.rt_plays.specs.Groups.{GroupHistory}
use Rattle.rt_plays.specs.Groups as made
use Rattle.rt_laws.proofs.jobs.Running.{ended-runs, running}
use Rattle.rt_laws.proofs.ValidSets.{rules_of}
use Rattle.rank_afresh.proofs.SetLists.{cut, cut-all}
use Rattle.trace_lines.specs.declared.links.CpuLink.{CpuLink}
use Rattle.trace_lines.specs.Lines.{Link, link_of, links_of}
use Rattle.trace_text.specs.Groups.{AreGroupsOf, cpu_numbers, histories}
use Rattle.trace_text.proofs.LineLaws.{history_group}
use Rattle.trace_text.specs.TraceText.{links_at}
use Rattle.why_texts.specs.Pieces.{line}
use Rattle.why_texts.specs.Sentences.{sentence}
use Rattle.why_texts.specs.WhyText.{ended_line, entry_text, explained, explained_of, link_line, ran_line, trace_line, why_text}
use Rattle.view_why.specs.inside.LinkLines.{line_of, lines_of}
use Rattle.view_why.specs.inside.Parts.{act_lines, link_lines, states_lines}

module _ (g : Group) (step : Step) (past : Past) (t : ℕ) (ends : Some t ≡ (past_act g step.cpu.0 step.act (clock_moved step past)).ended) where
  ends-it : is t (past_act g step.cpu.0 step.act (clock_moved step past)).ended ≡ true
  ends-it = ap (is t) (sym ends) ∙ equal_self t

  -- the task whose job an act ended is of the group, and one more of its jobs has ended
  pub ended-there : IsValid g.setup → IsReachable g (clock_moved step past) → has t (tasks g) ≡ true
  ended-there valid made = (running g (rules_of g valid) made step.cpu.0 t (ended-runs g step.cpu.0 t step.act (clock_moved step past) ends-it)).member

  pub ended-one : done t (after g step past) ≡ done t (clock_moved step past) + 1
  unfolding done after
  ended-one = rw ends-it refl

-- the lines of links are those of their processors
pub links-lines : (g : Group) (past : Past) (qs : List ℕ) → lines_of g (links_at g past qs) ≡ flat_map (link_line g past) qs
links-lines g past [] = refl
links-lines g past (q ∷ qs) =
    flat_map-cons (line_of g) (q, linked g q past) (links_at g past qs) ∙ ap (λ ys. link_line g past q ++ ys) (links-lines g past qs) ∙ sym (flat_map-cons (link_line g past) q qs)

-- the text of an entry in its three parts
regroup : (t r s e l k w : List ℕ) → (t ++ (r ++ (s ++ e))) ++ ((l ++ k) ++ w) ≡ t ++ (r ++ (s ++ (e ++ (l ++ (k ++ w)))))
regroup t r s e l k w = simp append_assoc

pub entry-parts : (g : Group) (n : ℕ) (e : Entry) (past : Past) → act_lines g n e past ++ (link_lines g past ++ states_lines g e.step past) ≡ entry_text g n e past
unfolding entry_text
entry-parts g n e past =
    regroup (trace_line g n e past) (ran_line g e (clock_moved e.step past)) (line (sentence e.reply ∷ [])) (ended_line g (ended g e.step.cpu.0 e.step.act (clock_moved e.step past)) (clock_moved e.step past))
    (line (codes "links before" ∷ [])) (flat_map (link_line g past) (group_processors g)) (states_lines g e.step past)

-- one more link
pub links-next : (g : Group) (past : Past) (qs : List CpuNo) (i : ℕ) (d : CpuNo) (links new : List CpuLink) (x : CpuLink) (all : List Link) → i < length qs → new ≡ links ++ x ∷ []
    → link_of x ≡ ((get_or qs i d).0, linked g (get_or qs i d).0 past) → links_of links ++ links_at g past (cpu_numbers (drop i qs)) ≡ all
    → links_of new ++ links_at g past (cpu_numbers (drop (i + 1) qs)) ≡ all
links-next g past qs i d links new x all low put is before =
    let rest : List Link = links_at g past (cpu_numbers (drop (i + 1) qs)) in
    ap (λ ys. links_of ys ++ rest) put ∙ ap (λ ys. ys ++ rest) (map-append link_of links (x ∷ [])) ∙ append_assoc (links_of links) (link_of x ∷ []) rest
    ∙ ap (λ y. links_of links ++ (y ∷ rest)) is ∙ ap (λ ys. links_of links ++ links_at g past (cpu_numbers ys)) (sym (cut qs i d low)) ∙ before

pub links-all : (g : Group) (past : Past) (qs : List CpuNo) (i : ℕ) (links : List CpuLink) (all : List Link) → length qs ≤ i → links_of links ++ links_at g past (cpu_numbers (drop i qs)) ≡ all → links_of links ≡ all
links-all g past qs i links all end before =
    sym (append-nil (links_of links)) ∙ ap (λ ys. links_of links ++ links_at g past (cpu_numbers ys)) (sym (cut-all qs i end)) ∙ before

slice_get-there : {A : Type 0} (xs : List A) (i : ℕ) (d : A) → i < length xs → slice_get xs i ≡ Some (get_or xs i d)
slice_get-there [] i d h = absurd (omega arith)
slice_get-there (x ∷ xs) zero d h = refl
slice_get-there (x ∷ xs) (suc i) d h = slice_get-there xs i d (omega arith)

-- an entry of a history, and none behind its end
pub explained-there : (g : Group) (n : ℕ) (es : List Entry) (d : Entry) → n < length es → explained g n es ≡ Some (entry_text g n (get_or es n d) (past_of g (take n es)))
explained-there g n es d low = ap (option_map (λ e. entry_text g n e (past_of g (take n es)))) (slice_get-there es n d low)

pub explained-none : (g : Group) (n : ℕ) (es : List Entry) → length es ≤ n → explained g n es ≡ None
explained-none g n es high = ap (option_map (λ e. entry_text g n e (past_of g (take n es)))) (slice_get_past es n high)

-- the text of a group's entry
pub why-there : (p : Parts) (hs : List GroupHistory) (i n : ℕ) (h : GroupHistory) → AreGroupsOf p hs → i < length hs → h ≡ get_or hs i h → why_text p (histories hs) i n ≡ explained (made.group_of h) n h.entries
unfolding why_text
why-there p hs i n h are low is =
    let same : made.group_of h ≡ record { setup = p; number = i } = ap made.group_of is ∙ history_group p hs i h are low in
    ap (explained_of p i n) (slice_get-map (λ (x : GroupHistory). x.entries) hs i ∙ ap (option_map (λ (x : GroupHistory). x.entries)) (slice_get-there hs i h low ∙ ap Some (sym is)))
    ∙ ap (λ (g : Group). explained g n h.entries) (sym same)

pub why-none : (p : Parts) (hs : List GroupHistory) (i n : ℕ) → length hs ≤ i → why_text p (histories hs) i n ≡ None
unfolding why_text
why-none p hs i n high = ap (explained_of p i n) (slice_get-map (λ (x : GroupHistory). x.entries) hs i ∙ ap (option_map (λ (x : GroupHistory). x.entries)) (slice_get_past hs i high))

pub text-of_four : (old a b c d : List ℕ) → (((old ++ a) ++ b) ++ c) ++ d ≡ old ++ (a ++ (b ++ (c ++ d)))
text-of_four old a b c d = simp append_assoc

-- a text that was made of an entry and those before it
pub why-entry : (g g' : Group) (n : ℕ) (es seen before : List Entry) (d : Entry) (text : List ℕ) → g' ≡ g → seen ≡ es → before ≡ take n seen → n < length seen
    → text ≡ entry_text g' n (get_or seen n d) (past_of g' before) → Some text ≡ explained g n es
why-entry g g' n es seen before d text same seen_is cut_is low told =
    ap Some (told ∙ ap (λ (x : Group). entry_text x n (get_or seen n d) (past_of x before)) same ∙ ap (λ b. entry_text g n (get_or seen n d) (past_of g b)) cut_is)
    ∙ sym (explained-there g n seen d low) ∙ ap (λ xs. explained g n xs) seen_is
