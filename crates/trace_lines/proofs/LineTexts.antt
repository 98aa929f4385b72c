-- The texts of lines, part by part as they are written.
use Rattle.std.proofs.Common.{◌≡◌, ℕ, List, [], ◌∷◌, ◌++◌, map, codes, decimal, Option, refl, ap, ◌∙◌, append_assoc, append-nil}
use Rattle.rt_rules.specs.declared.history.Entry.{Entry}
use Rattle.trace_lines.specs.Words.{Word, join, further}
use Rattle.trace_lines.specs.Lines.{Link, group_line, entry_line, block_line, end_line, count_line}
use Rattle.trace_lines.specs.Known.{Known}
use Rattle.trace_lines.specs.Grammar.{task_word, act_words, reply_words, link_word, number_word, line_words, line_text}
use Rattle.trace_lines.specs.EntryRest.{text_after_tick}

-- words after the first have a separator before each
pub join-further : (c : ℕ) (w : Word) (ws : List Word) → join c (w ∷ ws) ≡ w ++ further c ws
join-further c w [] = simp append-nil
join-further c w (v ∷ ws) = ap (λ xs. w ++ c ∷ xs) (join-further c v ws)

pub further-append : (c : ℕ) (vs ws : List Word) → further c (vs ++ ws) ≡ further c vs ++ further c ws
further-append c [] ws = refl
further-append c (v ∷ vs) ws = rw (further-append c vs ws) (simp append_assoc)

pub group_text : (k : Known) (g : ℕ) (links : List Link) → line_text k (group_line g links) ≡ codes "group" ++ ((32 ∷ decimal g) ++ (further 32 (map (link_word k) links) ++ 10 ∷ []))
unfolding line_words line_text
group_text k g links = ap (λ xs. xs ++ 10 ∷ []) (join-further 32 (codes "group") (decimal g ∷ map (link_word k) links)) ∙ simp append_assoc

pub rest_text : (k : Known) (e : Entry) (links : List Link) → text_after_tick k e links
    ≡ (32 ∷ decimal e.step.cpu.0) ++ ((further 32 (act_words k e.step.act) ++ further 32 (reply_words k e.reply)) ++ (further 32 (map (link_word k) links) ++ 10 ∷ []))
unfolding text_after_tick
rest_text k e links = simp (further-append, append_assoc)

pub entry_text : (k : Known) (i : ℕ) (e : Entry) (links : List Link) → line_text k (entry_line i e links)
    ≡ decimal i ++ ((32 ∷ decimal e.step.tick.0) ++ text_after_tick k e links)
unfolding line_words line_text text_after_tick
entry_text k i e links = simp (join-further, further-append, append_assoc)

pub block_text : (k : Known) (i t s ends all : ℕ) (bound : Option ℕ) → line_text k (block_line i t s ends all bound)
    ≡ codes "block" ++ ((32 ∷ decimal i) ++ ((32 ∷ task_word k t) ++ ((32 ∷ decimal s) ++ ((32 ∷ decimal ends) ++ ((32 ∷ decimal all) ++ ((32 ∷ number_word bound) ++ 10 ∷ []))))))
unfolding line_words line_text
block_text k i t s ends all bound = simp append_assoc

pub count_text : (k : Known) (name : ℕ) (totals : List ℕ) → line_text k (count_line name totals) ≡ codes "count" ++ ((32 ∷ name ∷ []) ++ (further 32 (map decimal totals) ++ 10 ∷ []))
unfolding line_words line_text
count_text k name totals = ap (λ xs. xs ++ 10 ∷ []) (join-further 32 (codes "count") ((name ∷ []) ∷ map decimal totals)) ∙ simp append_assoc

pub end_text : (k : Known) → line_text k end_line ≡ codes "end\n"
unfolding line_words line_text
end_text k = refl
