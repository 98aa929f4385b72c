-- The texts of lines, part by part as they are written.
use Rattle.std.proofs.Common.{◌≡◌, ℕ, [], ◌∷◌, ◌++◌, codes, decimal, Option, ap, ◌∙◌, append_assoc}
use Rattle.split_rules.specs.declared.SemAct.{SemAct}
use Rattle.split_rules.specs.declared.SplitEntry.{SplitEntry}
use Rattle.split_text.specs.SplitText.{line_of, link_words, sem_act_words, split_act_words}
use Rattle.split_writer.specs.inside.Texts.{part_words}
use Rattle.trace_lines.specs.Grammar.{reply_words, task_word}
use Rattle.trace_lines.specs.Known.{Known}
use Rattle.trace_lines.specs.Words.{Word, further}
use Rattle.trace_lines.proofs.LineTexts.{further-append, join-further}

pub head_text : (s : ℕ) → line_of (codes "sem" ∷ decimal s ∷ []) ≡ codes "sem" ++ ((32 ∷ decimal s) ++ 10 ∷ [])
head_text s = simp append_assoc

pub sem_text : (k : Known) (i q t : ℕ) (act : SemAct) → line_of (decimal i ∷ decimal q ∷ task_word k t ∷ sem_act_words k act)
    ≡ decimal i ++ ((32 ∷ decimal q) ++ ((32 ∷ task_word k t) ++ (further 32 (sem_act_words k act) ++ 10 ∷ [])))
sem_text k i q t act = ap (λ xs. xs ++ 10 ∷ []) (join-further 32 (decimal i) (decimal q ∷ task_word k t ∷ sem_act_words k act)) ∙ simp append_assoc

pub part_text : (k : Known) (i : ℕ) (e : SplitEntry) (was now : Option ℕ) → line_of (part_words k i e was now)
    ≡ decimal i ++ ((32 ∷ decimal e.tick.0) ++ (further 32 (split_act_words k e.act) ++ (further 32 (reply_words k e.reply) ++ (further 32 (link_words k was now) ++ 10 ∷ []))))
part_text k i e was now = simp (join-further, further-append, append_assoc)

pub opening_text : (q : ℕ) (w : Word) → line_of (codes "part" ∷ decimal q ∷ w ∷ []) ≡ codes "part" ++ ((32 ∷ decimal q) ++ ((32 ∷ w) ++ 10 ∷ []))
opening_text q w = simp append_assoc
