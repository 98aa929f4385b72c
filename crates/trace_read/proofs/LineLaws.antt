-- A line comes back out of its text, and lines out of theirs: one text is the text of one list of lines.
use Rattle.std.proofs.Common.{◌≡◌, ◌≢◌, ℕ, ◌<◌, ◌≤◌, ◌^◌, ◌==◌, true, false, not, List, [], ◌∷◌, ◌++◌, map, flat_map, All, codes, Option, Some, decimal, refl, ap, sym, ◌∙◌, subst, arith, append_assoc, inl, inr}
use Rattle.std.proofs.lemmas.Bool.{and_parts}
use Rattle.std.proofs.lemmas.Bool.Decides.{nat_tests}
use Rattle.std.proofs.lemmas.List.Elements.{All-nil, All-cons, All-head, All-tail}
use Rattle.rt_rules.specs.declared.history.Entry.{Entry}
use Rattle.trace_lines.specs.Words.{Word, join}
use Rattle.trace_lines.specs.Lines.{Link, Line, group_line, entry_line, block_line, end_line, count_line}
use Rattle.trace_lines.specs.Grammar.{task_word, act_words, reply_words, number_word, link_word, line_words, line_text}
use Rattle.trace_lines.specs.Known.{Known, Is32, Is64, IsLetter, IsEntryLine, IsBlockLine, LinkIsKnown, IsLine}
use Rattle.trace_read.specs.Reads.{AreLines}
use Rattle.trace_read.specs.Seen.{Tells}
use Rattle.trace_read.specs.Reading.{cut, entry_at, entry_line_in, group_line_in, block_line_in, count_line_in, line_in}
use Rattle.trace_read.proofs.WordLaws.{is_free, is_free-append, is_plain, plain-free, AllPlain, AllPlain-append, no_word, cut-first, cut-join, IsNoDigit, decimal-free, decimal-plain, number_at-join, small_at-join}
use Rattle.trace_read.proofs.PartLaws.{task_word-plain, task_at-join, act_at-join, act-plain, reply_at-join, reply-plain, small_or_dash-word, number_word-plain, links_in-join, links-plain, totals_in-join, totals-plain}

-- ---- no word of a line has a space or a line feed

pub fits_64 : (n : ℕ) → n < 2 ^ 32 → n < 2 ^ 64
fits_64 n h = omega arith

letter-plain : (c : ℕ) → IsLetter c → is_plain (c ∷ []) ≡ true
letter-plain c (inl h) = let low = h.0 in grind (arith, nat_tests)
letter-plain c (inr h) = let low = h.0 in grind (arith, nat_tests)

pub line_words-plain : (k : Known) (l : Line) → Tells k → IsLine k l → AllPlain (line_words k l)
unfolding line_words
line_words-plain k (group_line g links) tell h = (refl, (decimal-plain g (fits_64 g h.0), links-plain k links tell h.2))
line_words-plain k (entry_line i e links) tell h = (
  decimal-plain i (fits_64 i h.number),
  (
    decimal-plain e.step.tick.0 h.tick_fits,
    (
      decimal-plain e.step.cpu.0 (fits_64 e.step.cpu.0 h.cpu_fits),
      AllPlain-append (act_words k e.step.act) (reply_words k e.reply ++ map (link_word k) links) (act-plain k e.step.act tell h.act_known)
          (AllPlain-append (reply_words k e.reply) (map (link_word k) links) (reply-plain k e.reply tell h.reply_known) (links-plain k links tell h.links_known)),
    ),
  ),
)
line_words-plain k (block_line i t s ends all bound) tell h = (
  refl,
  (
    decimal-plain i (fits_64 i h.number),
    (
      task_word-plain k t tell h.task_known,
      (
        decimal-plain s (fits_64 s h.sem_known.fits),
        (decimal-plain ends (fits_64 ends h.ends_fit), (decimal-plain all (fits_64 all h.all_fit), (number_word-plain bound h.bound_fits, tt))),
      ),
    ),
  ),
)
line_words-plain k end_line tell h = (refl, tt)
line_words-plain k (count_line name totals) tell h = (refl, (letter-plain name h.0, totals-plain totals h.2))

join-free : (c : ℕ) (ws : List Word) → c ≤ 31 → AllPlain ws → is_free c (join 32 ws) ≡ true
join-free c [] low h = refl
join-free c (w ∷ []) low h = plain-free c w (omega arith) h.0
join-free c (w ∷ v ∷ ws) low h =
    let apart : (32 == c) ≡ false = grind (arith, nat_tests) in
    is_free-append c w (32 ∷ join 32 (v ∷ ws)) (plain-free c w (omega arith) h.0) (rw apart (join-free c (v ∷ ws) low h.1))

-- the text of a line before its line feed
abbrev pub line_body : Known → Line → List ℕ
line_body k l = join 32 (line_words k l)

body-free : (k : Known) (l : Line) → Tells k → IsLine k l → is_free 10 (line_body k l) ≡ true
body-free k l tell h = join-free 10 (line_words k l) (omega arith) (line_words-plain k l tell h)

no_feed : (w : List ℕ) → is_free 10 w ≡ true → All (λ (c : ℕ). c ≢ 10) w
no_feed [] h = All-nil (λ (c : ℕ). c ≢ 10)
no_feed (x ∷ xs) h =
    let parts = and_parts (not (x == 10)) (is_free 10 xs) h in
    All-cons (λ (c : ℕ). c ≢ 10) x xs (differs x parts.0) (no_feed xs parts.1)
  where
    differs : (x : ℕ) → not (x == 10) ≡ true → x ≢ 10
    differs x h = grind (arith, nat_tests)

-- the text of a line is its body and a line feed
pub line_text-ends : (k : Known) (l : Line) → line_text k l ≡ line_body k l ++ 10 ∷ []
unfolding line_text
line_text-ends k l = refl

-- and its body has no line feed
pub line_body-one_line : (k : Known) (l : Line) → Tells k → IsLine k l → All (λ (c : ℕ). c ≢ 10) (line_body k l)
line_body-one_line k l tell h = no_feed (line_body k l) (body-free k l tell h)

-- what is cut at the first line feed of a text that begins with a line
pub cut-line : (k : Known) (l : Line) (more : List ℕ) → Tells k → IsLine k l → cut 10 (line_text k l ++ more) ≡ (line_body k l, more)
unfolding line_text
cut-line k l more tell h = ap (cut 10) (append_assoc (line_body k l) (10 ∷ []) more) ∙ cut-first 10 (line_body k l) more (body-free k l tell h)

-- ---- each line is read back

pub entry_at-join : (k : Known) (i : ℕ) (e : Entry) (links : List Link) (ws : List Word) → Tells k → IsEntryLine k i e.step.tick.0 e.step.cpu.0 e.step.act e.reply links
    → entry_at k (join 32 (decimal e.step.tick.0 ∷ decimal e.step.cpu.0 ∷ (act_words k e.step.act ++ (reply_words k e.reply ++ ws)))) ≡ Some (e, join 32 ws)
unfolding entry_at
entry_at-join k i e links ws tell h =
    let tick = number_at-join e.step.tick.0 (decimal e.step.cpu.0 ∷ (act_words k e.step.act ++ (reply_words k e.reply ++ ws))) h.tick_fits in
    let cpu = small_at-join e.step.cpu.0 (act_words k e.step.act ++ (reply_words k e.reply ++ ws)) h.cpu_fits in
    let act = act_at-join k e.step.act (reply_words k e.reply ++ ws) tell h.act_known in
    let reply = reply_at-join k e.reply ws tell h.reply_known in
    rw (tick, cpu, act, reply) refl

group_line-join : (k : Known) (g : ℕ) (links : List Link) → Tells k → Is32 g → All (LinkIsKnown k) links → group_line_in k (join 32 (decimal g ∷ map (link_word k) links)) ≡ Some (group_line g links)
unfolding group_line_in
group_line-join k g links tell fits known = rw (small_at-join g (map (link_word k) links) fits, links_in-join k links tell known) refl

entry_line-join : (k : Known) (i : ℕ) (e : Entry) (links : List Link) → Tells k → IsEntryLine k i e.step.tick.0 e.step.cpu.0 e.step.act e.reply links
    → entry_line_in k (join 32 (decimal i ∷ decimal e.step.tick.0 ∷ decimal e.step.cpu.0 ∷ (act_words k e.step.act ++ (reply_words k e.reply ++ map (link_word k) links)))) ≡ Some (entry_line i e links)
unfolding entry_line_in
entry_line-join k i e links tell h =
    let number = small_at-join i (decimal e.step.tick.0 ∷ decimal e.step.cpu.0 ∷ (act_words k e.step.act ++ (reply_words k e.reply ++ map (link_word k) links))) h.number in
    let entry = entry_at-join k i e links (map (link_word k) links) tell h in
    let known = links_in-join k links tell h.links_known in
    rw (number, entry, known) refl

block_line-join : (k : Known) (i t s ends all : ℕ) (bound : Option ℕ) → Tells k → IsBlockLine k i t s ends all bound
    → block_line_in k (join 32 (decimal i ∷ task_word k t ∷ decimal s ∷ decimal ends ∷ decimal all ∷ number_word bound ∷ [])) ≡ Some (block_line i t s ends all bound)
unfolding block_line_in
block_line-join k i t s ends all bound tell h =
    let number = small_at-join i (task_word k t ∷ decimal s ∷ decimal ends ∷ decimal all ∷ number_word bound ∷ []) h.number in
    let task = task_at-join k t (decimal s ∷ decimal ends ∷ decimal all ∷ number_word bound ∷ []) tell h.task_known in
    let sem = small_at-join s (decimal ends ∷ decimal all ∷ number_word bound ∷ []) h.sem_known.fits in
    let during = small_at-join ends (decimal all ∷ number_word bound ∷ []) h.ends_fit in
    let through = small_at-join all (number_word bound ∷ []) h.all_fit in
    let most = small_or_dash-word bound h.bound_fits in
    rw (number, task, sem, during, through, most) refl

count_line-join : (name : ℕ) (totals : List ℕ) → IsLetter name → All Is64 totals → count_line_in (join 32 ((name ∷ []) ∷ map decimal totals)) ≡ Some (count_line name totals)
unfolding count_line_in
count_line-join name totals letter fits = rw (cut-join (name ∷ []) (map decimal totals) (letter-plain name letter), totals_in-join totals fits) refl

letter_g : IsNoDigit 103
letter_g = record { differs = λ d h. grind (arith, nat_tests) }

letter_b : IsNoDigit 98
letter_b = record { differs = λ d h. grind (arith, nat_tests) }

letter_e : IsNoDigit 101
letter_e = record { differs = λ d h. grind (arith, nat_tests) }

letter_c : IsNoDigit 99
letter_c = record { differs = λ d h. grind (arith, nat_tests) }

pub line_in-body : (k : Known) (l : Line) → Tells k → IsLine k l → line_in k (line_body k l) ≡ Some l
unfolding line_in line_words
line_in-body k (group_line g links) tell h = group_line-join k g links tell h.0 h.2
line_in-body k (entry_line i e links) tell h =
    let small = fits_64 i h.number in
    let first = cut-join (decimal i) (decimal e.step.tick.0 ∷ decimal e.step.cpu.0 ∷ (act_words k e.step.act ++ (reply_words k e.reply ++ map (link_word k) links))) (decimal-plain i small) in
    rw (
      first,
      no_word 103 (decimal i) (codes "roup") (decimal-free 103 i letter_g small),
      no_word 98 (decimal i) (codes "lock") (decimal-free 98 i letter_b small),
      no_word 101 (decimal i) (codes "nd") (decimal-free 101 i letter_e small),
      no_word 99 (decimal i) (codes "ount") (decimal-free 99 i letter_c small),
    ) (entry_line-join k i e links tell h)
line_in-body k (block_line i t s ends all bound) tell h = block_line-join k i t s ends all bound tell h
line_in-body k end_line tell h = refl
line_in-body k (count_line name totals) tell h = count_line-join name totals h.0 h.2

-- ---- one text, one line

some-same : {A : Type 0} (x y : A) → Some x ≡ Some y → x ≡ y
some-same x y e = cc

body-unique : (k : Known) (a b : Line) → Tells k → IsLine k a → IsLine k b → line_body k a ≡ line_body k b → a ≡ b
body-unique k a b tell g h same = some-same a b (sym (line_in-body k a tell g) ∙ ap (line_in k) same ∙ line_in-body k b tell h)

pub line-unique : (k : Known) (a b : Line) (x y : List ℕ) → Tells k → IsLine k a → IsLine k b → line_text k a ++ x ≡ line_text k b ++ y → (a ≡ b) × (x ≡ y)
line-unique k a b x y tell g h same =
    let cuts = sym (cut-line k a x tell g) ∙ ap (cut 10) same ∙ cut-line k b y tell h in
    (body-unique k a b tell g h (ap (λ (p : List ℕ × List ℕ). p.0) cuts), ap (λ (p : List ℕ × List ℕ). p.1) cuts)

begins-with-none : (k : Known) (text left : List ℕ) (l : Line) (more : List ℕ) → AreLines k text [] left → IsLine k l → text ≢ line_text k l ++ more
begins-with-none k text left l more h is e = h.none_further l more is (sym h.text_is ∙ e)

-- the lines after the first
tail_lines : (k : Known) (text left : List ℕ) (l : Line) (ls : List Line) → AreLines k text (l ∷ ls) left → AreLines k (flat_map (line_text k) ls ++ left) ls left
tail_lines k text left l ls h = record { lines_known = All-tail (IsLine k) l ls h.lines_known; text_is = refl; none_further = h.none_further }

first_line_is : (k : Known) (text left : List ℕ) (l : Line) (ls : List Line) → AreLines k text (l ∷ ls) left → text ≡ line_text k l ++ (flat_map (line_text k) ls ++ left)
first_line_is k text left l ls h = h.text_is ∙ append_assoc (line_text k l) (flat_map (line_text k) ls) left

-- one text begins with one list of lines
pub lines-unique : (k : Known) (text : List ℕ) (ls ms : List Line) (x y : List ℕ) → Tells k → AreLines k text ls x → AreLines k text ms y → (ls ≡ ms) × (x ≡ y)
lines-unique k text [] [] x y tell g h = (refl, sym g.text_is ∙ h.text_is)
lines-unique k text [] (b ∷ ms) x y tell g h =
    absurd (begins-with-none k text x b (flat_map (line_text k) ms ++ y) g (All-head (IsLine k) b ms h.lines_known) (first_line_is k text y b ms h))
lines-unique k text (a ∷ ls) [] x y tell g h =
    absurd (begins-with-none k text y a (flat_map (line_text k) ls ++ x) h (All-head (IsLine k) a ls g.lines_known) (first_line_is k text x a ls g))
lines-unique k text (a ∷ ls) (b ∷ ms) x y tell g h =
    let first = line-unique k a b (flat_map (line_text k) ls ++ x) (flat_map (line_text k) ms ++ y) tell (All-head (IsLine k) a ls g.lines_known) (All-head (IsLine k) b ms h.lines_known)
    (sym (first_line_is k text x a ls g) ∙ first_line_is k text y b ms h) in
    let others = lines-unique k (flat_map (line_text k) ls ++ x) ls ms x y tell (tail_lines k text x a ls g)
    (subst (λ t. AreLines k t ms y) (sym first.1) (tail_lines k text y b ms h)) in
    (rw (first.0, others.0) refl, others.1)
