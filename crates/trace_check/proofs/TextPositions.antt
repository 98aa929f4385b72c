-- A text that is right so far: the lines that were compared, and the bytes behind them.
use Rattle.std.proofs.Common.{◌≡◌, ℕ, zero, suc, ◌+◌, ◌-◌, ◌<◌, ◌≤◌, Bool, true, false, List, [], ◌∷◌, ◌++◌, All, length, take, drop, inl, refl, sym, ap, ◌∙◌, subst, arith, append-nil, append_assoc, length-append}
use Rattle.std.specs.Prelude.{flat_map, nat_lt}
use Rattle.std.proofs.lemmas.Bool.Decides.{nat_tests}
use Rattle.std.proofs.lemmas.List.{append_cancel_left, drop-drop, length-drop, take_all}
use Rattle.std.proofs.lemmas.List.Concat.{flat_map-append}
use Rattle.std.proofs.lemmas.List.Elements.{All-cons, All-head, All-nil, All-tail}
use Rattle.rt_task.specs.declared.Parts.{Parts}
use Rattle.rt_task.specs.Validity.{IsValid}
use Rattle.rt_rules.specs.declared.history.Entry.{Entry}
use Rattle.rt_plays.specs.Plays.{ArePlays}
use Rattle.set_canonical.specs.Canonical.{canonical}
use Rattle.set_laws.proofs.CanonicalLaws.{set-of-canonical}
use Rattle.trace_lines.specs.declared.format.Version.{Version}
use Rattle.trace_lines.specs.Grammar.{line_text}
use Rattle.trace_lines.specs.Known.{IsLine, Known, known_of}
use Rattle.trace_lines.specs.Lines.{Line}
use Rattle.trace_tools.specs.Tools.{Tool}
use Rattle.trace_text.specs.TraceText.{lines_from, trace_text}
use Rattle.trace_read.specs.Reads.{AreLines, HasHead, IsTraceOf, stop_at}
use Rattle.trace_read.specs.Seen.{Tells}
use Rattle.trace_read.proofs.LineLaws.{line_body, line_text-ends}
use Rattle.trace_read.proofs.TellLaws.{valid-tells}
use Rattle.trace_laws.specs.ValidTexts.{BeginAlike, IsBegun, entry_count}
use Rattle.trace_laws.proofs.Alike.{alike-behind, alike-none, alike-two}
use Rattle.trace_laws.proofs.Heads.{lines_of, trace-head}
use Rattle.trace_laws.proofs.KnownLines.{known-lines}
use Rattle.trace_laws.proofs.OneLine.{canonical-one_line}
use Rattle.trace_laws.proofs.ReadBack.{first-read}
use Rattle.trace_check.specs.Verdicts.{IsInvalid}
use Rattle.trace_check.proofs.GroupLines.{IsNoEnd}
use Rattle.trace_check.proofs.Judged.{stopped}

-- ---- lines and their texts

abbrev pub texts : Known → List Line → List ℕ
texts k ls = flat_map (line_text k) ls

pub line-some : (k : Known) (l : Line) → 1 ≤ length (line_text k l)
line-some k l = omega (arith, ap length (line_text-ends k l), length-append (line_body k l) (10 ∷ []))

-- a text has no fewer bytes than lines
pub lines-short : (k : Known) (ls : List Line) → length ls ≤ length (texts k ls)
lines-short k [] = omega arith
lines-short k (l ∷ ls) = omega (arith, line-some k l, lines-short k ls, length-append (line_text k l) (texts k ls))

pub texts-more : (k : Known) (ls : List Line) (l : Line) → texts k (ls ++ l ∷ []) ≡ texts k ls ++ line_text k l
texts-more k ls l = flat_map-append (line_text k) ls (l ∷ []) ∙ ap (λ (xs : List ℕ). texts k ls ++ xs) (append-nil (line_text k l))

-- each text begins with some lines of the grammar and then with no further one, as far as what cannot be otherwise goes
pub lines-there : (k : Known) (text : List ℕ) → ((lines : List Line) (left : List ℕ) → AreLines k text lines left → ⊥) → ⊥
lines-there k text none = by_length (length text) text (omega arith) none
  where
    by_length : (n : ℕ) (text : List ℕ) → length text ≤ n → ((lines : List Line) (left : List ℕ) → AreLines k text lines left → ⊥) → ⊥
    by_length zero text low none = none [] text (record {
      lines_known = All-nil (IsLine k);
      text_is = refl;
      none_further = λ l more known is. omega (arith, low, ap length is, length-append (line_text k l) more, line-some k l);
    })
    by_length (suc n) text low none = none [] text (record {
      lines_known = All-nil (IsLine k);
      text_is = refl;
      none_further = λ l more known is. by_length n more (omega (arith, low, ap length is, length-append (line_text k l) more, line-some k l))
          (λ lines left are. none (l ∷ lines) left (record {
            lines_known = All-cons (IsLine k) l lines known are.lines_known;
            text_is = is ∙ ap (λ (xs : List ℕ). line_text k l ++ xs) are.text_is ∙ sym (append_assoc (line_text k l) (texts k lines) left);
            none_further = are.none_further;
          }));
    })

all-front : (P : Line → Type 0) (front later : List Line) → All P (front ++ later) → All P front
all-front P [] later h = All-nil P
all-front P (l ∷ ls) later h = All-cons P l ls (All-head P l (ls ++ later) h) (all-front P ls later (All-tail P l (ls ++ later) h))

known-there : (P : Line → Type 0) (front : List Line) (l : Line) (more : List Line) → All P (front ++ l ∷ more) → P l
known-there P [] l more h = All-head P l more h
known-there P (x ∷ front) l more h = known-there P front l more (All-tail P x (front ++ l ∷ more) h)

-- ---- positions in a text

pub rest-of : (n : ℕ) (xs : List ℕ) → take (length xs - n) (drop n xs) ≡ drop n xs
rest-of n xs = take_all (length xs - n) (drop n xs) (omega (arith, length-drop n xs))

-- a text that begins behind a position with a line
pub begins-rest : (size : ℕ) (text line items : List ℕ) → line ≡ items → take (length text - size) (drop size text) ≡ line ++ drop (length line) (take (length text - size) (drop size text))
    → drop size text ≡ items ++ drop (length items) (drop size text)
begins-rest size text line items same is =
    let here : drop size text ≡ line ++ drop (length line) (drop size text) = subst (λ (xs : List ℕ). xs ≡ line ++ drop (length line) xs) (rest-of size text) is in
    subst (λ (xs : List ℕ). drop size text ≡ xs ++ drop (length xs) (drop size text)) same here

-- a line with which the text begins behind a position ends within it
pub taken-inside : (text items line : List ℕ) (size : ℕ) → size ≤ length text → drop size text ≡ items ++ drop (length items) (drop size text) → line ≡ items → size + length line ≤ length text
taken-inside text items line size low begins same =
    omega (arith, low, ap length begins, ap length same, length-append items (drop (length items) (drop size text)), length-drop size text)

-- these lines stand in front, and have so many bytes
pub record StandFirst (k : Known) (text : List ℕ) (front : List Line) (size : ℕ) : Type 0 where
  pub within : size ≤ length text
  pub text_is : text ≡ texts k front ++ drop size text

pub size-is : (k : Known) (text : List ℕ) (front : List Line) (size : ℕ) → StandFirst k text front size → size ≡ length (texts k front)
size-is k text front size s =
    let w : size ≤ length text = s.within in
    omega (arith, w, ap length s.text_is, length-append (texts k front) (drop size text), length-drop size text)

pub stand-none : (k : Known) (text : List ℕ) → StandFirst k text [] 0
stand-none k text = record { within = omega arith; text_is = refl }

-- more lines stand there
pub stand-further : (k : Known) (text : List ℕ) (front more : List Line) (size further : ℕ) → StandFirst k text front size → StandFirst k (drop size text) more further → StandFirst k text (front ++ more) (size + further)
stand-further k text front more size further s m = record {
  within = (let w : size ≤ length text = s.within in let v : further ≤ length (drop size text) = m.within in omega (arith, w, v, length-drop size text));
  text_is =
      s.text_is ∙ ap (λ (xs : List ℕ). texts k front ++ xs) m.text_is ∙ sym (append_assoc (texts k front) (texts k more) (drop further (drop size text)))
      ∙ ap (λ (xs : List ℕ). xs ++ drop further (drop size text)) (sym (flat_map-append (line_text k) front more))
      ∙ ap (λ (xs : List ℕ). texts k (front ++ more) ++ xs) (drop-drop further size text);
}

-- one line that was made and compared
pub stand-line : (k : Known) (text : List ℕ) (l : Line) (line : List ℕ) → line ≡ line_text k l → text ≡ line ++ drop (length line) text → StandFirst k text (l ∷ []) (length line)
stand-line k text l line is begins = record {
  within = omega (arith, ap length begins, length-append line (drop (length line) text));
  text_is = begins ∙ ap (λ (xs : List ℕ). xs ++ drop (length line) text) (is ∙ sym (append-nil (line_text k l)));
}

-- ---- what is wrong of a text

module _ (tools : List Tool) (v : Version) (p : Parts) (valid : IsValid p) (bytes text : List ℕ) (head : HasHead v bytes (canonical p) text) where
  abbrev k : Known
  k = known_of v p

  tells : Tells k
  tells = valid-tells v p valid

  -- the next line is wrong where it is so for any lines that the text may begin with
  pub wrong-lines : (right : ℕ) → IsBegun tools v p right bytes → ((lines : List Line) (left : List ℕ) → AreLines k text lines left → IsInvalid tools v p bytes (right + 1)) → IsInvalid tools v p bytes (right + 1)
  wrong-lines right begun wrong = record {
    not_valid = λ n is. lines-there k text (λ lines left are. (wrong lines left are).not_valid n is);
    right = right;
    line_is = refl;
    begun = begun;
    most = λ n here. most n here (nat_lt right n) refl;
  }
    where
      most : (n : ℕ) → IsBegun tools v p n bytes → (b : Bool) → nat_lt right n ≡ b → n ≤ right
      most n here true e =
          let high : right < n = grind (arith, nat_tests, e) in
          absurd (lines-there k text (λ lines left are. let w = wrong lines left are in let few = w.most n here in let is = w.line_is in omega (arith, few, is, high)))
      most n here false e = grind (arith, nat_tests, e)

  -- lines with which the lines of plays begin are right
  pub front-begun : (front later : List Line) (rest : List ℕ) (hs : List (List Entry)) → text ≡ texts k front ++ rest → ArePlays p hs → lines_from p 0 hs ≡ front ++ later → IsBegun tools v p (length front + 2) bytes
  front-begun front later rest hs text_is plays begin =
      let one_line = canonical-one_line p valid in
      let whole : List ℕ = trace_text v p hs in
      let known : All (IsLine k) front = all-front (IsLine k) front later (subst (All (IsLine k)) begin (known-lines v p valid hs plays)) in
      let parts : lines_of v p hs ≡ texts k front ++ texts k later = ap (texts k) begin ∙ flat_map-append (line_text k) front later in
      let other : HasHead v whole (canonical p) (texts k front ++ texts k later) = subst (HasHead v whole (canonical p)) parts (trace-head v p hs one_line) in
      let here : HasHead v bytes (canonical p) (texts k front ++ rest) = subst (HasHead v bytes (canonical p)) text_is head in
      let alike = alike-two v (length front + 0) bytes whole (canonical p) (texts k front ++ rest) (texts k front ++ texts k later) here other
      (alike-behind k 0 front rest (texts k later) tells known (alike-none rest (texts k later))) in
      let number : length front + 0 + 2 ≡ length front + 2 = omega arith in
      record {
        whole = whole;
        entries = entry_count hs;
        valid = record { histories = hs; plays = plays; text_is = inl refl; count = refl };
        alike = subst (λ (n : ℕ). BeginAlike n bytes whole) number alike;
      }

  -- lines that begin as those of plays, before their `end`, where no plays have them and one more
  pub record IsStoppedAt (front : List Line) (rest : List ℕ) : Type 0 where
    pub text_is : text ≡ texts k front ++ rest
    pub plays : List (List Entry)
    pub are_plays : ArePlays p plays
    pub later : List Line
    pub plays_begin : lines_from p 0 plays ≡ front ++ later
    pub no_end : All IsNoEnd front
    pub no_more : (hs : List (List Entry)) (l : Line) (more : List ℕ) (ls : List Line) → ArePlays p hs → IsLine k l → rest ≡ line_text k l ++ more → lines_from p 0 hs ≡ front ++ l ∷ ls → ⊥

  -- the line behind them is wrong
  pub stopped-at : (front : List Line) (rest : List ℕ) → IsStoppedAt front rest → IsInvalid tools v p bytes (length front + 3)
  stopped-at front rest s = subst (IsInvalid tools v p bytes) number (wrong-lines (length front + 2) (front-begun front s.later rest s.plays s.text_is s.are_plays s.plays_begin) by_lines)
    where
      number : length front + 2 + 1 ≡ length front + 3
      number = omega arith

      known : All (IsLine k) front
      known = all-front (IsLine k) front s.later (subst (All (IsLine k)) s.plays_begin (known-lines v p valid s.plays s.are_plays))

      by_lines : (lines : List Line) (left : List ℕ) → AreLines k text lines left → IsInvalid tools v p bytes (length front + 2 + 1)
      by_lines lines left are = subst (IsInvalid tools v p bytes) (sym number) (stopped tools v p valid bytes lines (stop_at lines left) t front others.0 refl (record {
        lines_are = others.1;
        plays = s.plays;
        are_plays = s.are_plays;
        later = s.later;
        plays_begin = s.plays_begin;
        no_end = s.no_end;
        no_more = λ hs l more ls plays is begin. s.no_more hs l (texts k more ++ left) ls plays (line-known l more is) (rest-is l more is) begin;
      }))
        where
          t : IsTraceOf bytes v p lines (stop_at lines left)
          t = record { set_text = canonical p; rest = text; left = left; head = head; set_is = set-of-canonical p valid; lines_are = are; stop_is = refl }

          others : (later : List Line) × (lines ≡ front ++ later)
          others = first-read k text left rest lines front tells known s.text_is are

          line-known : (l : Line) (more : List Line) → others.0 ≡ l ∷ more → IsLine k l
          line-known l more is = known-there (IsLine k) front l more (subst (All (IsLine k)) (others.1 ∙ ap (λ (ls : List Line). front ++ ls) is) are.lines_known)

          rest-is : (l : Line) (more : List Line) → others.0 ≡ l ∷ more → rest ≡ line_text k l ++ (texts k more ++ left)
          rest-is l more is =
              append_cancel_left (texts k front) rest (line_text k l ++ (texts k more ++ left))
              (sym s.text_is ∙ are.text_is ∙ ap (λ (ls : List Line). texts k ls ++ left) (others.1 ∙ ap (λ (ls : List Line). front ++ ls) is)
              ∙ ap (λ (xs : List ℕ). xs ++ left) (flat_map-append (line_text k) front (l ∷ more)) ∙ append_assoc (texts k front) (texts k (l ∷ more)) left
              ∙ ap (λ (xs : List ℕ). texts k front ++ xs) (append_assoc (line_text k l) (texts k more) left))
