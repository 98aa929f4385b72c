-- What the parts of the reader give together.
use Rattle.std.proofs.Common.{◌≡◌, ◌≢◌, ℕ, ◌<◌, List, [], ◌∷◌, ◌++◌, flat_map, All, length, codes, Option, Some, None, refl, ap, sym, ◌∙◌, subst, arith, append_assoc, append-nil, length-append}
use Rattle.std.specs.Prelude.{option_map}
use Rattle.std.proofs.lemmas.Grind.{flat_map-append}
use Rattle.std.proofs.lemmas.List.Elements.{All-nil, All-head, All-tail, All-push}
use Rattle.trace_lines.specs.Lines as grammar
use Rattle.trace_lines.specs.Grammar.{line_text}
use Rattle.trace_lines.specs.Known.{Known, IsLine}
use Rattle.trace_lines.specs.declared.format.Version.{Version}
use Rattle.trace_lines.specs.declared.format.Version.TheVariants.{One, Two}
use Rattle.trace_lines.specs.FirstLine.{first_line}
use Rattle.trace_read.specs.declared.lines.Line.{Line}
use Rattle.trace_read.specs.Lines.{line_of}
use Rattle.trace_read.specs.Reads.{HasHead, AreLines, LacksFirstLine, LacksSetLine}
use Rattle.trace_read.specs.Seen.{BeginsNoLine, BeginsLine, BeginsLines, ReadsBack, IsSplitAtFeed, Tells}
use Rattle.trace_read.specs.Reading.{behind, cut, front, line_in}
use Rattle.trace_read.proofs.FitLaws.{All-parts}
use Rattle.trace_read.proofs.WordLaws.{cut-feed, cut-free, free-one_line}
use Rattle.trace_read.proofs.LineLaws.{line_body, line_text-ends, cut-line, line_in-body}

-- ---- what is read

-- what is parsed of the line that a text begins with
abbrev pub IsParsed : Known → List ℕ → Option Line → Type 0
IsParsed k text o = option_map line_of o ≡ line_in k (front text)

reads_back : (k : Known) (text : List ℕ) (o : Option Line) → Tells k → IsParsed k text o → ReadsBack k (front text) o
reads_back k text o tell h l is body = h ∙ ap (line_in k) body ∙ line_in-body k l tell is

-- ---- no line

pub front_is : (k : Known) (text more : List ℕ) (l : grammar.Line) → Tells k → IsLine k l → text ≡ line_text k l ++ more → front text ≡ line_body k l
front_is k text more l tell is e = ap (λ (p : List ℕ × List ℕ). p.0) (ap (cut 10) e ∙ cut-line k l more tell is)

pub behind_is : (k : Known) (text more : List ℕ) (l : grammar.Line) → Tells k → IsLine k l → text ≡ line_text k l ++ more → behind text ≡ more
behind_is k text more l tell is e = ap (λ (p : List ℕ × List ℕ). p.1) (ap (cut 10) e ∙ cut-line k l more tell is)

pub none-not_read : (k : Known) (text : List ℕ) → Tells k → IsParsed k text None → BeginsNoLine k text
none-not_read k text tell h l more is e = let again = reads_back k text None tell h l is (front_is k text more l tell is e) in cc

some-same : {A : Type 0} (x y : A) → Some x ≡ Some y → x ≡ y
some-same x y e = cc

read_is : (k : Known) (text more : List ℕ) (x : Line) (l : grammar.Line) → Tells k → IsParsed k text (Some x) → IsLine k l → text ≡ line_text k l ++ more → line_of x ≡ l
read_is k text more x l tell h is e = some-same (line_of x) l (reads_back k text (Some x) tell h l is (front_is k text more l tell is e))

pub none-not_fit : (k : Known) (text : List ℕ) (x : Line) → Tells k → IsParsed k text (Some x) → (IsLine k (line_of x) → ⊥) → BeginsNoLine k text
none-not_fit k text x tell h not l more is e = not (subst (IsLine k) (sym (read_is k text more x l tell h is e)) is)

pub none-other_text : (k : Known) (text : List ℕ) (x : Line) → Tells k → IsParsed k text (Some x) → ((more : List ℕ) → text ≢ line_text k (line_of x) ++ more) → BeginsNoLine k text
none-other_text k text x tell h other l more is e = other more (e ∙ ap (λ m. line_text k m ++ more) (sym (read_is k text more x l tell h is e)))

-- ---- what stands behind a line

pub behind-feed : (text line rest : List ℕ) → IsSplitAtFeed text line rest → rest ≡ behind text
behind-feed text line rest h = sym (ap (λ (p : List ℕ × List ℕ). p.1) (ap (cut 10) h.text_is ∙ cut-feed line rest h.on_one_line))

pub behind-one_line : (text : List ℕ) → All (λ (c : ℕ). c ≢ 10) text → [] ≡ behind text
behind-one_line text h = sym (ap (λ (p : List ℕ × List ℕ). p.1) (cut-free 10 text (free-one_line text h)))

-- ---- lines

pub BeginsLines-none : (k : Known) (text : List ℕ) → BeginsLines k text [] text
BeginsLines-none k text = record { lines_known = All-nil (IsLine k); text_is = refl }

-- the text of the first of these lines, and of the others
pub BeginsLines-first : (k : Known) (text left : List ℕ) (l : grammar.Line) (ls : List grammar.Line) → BeginsLines k text (l ∷ ls) left → text ≡ line_text k l ++ (flat_map (line_text k) ls ++ left)
BeginsLines-first k text left l ls h = h.text_is ∙ append_assoc (line_text k l) (flat_map (line_text k) ls) left

pub BeginsLines-more : (k : Known) (text left rest : List ℕ) (ls : List grammar.Line) (l : grammar.Line) → BeginsLines k text ls left → BeginsLine k left l rest → BeginsLines k text (ls ++ l ∷ []) rest
BeginsLines-more k text left rest ls l before one = record {
  lines_known = All-push (IsLine k) ls l before.lines_known one.is_line;
  text_is = before.text_is ∙ ap (λ xs. flat_map (line_text k) ls ++ xs) one.text_is ∙ sym (append_assoc (flat_map (line_text k) ls) (line_text k l) rest) ∙ ap (λ xs. xs ++ rest) (texts ls l);
}
  where
    texts : (ls : List grammar.Line) (l : grammar.Line) → flat_map (line_text k) ls ++ line_text k l ≡ flat_map (line_text k) (ls ++ l ∷ [])
    texts ls l = ap (λ xs. flat_map (line_text k) ls ++ xs) (sym (append-nil (line_text k l))) ∙ sym (flat_map-append (line_text k) ls (l ∷ []))

-- behind the first of these lines stand the others
pub BeginsLines-behind : (k : Known) (text left : List ℕ) (l : grammar.Line) (ls : List grammar.Line) → Tells k → BeginsLines k text (l ∷ ls) left → BeginsLines k (behind text) ls left
BeginsLines-behind k text left l ls tell h = record {
  lines_known = All-tail (IsLine k) l ls h.lines_known;
  text_is = behind_is k text (flat_map (line_text k) ls ++ left) l tell (All-head (IsLine k) l ls h.lines_known) (BeginsLines-first k text left l ls h);
}

-- behind some of them stand the others
pub BeginsLines-parts : (k : Known) (text left : List ℕ) (ls ms : List grammar.Line) → BeginsLines k text (ls ++ ms) left
    → BeginsLines k text ls (flat_map (line_text k) ms ++ left) × BeginsLines k (flat_map (line_text k) ms ++ left) ms left
BeginsLines-parts k text left ls ms h =
    let known = All-parts (IsLine k) ls ms h.lines_known in (
      record {
        lines_known = known.0;
        text_is = h.text_is ∙ ap (λ xs. xs ++ left) (flat_map-append (line_text k) ls ms) ∙ append_assoc (flat_map (line_text k) ls) (flat_map (line_text k) ms) left;
      },
      record { lines_known = known.1; text_is = refl },
    )

pub BeginsLine-shorter : (k : Known) (left rest : List ℕ) (l : grammar.Line) → BeginsLine k left l rest → length rest < length left
BeginsLine-shorter k left rest l h =
    omega (arith, ap length h.text_is, length-append (line_text k l) rest, ap length (line_text-ends k l), length-append (line_body k l) (10 ∷ []))

pub AreLines-all : (k : Known) (text left : List ℕ) (ls : List grammar.Line) → BeginsLines k text ls left → BeginsNoLine k left → AreLines k text ls left
AreLines-all k text left ls h none = record { lines_known = h.lines_known; text_is = h.text_is; none_further = none }

-- ---- the head

after_same : (p x y : List ℕ) → p ++ x ≡ p ++ y → x ≡ y
after_same [] x y e = e
after_same (c ∷ p) x y e = after_same p x y (let same : c ∷ (p ++ x) ≡ c ∷ (p ++ y) = e in cc)

second_is : (v : Version) (bytes second set_text more : List ℕ) → bytes ≡ first_line v ++ second → HasHead v bytes set_text more → second ≡ codes "set " ++ (set_text ++ 10 ∷ more)
second_is v bytes second set_text more e h = after_same (first_line v) second (codes "set " ++ (set_text ++ 10 ∷ more)) (sym e ∙ h.bytes_are)

pub LacksFirstLine-both : (bytes f g : List ℕ) → f ≡ first_line One → g ≡ first_line Two → ((rest : List ℕ) → bytes ≢ f ++ rest) → ((rest : List ℕ) → bytes ≢ g ++ rest) → LacksFirstLine bytes
LacksFirstLine-both bytes f g is_f is_g one two One = λ rest. subst (λ (xs : List ℕ). bytes ≢ xs ++ rest) is_f (one rest)
LacksFirstLine-both bytes f g is_f is_g one two Two = λ rest. subst (λ (xs : List ℕ). bytes ≢ xs ++ rest) is_g (two rest)

pub LacksSetLine-other : (v : Version) (bytes second : List ℕ) → bytes ≡ first_line v ++ second → ((rest : List ℕ) → second ≢ codes "set " ++ rest) → LacksSetLine bytes
LacksSetLine-other v bytes second e other = record {
  version = v;
  rest = second;
  begins = e;
  no_set = λ set_text more h. other (set_text ++ 10 ∷ more) (second_is v bytes second set_text more e h);
}

all_no_feed : (front rest : List ℕ) → All (λ (c : ℕ). c ≢ 10) (front ++ 10 ∷ rest) → ⊥
all_no_feed [] rest h = All-head (λ (c : ℕ). c ≢ 10) 10 rest h refl
all_no_feed (x ∷ xs) rest h = all_no_feed xs rest (All-tail (λ (c : ℕ). c ≢ 10) x (xs ++ 10 ∷ rest) h)

no_feed_at : (text front rest : List ℕ) → All (λ (c : ℕ). c ≢ 10) text → text ≡ front ++ 10 ∷ rest → ⊥
no_feed_at text front rest h e = all_no_feed front rest (subst (All (λ (c : ℕ). c ≢ 10)) e h)

pub LacksSetLine-no_feed : (v : Version) (bytes second line : List ℕ) → bytes ≡ first_line v ++ second → second ≡ codes "set " ++ line → All (λ (c : ℕ). c ≢ 10) line → LacksSetLine bytes
LacksSetLine-no_feed v bytes second line e begins none = record {
  version = v;
  rest = second;
  begins = e;
  no_set = λ set_text more h. no_feed_at line set_text more none (after_same (codes "set ") line (set_text ++ 10 ∷ more) (sym begins ∙ second_is v bytes second set_text more e h));
}

pub HasHead-parts : (v : Version) (bytes second line set_text rest : List ℕ) → bytes ≡ first_line v ++ second → second ≡ codes "set " ++ line → IsSplitAtFeed line set_text rest → HasHead v bytes set_text rest
HasHead-parts v bytes second line set_text rest e begins split = record {
  bytes_are = e ∙ ap (λ xs. first_line v ++ xs) (begins ∙ ap (λ xs. codes "set " ++ xs) split.text_is);
  on_one_line = split.on_one_line;
}
