-- When a text whose lines are known is a valid trace, and else how far it is right.
use Rattle.std.proofs.Common.{◌≡◌, ◌≢◌, ℕ, ◌+◌, ◌<◌, ◌≤◌, inl, inr, ◌⊎◌, Bool, true, false, List, [], ◌∷◌, ◌++◌, All, length, take, drop, get_or, refl, sym, ap, ◌∙◌, subst, arith, append-nil, append_assoc, length-append}
use Rattle.std.specs.Prelude.{Option, flat_map, nat_lt}
use Rattle.std.proofs.lemmas.Bool.Decides.{nat_tests}
use Rattle.std.proofs.lemmas.List.{append_cancel_left, take-append-drop, take-take, take_all}
use Rattle.std.proofs.lemmas.List.Elements.{All-get_or}
use Rattle.std.proofs.Math.Seq.{get_or-append_seam, take-append-add, take-append_seam}
use Rattle.rt_task.specs.declared.Parts.{Parts}
use Rattle.rt_task.specs.Validity.{IsValid}
use Rattle.rt_rules.specs.declared.history.Entry.{Entry}
use Rattle.rt_plays.specs.Plays.{ArePlays}
use Rattle.set_canonical.specs.Canonical.{canonical}
use Rattle.trace_lines.specs.declared.format.Version.{Version}
use Rattle.trace_lines.specs.Grammar.{line_text}
use Rattle.trace_lines.specs.Known.{IsLine, Known, known_of}
use Rattle.trace_lines.specs.Lines.{Line, end_line}
use Rattle.trace_tools.specs.Tools.{Tool}
use Rattle.trace_text.specs.CountLines.{count_lines, counted_text}
use Rattle.trace_text.specs.TraceText.{lines_from, trace_text}
use Rattle.trace_read.specs.Reads.{HasHead, IsTraceOf}
use Rattle.trace_read.specs.Seen.{Tells}
use Rattle.trace_read.proofs.TellLaws.{valid-tells}
use Rattle.trace_laws.specs.ValidTexts.{BeginAlike, IsBegun, IsTextOf, IsValidText, entry_count}
use Rattle.trace_laws.proofs.Alike.{AgreeThrough, alike-behind, alike-head, alike-made, alike-one_head, alike-take, alike-two}
use Rattle.trace_laws.proofs.Heads.{head-unique, lines_of, longer-begins, longer-head, trace-head}
use Rattle.trace_laws.proofs.KnownLines.{known-lines}
use Rattle.trace_laws.proofs.OneLine.{canonical-one_line}
use Rattle.trace_laws.proofs.ReadBack.{begin-same, first-read, text-begins, texts-apart}
use Rattle.trace_check.specs.LinesAlike.{lines_alike}
use Rattle.trace_check.specs.Verdicts.{IsInvalid}
use Rattle.trace_check.specs.inside.GroupLines.{lines_of_groups}
use Rattle.trace_check.proofs.GroupLines.{IsNoEnd}
use Rattle.trace_check.proofs.LinesAlike.{alike-most, alike-past, alike-there, texts-alike}
use Rattle.trace_check.proofs.SetLines.{completed-between, whole-lines}

pub heads : (x y : Line) (xs ys : List Line) → x ∷ xs ≡ y ∷ ys → x ≡ y
heads x y xs ys e = cc

tails : (x y : Line) (xs ys : List Line) → x ∷ xs ≡ y ∷ ys → xs ≡ ys
tails x y xs ys e = cc

-- ---- lists that agree

agree-less : (m n : ℕ) (ls vs : List Line) → m ≤ n → AgreeThrough n ls vs → AgreeThrough m ls vs
agree-less m n ls vs low h = record {
  within = (let w = h.within in omega arith);
  within' = (let w = h.within' in omega arith);
  same = sym (take-take m n ls low) ∙ ap (take m) h.same ∙ take-take m n vs low;
}

-- lists that begin so agree as far
agree-front : (front rest more ls vs : List Line) → ls ≡ front ++ rest → vs ≡ front ++ more → AgreeThrough (length front) ls vs
agree-front front rest more ls vs e f = record {
  within = omega (arith, ap length e, length-append front rest);
  within' = omega (arith, ap length f, length-append front more);
  same = ap (take (length front)) e ∙ take-append_seam front rest ∙ sym (ap (take (length front)) f ∙ take-append_seam front more);
}

-- lists that begin so and agree in one line more
pub record HasOneMore (front rest vs : List Line) : Type 0 where
  pub line : Line
  pub later : List Line
  pub more : List Line
  pub rest_is : rest ≡ line ∷ later
  pub vs_are : vs ≡ front ++ line ∷ more

agree-next : (front rest ls vs : List Line) → ls ≡ front ++ rest → AgreeThrough (length front + 1) ls vs → HasOneMore front rest vs
agree-next front [] ls vs e h = absurd (let w = h.within in omega (arith, w, ap length e, length-append {A = Line} front []))
agree-next front (l ∷ rest) ls vs e h =
    let first : take (length front + 1) vs ≡ front ++ l ∷ [] = sym h.same ∙ ap (take (length front + 1)) e ∙ take-append-add front (l ∷ rest) 1 in
    let more : List Line = drop (length front + 1) vs in
    record {
      line = l;
      later = rest;
      more = more;
      rest_is = refl;
      vs_are = sym (take-append-drop (length front + 1) vs) ∙ ap (λ (xs : List Line). xs ++ more) first ∙ append_assoc front (l ∷ []) more;
    }

-- of two lists that go on to the same list one begins the other
two-fronts : (a b x y : List Line) → a ++ x ≡ b ++ y → ((z : List Line) × (b ≡ a ++ z) × (x ≡ z ++ y)) ⊎ ((l : Line) × (z : List Line) × (a ≡ b ++ l ∷ z) × (y ≡ l ∷ z ++ x))
two-fronts [] b x y e = inl (b, refl, e)
two-fronts (l ∷ a) [] x y e = inr (l, a, refl, sym e)
two-fronts (l ∷ a) (m ∷ b) x y e =
    let same : l ≡ m = heads l m (a ++ x) (b ++ y) e in
    elim (two-fronts a b x y (tails l m (a ++ x) (b ++ y) e)) [
      | inl h ↦ inl (h.0, rw (same, h.1) refl, h.2)
      | inr h ↦ inr (h.0, h.1, rw (same, h.2) refl, h.3)
    ]

-- lines without an `end` do not begin with those of plays
unended : (p : Parts) (hs : List (List Entry)) (front later : List Line) → All IsNoEnd front → front ≡ lines_from p 0 hs ++ later → ⊥
unended p hs front later none is =
    let groups : List Line = lines_of_groups p 0 hs in
    let parts : front ≡ groups ++ end_line ∷ later = is ∙ ap (λ (ls : List Line). ls ++ later) (whole-lines p 0 hs) ∙ append_assoc groups (end_line ∷ []) later in
    let inside : length groups < length front = omega (arith, ap length parts, length-append groups (end_line ∷ later)) in
    All-get_or IsNoEnd front (length groups) end_line inside none (ap (λ (xs : List Line). get_or xs (length groups) end_line) parts ∙ get_or-append_seam groups end_line later end_line)

-- lists agree in all lines of the second: it begins the first
agree-all : (ls vs : List Line) → AgreeThrough (length vs) ls vs → ls ≡ vs ++ drop (length vs) ls
agree-all ls vs h = sym (take-append-drop (length vs) ls) ∙ ap (λ (xs : List Line). xs ++ drop (length vs) ls) (h.same ∙ take_all (length vs) vs (omega arith))

module _ (tools : List Tool) (v : Version) (p : Parts) (valid : IsValid p) where
  abbrev one_line : All (λ (c : ℕ). c ≢ 10) (canonical p)
  one_line = canonical-one_line p valid

  abbrev k : Known
  k = known_of v p

  tells : Tells k
  tells = valid-tells v p valid

  valid-text : (hs : List (List Entry)) → ArePlays p hs → IsValidText tools v p (trace_text v p hs) (entry_count hs)
  valid-text hs plays = record { histories = hs; plays = plays; text_is = inl refl; count = refl }

  -- ---- the set's line

  module _ (bytes set_text rest : List ℕ) (head : HasHead v bytes set_text rest) where
    -- a text that is valid has its set
    valid-set : (n : ℕ) (is : IsValidText tools v p bytes n) → set_text ≡ canonical p
    valid-set n is =
        let begins = text-begins tools v p is.histories bytes is.text_is in
        (head-unique v v bytes set_text rest (canonical p) (lines_of v p is.histories ++ begins.0) head (longer-head v p is.histories begins.0 bytes begins.1 one_line)).set_text

    -- and so has one that begins as a valid one
    begun-set : (n : ℕ) (begun : IsBegun tools v p n bytes) → 2 ≤ n → set_text ≡ canonical p
    begun-set n begun many =
        let is = begun.valid in
        let begins = text-begins tools v p is.histories begun.whole is.text_is in
        alike-head v v n bytes begun.whole set_text rest (canonical p) (lines_of v p is.histories ++ begins.0) begun.alike many head (longer-head v p is.histories begins.0 begun.whole begins.1 one_line)

    -- the second line is wrong where the set's text is not the canonical one
    pub not-canonical : (set_text ≡ canonical p → ⊥) → IsInvalid tools v p bytes 2
    not-canonical other =
        let all = completed-between p [] tt (omega arith) in
        record {
          not_valid = λ n is. other (valid-set n is);
          right = 1;
          line_is = refl;
          begun = record {
            whole = trace_text v p all.0;
            entries = entry_count all.0;
            valid = valid-text all.0 all.1;
            alike = alike-one_head v bytes (trace_text v p all.0) set_text rest (canonical p) (lines_of v p all.0) head (trace-head v p all.0 one_line);
          };
          most = λ n begun. most n begun (nat_lt 1 n) refl;
        }
      where
        most : (n : ℕ) → IsBegun tools v p n bytes → (b : Bool) → nat_lt 1 n ≡ b → n ≤ 1
        most n begun true e = let many : 2 ≤ n = grind (arith, nat_tests, e) in absurd (other (begun-set n begun many))
        most n begun false e = grind (arith, nat_tests, e)

  -- ---- lines

  module _ (bytes : List ℕ) (lines : List Line) (stop : Option ℕ) (r : IsTraceOf bytes v p lines stop) where
    -- a text that is valid has the lines of plays, and others behind them
    valid-lines : (n : ℕ) (is : IsValidText tools v p bytes n) → (later : List Line) × (lines ≡ lines_from p 0 is.histories ++ later)
    valid-lines n is =
        let begins = text-begins tools v p is.histories bytes is.text_is in
        let heads = head-unique v v bytes r.set_text r.rest (canonical p) (lines_of v p is.histories ++ begins.0) r.head (longer-head v p is.histories begins.0 bytes begins.1 one_line) in
        first-read k r.rest r.left begins.0 lines (lines_from p 0 is.histories) tells (known-lines v p valid is.histories is.plays) heads.rest r.lines_are

    -- and agrees with the lines of its plays, as far as both go
    begun-agrees : (n m : ℕ) (begun : IsBegun tools v p n bytes) → m + 2 ≤ n → m ≤ length (lines_from p 0 begun.valid.histories) → AgreeThrough m lines (lines_from p 0 begun.valid.histories)
    begun-agrees n m begun low few =
        let is = begun.valid in
        let begins = text-begins tools v p is.histories begun.whole is.text_is in
        alike-take k v v n m bytes begun.whole r.set_text r.rest (canonical p) (lines_of v p is.histories ++ begins.0) r.left begins.0 lines (lines_from p 0 is.histories) tells r.head
        (longer-head v p is.histories begins.0 begun.whole begins.1 one_line) r.lines_are (known-lines v p valid is.histories is.plays) refl begun.alike low few

    -- the same the other way round
    agrees-begun : (m : ℕ) (hs : List (List Entry)) → r.set_text ≡ canonical p → ArePlays p hs → AgreeThrough m lines (lines_from p 0 hs) → IsBegun tools v p (m + 2) bytes
    agrees-begun m hs same plays agree =
        let head : HasHead v (trace_text v p hs) r.set_text (lines_of v p hs) =
        subst (λ (s : List ℕ). HasHead v (trace_text v p hs) s (lines_of v p hs)) (sym same) (trace-head v p hs one_line) in
        record {
          whole = trace_text v p hs;
          entries = entry_count hs;
          valid = valid-text hs plays;
          alike = alike-made k v m bytes (trace_text v p hs) r.set_text r.rest (lines_of v p hs) r.left [] lines (lines_from p 0 hs) tells r.head head r.lines_are
              (sym (append-nil (lines_of v p hs))) agree;
        }

    -- lines that begin as those of plays, before their `end`, where no plays have them and one more
    pub record IsStopped (front rest : List Line) : Type 0 where
      pub lines_are : lines ≡ front ++ rest
      pub plays : List (List Entry)
      pub are_plays : ArePlays p plays
      pub later : List Line
      pub plays_begin : lines_from p 0 plays ≡ front ++ later
      pub no_end : All IsNoEnd front
      pub no_more : (hs : List (List Entry)) (l : Line) (others ls : List Line) → ArePlays p hs → rest ≡ l ∷ others → lines_from p 0 hs ≡ front ++ l ∷ ls → ⊥

    -- they begin with all the lines of no plays
    begin-none : (front rest : List Line) → IsStopped front rest → (hs : List (List Entry)) → ArePlays p hs → (later : List Line) → lines ≡ lines_from p 0 hs ++ later → ⊥
    begin-none front rest s hs plays later is =
        elim (two-fronts (lines_from p 0 hs) front later rest (sym is ∙ s.lines_are)) [
          | inl h ↦ unended p hs front h.0 s.no_end h.1
          | inr h ↦ s.no_more hs h.0 (h.1 ++ later) h.1 plays h.3 h.2
        ]

    -- no valid text begins with more of them
    none-further : (front rest : List Line) → IsStopped front rest → (n : ℕ) → length front + 2 < n → IsBegun tools v p n bytes → ⊥
    none-further front rest s n high begun = by_length (nat_lt (length front) (length all)) refl
      where
        all : List Line
        all = lines_from p 0 begun.valid.histories

        by_length : (b : Bool) → nat_lt (length front) (length all) ≡ b → ⊥
        by_length true e =
            let low : length front < length all = grind (arith, nat_tests, e) in
            let next = agree-next front rest lines all s.lines_are (begun-agrees n (length front + 1) begun (omega (arith, high)) (omega (arith, low))) in
            s.no_more begun.valid.histories next.line next.later next.more begun.valid.plays next.rest_is next.vs_are
        by_length false e =
            let few : length all ≤ length front = grind (arith, nat_tests, e) in
            let agree = begun-agrees n (length all) begun (omega (arith, high, few)) (omega arith) in
            begin-none front rest s begun.valid.histories begun.valid.plays (drop (length all) lines) (agree-all lines all agree)

    -- the line behind them is wrong
    pub stopped : (front rest : List Line) → r.set_text ≡ canonical p → IsStopped front rest → IsInvalid tools v p bytes (length front + 3)
    stopped front rest same s = record {
      not_valid = λ n is. (let said = valid-lines n is in begin-none front rest s is.histories is.plays said.0 said.1);
      right = length front + 2;
      line_is = omega arith;
      begun = agrees-begun (length front) s.plays same s.are_plays (agree-front front rest s.later lines (lines_from p 0 s.plays) s.lines_are s.plays_begin);
      most = λ n begun. most n begun (nat_lt (length front + 2) n) refl;
    }
      where
        most : (n : ℕ) → IsBegun tools v p n bytes → (b : Bool) → nat_lt (length front + 2) n ≡ b → n ≤ length front + 2
        most n begun true e = let high : length front + 2 < n = grind (arith, nat_tests, e) in absurd (none-further front rest s n high begun)
        most n begun false e = grind (arith, nat_tests, e)

  -- ---- a text that begins with all the lines of plays

  module _ (bytes : List ℕ) (hs : List (List Entry)) (plays : ArePlays p hs) (behind : List ℕ) (head_is : HasHead v bytes (canonical p) (lines_of v p hs ++ behind)) where
    abbrev pub all : List Line
    all = lines_from p 0 hs

    abbrev pub counts : List ℕ
    counts = flat_map (line_text k) (count_lines tools p hs)

    known : All (IsLine k) all
    known = known-lines v p valid hs plays

    pub text_is : bytes ≡ trace_text v p hs ++ behind
    text_is = head_is.bytes_are ∙ sym (longer-begins v p hs behind (trace_text v p hs ++ behind) refl)

    -- it is valid where nothing stands behind them, or all the count lines
    pub alone-valid : behind ≡ [] → IsValidText tools v p bytes (entry_count hs)
    alone-valid none = record {
      histories = hs;
      plays = plays;
      text_is = inl (text_is ∙ ap (λ (t : List ℕ). trace_text v p hs ++ t) none ∙ append-nil (trace_text v p hs));
      count = refl;
    }

    pub counted-valid : behind ≡ counts → IsValidText tools v p bytes (entry_count hs)
    counted-valid is = record {
      histories = hs;
      plays = plays;
      text_is = inr (text_is ∙ ap (λ (t : List ℕ). trace_text v p hs ++ t) is);
      count = refl;
    }

    -- a valid text is of these plays
    pub same-histories : (n : ℕ) (is : IsValidText tools v p bytes n) → hs ≡ is.histories
    same-histories n is =
        let begins = text-begins tools v p is.histories bytes is.text_is in
        texts-apart v p hs is.histories behind begins.0 bytes valid plays is.plays text_is begins.1

    -- and else not
    other-invalid : (behind ≡ [] → ⊥) → (behind ≡ counts → ⊥) → (n : ℕ) → IsValidText tools v p bytes n → ⊥
    other-invalid some other n is = by_text is.text_is
      where
        by_text : IsTextOf tools v p is.histories bytes → ⊥
        by_text (inl e) = some (append_cancel_left (trace_text v p hs) behind [] (sym text_is ∙ e ∙ ap (trace_text v p) (sym (same-histories n is)) ∙ sym (append-nil (trace_text v p hs))))
        by_text (inr e) = other (append_cancel_left (trace_text v p hs) behind counts (sym text_is ∙ e ∙ ap (counted_text v tools p) (sym (same-histories n is))))

    -- so many lines are right then
    abbrev pub right : ℕ
    right = length all + 2 + lines_alike behind counts

    pub counts-begun : IsBegun tools v p right bytes
    counts-begun =
        let whole : List ℕ = counted_text v tools p hs in
        let head = longer-head v p hs counts whole refl one_line in
        let alike = alike-two v (length all + lines_alike behind counts) bytes whole (canonical p) (lines_of v p hs ++ behind) (lines_of v p hs ++ counts) head_is head
        (alike-behind k (lines_alike behind counts) all behind counts tells known (alike-there behind counts)) in
        let number : length all + lines_alike behind counts + 2 ≡ right = omega arith in
        record {
          whole = whole;
          entries = entry_count hs;
          valid = record { histories = hs; plays = plays; text_is = inr refl; count = refl };
          alike = subst (λ (n : ℕ). BeginAlike n bytes whole) number alike;
        }

    alike-within : (n : ℕ) (more whole : List ℕ) → whole ≡ trace_text v p hs ++ more → BeginAlike n bytes whole → n ≤ length all + 2 + lines_alike behind more
    alike-within n more whole is alike =
        let few = alike-most n bytes whole alike in
        let number = texts-alike v k all bytes whole (canonical p) behind more tells known head_is (longer-head v p hs more whole is one_line) in
        omega (arith, few, number)

    -- where these are the first of its lines
    module _ (lines : List Line) (stop : Option ℕ) (r : IsTraceOf bytes v p lines stop) (later : List Line) (begin : lines ≡ all ++ later) where
      -- a valid text that begins with all these lines is of these plays
      same-plays : (n : ℕ) (begun : IsBegun tools v p n bytes) → length all + 2 ≤ n → hs ≡ begun.valid.histories
      same-plays n begun many = by_length (nat_lt (length others) (length all)) refl
        where
          others : List Line
          others = lines_from p 0 begun.valid.histories

          by_length : (b : Bool) → nat_lt (length others) (length all) ≡ b → hs ≡ begun.valid.histories
          by_length true e =
              let few : length others < length all = grind (arith, nat_tests, e) in
              let agree = begun-agrees bytes lines stop r n (length others) begun (omega (arith, many, few)) (omega arith) in
              elim (two-fronts all others later (drop (length others) lines) (sym begin ∙ agree-all lines others agree)) [
                | inl h ↦ begin-same p hs begun.valid.histories h.0 h.1
                | inr h ↦ sym (begin-same p begun.valid.histories hs (h.0 ∷ h.1) h.2)
              ]
          by_length false e =
              let low : length all ≤ length others = grind (arith, nat_tests, e) in
              let agree = begun-agrees bytes lines stop r n (length all) begun many low in
              begin-same p hs begun.valid.histories (drop (length all) others)
              (sym (take-append-drop (length all) others) ∙ ap (λ (xs : List Line). xs ++ drop (length all) others) (sym agree.same ∙ ap (take (length all)) begin ∙ take-append_seam all later))

      within-right : (n : ℕ) → IsBegun tools v p n bytes → n ≤ right
      within-right n begun = by_number (nat_lt n (length all + 2)) refl
        where
          by_text : hs ≡ begun.valid.histories → IsTextOf tools v p begun.valid.histories begun.whole → n ≤ right
          by_text same_histories (inl e) =
              let few = alike-within n [] begun.whole (e ∙ ap (trace_text v p) (sym same_histories) ∙ sym (append-nil (trace_text v p hs))) begun.alike in
              let none : lines_alike behind [] ≡ 0 = alike-past behind [] (omega arith) in
              omega (arith, few, none)
          by_text same_histories (inr e) = alike-within n counts begun.whole (e ∙ ap (counted_text v tools p) (sym same_histories)) begun.alike

          by_number : (b : Bool) → nat_lt n (length all + 2) ≡ b → n ≤ right
          by_number true e = let low : n < length all + 2 = grind (arith, nat_tests, e) in omega (arith, low)
          by_number false e = let high : length all + 2 ≤ n = grind (arith, nat_tests, e) in by_text (same-plays n begun high) begun.valid.text_is

      -- the next line is wrong where something stands behind them that is not the count lines
      pub behind-wrong : (behind ≡ [] → ⊥) → (behind ≡ counts → ⊥) → IsInvalid tools v p bytes (right + 1)
      behind-wrong some other = record { not_valid = other-invalid some other; right = right; line_is = refl; begun = counts-begun; most = within-right }
