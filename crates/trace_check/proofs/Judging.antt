-- A text that was judged right so far, and what the next line comes to.
use Rattle.std.proofs.Common.{◌≡◌, ℕ, zero, suc, ◌+◌, ◌-◌, ◌*◌, ◌<◌, ◌≤◌, ◌^◌, inl, inr, ◌⊎◌, Bool, true, false, ◌||◌, ◌==◌, List, [], ◌∷◌, ◌++◌, length, map, take, drop, get_or, None, Some, refl, sym, ap, ◌∙◌, subst, arith, eqb-true, append-nil, append_assoc, length-append}
use Rattle.std.specs.Prelude.{All, Option, bytes_eq, codes, not, sum_by, if◌then◌else◌}
use Rattle.std.proofs.lemmas.List.Sums.{sum-map, sum_by-cons, sum_by_push}
use Rattle.std.proofs.lemmas.List.{append_cancel_left, drop-drop, length-take-le, nil_from_length, take-append-drop, take_all}
use Rattle.std.proofs.lemmas.List.Elements.{All-append, All-head, All-take}
use Rattle.std.proofs.lemmas.Slice.Eq.{bytes_eq-Decides}
use Rattle.std.proofs.Math.Seq.{drop-cons}
use Rattle.rt_base.specs.declared.TheConstants.{MOST_STEPS}
use Rattle.rt_task.specs.declared.Parts.{Parts}
use Rattle.rt_task.specs.Validity.{IsValid}
use Rattle.rt_rules.specs.declared.history.Entry.{Entry}
use Rattle.rt_model.specs.Group.{Group, group_processors}
use Rattle.rt_model.specs.Histories.{past_of}
use Rattle.rt_plays.specs.Groups.{IsGroupOf}
use Rattle.rt_plays.proofs.GroupCount.{groups_are_counted}
use Rattle.rt_plays.specs.Plays.{ArePlays, IsPlay, group_count, group_with}
use Rattle.set_canonical.specs.Canonical.{canonical}
use Rattle.set_laws.proofs.CanonicalLaws.{set-of-canonical}
use Rattle.trace_lines.specs.Lines.{Line, group_line, entry_line, block_line, end_line, count_line, links_of}
use Rattle.trace_lines.specs.declared.format.Version.{Version}
use Rattle.trace_lines.specs.Grammar.{line_text, line_words}
use Rattle.trace_lines.specs.Known.{IsLine, Known, known_of}
use Rattle.trace_tools.specs.Counters.{Counter, counter_after, counter_line, counter_of, counters_after}
use Rattle.trace_tools.specs.Tools.{Tool}
use Rattle.trace_text.specs.CountLines.{count_lines, counted_text, shown_as, shown_from}
use Rattle.trace_text.specs.TraceText.{lines_from, links_at, trace_text}
use Rattle.trace_text.proofs.GroupLaws.{groups-few}
use Rattle.trace_text.proofs.LineLaws.{past_none}
use Rattle.trace_read.specs.Reading.{begins_with_digit}
use Rattle.trace_read.specs.Reads.{AreLines, HasHead, IsTraceOf, stop_at}
use Rattle.trace_read.proofs.TellLaws.{valid-tells}
use Rattle.trace_laws.specs.ValidTexts.{entry_count}
use Rattle.trace_laws.proofs.Heads.{lines_of}
use Rattle.trace_laws.proofs.KnownLines.{known-lines}
use Rattle.trace_laws.proofs.Plays.{begun-whole, few-entries}
use Rattle.trace_laws.proofs.ReadBack.{first-read}
use Rattle.view_replay.specs.Players.{Played}
use Rattle.trace_check.specs.declared.follow.Follow.{Follow}
use Rattle.trace_check.specs.declared.progress.Progress.{Progress}
use Rattle.trace_check.specs.declared.progress.Followed.{Followed}
use Rattle.trace_check.specs.declared.requests.Stood.{Stood}
use Rattle.trace_check.specs.declared.verdict.Verdict.{Verdict}
use Rattle.trace_check.specs.declared.verdict.Verdict.TheVariants.{Invalid, Valid}
use Rattle.trace_check.specs.Verdicts.{IsInvalid, IsVerdict}
use Rattle.trace_check.specs.inside.Following.{HasTaken, IsFollowing, IsFollowingWith, IsNextEntry, IsTaken, NoneIsNext}
use Rattle.trace_course.specs.Followed.{GroupEntries}
use Rattle.trace_check.specs.inside.GroupLines.{ArePlaysFrom, IsOtherLine, NoEntryBegins, NoEntryBehind, NoEntryFirst, lines_of_groups, lines_so_far, next_line, opening_line}
use Rattle.trace_check.specs.Counts.{IsCountedText}
use Rattle.trace_check.specs.inside.Judging.{IsJudged, IsJudgedText, IsShownText, IsTextOfPlays, verdict_behind}
use Rattle.trace_check.specs.Keeping.{BeforeLast, Between, Keeping}
use Rattle.trace_check.specs.inside.Progress.{AreAllRight, AreKept, AreRight, IsEndedAt, IsFollowedBy, IsRight, finished, missing, unfinished}
use Rattle.trace_check.specs.LinesAlike.{lines_alike}
use Rattle.trace_check.specs.inside.RequestLines.{HaveStood}
use Rattle.trace_check.proofs.FirstLetters.{other-letter}
use Rattle.trace_check.proofs.GroupLines.{IsNoEnd, blocks-no_end, blocks-other, lines_so_far-last, lines_so_far-none, next-step, next-told, so_far-no_end}
use Rattle.trace_check.proofs.SetLines.{AreClosed, GoesOn, IsEntryNext, IsNextAfter, completed-between, completed-whole, completed-within, from-all, goes-on, groups-no_end, lines-last, lines_behind, lines_through, next-between, next-within, plays-append, whole-lines}
use Rattle.trace_check.proofs.Judged.{alone-valid, behind-wrong, counted-valid, counts-begun, heads, same-histories, text_is}
use Rattle.trace_check.proofs.Shown.{lines-shown, shown-group, shown-more, shown-none}
use Rattle.trace_check.proofs.TextPositions.{StandFirst, lines-short, rest-of, size-is, stand-further, stand-line, stopped-at, texts, texts-more, wrong-lines}

-- two lists with one element more that are the same
last-same : {A : Type 0} (xs ys : List A) (x y : A) → xs ++ x ∷ [] ≡ ys ++ y ∷ [] → (xs ≡ ys) × (x ≡ y)
last-same [] [] x y e = (refl, cc)
last-same [] (b ∷ ys) x y e = absurd (omega (arith, ap length e, length-append ys (y ∷ [])))
last-same (a ∷ xs) [] x y e = absurd (omega (arith, ap length e, length-append xs (x ∷ [])))
last-same {A = A} (a ∷ xs) (b ∷ ys) x y e =
    let heads_same : a ≡ b = first-same (xs ++ x ∷ []) (ys ++ y ∷ []) e in
    let rest = last-same xs ys x y (rest-same (xs ++ x ∷ []) (ys ++ y ∷ []) e) in
    ((λ i. heads_same i ∷ rest.0 i), rest.1)
  where
    first-same : (us vs : List A) → a ∷ us ≡ b ∷ vs → a ≡ b
    first-same us vs k = cc

    rest-same : (us vs : List A) → a ∷ us ≡ b ∷ vs → us ≡ vs
    rest-same us vs k = cc

-- what comes of taking a line, in the part of a text behind a position
pub taken-rest : {P : Type 0} (played : P → Played) (spare : P → ℕ) (at : GroupEntries) (v : Version) (size : ℕ) (text line : List ℕ) (o : Option Entry) (f : Follow P) → HasTaken played spare at v (take (length text - size) (drop size text)) line o f → HasTaken played spare at v (drop size text) line o f
taken-rest played spare at v size text line o f h = subst (λ (xs : List ℕ). HasTaken played spare at v xs line o f) (rest-of size text) h

pub none-taken-there : {P : Type 0} (played : P → Played) (spare : P → ℕ) (at : GroupEntries) (v : Version) (text line : List ℕ) (o : Option Entry) (f : Follow P) → ((e : Entry) → o ≡ Some e → ⊥) → HasTaken played spare at v text line o f → NoneIsNext at v text
none-taken-there played spare at v text line None f none h = h
none-taken-there played spare at v text line (Some e) f none h = absurd (none e refl)

-- the line behind all groups
pub end-text : (known : Known) → line_text known end_line ≡ codes "end" ++ 10 ∷ []
unfolding line_text line_words
end-text known = refl

-- what stands behind it
pub end-behind : (known : Known) (size : ℕ) (text left : List ℕ) → left ≡ take (length text - size) (drop size text) → left ≡ (codes "end" ++ 10 ∷ []) ++ drop 4 left → drop size text ≡ line_text known end_line ++ take (length left - 4) (drop 4 left)
end-behind known size text left is begins =
    sym (is ∙ rest-of size text) ∙ begins ∙ ap (λ (xs : List ℕ). xs ++ drop 4 left) (sym (end-text known)) ∙ ap (λ (xs : List ℕ). line_text known end_line ++ xs) (sym (rest-of 4 left))

none-taken : (n : ℕ) → take {A = Line} n [] ≡ []
none-taken zero = refl
none-taken (suc n) = refl

-- ---- how many entries

counted : (hs : List (List Entry)) → entry_count hs ≡ sum_by (λ (es : List Entry). length es) hs
counted hs = sum-map (λ (es : List Entry). length es) hs

count-more : (hs : List (List Entry)) (es : List Entry) → entry_count (hs ++ es ∷ []) ≡ entry_count hs + length es
count-more hs es = omega (arith, counted (hs ++ es ∷ []), counted hs, sum_by_push (λ (xs : List Entry). length xs) hs es)

count-few : (p : Parts) (n : ℕ) (hs : List (List Entry)) → IsValid p → ArePlaysFrom p n hs → entry_count hs ≤ length hs * MOST_STEPS
count-few p n [] valid plays = omega arith
count-few p n (es ∷ hs) valid plays =
    let one : length es ≤ MOST_STEPS = few-entries (group_with p n) es valid (begun-whole (group_with p n) es plays.0) in
    omega (arith, one, count-few p (n + 1) hs valid plays.1, counted (es ∷ hs), counted hs, sum_by-cons (λ (xs : List Entry). length xs) es hs)

-- ---- lines of groups

pub group-low : (p : Parts) (n : ℕ) → IsValid p → IsGroupOf p n → n < group_count p
group-low p n valid there = (groups_are_counted p n valid).0 there

-- the line that shows the links of a group at opening
pub opened-line : {P : Type 0} {played : P → Played} {spare : P → ℕ} {p : Parts} (n : ℕ) (f : Follow P) → IsFollowing played spare (group_with p n) [] f → group_line n (links_of f.links.links.items) ≡ opening_line (group_with p n)
opened-line {p = p} n f following =
    let g : Group = group_with p n in
    ap (group_line n) (following.links_are.links_are ∙ ap (λ past. links_at g past (group_processors g)) (past_none g))

module _ (v : Version) (p : Parts) (text : List ℕ) where
  abbrev k : Known
  k = known_of v p

  -- where they were followed to
  abbrev pub position_at : {P : Type 0} → {played : P → Played} → {spare : P → ℕ} → {n : ℕ} → {from : Progress} → {size : ℕ} → {f : Follow P} → {opened was counters : List Counter} → {holds : Keeping} → IsRight played spare v p text n from size f opened was counters holds → GroupEntries
  position_at {n = n} right = record { group = group_with p n; entries = right.entries }

  right-stands : {n : ℕ} → {r : Progress} → {opened counters : List Counter} → (right : AreRight v p text n r opened counters) → StandFirst k text (lines_of_groups p 0 right.histories) r.length
  right-stands right = record { within = right.within; text_is = right.text_is }

  -- there are no more lines than bytes
  pub right-short : (n : ℕ) (r : Progress) (opened counters : List Counter) → AreRight v p text n r opened counters → r.lines ≤ r.length
  right-short n r opened counters right =
      let ls : List Line = lines_of_groups p 0 right.histories in
      omega (arith, right.position_is, lines-short k ls, size-is k text ls r.length (right-stands right))

  -- what stands behind whole groups is of no entry behind those of the last
  closed-by : {n : ℕ} → {r : Progress} → {opened counters : List Counter} → (right : AreRight v p text n r opened counters) (l : Line) (more : List ℕ) (ls : List Line) → IsLine k l
      → drop r.length text ≡ line_text k l ++ more → AreClosed p right.histories (l ∷ ls)
  closed-by {r = r} right l more ls known is front es last = by_lines (lines_behind p (length front) es) (right.closed front es last)
    where
      by_lines : (bs : List Line) → NoEntryBehind k bs (drop r.length text) → NoEntryFirst (bs ++ l ∷ ls)
      by_lines [] none = none l more known is
      by_lines (b ∷ bs) other = other

  -- before all groups
  pub right-first : (opened : List Counter) (holds : Keeping) → holds [] []
      → AreKept v p text 0 (record { lines = 0; entries = 0; length = 0 }) opened opened (Between holds)
  right-first opened holds none = record {
    right = record {
      histories = [];
      plays = tt;
      count = refl;
      position_is = refl;
      within = omega arith;
      text_is = refl;
      entries_are = refl;
      shown = refl;
      closed = λ front es same. absurd (omega (arith, ap length same, length-append front (es ∷ [])));
    };
    kept = none;
  }

  -- ---- the line of a group

  module _ (n : ℕ) (r : Progress) (opened was : List Counter) (right : AreRight v p text n r opened was) where
    -- it is not there
    pub opened-wrong : IsValid p → n < group_count p → (l : Line) → l ≡ opening_line (group_with p n) → ((more : List ℕ) → drop r.length text ≡ line_text k l ++ more → ⊥) → IsJudged v p text (Invalid (r.lines + 3))
    opened-wrong valid low line is none tools bytes head = subst (λ (m : ℕ). IsInvalid tools v p bytes (m + 3)) (sym right.position_is) (stopped-at tools v p valid bytes text head front (drop r.length text) (record {
      text_is = right.text_is;
      plays = all.0;
      are_plays = all.1;
      later = all.2.0;
      plays_begin = all.2.1;
      no_end = groups-no_end p 0 right.histories;
      no_more = λ hs l more ls plays known here begin. none_next l more here (next-between p hs right.histories l ls plays (closed-by right l more ls known here) begin);
    }))
      where
        front : List Line
        front = lines_of_groups p 0 right.histories

        all : (hs : List (List Entry)) × ArePlays p hs × ((ls : List Line) × (lines_from p 0 hs ≡ front ++ ls))
        all = completed-between p right.histories right.plays (omega (arith, low, right.count))

        none_next : (l : Line) (more : List ℕ) → drop r.length text ≡ line_text k l ++ more → IsNextAfter p (length right.histories) l → ⊥
        none_next l more here (inl next) =
            let same : l ≡ line = next.line_is ∙ ap (λ (m : ℕ). opening_line (group_with p m)) right.count ∙ sym is in
            none more (here ∙ ap (λ (x : Line). line_text k x ++ more) same)
        none_next l more here (inr next) = omega (arith, next.all, low, right.count)

    -- it is
    pub opened-right : {P : Type 0} {played : P → Played} {spare : P → ℕ} {holds : Keeping} (f : Follow P) (line : List ℕ) → Between holds right.histories → IsFollowing played spare (group_with p n) [] f → line ≡ line_text k (group_line n (links_of f.links.links.items)) → drop r.length text ≡ line ++ drop (length line) (drop r.length text)
        → IsRight played spare v p text n r (r.length + length line) f opened was was holds
    opened-right f line kept following is begins =
        let g : Group = group_with p n in
        let front : List Line = lines_of_groups p 0 right.histories in
        let l : Line = group_line n (links_of f.links.links.items) in
        let same : l ∷ [] ≡ lines_so_far g [] = ap (λ (x : Line). x ∷ []) (opened-line n f following) ∙ sym (lines_so_far-none g) in
        let stands : StandFirst k text (front ++ lines_so_far g []) (r.length + length line) =
        subst (λ (xs : List Line). StandFirst k text (front ++ xs) (r.length + length line)) same
        (stand-further k text front (l ∷ []) r.length (length line) (right-stands right) (stand-line k (drop r.length text) l line is begins)) in
        record {
          before = right;
          entries = [];
          shown = shown-none g was;
          kept = kept;
          following = following;
          within = stands.within;
          text_is = stands.text_is;
          position_is = omega (arith, right.position_is, following.count_is, length-append front (lines_so_far g []), ap length (lines_so_far-none g));
        }

  -- ---- lines of entries

  -- they were followed by the set
  pub followed-with : {P : Type 0} → {played : P → Played} → {spare : P → ℕ} → {n : ℕ} → {from : Progress} → {size : ℕ} → {f : Follow P} → {opened was counters : List Counter} → {holds : Keeping} → (right : IsRight played spare v p text n from size f opened was counters holds) → IsFollowingWith played spare (position_at right) p f
  followed-with right = record { following = right.following; setup_is = refl }

  module _ {P : Type 0} {played : P → Played} {spare : P → ℕ} (n : ℕ) (from : Progress) (size : ℕ) (f : Follow P) (opened was counters : List Counter) {holds : Keeping} (right : IsRight played spare v p text n from size f opened was counters holds) where
    abbrev g : Group
    g = group_with p n

    abbrev es : List Entry
    es = right.entries

    abbrev done : List (List Entry)
    done = right.before.histories

    abbrev front : List Line
    front = lines_through p done n es

    abbrev rest : List ℕ
    rest = drop size text

    valid : IsValid p
    valid = right.following.valid

    low : n < group_count p
    low = group-low p n valid right.following.is_there

    stands : StandFirst k text front size
    stands = record { within = right.within; text_is = right.text_is }

    -- there are no more lines than bytes
    pub position-short : from.lines + 1 + f.count ≤ size
    position-short = omega (arith, right.position_is, lines-short k front, size-is k text front size stands)

    -- the next entry is followed
    pub taken-right : {later : Keeping} → (line : List ℕ) (e : Entry) (f' : Follow P) (counters' : List Counter) → IsTaken played spare (position_at right) v rest line e f'
        → counters' ≡ map (counter_after (shown_as g f.count e (past_of g (es ++ e ∷ [])))) counters → later done (es ++ e ∷ []) → IsRight played spare v p text n from (size + length line) f' opened was counters' later
    taken-right line e f' counters' taken fed kept = record {
      before = right.before;
      entries = es ++ e ∷ [];
      shown = shown-more g es e was counters counters' right.shown (fed ∙ ap (λ (m : ℕ). map (counter_after (shown_as g m e (past_of g (es ++ e ∷ [])))) counters) right.following.count_is);
      kept = kept;
      following = taken.following;
      within = stands-more.within;
      text_is = stands-more.text_is;
      position_is =
          omega (arith, right.position_is, right.following.count_is, taken.following.count_is, length-append es (e ∷ []), ap length more, length-append front (next_line g es e ∷ []));
    }
      where
        more : front ++ next_line g es e ∷ [] ≡ lines_through p done n (es ++ e ∷ [])
        more = append_assoc (lines_of_groups p 0 done) (lines_so_far g es) (next_line g es e ∷ []) ∙ ap (λ (xs : List Line). lines_of_groups p 0 done ++ xs) (sym (lines_so_far-last g es e))

        stands-more : StandFirst k text (lines_through p done n (es ++ e ∷ [])) (size + length line)
        stands-more =
            subst (λ (xs : List Line). StandFirst k text xs (size + length line)) more
            (stand-further k text front (next_line g es e ∷ []) size (length line) stands (stand-line k rest (next_line g es e) line taken.line_is taken.begins))

    -- the line behind them is wrong where none that may come there is it
    wrong-there : ((l : Line) (more : List ℕ) → IsLine k l → rest ≡ line_text k l ++ more → IsEntryNext g es l ⊎ (IsPlay g es × IsOtherLine l) → ⊥) → IsJudged v p text (Invalid (from.lines + 1 + f.count + 3))
    wrong-there none tools bytes head = subst (λ (m : ℕ). IsInvalid tools v p bytes (m + 3)) (sym right.position_is) (stopped-at tools v p valid bytes text head front rest (record {
      text_is = right.text_is;
      plays = all.0;
      are_plays = all.1;
      later = all.2.0;
      plays_begin = all.2.1;
      no_end = All-append IsNoEnd (lines_of_groups p 0 done) (lines_so_far g es) (groups-no_end p 0 done) (so_far-no_end g es);
      no_more = λ hs l more ls plays known here begin. none l more known here (next-within p hs done n es l ls plays right.before.count begin);
    }))
      where
        all : (hs : List (List Entry)) × ArePlays p hs × ((ls : List Line) × (lines_from p 0 hs ≡ front ++ ls))
        all = completed-within p done n es right.before.plays right.before.count low right.following.begun

    -- a line that begins as that of an entry, and is none that may come next
    pub refused-there : NoneIsNext (position_at right) v rest → begins_with_digit rest ≡ true → IsJudged v p text (Invalid (from.lines + 1 + f.count + 3))
    refused-there refused digit = wrong-there none
      where
        IsNextLine : Line → Type 0
        IsNextLine (entry_line m x ks) = IsNextEntry g es m x ks
        IsNextLine _ = ⊥

        next-is : (l : Line) → IsEntryNext g es l → IsNextLine l
        next-is l next =
            subst IsNextLine (sym next.line_is) (record { number = refl; next = next-step g es next.entry next.more next.play; reply_is = next-told g es next.entry next.more next.play; links_are = refl })

        of_entry : (l : Line) (more : List ℕ) → IsLine k l → rest ≡ line_text k l ++ more → IsNextLine l → ⊥
        of_entry (group_line m links) more known is next = next
        of_entry (entry_line i e links) more known is next = refused i e links more known is next
        of_entry (block_line i t s a b m) more known is next = next
        of_entry end_line more known is next = next
        of_entry (count_line name totals) more known is next = next

        none : (l : Line) (more : List ℕ) → IsLine k l → rest ≡ line_text k l ++ more → IsEntryNext g es l ⊎ (IsPlay g es × IsOtherLine l) → ⊥
        none l more known is (inl next) = of_entry l more known is (next-is l next)
        none l more known is (inr other) =
            let yes : begins_with_digit rest ≡ true = digit in
            let no : begins_with_digit rest ≡ false = ap begins_with_digit is ∙ other-letter k l more other.1 in
            cc

    -- no line of an entry is there, and a step is left
    unfinished-there : NoEntryBegins k rest → (IsPlay g es → ⊥) → IsJudged v p text (Invalid (from.lines + 1 + f.count + 3))
    unfinished-there other left = wrong-there none
      where
        none : (l : Line) (more : List ℕ) → IsLine k l → rest ≡ line_text k l ++ more → IsEntryNext g es l ⊎ (IsPlay g es × IsOtherLine l) → ⊥
        none l more known is (inl next) = subst IsOtherLine next.line_is (other l more known is)
        none l more known is (inr next) = left next.0

    abbrev blocks : List Line
    blocks = lines_behind p n es

    -- what comes behind the first lines of requests
    behind : (first later : List Line) (hs : List (List Entry)) (l : Line) (ls : List Line) → first ++ later ≡ blocks → ArePlays p hs → (first ≡ [] → IsOtherLine l) → lines_from p 0 hs ≡ (front ++ first) ++ l ∷ ls
        → (others : List Line) × (l ∷ ls ≡ later ++ others)
    behind first later hs l ls parts plays other begun =
        (others, append_cancel_left first (l ∷ ls) (later ++ others) (on.lines_are ∙ ap (λ (bs : List Line). bs ++ others) (sym parts) ∙ append_assoc first later others))
      where
        whole : (bs : List Line) → bs ++ later ≡ blocks → (bs ≡ [] → IsOtherLine l) → lines_from p 0 hs ≡ front ++ (bs ++ l ∷ ls) → GoesOn p n es (bs ++ l ∷ ls)
        whole [] same none lines_are = goes-on p hs done n es l ls plays right.before.count (none refl) lines_are
        whole (b ∷ bs) same none lines_are =
            goes-on p hs done n es b (bs ++ l ∷ ls) plays right.before.count (All-head IsOtherLine b (bs ++ later) (subst (All IsOtherLine) (sym same) (blocks-other g (past_of g es)))) lines_are

        on : GoesOn p n es (first ++ l ∷ ls)
        on = whole first parts other (begun ∙ append_assoc front first (l ∷ ls))

        others : List Line
        others = lines_of_groups p (n + 1) on.more ++ end_line ∷ []

    -- the line of a request is missing
    missing-there : (s : Stood) → NoEntryBegins k rest → IsPlay g es → HaveStood k blocks rest s → s.count < length blocks → IsJudged v p text (Invalid (from.lines + 1 + f.count + s.count + 3))
    missing-there s other over stood few tools bytes head = subst (λ (m : ℕ). IsInvalid tools v p bytes (m + 3)) (sym position_is) (stopped-at tools v p valid bytes text head here behind_those (record {
      text_is = stands-on.text_is ∙ ap (λ (xs : List ℕ). texts k here ++ xs) (sym (drop-drop s.length size text));
      plays = all.0;
      are_plays = all.1;
      later = all.2.0;
      plays_begin = all.2.1;
      no_end =
          All-append IsNoEnd front (take s.count blocks) (All-append IsNoEnd (lines_of_groups p 0 done) (lines_so_far g es) (groups-no_end p 0 done) (so_far-no_end g es))
          (All-take IsNoEnd s.count blocks (blocks-no_end g (past_of g es)));
      no_more = λ hs l more ls plays known is begin. no_more l more ls is
          (behind (take s.count blocks) (drop s.count blocks) hs l ls (take-append-drop s.count blocks) plays
          (λ none. other l more known (stood.text_is ∙ ap (λ (xs : List Line). texts k xs ++ behind_those) none ∙ is)) begin);
    }))
      where
        here : List Line
        here = front ++ take s.count blocks

        behind_those : List ℕ
        behind_those = drop s.length rest

        stands-on : StandFirst k text here (size + s.length)
        stands-on = stand-further k text front (take s.count blocks) size s.length stands (record { within = stood.within; text_is = stood.text_is })

        position_is : from.lines + 1 + f.count + s.count ≡ length here
        position_is = omega (arith, right.position_is, length-append front (take s.count blocks), length-take-le s.count blocks stood.low)

        next : (l : Line) → drop s.count blocks ≡ get_or blocks s.count l ∷ drop (suc s.count) blocks
        next l = drop-cons blocks s.count l few

        no_more : (l : Line) (more : List ℕ) (ls : List Line) → behind_those ≡ line_text k l ++ more → (others : List Line) × (l ∷ ls ≡ drop s.count blocks ++ others) → ⊥
        no_more l more ls is b =
            let same : l ≡ get_or blocks s.count l = heads _ _ _ _ (b.1 ∙ ap (λ (bs : List Line). bs ++ b.0) (next l)) in
            stood.other l more few (is ∙ ap (λ (x : Line). line_text k x ++ more) same)

        -- plays of all groups
        all : (hs : List (List Entry)) × ArePlays p hs × ((ls : List Line) × (lines_from p 0 hs ≡ here ++ ls))
        all =
            let whole = completed-whole p done n es right.before.plays right.before.count low over in
            let later : List Line = whole.2.0 in (
              whole.0,
              whole.1,
              (
                drop s.count blocks ++ later,
                whole.2.1 ∙ ap (λ (xs : List Line). front ++ xs) (ap (λ (bs : List Line). bs ++ later) (sym (take-append-drop s.count blocks)) ∙ append_assoc (take s.count blocks) (drop s.count blocks) later)
                    ∙ sym (append_assoc front (take s.count blocks) (drop s.count blocks ++ later)),
              ),
            )

    -- the play of the group is whole, and the lines of its requests are there
    group-right : (s : Stood) → NoEntryBegins k rest → IsPlay g es → HaveStood k blocks rest s → s.count ≡ length blocks
        → AreKept v p text (n + 1) (record { lines = from.lines + 1 + f.count + s.count; entries = from.entries + f.count; length = size + s.length }) opened counters (BeforeLast holds)
    group-right s other over stood whole =
        let all : lines_of_groups p 0 (done ++ es ∷ []) ≡ front ++ blocks = lines-last p done n es right.before.count in
        let here : n ≡ 0 + length done = omega (arith, right.before.count) in
        let taken : take s.count blocks ≡ blocks = take_all s.count blocks (omega (arith, whole)) in
        let stands-on : StandFirst k text (lines_of_groups p 0 (done ++ es ∷ [])) (size + s.length) =
        subst (λ (ls : List Line). StandFirst k text ls (size + s.length)) (ap (λ (bs : List Line). front ++ bs) taken ∙ sym all)
        (stand-further k text front (take s.count blocks) size s.length stands (record { within = stood.within; text_is = stood.text_is })) in
        record {
          right = record {
            histories = done ++ es ∷ [];
            plays = plays-append p 0 done (es ∷ []) right.before.plays (subst (λ (m : ℕ). IsPlay (group_with p m) es) here over, tt);
            count = omega (arith, right.before.count, length-append done (es ∷ []));
            position_is = omega (arith, right.position_is, whole, ap length all, length-append front blocks);
            within = stands-on.within;
            text_is = stands-on.text_is;
            entries_are = omega (arith, right.before.entries_are, right.following.count_is, count-more done es);
            shown = shown-group p n done es opened was counters right.before.count right.before.shown right.shown;
            closed = λ before last same. closed-last before last (last-same done before es last same);
          };
          kept = record { front = done; last = es; histories_are = refl; kept = right.kept };
        }
      where
        behind_all : (bs : List Line) → rest ≡ texts k (take s.count bs) ++ drop s.length rest → All IsOtherLine bs → NoEntryBehind k bs (drop (size + s.length) text)
        behind_all [] here others = λ l more known is. other l more known (here ∙ ap (λ (xs : List Line). texts k xs ++ drop s.length rest) (none-taken s.count) ∙ drop-drop s.length size text ∙ is)
        behind_all (b ∷ bs) here others = All-head IsOtherLine b bs others

        closed-last : (before : List (List Entry)) (last : List Entry) → (done ≡ before) × (es ≡ last) → NoEntryBehind k (lines_behind p (length before) last) (drop (size + s.length) text)
        closed-last before last same =
            let count : n ≡ length before = sym right.before.count ∙ ap length same.0 in
            subst (λ (m : ℕ). NoEntryBehind k (lines_behind p m last) (drop (size + s.length) text)) count
            (subst (λ (xs : List Entry). NoEntryBehind k (lines_behind p n xs) (drop (size + s.length) text)) same.1 (behind_all blocks stood.text_is (blocks-other g (past_of g es))))

    pub entries-few : from.entries + f.count < 2 ^ 32
    entries-few =
        let before : entry_count done ≤ length done * MOST_STEPS = count-few p 0 done valid right.before.plays in
        let here : length es ≤ MOST_STEPS = few-entries g es valid right.following.begun in
        let groups : group_count p ≤ 64 = groups-few p valid in
        omega (arith, before, here, groups, low, right.before.count, right.before.entries_are, right.following.count_is)

    -- what comes of it
    pub ended-there : (fd : Followed) → NoEntryBegins k rest → IsEndedAt (position_at right) k rest from f.count size fd → IsFollowedBy played v p text n opened counters holds f.player fd
    unfolding group-right
    ended-there fd other (unfinished left) = unfinished-there other left
    ended-there fd other (missing s over stood few) = missing-there s other over stood few
    ended-there fd other (finished s over stood whole) = record { kept = group-right s other over stood whole; has_played = right.following.at }

  -- ---- the line `end`

  module _ (r : Progress) (opened counters : List Counter) (all : AreAllRight v p text r opened counters) where
    abbrev hs : List (List Entry)
    hs = all.right.histories

    abbrev groups : List Line
    groups = lines_of_groups p 0 hs

    plays_all : ArePlays p hs
    plays_all = from-all p hs all.right.plays all.right.count

    lines_all : lines_from p 0 hs ≡ groups ++ end_line ∷ []
    lines_all = whole-lines p 0 hs

    -- it is not there
    pub end-wrong : ((more : List ℕ) → drop r.length text ≡ line_text k end_line ++ more → ⊥) → IsJudged v p text (Invalid (r.lines + 3))
    end-wrong other tools bytes head = subst (λ (m : ℕ). IsInvalid tools v p bytes (m + 3)) (sym all.right.position_is) (stopped-at tools v p all.valid bytes text head groups (drop r.length text) (record {
      text_is = all.right.text_is;
      plays = hs;
      are_plays = plays_all;
      later = end_line ∷ [];
      plays_begin = lines_all;
      no_end = groups-no_end p 0 hs;
      no_more = λ ps l more ls plays known here begin. none_next l more here (next-between p ps hs l ls plays (closed-by all.right l more ls known here) begin);
    }))
      where
        none_next : (l : Line) (more : List ℕ) → drop r.length text ≡ line_text k l ++ more → IsNextAfter p (length hs) l → ⊥
        none_next l more here (inl next) = omega (arith, next.low, all.right.count)
        none_next l more here (inr next) = other more (here ∙ ap (λ (x : Line). line_text k x ++ more) next.line_is)

    module _ (behind_end : List ℕ) (there : drop r.length text ≡ line_text k end_line ++ behind_end) where
      text-parts : text ≡ lines_of v p hs ++ behind_end
      text-parts =
          all.right.text_is ∙ ap (λ (xs : List ℕ). texts k groups ++ xs) there ∙ sym (append_assoc (texts k groups) (line_text k end_line) behind_end)
          ∙ ap (λ (xs : List ℕ). xs ++ behind_end) (sym (texts-more k groups end_line) ∙ ap (texts k) (sym lines_all))

      module _ (tools : List Tool) (bytes : List ℕ) (head : HasHead v bytes (canonical p) text) where
        head-all : HasHead v bytes (canonical p) (lines_of v p hs ++ behind_end)
        head-all = subst (HasHead v bytes (canonical p)) text-parts head

        -- what stands behind it is wrong
        wrong-behind : (behind_end ≡ [] → ⊥) → (behind_end ≡ texts k (count_lines tools p hs) → ⊥)
            → IsInvalid tools v p bytes (length (lines_from p 0 hs) + 2 + lines_alike behind_end (texts k (count_lines tools p hs)) + 1)
        wrong-behind some other =
            wrong-lines tools v p all.valid bytes text head (length (lines_from p 0 hs) + 2 + lines_alike behind_end (texts k (count_lines tools p hs)))
            (counts-begun tools v p all.valid bytes hs plays_all behind_end head-all) by_lines
          where
            by_lines : (lines : List Line) (left : List ℕ) → AreLines k text lines left → IsInvalid tools v p bytes (length (lines_from p 0 hs) + 2 + lines_alike behind_end (texts k (count_lines tools p hs)) + 1)
            by_lines lines left are =
                let t : IsTraceOf bytes v p lines (stop_at lines left) = record { set_text = canonical p; rest = text; left = left; head = head; set_is = set-of-canonical p all.valid; lines_are = are; stop_is = refl } in
                let others = first-read k text left behind_end lines (lines_from p 0 hs) (valid-tells v p all.valid) (known-lines v p all.valid hs plays_all) text-parts are in
                behind-wrong tools v p all.valid bytes hs plays_all behind_end head-all lines (stop_at lines left) t others.0 others.1 some other

        verdict-behind : IsVerdict tools v p bytes (verdict_behind behind_end (texts k (count_lines tools p hs)) (length (lines_from p 0 hs) + 2) (entry_count hs))
        verdict-behind = by_tests (length behind_end == 0) (bytes_eq behind_end (texts k (count_lines tools p hs))) refl refl
          where
            by_tests : (e f : Bool) → (length behind_end == 0) ≡ e → bytes_eq behind_end (texts k (count_lines tools p hs)) ≡ f
                → IsVerdict tools v p bytes (if e || f then Valid (entry_count hs) else Invalid (length (lines_from p 0 hs) + 2 + lines_alike behind_end (texts k (count_lines tools p hs)) + 1))
            by_tests true f none is = alone-valid tools v p all.valid bytes hs plays_all behind_end head-all (nil_from_length behind_end (eqb-true (length behind_end) 0 none))
            by_tests false true some is = counted-valid tools v p all.valid bytes hs plays_all behind_end head-all ((bytes_eq-Decides behind_end (texts k (count_lines tools p hs))).0 is)
            by_tests false false some other =
                wrong-behind (λ none. let yes : (length behind_end == 0) ≡ true = rw none refl in cc)
                (λ is. let yes : bytes_eq behind_end (texts k (count_lines tools p hs)) ≡ true = (bytes_eq-Decides behind_end (texts k (count_lines tools p hs))).1 is in cc)

      -- it is there, and what stands behind it is judged
      pub end-judged : (tools : List Tool) (wanted : List ℕ) → opened ≡ map counter_of tools → ((known : Known) → wanted ≡ texts known (map counter_line counters)) → IsJudgedText tools v p text (verdict_behind behind_end wanted (r.lines + 1 + 2) r.entries)
      end-judged tools wanted opened_is wanted_is bytes head =
          let number : length (lines_from p 0 hs) + 2 ≡ r.lines + 1 + 2 = omega (arith, all.right.position_is, ap length lines_all, length-append groups (end_line ∷ [])) in
          let shown : counters ≡ counters_after (shown_from p 0 hs) (map counter_of tools) = all.right.shown ∙ ap (counters_after (shown_from p 0 hs)) opened_is in
          let same : texts k (count_lines tools p hs) ≡ wanted = sym (wanted_is k ∙ ap (texts k) (lines-shown tools p hs counters shown)) in
          let told : verdict_behind behind_end (texts k (count_lines tools p hs)) (length (lines_from p 0 hs) + 2) (entry_count hs) ≡ verdict_behind behind_end wanted (r.lines + 1 + 2) r.entries =
          rw (same, number, sym all.right.entries_are) refl in
          subst (IsVerdict tools v p bytes) told (verdict-behind tools bytes head)

      -- the bus was shown the entries of the text, where it is valid
      pub end-shown : (tools : List Tool) (verdict : Verdict) → opened ≡ map counter_of tools → IsShownText tools v p text counters verdict
      end-shown tools (Invalid line) opened_is bytes head = tt
      end-shown tools (Valid m) opened_is bytes head = λ is.
          all.right.shown ∙ ap (counters_after (shown_from p 0 hs)) opened_is
          ∙ ap (λ (xs : List (List Entry)). counters_after (shown_from p 0 xs) (map counter_of tools)) (same-histories tools v p all.valid bytes hs plays_all behind_end (head-all tools bytes head) m is)

      -- and is of these plays then
      pub end-said : (tools : List Tool) (verdict : Verdict) → IsTextOfPlays tools v p text hs verdict
      end-said tools (Invalid line) bytes head = tt
      end-said tools (Valid m) bytes head = λ is.
          same-histories tools v p all.valid bytes hs plays_all behind_end (head-all tools bytes head) m is

      -- whether count lines stand behind it
      pub end-counted : (tools : List Tool) (wanted : List ℕ) (verdict : Verdict) (counted : Bool) → opened ≡ map counter_of tools → ((known : Known) → wanted ≡ texts known (map counter_line counters))
          → verdict ≡ verdict_behind behind_end wanted (r.lines + 1 + 2) r.entries → counted ≡ not (length behind_end == 0) → IsCountedText tools v p text verdict counted
      end-counted tools wanted (Invalid line) counted opened_is wanted_is is counted_is bytes head = tt
      end-counted tools wanted (Valid m) counted opened_is wanted_is is counted_is bytes head = λ valid.
          subst (λ (xs : List (List Entry)). bytes ≡ (if counted then counted_text v tools p xs else trace_text v p xs))
          (same-histories tools v p all.valid bytes hs plays_all behind_end (head-all tools bytes head) m valid)
          (by_tests (length behind_end == 0) (bytes_eq behind_end wanted) refl refl is (counted_is))
        where
          whole : bytes ≡ trace_text v p hs ++ behind_end
          whole = text_is tools v p all.valid bytes hs plays_all behind_end (head-all tools bytes head)

          shown : counters ≡ counters_after (shown_from p 0 hs) (map counter_of tools)
          shown = all.right.shown ∙ ap (counters_after (shown_from p 0 hs)) opened_is

          by_tests : (e f : Bool) → (length behind_end == 0) ≡ e → bytes_eq behind_end wanted ≡ f
              → Valid m ≡ (if e || f then Valid r.entries else Invalid (r.lines + 1 + 2 + lines_alike behind_end wanted + 1)) → counted ≡ not e
              → bytes ≡ (if counted then counted_text v tools p hs else trace_text v p hs)
          by_tests true f none same valid off =
              subst (λ (b : Bool). bytes ≡ (if b then counted_text v tools p hs else trace_text v p hs)) (sym off)
              (whole ∙ ap (λ (t : List ℕ). trace_text v p hs ++ t) (nil_from_length behind_end (eqb-true (length behind_end) 0 none)) ∙ append-nil (trace_text v p hs))
          by_tests false true some same valid on =
              subst (λ (b : Bool). bytes ≡ (if b then counted_text v tools p hs else trace_text v p hs)) (sym on)
              (whole ∙ ap (λ (t : List ℕ). trace_text v p hs ++ t) ((bytes_eq-Decides behind_end wanted).0 same ∙ wanted_is k ∙ ap (texts k) (lines-shown tools p hs counters shown)))
          by_tests false false some other valid on = cc
