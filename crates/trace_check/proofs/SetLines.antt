-- The lines of the groups of a set, and which line may come after those of some histories.
use Rattle.std.proofs.Common.{◌≡◌, ℕ, zero, suc, ◌+◌, ◌-◌, ◌<◌, ◌≤◌, List, [], ◌∷◌, ◌++◌, All, length, get_or, inl, inr, ◌⊎◌, refl, sym, ap, ◌∙◌, subst, arith, append-nil, append_assoc, length-append}
use Rattle.std.proofs.lemmas.List.{append_cancel_left}
use Rattle.std.proofs.lemmas.List.Elements.{All-append, All-head, All-nil}
use Rattle.rt_task.specs.declared.Parts.{Parts}
use Rattle.rt_rules.specs.declared.history.Entry.{Entry}
use Rattle.rt_model.specs.Group.{Group}
use Rattle.rt_model.specs.Histories.{after, past_of}
use Rattle.rt_plays.proofs.PlayLaws.{begun-is_completed}
use Rattle.rt_plays.specs.Plays.{ArePlays, IsBegunPlay, IsPlay, group_count, group_with}
use Rattle.trace_lines.specs.Lines.{Line, end_line}
use Rattle.trace_text.specs.TraceText.{block_lines, entry_lines, group_lines, lines_from}
use Rattle.trace_laws.proofs.Plays.{begun-none}
use Rattle.trace_laws.proofs.ReadBack.{entries_first, histories_said, said-group, said-lines}
use Rattle.trace_check.specs.inside.GroupLines.{ArePlaysFrom, IsOtherLine, NoEntryFirst, lines_of_groups, lines_so_far, next_line, opening_line}
use Rattle.trace_check.proofs.GroupLines.{IsNoEnd, blocks-other, group-no_end, group_lines-parts, lines_so_far-more, lines_so_far-next, said-so_far}

-- ---- plays of the groups from a number on

plays-at : (p : Parts) (n : ℕ) (hs : List (List Entry)) (i : ℕ) → ArePlaysFrom p n hs → i < length hs → IsPlay (group_with p (n + i)) (get_or hs i [])
plays-at p n [] i plays low = absurd (omega arith)
plays-at p n (es ∷ hs) zero plays low = let here : n ≡ n + 0 = omega arith in subst (λ (m : ℕ). IsPlay (group_with p m) es) here plays.0
plays-at p n (es ∷ hs) (suc i) plays low = let next : n + 1 + i ≡ n + suc i = omega arith in subst (λ (m : ℕ). IsPlay (group_with p m) (get_or hs i [])) next (plays-at p (n + 1) hs i plays.1 (omega arith))

plays-from : (p : Parts) (n : ℕ) (hs : List (List Entry)) → ((i : ℕ) → i < length hs → IsPlay (group_with p (n + i)) (get_or hs i [])) → ArePlaysFrom p n hs
plays-from p n [] plays = tt
plays-from p n (es ∷ hs) plays =
    let here : n + 0 ≡ n = omega arith in
    (subst (λ (m : ℕ). IsPlay (group_with p m) es) here (plays 0 (omega arith)), plays-from p (n + 1) hs later)
  where
    later : (i : ℕ) → i < length hs → IsPlay (group_with p (n + 1 + i)) (get_or hs i [])
    later i low = let next : n + suc i ≡ n + 1 + i = omega arith in subst (λ (m : ℕ). IsPlay (group_with p m) (get_or hs i [])) next (plays (suc i) (omega arith))

pub plays-append : (p : Parts) (n : ℕ) (hs more : List (List Entry)) → ArePlaysFrom p n hs → ArePlaysFrom p (n + length hs) more → ArePlaysFrom p n (hs ++ more)
plays-append p n [] more plays others = let here : n + 0 ≡ n = omega arith in subst (λ (m : ℕ). ArePlaysFrom p m more) here others
plays-append p n (es ∷ hs) more plays others =
    let next : n + suc (length hs) ≡ n + 1 + length hs = omega arith in
    (plays.0, plays-append p (n + 1) hs more plays.1 (subst (λ (m : ℕ). ArePlaysFrom p m more) next others))

-- the first of them, and those that follow
pub plays-split : (p : Parts) (n : ℕ) (hs more : List (List Entry)) → ArePlaysFrom p n (hs ++ more) → ArePlaysFrom p n hs × ArePlaysFrom p (n + length hs) more
plays-split p n [] more plays = let here : n ≡ n + 0 = omega arith in (tt, subst (λ (m : ℕ). ArePlaysFrom p m more) here plays)
plays-split p n (es ∷ hs) more plays =
    let next : n + 1 + length hs ≡ n + suc (length hs) = omega arith in
    let rest = plays-split p (n + 1) hs more plays.1 in
    ((plays.0, rest.0), subst (λ (m : ℕ). ArePlaysFrom p m more) next rest.1)

pub all-from : (p : Parts) (hs : List (List Entry)) → ArePlays p hs → ArePlaysFrom p 0 hs
all-from p hs are = plays-from p 0 hs (λ i low. let same : i ≡ 0 + i = omega arith in subst (λ (m : ℕ). IsPlay (group_with p m) (get_or hs i [])) same (are.plays i low))

pub from-all : (p : Parts) (hs : List (List Entry)) → ArePlaysFrom p 0 hs → length hs ≡ group_count p → ArePlays p hs
from-all p hs plays count = record {
  count = count;
  plays = λ n low. let same : 0 + n ≡ n = omega arith in subst (λ (m : ℕ). IsPlay (group_with p m) (get_or hs n [])) same (plays-at p 0 hs n plays low);
}

-- a play of each of so many groups more
plays-further : (p : Parts) (k n : ℕ) → (hs : List (List Entry)) × (length hs ≡ k) × ArePlaysFrom p n hs
plays-further p zero n = ([], refl, tt)
plays-further p (suc k) n =
    let one = begun-is_completed (group_with p n) [] (begun-none (group_with p n)) in
    let rest = plays-further p k (n + 1) in
    (one.0 ∷ rest.0, omega (arith, rest.1), (one.1, rest.2))

-- ---- their lines

lines-append : (p : Parts) (n : ℕ) (hs more : List (List Entry)) → lines_of_groups p n (hs ++ more) ≡ lines_of_groups p n hs ++ lines_of_groups p (n + length hs) more
lines-append p n [] more = let here : n ≡ n + 0 = omega arith in ap (λ (m : ℕ). lines_of_groups p m more) here
lines-append p n (es ∷ hs) more =
    let next : n + 1 + length hs ≡ n + suc (length hs) = omega arith in
    ap (λ (ls : List Line). group_lines (group_with p n) es ++ ls) (lines-append p (n + 1) hs more)
    ∙ sym (append_assoc (group_lines (group_with p n) es) (lines_of_groups p (n + 1) hs) (lines_of_groups p (n + 1 + length hs) more))
    ∙ ap (λ (m : ℕ). (group_lines (group_with p n) es ++ lines_of_groups p (n + 1) hs) ++ lines_of_groups p m more) next

-- those of whole groups, and of a further one so far
abbrev pub lines_through : Parts → List (List Entry) → ℕ → List Entry → List Line
lines_through p hs n es = lines_of_groups p 0 hs ++ lines_so_far (group_with p n) es

-- the lines of the requests of a group's entries
abbrev pub lines_behind : Parts → ℕ → List Entry → List Line
lines_behind p n es = block_lines (group_with p n) (past_of (group_with p n) es)

pub lines-last : (p : Parts) (hs : List (List Entry)) (n : ℕ) (es : List Entry) → length hs ≡ n → lines_of_groups p 0 (hs ++ es ∷ []) ≡ lines_through p hs n es ++ lines_behind p n es
lines-last p hs n es count =
    let same : 0 + length hs ≡ n = omega (arith, count) in
    lines-append p 0 hs (es ∷ []) ∙ ap (λ (ls : List Line). lines_of_groups p 0 hs ++ ls) (append-nil (group_lines (group_with p (0 + length hs)) es))
    ∙ ap (λ (m : ℕ). lines_of_groups p 0 hs ++ group_lines (group_with p m) es) same
    ∙ ap (λ (ls : List Line). lines_of_groups p 0 hs ++ ls) (group_lines-parts (group_with p n) es)
    ∙ sym (append_assoc (lines_of_groups p 0 hs) (lines_so_far (group_with p n) es) (lines_behind p n es))

pub groups-no_end : (p : Parts) (n : ℕ) (hs : List (List Entry)) → All IsNoEnd (lines_of_groups p n hs)
groups-no_end p n [] = All-nil IsNoEnd
groups-no_end p n (es ∷ hs) = All-append IsNoEnd (group_lines (group_with p n) es) (lines_of_groups p (n + 1) hs) (group-no_end (group_with p n) es) (groups-no_end p (n + 1) hs)

-- all the lines of plays
pub whole-lines : (p : Parts) (n : ℕ) (hs : List (List Entry)) → lines_from p n hs ≡ lines_of_groups p n hs ++ end_line ∷ []
whole-lines p n [] = refl
whole-lines p n (es ∷ hs) =
    ap (λ (ls : List Line). group_lines (group_with p n) es ++ ls) (whole-lines p (n + 1) hs)
    ∙ sym (append_assoc (group_lines (group_with p n) es) (lines_of_groups p (n + 1) hs) (end_line ∷ []))

-- ---- the histories that lines hold

-- lines of groups hold no entry of a group before them
none-first : (p : Parts) (n : ℕ) (hs : List (List Entry)) (g : Group) (es : List Entry) (ls : List Line) → entries_first (lines_of_groups p n hs ++ (lines_so_far g es ++ ls)) ≡ []
unfolding group_lines
none-first p n [] g es ls = refl
none-first p n (x ∷ hs) g es ls = refl

said-groups : (p : Parts) (n : ℕ) (hs : List (List Entry)) (g : Group) (es : List Entry) (ls : List Line)
    → histories_said (lines_of_groups p n hs ++ (lines_so_far g es ++ ls)) ≡ hs ++ (es ++ entries_first ls) ∷ histories_said ls
said-groups p n [] g es ls = said-so_far g es ls
said-groups p n (x ∷ hs) g es ls =
    let rest : List Line = lines_of_groups p (n + 1) hs ++ (lines_so_far g es ++ ls) in
    ap histories_said (append_assoc (group_lines (group_with p n) x) (lines_of_groups p (n + 1) hs) (lines_so_far g es ++ ls))
    ∙ said-group (group_with p n) x rest
    ∙ ap (λ (xs : List Entry). (x ++ xs) ∷ histories_said rest) (none-first p (n + 1) hs g es ls)
    ∙ ap (λ (xs : List Entry). xs ∷ histories_said rest) (append-nil x)
    ∙ ap (λ (ys : List (List Entry)). x ∷ ys) (said-groups p (n + 1) hs g es ls)

-- histories whose lines begin so begin so too
pub begin-so : (p : Parts) (hs done : List (List Entry)) (n : ℕ) (es : List Entry) (ls : List Line) → lines_from p 0 hs ≡ lines_through p done n es ++ ls → hs ≡ done ++ (es ++ entries_first ls) ∷ histories_said ls
begin-so p hs done n es ls same =
    sym (said-lines p 0 hs) ∙ ap histories_said (same ∙ append_assoc (lines_of_groups p 0 done) (lines_so_far (group_with p n) es) ls)
    ∙ said-groups p 0 done (group_with p n) es ls

-- the last of some histories, where there is one
last-of : {A : Type 0} (xs : List A) → (xs ≡ []) ⊎ ((front : List A) × (x : A) × (xs ≡ front ++ x ∷ []))
last-of [] = inl refl
last-of {A = A} (x ∷ xs) =
    elim (last-of xs) [
      | inl none ↦ inr ([], x, ap (λ (ys : List A). x ∷ ys) none)
      | inr h ↦ inr (x ∷ h.0, h.1, ap (λ (ys : List A). x ∷ ys) h.2)
    ]

-- ---- the next line

-- that of an entry with which the group goes on
pub record IsEntryNext (g : Group) (es : List Entry) (l : Line) : Type 0 where
  pub entry : Entry
  pub more : List Entry
  pub play : IsPlay g (es ++ entry ∷ more)
  pub line_is : l ≡ next_line g es entry

-- that of the next group, or the line `end`
pub record IsGroupNext (p : Parts) (n : ℕ) (l : Line) : Type 0 where
  pub low : n < group_count p
  pub line_is : l ≡ opening_line (group_with p n)

pub record IsEndNext (p : Parts) (n : ℕ) (l : Line) : Type 0 where
  pub all : n ≡ group_count p
  pub line_is : l ≡ end_line

abbrev pub IsNextAfter : Parts → ℕ → Line → Type 0
IsNextAfter p n l = IsGroupNext p n l ⊎ IsEndNext p n l

-- behind the entries of a whole group: the lines of its requests, further groups, and the line `end`
pub record GoesOn (p : Parts) (n : ℕ) (es : List Entry) (ls : List Line) : Type 0 where
  pub play : IsPlay (group_with p n) es
  pub more : List (List Entry)
  pub count : n + 1 + length more ≡ group_count p
  pub lines_are : ls ≡ lines_behind p n es ++ (lines_of_groups p (n + 1) more ++ end_line ∷ [])

-- it is the first of those that follow
first-of : (front ls more : List Line) (l m : Line) → front ++ l ∷ ls ≡ front ++ m ∷ more → l ≡ m
first-of front ls more l m same = let rest : l ∷ ls ≡ m ∷ more = append_cancel_left front (l ∷ ls) (m ∷ more) same in cc

-- no line of an entry is the first behind the entries of a whole group
first-other : (p : Parts) (n : ℕ) (bs : List Line) (more : List (List Entry)) (l : Line) (ls : List Line) → All IsOtherLine bs → l ∷ ls ≡ bs ++ (lines_of_groups p n more ++ end_line ∷ []) → IsOtherLine l
unfolding group_lines
first-other p n [] [] l ls other same = subst IsOtherLine (sym (first-of [] ls [] l end_line same)) tt
first-other p n [] (x ∷ more) l ls other same = subst IsOtherLine (sym (first-of [] ls _ l (opening_line (group_with p n)) same)) tt
first-other p n (b ∷ bs) more l ls other same = subst IsOtherLine (sym (first-of [] ls _ l b same)) (All-head IsOtherLine b bs other)

-- what comes behind whole groups
next-after : (p : Parts) (n : ℕ) (more : List (List Entry)) (ls : List Line) (l : Line) → n + length more ≡ group_count p → l ∷ ls ≡ lines_of_groups p n more ++ end_line ∷ [] → IsNextAfter p n l
unfolding group_lines
next-after p n [] ls l count same = inr (record { all = (let none : n + 0 ≡ n = omega arith in sym none ∙ count); line_is = first-of [] ls [] l end_line same })
next-after p n (x ∷ more) ls l count same = inl (record { low = omega (arith, count); line_is = first-of [] ls _ l (opening_line (group_with p n)) same })

regrouped : (a s b m e : List Line) → (a ++ ((s ++ b) ++ m)) ++ e ≡ (a ++ s) ++ (b ++ (m ++ e))
regrouped a s b m e = simp append_assoc

regrouped-more : (a s o b r : List Line) → ((a ++ (s ++ o)) ++ b) ++ r ≡ (a ++ s) ++ (o ++ (b ++ r))
regrouped-more a s o b r = simp append_assoc

-- the lines of plays, some of them, one that begins with these entries, and the others
parted : (p : Parts) (done more : List (List Entry)) (n : ℕ) (es : List Entry) → length done ≡ n
    → lines_from p 0 (done ++ es ∷ more) ≡ lines_through p done n es ++ (lines_behind p n es ++ (lines_of_groups p (n + 1) more ++ end_line ∷ []))
parted p done more n es count =
    let same : 0 + length done ≡ n = omega (arith, count) in
    whole-lines p 0 (done ++ es ∷ more)
    ∙ ap (λ (ls : List Line). ls ++ end_line ∷ []) (lines-append p 0 done (es ∷ more)
    ∙ ap (λ (m : ℕ). lines_of_groups p 0 done ++ (group_lines (group_with p m) es ++ lines_of_groups p (m + 1) more)) same
    ∙ ap (λ (ls : List Line). lines_of_groups p 0 done ++ (ls ++ lines_of_groups p (n + 1) more)) (group_lines-parts (group_with p n) es))
    ∙ regrouped (lines_of_groups p 0 done) (lines_so_far (group_with p n) es) (lines_behind p n es) (lines_of_groups p (n + 1) more) (end_line ∷ [])

module _ (p : Parts) where
  -- of histories that begin with some plays, the next one
  play-of : (hs done more : List (List Entry)) (n : ℕ) (xs : List Entry) → ArePlays p hs → length done ≡ n → hs ≡ done ++ xs ∷ more → IsPlay (group_with p n) xs
  play-of hs done more n xs are count is =
      let same : 0 + length done ≡ n = omega (arith, count) in
      subst (λ (m : ℕ). IsPlay (group_with p m) xs) same (plays-split p 0 done (xs ∷ more) (subst (ArePlaysFrom p 0) is (all-from p hs are))).1.0

  -- what comes behind these entries where they are all of the group's
  whole-within : (hs done more : List (List Entry)) (n : ℕ) (es : List Entry) (ls : List Line) → ArePlays p hs → length done ≡ n → hs ≡ done ++ es ∷ more → lines_from p 0 hs ≡ lines_through p done n es ++ ls → GoesOn p n es ls
  whole-within hs done more n es ls are count is same = record {
    play = play-of hs done more n es are count is;
    more = more;
    count = omega (arith, count, are.count, ap length is, length-append done (es ∷ more));
    lines_are =
        append_cancel_left (lines_through p done n es) ls (lines_behind p n es ++ (lines_of_groups p (n + 1) more ++ end_line ∷ []))
        (sym same ∙ ap (lines_from p 0) is ∙ parted p done more n es count);
  }

  -- the line of a further entry of the group is the first one behind those of its entries so far
  entry-within : (hs done more : List (List Entry)) (n : ℕ) (es : List Entry) (e : Entry) (rest : List Entry) (l : Line) (ls : List Line) → length done ≡ n → hs ≡ done ++ (es ++ e ∷ rest) ∷ more
      → lines_from p 0 hs ≡ lines_through p done n es ++ l ∷ ls → l ≡ next_line (group_with p n) es e
  entry-within hs done more n es e rest l ls count is same =
      let g : Group = group_with p n in
      let others : List Line = entry_lines g (length es + 1) (after g e.step (past_of g es)) rest in
      let after_those : List Line = lines_behind p n (es ++ e ∷ rest) ++ (lines_of_groups p (n + 1) more ++ end_line ∷ []) in
      let lines : lines_from p 0 hs ≡ lines_through p done n es ++ next_line g es e ∷ (others ++ after_those) =
      ap (lines_from p 0) is ∙ parted p done more n (es ++ e ∷ rest) count
      ∙ append_assoc (lines_of_groups p 0 done) (lines_so_far g (es ++ e ∷ rest)) after_those
      ∙ ap (λ (xs : List Line). lines_of_groups p 0 done ++ (xs ++ after_those)) (lines_so_far-next g es e rest)
      ∙ ap (λ (xs : List Line). lines_of_groups p 0 done ++ xs) (append_assoc (lines_so_far g es) (next_line g es e ∷ others) after_those)
      ∙ sym (append_assoc (lines_of_groups p 0 done) (lines_so_far g es) (next_line g es e ∷ (others ++ after_those))) in
      first-of (lines_through p done n es) ls (others ++ after_those) l (next_line g es e) (sym same ∙ lines)

  -- what comes behind some entries of a group: the line of an entry, or else all the entries are there
  pub next-within : (hs done : List (List Entry)) (n : ℕ) (es : List Entry) (l : Line) (ls : List Line) → ArePlays p hs → length done ≡ n → lines_from p 0 hs ≡ lines_through p done n es ++ l ∷ ls
      → IsEntryNext (group_with p n) es l ⊎ (IsPlay (group_with p n) es × IsOtherLine l)
  next-within hs done n es l ls are count same = by_rest (entries_first (l ∷ ls)) (histories_said (l ∷ ls)) (begin-so p hs done n es (l ∷ ls) same)
    where
      by_rest : (rest : List Entry) (more : List (List Entry)) → hs ≡ done ++ (es ++ rest) ∷ more → IsEntryNext (group_with p n) es l ⊎ (IsPlay (group_with p n) es × IsOtherLine l)
      by_rest [] more is =
          let on = whole-within hs done more n es (l ∷ ls) are count (is ∙ ap (λ (xs : List Entry). done ++ xs ∷ more) (append-nil es)) same in
          inr (on.play, first-other p (n + 1) (lines_behind p n es) on.more l ls (blocks-other (group_with p n) (past_of (group_with p n) es)) on.lines_are)
      by_rest (e ∷ rest) more is =
          inl (record { entry = e; more = rest; play = play-of hs done more n (es ++ e ∷ rest) are count is; line_is = entry-within hs done more n es e rest l ls count is same })

  -- and what comes behind them where it is of no entry
  pub goes-on : (hs done : List (List Entry)) (n : ℕ) (es : List Entry) (l : Line) (ls : List Line) → ArePlays p hs → length done ≡ n → IsOtherLine l → lines_from p 0 hs ≡ lines_through p done n es ++ l ∷ ls → GoesOn p n es (l ∷ ls)
  goes-on hs done n es l ls are count other same = by_rest (entries_first (l ∷ ls)) (histories_said (l ∷ ls)) (begin-so p hs done n es (l ∷ ls) same)
    where
      by_rest : (rest : List Entry) (more : List (List Entry)) → hs ≡ done ++ (es ++ rest) ∷ more → GoesOn p n es (l ∷ ls)
      by_rest [] more is = whole-within hs done more n es (l ∷ ls) are count (is ∙ ap (λ (xs : List Entry). done ++ xs ∷ more) (append-nil es)) same
      by_rest (e ∷ rest) more is = absurd (subst IsOtherLine (entry-within hs done more n es e rest l ls count is same) other)

  -- what comes behind plays of the first groups, where that is of no entry behind those of the last
  abbrev pub AreClosed : List (List Entry) → List Line → Type 0
  AreClosed done rest = (front : List (List Entry)) (es : List Entry) → done ≡ front ++ es ∷ [] → NoEntryFirst (lines_behind p (length front) es ++ rest)

  -- the same, where those lines are given as a list
  behind : (hs done : List (List Entry)) (n : ℕ) (es : List Entry) (ls : List Line) → ArePlays p hs → length done ≡ n → NoEntryFirst ls → 0 < length ls → lines_from p 0 hs ≡ lines_through p done n es ++ ls → GoesOn p n es ls
  behind hs done n es [] are count other some same = absurd (omega (arith, some))
  behind hs done n es (l ∷ ls) are count other some same = goes-on hs done n es l ls are count other same

  pub next-between : (hs done : List (List Entry)) (l : Line) (ls : List Line) → ArePlays p hs → AreClosed done (l ∷ ls) → lines_from p 0 hs ≡ lines_of_groups p 0 done ++ l ∷ ls → IsNextAfter p (length done) l
  next-between hs done l ls are closed same = by_view (last-of done)
    where
      some : (bs : List Line) → 0 < length (bs ++ l ∷ ls)
      some bs = omega (arith, length-append bs (l ∷ ls))

      by_view : (done ≡ []) ⊎ ((front : List (List Entry)) × (es : List Entry) × (done ≡ front ++ es ∷ [])) → IsNextAfter p (length done) l
      by_view (inl none) =
          let counted : length done + length hs ≡ group_count p = omega (arith, are.count, ap length none) in
          let lines : l ∷ ls ≡ lines_of_groups p (length done) hs ++ end_line ∷ [] =
          sym (same ∙ ap (λ (ds : List (List Entry)). lines_of_groups p 0 ds ++ l ∷ ls) none) ∙ whole-lines p 0 hs
          ∙ ap (λ (ds : List (List Entry)). lines_of_groups p (length ds) hs ++ end_line ∷ []) (sym none) in
          next-after p (length done) hs ls l counted lines
      by_view (inr last) =
          let front : List (List Entry) = last.0 in
          let es : List Entry = last.1 in
          let n : ℕ = length front in
          let counted : n + 1 ≡ length done = omega (arith, ap length last.2, length-append front (es ∷ [])) in
          let lines : lines_from p 0 hs ≡ lines_through p front n es ++ (lines_behind p n es ++ l ∷ ls) =
          same ∙ ap (λ (ds : List (List Entry)). lines_of_groups p 0 ds ++ l ∷ ls) last.2 ∙ ap (λ (xs : List Line). xs ++ l ∷ ls) (lines-last p front n es refl)
          ∙ append_assoc (lines_through p front n es) (lines_behind p n es) (l ∷ ls) in
          let on = behind hs front n es (lines_behind p n es ++ l ∷ ls) are refl (closed front es last.2) (some (lines_behind p n es)) lines in
          subst (λ (m : ℕ). IsNextAfter p m l) counted
          (next-after p (n + 1) on.more ls l on.count (append_cancel_left (lines_behind p n es) (l ∷ ls) (lines_of_groups p (n + 1) on.more ++ end_line ∷ []) on.lines_are))

  -- ---- plays that begin so

  -- plays of the first groups go on to those of all
  pub completed-between : (done : List (List Entry)) → ArePlaysFrom p 0 done → length done ≤ group_count p → (hs : List (List Entry)) × ArePlays p hs × ((ls : List Line) × (lines_from p 0 hs ≡ lines_of_groups p 0 done ++ ls))
  completed-between done plays few =
      let others = plays-further p (group_count p - length done) (0 + length done) in
      let all : ArePlaysFrom p 0 (done ++ others.0) = plays-append p 0 done others.0 plays others.2 in
      let counted : length (done ++ others.0) ≡ group_count p = omega (arith, few, others.1, length-append done others.0) in
      let later : List Line = lines_of_groups p (0 + length done) others.0 in (
        done ++ others.0,
        from-all p (done ++ others.0) all counted,
        (
          later ++ end_line ∷ [],
          whole-lines p 0 (done ++ others.0) ∙ ap (λ (xs : List Line). xs ++ end_line ∷ []) (lines-append p 0 done others.0)
              ∙ append_assoc (lines_of_groups p 0 done) later (end_line ∷ []),
        ),
      )

  -- and so do those with a whole play more, and the lines of its requests
  pub completed-whole : (done : List (List Entry)) (n : ℕ) (es : List Entry) → ArePlaysFrom p 0 done → length done ≡ n → n < group_count p → IsPlay (group_with p n) es
      → (hs : List (List Entry)) × ArePlays p hs × ((ls : List Line) × (lines_from p 0 hs ≡ lines_through p done n es ++ (lines_behind p n es ++ ls)))
  completed-whole done n es plays count few play =
      let here : n ≡ 0 + length done = omega (arith, count) in
      let so_far : ArePlaysFrom p 0 (done ++ es ∷ []) = plays-append p 0 done (es ∷ []) plays (subst (λ (m : ℕ). IsPlay (group_with p m) es) here play, tt) in
      let all = completed-between (done ++ es ∷ []) so_far (omega (arith, few, count, length-append done (es ∷ []))) in (
        all.0,
        all.1,
        (
          all.2.0,
          all.2.1 ∙ ap (λ (xs : List Line). xs ++ all.2.0) (lines-last p done n es count) ∙ append_assoc (lines_through p done n es) (lines_behind p n es) all.2.0,
        ),
      )

  pub completed-within : (done : List (List Entry)) (n : ℕ) (es : List Entry) → ArePlaysFrom p 0 done → length done ≡ n → n < group_count p → IsBegunPlay (group_with p n) es
      → (hs : List (List Entry)) × ArePlays p hs × ((ls : List Line) × (lines_from p 0 hs ≡ lines_through p done n es ++ ls))
  completed-within done n es plays count few begun =
      let g : Group = group_with p n in
      let whole = begun-is_completed g es begun in
      let here : n ≡ 0 + length done = omega (arith, count) in
      let so_far : ArePlaysFrom p 0 (done ++ (es ++ whole.0) ∷ []) = plays-append p 0 done ((es ++ whole.0) ∷ []) plays (subst (λ (m : ℕ). IsPlay (group_with p m) (es ++ whole.0)) here whole.1, tt) in
      let all = completed-between (done ++ (es ++ whole.0) ∷ []) so_far (omega (arith, few, count, length-append done ((es ++ whole.0) ∷ []))) in
      let others : List Line = entry_lines g (length es) (past_of g es) whole.0 in
      let behind : List Line = lines_behind p n (es ++ whole.0) in (
        all.0,
        all.1,
        (
          others ++ (behind ++ all.2.0),
          all.2.1 ∙ ap (λ (xs : List Line). xs ++ all.2.0) (lines-last p done n (es ++ whole.0) count ∙ ap (λ (xs : List Line). (lines_of_groups p 0 done ++ xs) ++ behind) (lines_so_far-more g es whole.0))
              ∙ regrouped-more (lines_of_groups p 0 done) (lines_so_far g es) others behind all.2.0,
        ),
      )
