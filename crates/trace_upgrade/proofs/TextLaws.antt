-- What stands in the text of plays behind the lines of entries, of requests and of groups.
use Rattle.std.proofs.Common.{◌≡◌, ℕ, ◌+◌, ◌<◌, true, false, List, [], ◌∷◌, ◌++◌, Option, None, Some, length, map, flat_map, refl, sym, ap, ◌∙◌, subst, arith, append_assoc, append-nil}
use Rattle.std.specs.Prelude.{All}
use Rattle.std.proofs.lemmas.List.Elements.{All-head, All-tail}
use Rattle.rt_task.specs.declared.Parts.{Parts}
use Rattle.rt_rules.specs.declared.history.Entry.{Entry}
use Rattle.rt_model.specs.Blocking.{Asked, requests}
use Rattle.rt_model.specs.Group.{Group, group_processors}
use Rattle.rt_model.specs.Histories.{after, changed, past_of}
use Rattle.rt_model.specs.Past.{Past}
use Rattle.rt_plays.specs.Plays.{group_count, group_with}
use Rattle.rt_plays.specs.Groups.{GroupHistory}
use Rattle.trace_lines.specs.Grammar.{line_text, line_words}
use Rattle.trace_lines.specs.Known.{Known, IsLine}
use Rattle.trace_lines.specs.Lines.{Line, Link, entry_line, group_line}
use Rattle.trace_text.specs.Groups.{CanReplay}
use Rattle.trace_text.specs.TraceText.{block_lines, block_of, entry_lines, group_lines, lines_from, links_at}
use Rattle.trace_read.specs.Movers.{begins_with}
use Rattle.trace_read.specs.Reading.{begins_with_digit, behind}
use Rattle.trace_read.specs.Seen.{BeginsLines, Tells}
use Rattle.trace_read.proofs.EachLaws.{length-cut}
use Rattle.trace_read.proofs.ReadLaws.{BeginsLines-behind, BeginsLines-first, BeginsLines-parts}
use Rattle.trace_laws.specs.PlayedGroups.{full_group, groups_from}
use Rattle.trace_upgrade.specs.Said.{TellsGroups}

-- ---- entries

-- what is left of the text once these entries were read of it
pub record EntriesLeft (k : Known) (g : Group) (es : List Entry) (more : List ℕ) (entries : List Entry) (left : List ℕ) : Type 0 where
  pub number : ℕ
  pub past : Past
  pub later : List Entry
  pub same : entries ++ later ≡ es
  pub begins : BeginsLines k left (entry_lines g number past later) more

pub entries-all : (k : Known) (g : Group) (es : List Entry) (more : List ℕ) (entries : List Entry) (text : List ℕ) → entries ≡ [] → BeginsLines k text (entry_lines g 0 [] es) more → EntriesLeft k g es more entries text
entries-all k g es more entries text none begins = record { number = 0; past = []; later = es; same = ap (λ (xs : List Entry). xs ++ es) none; begins = begins }

some-same : {A : Type 0} (x y : A) → Some x ≡ Some y → x ≡ y
some-same x y e = cc

-- the first entry of a text, and what stands behind its line
pub record IsFirst (k : Known) (text : List ℕ) (first : Option (Entry × List ℕ)) : Type 0 where
  pub entry : (i : ℕ) (e : Entry) (links : List Link) (more : List ℕ) → IsLine k (entry_line i e links) → text ≡ line_text k (entry_line i e links) ++ more → first ≡ Some (e, more)
  pub none : begins_with_digit text ≡ false → first ≡ None

module _ (k : Known) (g : Group) (es : List Entry) (more : List ℕ) (entries : List Entry) (left : List ℕ) (first : Option (Entry × List ℕ)) (is : IsFirst k left first) where
  -- the line of the next entry stands first
  next-is : (number : ℕ) (past : Past) (e : Entry) (later : List Entry) → BeginsLines k left (entry_lines g number past (e ∷ later)) more
      → first ≡ Some (e, flat_map (line_text k) (entry_lines g (number + 1) (after g e.step past) later) ++ more)
  unfolding entry_lines
  next-is number past e later begins =
      let now : Past = after g e.step past in
      let links : List Link = links_at g now (changed g past now) in
      let others : List Line = entry_lines g (number + 1) now later in
      is.entry number e links (flat_map (line_text k) others ++ more) (All-head (IsLine k) (entry_line number e links) others begins.lines_known)
      (BeginsLines-first k left more (entry_line number e links) others begins)

  none-left : (number : ℕ) (past : Past) → begins_with_digit more ≡ false → BeginsLines k left (entry_lines g number past []) more → first ≡ None
  unfolding entry_lines
  none-left number past ended begins = is.none (ap begins_with_digit begins.text_is ∙ ended)

  others-known : (number : ℕ) (past : Past) (e : Entry) (later : List Entry) → BeginsLines k left (entry_lines g number past (e ∷ later)) more → All (IsLine k) (entry_lines g (number + 1) (after g e.step past) later)
  unfolding entry_lines
  others-known number past e later begins = All-tail (IsLine k) _ (entry_lines g (number + 1) (after g e.step past) later) begins.lines_known

  -- an entry was read
  pub entries-next : (e : Entry) (rest : List ℕ) → begins_with_digit more ≡ false → first ≡ Some (e, rest) → EntriesLeft k g es more entries left → EntriesLeft k g es more (entries ++ e ∷ []) rest
  entries-next e rest ended got h = by_later h.later h.same h.begins
    where
      by_later : (later : List Entry) → entries ++ later ≡ es → BeginsLines k left (entry_lines g h.number h.past later) more → EntriesLeft k g es more (entries ++ e ∷ []) rest
      by_later [] same begins = let none : first ≡ None = none-left h.number h.past ended begins in cc
      by_later (f ∷ later) same begins =
          let now : Past = after g f.step h.past in
          let line : Entry × List ℕ = (f, flat_map (line_text k) (entry_lines g (h.number + 1) now later) ++ more) in
          let read : Entry × List ℕ = (e, rest) in
          let both : read ≡ line = some-same read line (sym got ∙ next-is h.number h.past f later begins) in
          record {
            number = h.number + 1;
            past = now;
            later = later;
            same = ap (λ (p : Entry × List ℕ). (entries ++ p.0 ∷ []) ++ later) both ∙ append_assoc entries (f ∷ []) later ∙ same;
            begins = record { lines_known = others-known h.number h.past f later begins; text_is = ap (λ (p : Entry × List ℕ). p.1) both };
          }

  at_end : (number : ℕ) (past : Past) → BeginsLines k left (entry_lines g number past []) more → left ≡ more
  unfolding entry_lines
  at_end number past begins = begins.text_is

  -- or there is none
  pub entries-end : first ≡ None → EntriesLeft k g es more entries left → (entries ≡ es) × (left ≡ more)
  entries-end got h = by_later h.later h.same h.begins
    where
      by_later : (later : List Entry) → entries ++ later ≡ es → BeginsLines k left (entry_lines g h.number h.past later) more → (entries ≡ es) × (left ≡ more)
      by_later [] same begins = (sym (append-nil entries) ∙ same, at_end h.number h.past begins)
      by_later (f ∷ later) same begins = let next = next-is h.number h.past f later begins in cc

-- ---- requests

pub begins-shorter : (c : ℕ) (text rest : List ℕ) → begins_with c text ≡ true → rest ≡ behind text → length rest < length text
begins-shorter c [] rest h e = cc
begins-shorter c (x ∷ xs) rest h e = subst (λ (ys : List ℕ). length ys < length (x ∷ xs)) (sym e) (length-cut 10 (x ∷ xs) (omega arith))

module _ (k : Known) (g : Group) (past : Past) (more left : List ℕ) where
  block-begins : (r : Asked) (rs : List Asked) → BeginsLines k left (map (block_of g past) (r ∷ rs)) more → begins_with 98 left ≡ true
  unfolding line_text line_words
  block-begins r rs begins = ap (begins_with 98) begins.text_is

  -- the line of a request was stepped over
  pub blocks-next : (asked : List Asked) (rest : List ℕ) → Tells k → begins_with 98 more ≡ false → begins_with 98 left ≡ true → rest ≡ behind left → BeginsLines k left (map (block_of g past) asked) more
      → (later : List Asked) × BeginsLines k rest (map (block_of g past) later) more
  blocks-next [] rest tell ended here e begins = let same : begins_with 98 left ≡ begins_with 98 more = ap (begins_with 98) begins.text_is in cc
  blocks-next (r ∷ rs) rest tell ended here e begins =
      (rs, subst (λ (text : List ℕ). BeginsLines k text (map (block_of g past) rs) more) (sym e) (BeginsLines-behind k left more (block_of g past r) (map (block_of g past) rs) tell begins))

  -- or there is none
  pub blocks-end : (asked : List Asked) → begins_with 98 left ≡ false → BeginsLines k left (map (block_of g past) asked) more → left ≡ more
  blocks-end [] none begins = begins.text_is
  blocks-end (r ∷ rs) none begins = let here = block-begins r rs begins in cc

-- ---- a group

-- no line behind those of a group's requests is one of a request
no_block : (k : Known) (p : Parts) (n : ℕ) (hs : List (List Entry)) (more : List ℕ) → begins_with 98 (flat_map (line_text k) (lines_from p n hs) ++ more) ≡ false
unfolding line_text line_words group_lines
no_block k p n [] more = refl
no_block k p n (es ∷ hs) more = refl

-- and none behind those of its entries is one of an entry
no_digit : (k : Known) (p : Parts) (n : ℕ) (g : Group) (past : Past) (asked : List Asked) (hs : List (List Entry)) (more : List ℕ)
    → begins_with_digit (flat_map (line_text k) (map (block_of g past) asked ++ lines_from p n hs) ++ more) ≡ false
unfolding line_text line_words group_lines
no_digit k p n g past [] [] more = refl
no_digit k p n g past [] (es ∷ hs) more = refl
no_digit k p n g past (r ∷ rs) hs more = refl

module _ (k : Known) (tell : Tells k) (p : Parts) (n : ℕ) (es : List Entry) (hs : List (List Entry)) (text : List ℕ) (told : TellsGroups k p n (es ∷ hs) text) where
  abbrev g : Group
  g = group_with p n

  abbrev asked : List Asked
  asked = requests (past_of g es)

  abbrev blocks : List Line
  blocks = map (block_of g (past_of g es)) asked

  abbrev others : List Line
  others = lines_from p (n + 1) hs

  -- the text behind the entries, and that behind the group
  abbrev pub behind_entries : List ℕ
  behind_entries = flat_map (line_text k) (blocks ++ others) ++ told.more

  abbrev pub behind_group : List ℕ
  behind_group = flat_map (line_text k) others ++ told.more

  opened : BeginsLines k text (group_line n (links_at g [] (group_processors g)) ∷ (entry_lines g 0 [] es ++ (blocks ++ others))) told.more
  unfolding group_lines block_lines
  opened =
      subst (λ (ls : List Line). BeginsLines k text (group_line n (links_at g [] (group_processors g)) ∷ ls) told.more) (append_assoc (entry_lines g 0 [] es) blocks others) told.begins

  parts : BeginsLines k (behind text) (entry_lines g 0 [] es) behind_entries × BeginsLines k behind_entries (blocks ++ others) told.more
  parts = BeginsLines-parts k (behind text) told.more (entry_lines g 0 [] es) (blocks ++ others) (BeginsLines-behind k text told.more _ (entry_lines g 0 [] es ++ (blocks ++ others)) tell opened)

  pub entries-told : (rest : List ℕ) → rest ≡ behind text → BeginsLines k rest (entry_lines g 0 [] es) behind_entries
  entries-told rest e = subst (λ (t : List ℕ). BeginsLines k t (entry_lines g 0 [] es) behind_entries) (sym e) parts.0

  pub entries-ended : begins_with_digit behind_entries ≡ false
  entries-ended = no_digit k p (n + 1) g (past_of g es) asked hs told.more

  pub blocks-ended : begins_with 98 behind_group ≡ false
  blocks-ended = no_block k p (n + 1) hs told.more

  pub blocks-told : (rest : List ℕ) → rest ≡ behind_entries → BeginsLines k rest blocks behind_group
  blocks-told rest e = subst (λ (t : List ℕ). BeginsLines k t blocks behind_group) (sym e) (BeginsLines-parts k behind_entries told.more blocks others parts.1).0

  pub can-replay : (entries : List Entry) → entries ≡ es → CanReplay (full_group p n entries)
  can-replay entries e = subst (λ (xs : List Entry). CanReplay (full_group p n xs)) (sym e) (All-head CanReplay (full_group p n es) (groups_from p (n + 1) hs) told.can)

  pub groups-told : (rest : List ℕ) → rest ≡ behind_group → TellsGroups k p (n + 1) hs rest
  groups-told rest e = record {
    can = All-tail CanReplay (full_group p n es) (groups_from p (n + 1) hs) told.can;
    more = told.more;
    begins = subst (λ (t : List ℕ). BeginsLines k t others told.more) (sym e) (BeginsLines-parts k behind_entries told.more blocks others parts.1).1;
  }

-- ---- all groups

-- what is left of the text once these groups were read of it, of which the next has this number
pub record GroupsLeft (k : Known) (p : Parts) (hs : List (List Entry)) (n : ℕ) (groups : List GroupHistory) (left : List ℕ) : Type 0 where
  pub later : List (List Entry)
  pub count : n + length later ≡ group_count p
  pub same : groups ++ groups_from p n later ≡ groups_from p 0 hs
  pub told : TellsGroups k p n later left

-- the group with this number stands first in it
pub record GroupNext (k : Known) (p : Parts) (hs : List (List Entry)) (n : ℕ) (groups : List GroupHistory) (left : List ℕ) : Type 0 where
  pub es : List Entry
  pub later : List (List Entry)
  pub count : n + 1 + length later ≡ group_count p
  pub same : groups ++ full_group p n es ∷ groups_from p (n + 1) later ≡ groups_from p 0 hs
  pub told : TellsGroups k p n (es ∷ later) left

module _ (k : Known) (p : Parts) (hs : List (List Entry)) (n : ℕ) (groups : List GroupHistory) (left : List ℕ) where
  pub group-next : n < group_count p → GroupsLeft k p hs n groups left → GroupNext k p hs n groups left
  group-next low h = by_later h.later h.count h.same h.told
    where
      by_later : (later : List (List Entry)) → n + length later ≡ group_count p → groups ++ groups_from p n later ≡ groups_from p 0 hs → TellsGroups k p n later left → GroupNext k p hs n groups left
      by_later [] count same told = absurd (omega arith)
      by_later (es ∷ later) count same told = record { es = es; later = later; count = omega arith; same = same; told = told }

  pub groups-next : (next : GroupNext k p hs n groups left) (rest : List ℕ) (now : List GroupHistory) → now ≡ groups ++ full_group p n next.es ∷ [] → TellsGroups k p (n + 1) next.later rest → GroupsLeft k p hs (n + 1) now rest
  groups-next next rest now longer told = record {
    later = next.later;
    count = next.count;
    same = ap (λ (xs : List GroupHistory). xs ++ groups_from p (n + 1) next.later) longer ∙ append_assoc groups (full_group p n next.es ∷ []) (groups_from p (n + 1) next.later) ∙ next.same;
    told = told;
  }

  pub groups-end : n ≡ group_count p → GroupsLeft k p hs n groups left → groups ≡ groups_from p 0 hs
  groups-end all h = by_later h.later h.count h.same
    where
      by_later : (later : List (List Entry)) → n + length later ≡ group_count p → groups ++ groups_from p n later ≡ groups_from p 0 hs → groups ≡ groups_from p 0 hs
      by_later [] count same = sym (append-nil groups) ∙ same
      by_later (es ∷ later) count same = absurd (omega arith)
