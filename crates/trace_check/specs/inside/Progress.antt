-- How far the text behind the head of a trace is right.
use Rattle.std.specs.Prelude.{◌≡◌, ℕ, ◌+◌, ◌<◌, ◌≤◌, List, [], ◌∷◌, ◌++◌, drop, flat_map, length, Bool, true, false}
use Rattle.rt_task.specs.declared.Parts.{Parts}
use Rattle.rt_task.specs.Validity.{IsValid}
use Rattle.rt_rules.specs.declared.history.Entry.{Entry}
use Rattle.rt_model.specs.Histories.{past_of}
use Rattle.rt_plays.specs.Plays.{IsPlay, group_count, group_with}
use Rattle.view_replay.specs.Players.{Played}
use Rattle.trace_lines.specs.declared.format.Version.{Version}
use Rattle.trace_lines.specs.Grammar.{line_text}
use Rattle.trace_lines.specs.Known.{Known, known_of}
use Rattle.trace_lines.specs.Lines.{Line}
use Rattle.trace_tools.specs.Counters.{Counter, counters_after}
use Rattle.trace_text.specs.CountLines.{shown_entries, shown_from}
use Rattle.trace_text.specs.TraceText.{block_lines}
use Rattle.trace_laws.specs.ValidTexts.{entry_count}
use Rattle.trace_check.specs.declared.progress.Progress.{Progress}
use Rattle.trace_check.specs.declared.progress.Followed.{Followed}
use Rattle.trace_check.specs.declared.progress.Followed.TheVariants.{Whole, Wrong}
use Rattle.trace_check.specs.declared.progress.Entries.{Entries}
use Rattle.trace_check.specs.declared.progress.Entries.TheVariants.{Right, WrongAfter}
use Rattle.trace_check.specs.declared.follow.Follow.{Follow}
use Rattle.trace_check.specs.declared.requests.Stood.{Stood}
use Rattle.trace_check.specs.declared.verdict.Verdict.TheVariants.{Invalid}
use Rattle.trace_course.specs.Followed.{GroupEntries}
use Rattle.trace_check.specs.inside.Following.{IsFollowing}
use Rattle.trace_check.specs.inside.GroupLines.{ArePlaysFrom, NoEntryBegins, NoEntryBehind, lines_of_groups, lines_so_far}
use Rattle.trace_check.specs.inside.Judging.{IsJudged}
use Rattle.trace_check.specs.Keeping.{BeforeLast, Between, HasPlayed, Keeping}
use Rattle.trace_check.specs.inside.RequestLines.{HaveStood}

-- the lines of the requests of the entries that were followed
abbrev pub wanted : GroupEntries → List Line
wanted at = block_lines at.group (past_of at.group at.entries)

-- the text begins with this line, which was made, or it does not
abbrev pub HasStood : Known → Line → List ℕ → List ℕ → Bool → Type 0
HasStood k l text line true = (line ≡ line_text k l) × (text ≡ line ++ drop (length line) text)
HasStood k l text line false = (more : List ℕ) → text ≡ line_text k l ++ more → ⊥

-- so much of the text is the lines of plays of the first n groups, whose entries a bus was shown that was opened so and stands so now
pub record AreRight (v : Version) (p : Parts) (text : List ℕ) (n : ℕ) (r : Progress) (opened counters : List Counter) : Type 0 where
  pub histories : List (List Entry)
  pub plays : ArePlaysFrom p 0 histories
  pub count : length histories ≡ n
  pub position_is : r.lines ≡ length (lines_of_groups p 0 histories)
  pub within : r.length ≤ length text
  pub text_is : text ≡ flat_map (line_text (known_of v p)) (lines_of_groups p 0 histories) ++ drop r.length text
  pub entries_are : r.entries ≡ entry_count histories
  pub shown : counters ≡ counters_after (shown_from p 0 histories) opened
  -- no line of an entry stands right behind the entries of the last of them
  pub closed : (front : List (List Entry)) (es : List Entry) → histories ≡ front ++ es ∷ []
      → NoEntryBehind (known_of v p) (wanted (record { group = group_with p (length front); entries = es })) (drop r.length text)

-- those of plays of all the groups of a valid set
pub record AreAllRight (v : Version) (p : Parts) (text : List ℕ) (r : Progress) (opened counters : List Counter) : Type 0 where
  pub valid : IsValid p
  pub right : AreRight v p text (group_count p) r opened counters

-- and this is kept of their histories
pub record AreKept (v : Version) (p : Parts) (text : List ℕ) (n : ℕ) (r : Progress) (opened counters : List Counter)
    (holds : List (List Entry) → Type 0) : Type 0 where
  pub right : AreRight v p text n r opened counters
  pub kept : holds right.histories

-- with the last group still open, whose steps were played
pub record AreFollowedBy {P : Type 0} (played : P → Played) (v : Version) (p : Parts) (text : List ℕ) (n : ℕ) (r : Progress)
    (opened counters : List Counter) (holds : Keeping) (player : P) : Type 0 where
  pub kept : AreKept v p text (n + 1) r opened counters (BeforeLast holds)
  pub has_played : HasPlayed played player p n kept.kept.last

-- what comes of following the lines of group n, behind those of the groups before it
abbrev pub IsFollowedBy : {P : Type 0} → (P → Played) → Version → Parts → List ℕ → ℕ → List Counter → List Counter → Keeping → P → Followed → Type 0
IsFollowedBy played v p text n opened counters holds player (Whole r) = AreFollowedBy played v p text n r opened counters holds player
IsFollowedBy played v p text n opened counters holds player (Wrong position) = IsJudged v p text (Invalid (position + 3))

-- and once that is closed
abbrev pub IsFollowedTo : Version → Parts → List ℕ → ℕ → List Counter → List Counter → Keeping → Followed → Type 0
IsFollowedTo v p text n opened counters holds (Whole r) = AreKept v p text (n + 1) r opened counters (Between holds)
IsFollowedTo v p text n opened counters holds (Wrong position) = IsJudged v p text (Invalid (position + 3))

-- so much of the text is the lines of whole groups and of the entries of group n that were followed, which were shown and kept too
pub record IsRight {P : Type 0} (played : P → Played) (spare : P → ℕ) (v : Version) (p : Parts) (text : List ℕ) (n : ℕ) (from : Progress)
    (size : ℕ) (f : Follow P) (opened was counters : List Counter) (holds : Keeping) : Type 0 where
  pub before : AreRight v p text n from opened was
  pub entries : List Entry
  pub shown : counters ≡ counters_after (shown_entries (group_with p n) 0 [] entries) was
  pub kept : holds before.histories entries
  pub following : IsFollowing played spare (group_with p n) entries f
  pub within : size ≤ length text
  pub text_is : text ≡ flat_map (line_text (known_of v p)) (lines_of_groups p 0 before.histories
      ++ lines_so_far (group_with p n) entries) ++ drop size text
  pub position_is : from.lines + 1 + f.count ≡ length (lines_of_groups p 0 before.histories ++ lines_so_far (group_with p n) entries)

-- what comes of following the entry lines of group n
abbrev pub AreFollowed : {P : Type 0} → (P → Played) → (P → ℕ) → Version → Parts → List ℕ → ℕ → Progress → Follow P
    → List Counter → List Counter → List Counter → Keeping → Entries → Type 0
AreFollowed played spare v p text n from f opened was counters holds (Right size) =
    IsRight played spare v p text n from size f opened was counters holds × NoEntryBegins (known_of v p) (drop size text)
AreFollowed played spare v p text n from f opened was counters holds (WrongAfter count) = IsJudged v p text (Invalid (from.lines + 1 + count + 3))

-- what comes of it where no entry line stands behind so many bytes, which this rest follows
pub data IsEndedAt (at : GroupEntries) (k : Known) (rest : List ℕ) (from : Progress) (count length_so_far : ℕ) : Followed → Type 0 where
  -- the play is not whole
  unfinished : (IsPlay at.group at.entries → ⊥) → IsEndedAt at k rest from count length_so_far (Wrong (from.lines + 1 + count))
  -- it is, and the line of a request is missing
  missing :
      (s : Stood) → IsPlay at.group at.entries → HaveStood k (wanted at) rest s → s.count < length (wanted at)
      → IsEndedAt at k rest from count length_so_far (Wrong (from.lines + 1 + count + s.count))
  -- none is
  finished :
      (s : Stood) → IsPlay at.group at.entries → HaveStood k (wanted at) rest s → s.count ≡ length (wanted at)
      → IsEndedAt at k rest from count length_so_far
      (Whole (record { lines = from.lines + 1 + count + s.count; entries = from.entries + count; length = length_so_far + s.length }))
