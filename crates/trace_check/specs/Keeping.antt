-- What is kept of the groups of a text as they are followed.
use Rattle.std.specs.Prelude.{◌≡◌, ℕ, List, [], ◌∷◌, ◌++◌, length}
use Rattle.rt_task.specs.declared.Parts.{Parts}
use Rattle.rt_rules.specs.declared.history.Entry.{Entry}
use Rattle.rt_model.specs.Histories.{past_of}
use Rattle.rt_plays.specs.Plays.{group_with}
use Rattle.trace_text.specs.Groups.{CanReplay}
use Rattle.trace_tools.specs.Tools.{Tool}
use Rattle.trace_lines.specs.declared.format.Version.{Version}
use Rattle.set_canonical.specs.Canonical.{canonical}
use Rattle.trace_read.specs.Reads.{HasHead}
use Rattle.trace_laws.specs.PlayedGroups.{full_group}
use Rattle.trace_laws.specs.ValidTexts.{IsValidText}
use Rattle.view_replay.specs.Players.{Played}
use Rattle.trace_check.specs.declared.verdict.Verdict.{Verdict}
use Rattle.trace_check.specs.declared.verdict.Verdict.TheVariants.{Valid, Invalid}

-- what is kept once whole groups were followed with these histories, and these entries of the next
abbrev pub Keeping : Type 1
Keeping = List (List Entry) → List Entry → Type 0

-- with no group open
abbrev pub Between : Keeping → List (List Entry) → Type 0
Between holds hs = holds hs []

-- with the last group still open
pub record BeforeLast (holds : Keeping) (hs : List (List Entry)) : Type 0 where
  pub front : List (List Entry)
  pub last : List Entry
  pub histories_are : hs ≡ front ++ last ∷ []
  pub kept : holds front last

-- whoever played the steps of these entries of a group stands at their past
abbrev pub HasPlayed : {P : Type 0} → (P → Played) → P → Parts → ℕ → List Entry → Type 0
HasPlayed played player p n es = played player (group_with p n) (past_of (group_with p n) es)

-- the group with this number is open, and has the entries of a history that can be replayed, whose steps were played
pub record CanClose {P : Type 0} (played : P → Played) (player : P) (holds : Keeping) (p : Parts) (n : ℕ) : Type 0 where
  pub front : List (List Entry)
  pub last : List Entry
  pub kept : holds front last
  pub number : length front ≡ n
  pub can : CanReplay (full_group p n last)
  pub has_played : HasPlayed played player p n last

-- this is kept of the histories of a text, where that is valid
abbrev pub HasKept : List Tool → Version → Parts → List ℕ → (List (List Entry) → Type 0) → Verdict → Type 0
HasKept tools v p text holds (Valid entries) = (is : IsValidText tools v p text entries) → holds is.histories
HasKept tools v p text holds (Invalid line) = Unit {0}

-- the same of the bytes that have this text behind a head with the canonical set
abbrev pub IsKeptText : List Tool → Version → Parts → List ℕ → (List (List Entry) → Type 0) → Verdict → Type 0
IsKeptText tools v p text holds verdict = (bytes : List ℕ) → HasHead v bytes (canonical p) text → HasKept tools v p bytes holds verdict
