-- What the text of plays says of the groups of its set, each with its entries.
use Rattle.std.specs.Prelude.{◌≡◌, ℕ, ◌-◌, ◌≤◌, All, List, ◌++◌, length}
use Rattle.rt_task.specs.declared.Parts.{Parts}
use Rattle.rt_rules.specs.declared.history.Entry.{Entry}
use Rattle.rt_model.specs.Histories.{IsLegalFrom}
use Rattle.rt_plays.specs.Groups.{AreStepsOf, GroupHistory, group_of, past}
use Rattle.trace_lines.specs.Known.{Known}
use Rattle.trace_text.specs.Groups.{CanReplay}
use Rattle.trace_text.specs.TraceText.{lines_from, trace_text}
use Rattle.trace_read.specs.declared.head.TraceHead.{TraceHead}
use Rattle.trace_read.specs.Seen.{BeginsLines}
use Rattle.trace_laws.specs.PlayedGroups.{groups_from}
use Rattle.trace_laws.specs.TraceLaws.{ArePlayed}

-- the bytes are the text of these plays, of the format and the set of this head, whatever stands behind it
pub record TellsPlays (bytes : List ℕ) (head : TraceHead) (hs : List (List Entry)) : Type 0 where
  pub played : ArePlayed head.setup hs
  pub more : List ℕ
  pub bytes_are : bytes ≡ trace_text head.version head.setup hs ++ more

-- the text begins with the lines of the groups from a number on, which have these histories and can be replayed
pub record TellsGroups (k : Known) (p : Parts) (n : ℕ) (hs : List (List Entry)) (text : List ℕ) : Type 0 where
  pub can : All CanReplay (groups_from p n hs)
  pub more : List ℕ
  pub begins : BeginsLines k text (lines_from p n hs) more

-- a group once it has taken the steps of these entries
abbrev pub with_entries : List Entry → GroupHistory → GroupHistory
with_entries es h = record h { entries = h.entries ++ es; spare = h.spare - length es }

-- it has room for them, and they are legal after those that it has
pub record CanTake (h : GroupHistory) (es : List Entry) : Type 0 where
  pub room : length es ≤ h.spare
  pub steps : AreStepsOf (group_of h) es
  pub legal : IsLegalFrom (group_of h) (past h) es
