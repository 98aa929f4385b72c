-- A valid trace is the text of plays, and its upgrade is the text in format 2 of these.
use Rattle.std.proofs.Common.{◌≡◌, ℕ, Bool, true, List, ◌++◌, map, refl, ap, ◌∙◌, subst, inr}
use Rattle.std.specs.Prelude.{flat_map, if◌then◌else◌}
use Rattle.rt_task.specs.Validity.{IsValid}
use Rattle.rt_task.specs.declared.Parts.{Parts}
use Rattle.rt_rules.specs.declared.history.Entry.{Entry}
use Rattle.rt_fault.specs.declared.status.Status.{Status}
use Rattle.rt_fault.specs.declared.status.Status.TheVariants as ends
use Rattle.trace_lines.specs.declared.format.Version.{Version}
use Rattle.trace_lines.specs.declared.format.Version.TheVariants.{Two}
use Rattle.trace_lines.specs.Grammar.{line_text}
use Rattle.trace_lines.specs.Known.{known_of}
use Rattle.trace_lines.specs.Lines.{Line}
use Rattle.trace_read.specs.declared.head.TraceHead.{TraceHead}
use Rattle.trace_tools.specs.Counters.{Counter, counter_line, counter_of, counters_after}
use Rattle.trace_tools.specs.Tools.{Tool}
use Rattle.trace_text.specs.CountLines.{counted_text, shown_from}
use Rattle.trace_text.specs.TraceText.{trace_text}
use Rattle.trace_laws.specs.Upgrades.{IsUpgradeOf}
use Rattle.trace_laws.specs.ValidTexts.{IsValidText}
use Rattle.trace_laws.proofs.ReadBack.{text-begins}
use Rattle.trace_check.specs.Counts.{HasCounts}
use Rattle.trace_check.specs.declared.verdict.Verdict.TheVariants.{Valid}
use Rattle.trace_check.proofs.Shown.{lines-shown}
use Rattle.trace_upgrade.specs.Said.{TellsPlays}
use Rattle.set_input.specs.Answers.{IsUnwritten}
use Rattle.set_input.specs.Ends.{Writing}
use Rattle.sim_commands.specs.Upgrade.{HasUpgraded, HasWritten}

-- the upgrade of a valid text, and it is the text itself where that is of format 2 and has its count lines
module _ (tools : List Tool) (bytes : List ℕ) (v : Version) (p : Parts) (entries : ℕ) (valid : IsValid p) (is : IsValidText tools v p bytes entries) where
  pub text-upgrade : IsUpgradeOf tools bytes (counted_text Two tools p is.histories)
  text-upgrade = record { version = v; setup = p; histories = is.histories; played = record { valid = valid; plays = is.plays }; text_is = is.text_is; upgraded_is = refl }

  pub own-upgrade : (counted : Bool) → HasCounts tools v p bytes (Valid entries) counted → (v ≡ Two) × (counted ≡ true) → bytes ≡ counted_text Two tools p is.histories
  own-upgrade counted counts today =
      subst (λ (w : Version). bytes ≡ counted_text w tools p is.histories) today.0
      (subst (λ (b : Bool). bytes ≡ (if b then counted_text v tools p is.histories else trace_text v p is.histories)) today.1 (counts is))

-- a valid text whose head was read is that of its plays
pub head-tells : (tools : List Tool) (bytes : List ℕ) (head : TraceHead) (entries : ℕ) → IsValid head.setup → (is : IsValidText tools head.version head.setup bytes entries) → TellsPlays bytes head is.histories
head-tells tools bytes head entries valid is =
    let begins = text-begins tools head.version head.setup is.histories bytes is.text_is in
    record { played = record { valid = valid; plays = is.plays }; more = begins.0; bytes_are = begins.1 }

-- the trace of the same plays, and behind it the lines of a bus that was shown these, is the text with count lines
pub shown-text : (tools : List Tool) (p : Parts) (hs got : List (List Entry)) (counters : List Counter) → got ≡ hs → counters ≡ counters_after (shown_from p 0 hs) (map counter_of tools)
    → trace_text Two p got ++ flat_map (line_text (known_of Two p)) (map counter_line counters) ≡ counted_text Two tools p hs
shown-text tools p hs got counters same shown =
    ap (λ (es : List (List Entry)). trace_text Two p es ++ flat_map (line_text (known_of Two p)) (map counter_line counters)) same
    ∙ ap (λ (ls : List Line). trace_text Two p hs ++ flat_map (line_text (known_of Two p)) ls) (lines-shown tools p hs counters shown)

-- the text that was written is the upgrade
pub written-upgraded : (tools : List Tool) (v : Version) (p : Parts) (bytes text : List ℕ) (sink : Writing) (answer : Status) → IsUpgradeOf tools bytes text → HasWritten text sink answer → HasUpgraded tools v p bytes sink answer
written-upgraded tools v p bytes text sink ends.Ok is h = record { upgraded = text; is_upgrade = is; written = h }
written-upgraded tools v p bytes text sink ends.WriteFault is h = record { upgraded = text; is_upgrade = is; written = h }
written-upgraded tools v p bytes text sink ends.NoMemory is h = inr (record { upgraded = text; is_upgrade = is; written = h })
written-upgraded tools v p bytes text sink (ends.Invalid line) is h = absurd h
written-upgraded tools v p bytes text sink ends.Usage is h = absurd h
written-upgraded tools v p bytes text sink (ends.BadInput b) is h = absurd h
written-upgraded tools v p bytes text sink ends.ReadFault is h = absurd h
written-upgraded tools v p bytes text sink ends.TooLong is h = absurd h

-- no answer of a writer is one of those before it, nor that a line is wrong
pub written-read : (text : List ℕ) (sink : Writing) (answer : Status) → HasWritten text sink answer → IsUnwritten answer → ⊥
written-read text sink ends.Ok h none = none
written-read text sink ends.WriteFault h none = none
written-read text sink ends.NoMemory h none = none
written-read text sink (ends.Invalid line) h none = none
written-read text sink ends.Usage h none = h
written-read text sink (ends.BadInput b) h none = h
written-read text sink ends.ReadFault h none = h
written-read text sink ends.TooLong h none = h

pub written-right : (text : List ℕ) (sink : Writing) (answer : Status) (line : ℕ) → HasWritten text sink answer → answer ≡ ends.Invalid line → ⊥
written-right text sink answer line h is = subst (HasWritten text sink) is h
