-- The text of plays tells the groups of its set, each with its history.
use Rattle.std.proofs.Common.{ℕ, List, ◌++◌, drop}
use Rattle.rt_rules.specs.declared.history.Entry.{Entry}
use Rattle.trace_lines.specs.Known.{known_of}
use Rattle.trace_laws.proofs.Heads.{head-unique, lines_of, longer-head}
use Rattle.trace_laws.proofs.OneLine.{canonical-one_line}
use Rattle.trace_laws.proofs.PlayedGroups.{plays-replay}
use Rattle.trace_laws.proofs.ReadBack.{all_known}
use Rattle.trace_read.specs.Reads.{IsHeadOf}
use Rattle.trace_read.specs.declared.head.TraceHead.{TraceHead}
use Rattle.trace_upgrade.specs.Said.{TellsGroups, TellsPlays}

pub plays-told : (bytes : List ℕ) (head : TraceHead) (hs : List (List Entry)) → IsHeadOf bytes head → TellsPlays bytes head hs → TellsGroups (known_of head.version head.setup) head.setup 0 hs (drop head.length bytes)
plays-told bytes head hs is told =
    let v = head.version in
    let p = head.setup in
    let heads = head-unique v v bytes is.set_text (drop head.length bytes) _ (lines_of v p hs ++ told.more) is.head
    (longer-head v p hs told.more bytes told.bytes_are (canonical-one_line p told.played.valid)) in
    record {
      can = plays-replay p told.played.valid hs told.played.plays;
      more = told.more;
      begins = record { lines_known = all_known v p hs told.played; text_is = heads.rest };
    }
