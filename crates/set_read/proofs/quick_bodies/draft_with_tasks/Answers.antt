use Rattle.std.proofs.Common.{◌≡◌, Some, ap, arith}
use Rattle.json.specs.Lex.{after_value}
use Rattle.set_read.specs.Document.{names_of}
use Rattle.set_read.specs.Forms.{listed}
use Rattle.set_read.specs.Seen.{play_seen, whole_seen}
use Rattle.set_read.specs.inside.Texts.{tokens_at}
use Rattle.set_read.specs.inside.Tokens.{tasks_read}
use Rattle.set_read.proofs.DraftLaws.{whole_read-tasks}
use Rattle.set_read.proofs.quick_bodies.draft_with_tasks.Goals as goal

pub returns-in-Ok : goal.returns-in-Ok
returns-in-Ok c =
    let said = c.in_ok-found.ensures in
    let w = whole_seen c.args.whole.now in
    let tasks : tasks_read (names_of w) 1 (listed said.0) ≡ Some c.in_ok-found.found.items = rw (← c.requires.names) said.2 in (
      said.0,
      tokens_at after_value c.in_ok-found.rest.now,
      said.1,
      grind arith,
      λ none. rw c.from_vec.ensures (whole_read-tasks w c.in-Horizon.field-0 (listed said.0) c.in_ok-found.found.items c.in-Ok.draft
          (ap play_seen c.in-Horizon.is) none c.in-Ok.ensures tasks),
    )
