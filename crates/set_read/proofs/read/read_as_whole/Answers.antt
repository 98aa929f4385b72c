use Rattle.std.proofs.Common.{◌≡◌, sym, subst}
use Rattle.std.specs.Prelude.{Result, true}
use Rattle.rt_task.specs.declared.bad_set.BadSet.{BadSet}
use Rattle.serde_json.specs.View.{view}
use Rattle.rt_task.specs.declared.draft.Draft.{Draft}
use Rattle.rt_task.specs.Answers.{Gives}
use Rattle.set_read.specs.Sets.{same}
use Rattle.set_read.proofs.ReadLaws.{read_draft-read, read_draft-refused}
use Rattle.set_read.proofs.read.read_as_whole.Goals as goal

pub returns-in-Ok : goal.returns-in-Ok
returns-in-Ok c =
    let e = read_draft-read c.args.bytes.now (view c.in-Ok.value) c.in-Ok.ensures.ok.0 c.in-Ok.ensures.ok.1 in
    subst (λ (r : Result Draft BadSet). Gives same c.draft_of_value.result r) (sym e) c.draft_of_value.ensures

pub returns-else-is_memory : goal.returns-else-is_memory
returns-else-is_memory c =
    let refused = c.in-Err.ensures.err (λ m. let t : c.is_memory.result ≡ true = c.is_memory.ensures.1 m in let f = c.if-is_memory.false in cc) in
    rw c.whole_place.ensures (read_draft-refused c.args.bytes.now refused)
