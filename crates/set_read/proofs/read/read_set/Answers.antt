use Rattle.std.proofs.Common.{sym, subst}
use Rattle.rt_task.specs.Answers.{Gives}
use Rattle.set_read.proofs.ShapeLaws.{set-read}
use Rattle.set_read.proofs.read.read_set.Goals as goal

pub returns : goal.returns
returns c = subst (Gives (λ s. s) c.setup_of_draft.result) (sym (set-read c.args.bytes.now c.in_ok-draft.draft c.in_ok-draft.ensures)) c.setup_of_draft.ensures
