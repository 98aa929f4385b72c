-- What a processor runs: what its last accepted interrupt left, until that job ends, sleeps or is queued.
use Rattle.std.specs.Prelude.{ℕ, Bool, false, ◌||◌, ◌==◌, [], ◌∷◌, Option, None, Some, if◌then◌else◌, is_some, true}
use Rattle.rt_task.specs.declared.Act.{Act}
use Rattle.rt_task.specs.declared.Act.TheVariants as acts
use Rattle.rt_task.specs.declared.Op.TheVariants as ops
use Rattle.rt_rules.specs.declared.history.Reply.{Reply}
use Rattle.rt_rules.specs.declared.history.Reply.TheVariants as replies
use Rattle.rt_model.specs.Past.{PastAct, Past, accepted, Clock, Acted}

-- what leaves nothing running on the processor, but for the end of a job
abbrev pub leaves : Act → Reply → Bool
leaves (acts.Do (ops.Sleep n)) reply = accepted reply
leaves act replies.Queued = true
leaves _ _ = false

abbrev pub runs_by : Reply → Option ℕ → Option ℕ
runs_by (replies.Runs t) before = Some t.0
runs_by replies.Idles before = None
runs_by _ before = before

abbrev pub runs_after : PastAct → Option ℕ → Option ℕ
runs_after d before = if is_some d.ended || leaves d.act d.reply then None else runs_by d.reply before

unfoldable pub runs : ℕ → Past → Option ℕ
runs q [] = None
runs q (Clock tick ∷ past) = runs q past
runs q (Acted d ∷ past) = if d.cpu == q then runs_after d (runs q past) else runs q past
