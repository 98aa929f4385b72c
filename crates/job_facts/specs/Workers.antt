-- Who worked on a processor last, since that switched.
use Rattle.std.specs.Prelude.{ℕ, ◌==◌, [], ◌∷◌, Option, None, if◌then◌else◌}
use Rattle.rt_model.specs.Past.{Acted, Clock, Past}
use Rattle.job_facts.specs.Deeds.{worker_after}

-- the task of the newest unit on a processor since its newest switch
unfoldable pub worker : ℕ → Past → Option ℕ
worker q [] = None
worker q (Clock tick ∷ past) = worker q past
worker q (Acted d ∷ past) = if d.cpu == q then worker_after d.act d.reply d.task (worker q past) else worker q past
