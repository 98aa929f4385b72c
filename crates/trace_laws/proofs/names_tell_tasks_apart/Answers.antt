use Rattle.std.proofs.Common.{ap, sym, ◌∙◌}
use Rattle.set_read.specs.Document.{position_from}
use Rattle.trace_lines.specs.declared.format.Version.TheVariants.{Two}
use Rattle.trace_lines.specs.Known.{task_names}
use Rattle.trace_read.proofs.TellLaws.{valid-tells}
use Rattle.trace_laws.proofs.names_tell_tasks_apart.Goals as goal

pub returns : goal.returns
returns c = λ p t u valid h k.
    let tell = valid-tells Two p valid in
    (tell.is_named t h, λ same. sym (tell.is_found t h) ∙ ap (position_from 1 (task_names p.tasks)) same ∙ tell.is_found u k)
