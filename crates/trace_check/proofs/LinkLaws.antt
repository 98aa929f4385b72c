-- The links of processors that were read again after a step.
use Rattle.std.proofs.Common.{◌≡◌, ap, ◌∙◌}
use Rattle.rt_task.specs.declared.Step.{Step}
use Rattle.rt_model.specs.Group.{Group}
use Rattle.rt_model.specs.Histories.{after}
use Rattle.rt_model.specs.Past.{Past}
use Rattle.trace_lines.specs.Lines.{links_of}
use Rattle.trace_text.specs.Groups.{changed_links, cpu_numbers, cpus_in}
use Rattle.trace_text.specs.TraceText.{links_at}
use Rattle.trace_text.proofs.StillLinks.{told-changed}
use Rattle.trace_check.specs.declared.links.GroupLinks.{GroupLinks}
use Rattle.trace_check.specs.inside.GroupLinks.{AreLinks, HaveChanged}

-- what was read after a step, of the links before it
pub have-changed : (g : Group) (past : Past) (step : Step) (l l' : GroupLinks) → AreLinks g past l → l'.cpus.items ≡ l.cpus.items
    → links_of l'.links.items ≡ links_at g (after g step past) (cpus_in l.links.items)
    → links_of l'.changed.items ≡ changed_links (links_of l.links.items) (links_at g (after g step past) (cpus_in l.links.items)) → HaveChanged g past step l'
have-changed g past step l l' before same read told =
    let is = told-changed g past (after g step past) l.links.items l'.links.items l'.changed.items before.links_are read told in
    record { links_are = record { cpus_are = ap cpu_numbers same ∙ before.cpus_are; links_are = is.0 }; changed_are = is.1 }
