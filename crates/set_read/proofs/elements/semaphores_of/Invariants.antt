use Rattle.std.proofs.Common.{◌≡◌, map, drop}
use Rattle.rt_task.specs.declared.bad_set.Part.TheVariants as parts
use Rattle.serde_json.specs.View.{view}
use Rattle.set_read.specs.Document as document
use Rattle.set_read.specs.inside.Elements.{elements_from, with_front}
use Rattle.set_read.proofs.elements.semaphores_of.Given as goal

-- what was found, and then what the rest is, is what all are
abbrev pub invariant-loop-i : goal.invariant-loop-i
invariant-loop-i l = with_front l.found.items (elements_from parts.Sem l.i (map (λ x. document.semaphore_form x) (map view (drop l.i l.items)))) ≡ elements_from parts.Sem 0 (map (λ x. document.semaphore_form x) (map view l.items))
