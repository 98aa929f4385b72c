use Rattle.std.proofs.Common.{length, sym, ◌∙◌, ap, subst, arith}
use Rattle.rt_task.specs.declared.Parts.{Parts}
use Rattle.trace_lines.specs.Known.{known_of, task_names}
use Rattle.trace_read.specs.Seen.{AreTexts, Tells}
use Rattle.trace_read.proofs.TellLaws.{are_texts, few_tasks, valid-tells}
use Rattle.trace_read.proofs.known.Known.of.Goals as goal

pub names_of-requires : goal.names_of-requires
names_of-requires c =
    subst AreTexts (sym c.as_slice.ensures)
    (subst (λ (p : Parts). AreTexts p.tasks) (sym c.parts-parts.ensures.parts) (are_texts c.args.setup.now c.parts-parts.ensures.valid))

pub of-requires : goal.of-requires
of-requires c =
    omega (arith, few_tasks c.args.setup.now c.parts-parts.ensures.valid, c.in_ok-names_of.ensures.count, ap (λ xs. length xs) c.as_slice.ensures, ap (λ (p : Parts). length p.tasks) c.parts-parts.ensures.parts)

pub invariant_of-result : goal.invariant_of-result
invariant_of-result c = (
  c.in_ok-names.ensures ∙ c.in_ok-names_of.ensures.names ∙ ap task_names c.as_slice.ensures,
  subst (λ (p : Parts). AreTexts p.tasks) (sym c.parts-parts.ensures.parts) (are_texts c.args.setup.now c.parts-parts.ensures.valid),
)

pub returns-clause-tells : goal.returns-clause-tells
returns-clause-tells c =
    subst (λ (p : Parts). Tells (known_of c.args.version p)) (sym c.parts-parts.ensures.parts) (valid-tells c.args.version c.args.setup.now c.parts-parts.ensures.valid)
