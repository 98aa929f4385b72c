use Rattle.std.proofs.Common.{◌≡◌, Some, ap, arith}
use Rattle.std.proofs.lemmas.Slice.Eq.{text_from_reads}
use Rattle.std.specs.Prelude.{codes}
use Rattle.rt_task.specs.declared.Op.TheVariants as ops
use Rattle.set_read.proofs.acts.op_named.Goals as goal

pub returns-in-unlock : goal.returns-in-unlock
returns-in-unlock c =
    let w = c.args.word.now in
    let e : w ≡ codes "unlock" = text_from_reads w (codes "unlock") (omega arith) (omega arith) in
    rw e (ap (λ n. Some (ops.Unlock (record { 0 = n }))) c.number-in-unlock.ensures)
