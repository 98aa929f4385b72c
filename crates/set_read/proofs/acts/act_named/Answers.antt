use Rattle.std.proofs.Common.{◌≡◌, Some, ap, arith}
use Rattle.std.proofs.lemmas.Slice.Eq.{text_from_reads}
use Rattle.std.specs.Prelude.{codes}
use Rattle.rt_task.specs.declared.Act.TheVariants as acts
use Rattle.set_read.proofs.acts.act_named.Goals as goal

pub returns-in-arrive : goal.returns-in-arrive
returns-in-arrive c =
    let w = c.args.word.now in
    let e : w ≡ codes "arrive" = text_from_reads w (codes "arrive") (omega arith) (omega arith) in
    rw e (ap (λ n. Some (acts.Arrive (record { 0 = n }))) c.number.ensures)
