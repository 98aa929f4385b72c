use Rattle.std.proofs.Common.{ap, sym, ◌∙◌, arith}
use Rattle.std.specs.Prelude.{option_map}
use Rattle.rt_task.specs.declared.Act.TheVariants as acts
use Rattle.set_read.proofs.ActLaws.{counted_act}
use Rattle.set_read.proofs.acts.act_counted.Goals as goal

pub returns-in_err-op : goal.returns-in_err-op
returns-in_err-op c names =
    let none = counted_act names c.args.word.now c.args.n in
    let op = c.in_err-op.ensures names in
    grind arith

pub returns : goal.returns
returns c names = ap (option_map acts.Do) (c.in_ok-op.ensures names) ∙ sym (counted_act names c.args.word.now c.args.n)
