use Rattle.std.proofs.Common.{arith, sym, ap, ◌≡◌, ◌∙◌, false, get_or}
use Rattle.std.specs.Prelude.{None, is_some}
use Rattle.rt_base.specs.TaskNos.{numbers_of_tasks}
use Rattle.link_table.specs.Linked.{first_taken}
use Rattle.link_table.proofs.Filling.{first_taken-at, first_taken-full}
use Rattle.link_table.proofs.places.put.Goals as goal

pub returns-then-is_none-clause-put : goal.returns-then-is_none-clause-put
returns-then-is_none-clause-put c =
    let free : is_some (get_or c.loop-q.links c.loop-q.q None) ≡ false = rw c.if-is_none.true at c.is_none.ensures in
    first_taken-at c.args.t c.loop-q.links c.loop-q.q (omega arith) c.loop-q.invariant.taken free ∙ ap (λ ls. first_taken c.args.t.0 (numbers_of_tasks ls)) c.loop-q.invariant.links

pub returns-clause-put : goal.returns-clause-put
returns-clause-put c = sym (first_taken-full c.args.t.0 c.loop-q.links (λ k h. c.loop-q.invariant.taken k (omega arith))) ∙ ap (λ ls. first_taken c.args.t.0 (numbers_of_tasks ls)) c.loop-q.invariant.links
