use Rattle.std.proofs.Common.{◌≡◌, ◌+◌, ◌++◌, ◌∷◌, [], length, ap, subst, arith}
use Rattle.rt_task.specs.declared.Protocol.{Protocol}
use Rattle.std.proofs.lemmas.List.{length-append}
use Rattle.sem_table.specs.Opened.{IsNew, group_in}
use Rattle.sem_table.proofs.Opening.{sems-more}
use Rattle.sem_table.proofs.open.all_sems.Goals as goal

pub loop-i-preserved : goal.loop-i-preserved
loop-i-preserved c =
    let e : c.push-in-loop-i.new.self.items ≡ c.loop-i.all.items ++ c.in_ok-one.one ∷ [] = c.in_ok-push-2.ensures.items in
    let n : length (c.loop-i.all.items ++ c.in_ok-one.one ∷ []) ≡ length c.loop-i.all.items + 1 = length-append c.loop-i.all.items (c.in_ok-one.one ∷ []) in
    record {
      count = omega (arith, ap length e, n, c.loop-i.invariant.count);
      each = sems-more (group_in c.args.parts.now c.args.group.0) c.loop-i.all.items c.push-in-loop-i.new.self.items c.in_ok-one.one c.loop-i.i e c.loop-i.invariant.count c.loop-i.invariant.each (subst (λ (p : Protocol). IsNew (group_in c.args.parts.now c.args.group.0) (c.loop-i.i + 1) p c.in_ok-one.one) c.protocol_of-protocol.ensures c.in_ok-one.ensures);
    }
