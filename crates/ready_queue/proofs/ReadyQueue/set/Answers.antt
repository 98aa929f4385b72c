use Rattle.std.proofs.Common.{◌≡◌, List, Option, ap, set-set, sym, true, ◌∙◌}
use Rattle.rt_rules.specs.declared.Key.{Key}
use Rattle.rt_rules.proofs.BoolLaws.{not_false}
use Rattle.ready_queue.specs.Queue.{Queue, is_first}
use Rattle.ready_queue.proofs.ExchangeLaws.{none-exchanged}
use Rattle.ready_queue.proofs.FirstLaws.{same-first}
use Rattle.ready_queue.proofs.ReadyQueue.set.Goals as goal

pub returns-clause-keys : goal.returns-clause-keys
returns-clause-keys c =
    let kept : List (Option Key) → Queue = λ ks. record { most = c.args.self.now.most; keys = ks } in
    rw (c.put_in-put.ensures.keys, c.take_out-taken.ensures.keys, c.in-Some.is) (ap kept (set-set _ _ _ _))

pub returns-then-is_none-clause-keys : goal.returns-then-is_none-clause-keys
returns-then-is_none-clause-keys c =
    let kept : List (Option Key) → Queue = λ ks. record { most = c.args.self.now.most; keys = ks } in
    rw (c.put_in-put.ensures.keys, c.take_out-taken.ensures.keys, c.in-Some.is) (ap kept (set-set _ _ _ _))

pub returns-then-is_none-2-clause-keys : goal.returns-then-is_none-2-clause-keys
returns-then-is_none-2-clause-keys c =
    let kept : List (Option Key) → Queue = λ ks. record { most = c.args.self.now.most; keys = ks } in
    rw (c.put_in-put.ensures.keys, c.take_out-taken.ensures.keys, c.in-Some.is) (ap kept (set-set _ _ _ _))

pub returns-clause-exchanged : goal.returns-clause-exchanged
returns-clause-exchanged c =
    let was : is_first c.args.self.now c.args.task.0 ≡ true = not_false _ (sym c.take_out-taken.ensures.was_first ∙ sym c.is_none-2.ensures ∙ c.if-is_none-2.false) in
    let now : is_first c.put_in-put.new.self c.args.task.0 ≡ true = not_false _ (sym c.put_in-put.ensures.is_first ∙ sym c.is_none.ensures ∙ c.if-is_none.false) in
    rw (returns-clause-keys c)
    (none-exchanged _ _ (λ u. sym (same-first c.args.self.now c.args.task.0 c.args.key c.requires (was ∙ sym (rw (returns-clause-keys c) at now)) u)))
