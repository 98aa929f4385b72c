use Rattle.std.proofs.Common.{◌≡◌, ◌∙◌, true, refl, sym, ap, arith}
use Rattle.std.proofs.lemmas.List.{get_or_read}
use Rattle.rt_base.specs.TaskNos.{numbers_of_tasks}
use Rattle.rt_rules.specs.KeyOrder.{higher}
use Rattle.sem_laws.specs.KeptKeys.{key_at}
use Rattle.prio_inherit.proofs.Settling.{settled-here}
use Rattle.prio_inherit.proofs.keys.update_walk_left.Goals as goal

pub returns-then-is_higher-clause-local : goal.returns-then-is_higher-clause-local
returns-then-is_higher-clause-local c =
    let held : c.index.result.now ≡ key_at c.args.keys.now.items c.args.holder.0 = get_or_read c.args.keys.now.items c.args.holder.0 c.index.result.now (omega (arith, c.requires.settling.at_within c.args.holder.0 refl, c.requires.settling.keys_length)) c.index.ensures _ in
    let gone : c.index-2.result.now ≡ key_at c.args.keys.now.items c.args.task.0 = get_or_read c.args.keys.now.items c.args.task.0 c.index-2.result.now (omega (arith, c.requires.task, c.requires.settling.keys_length)) c.index-2.ensures _ in
    let lower : higher (key_at c.args.keys.now.items c.args.holder.0) (key_at c.args.keys.now.items c.args.task.0) ≡ true = ap (λ k. higher k (key_at c.args.keys.now.items c.args.task.0)) (sym held) ∙ ap (higher c.index.result.now) (sym gone) ∙ sym c.is_higher.ensures ∙ c.if-is_higher.true in
    settled-here c.args.bases.now (numbers_of_tasks c.args.nexts.now) c.args.keys.now.items c.args.holder.0 c.requires.settling (c.requires.lower lower)
