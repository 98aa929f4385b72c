use Rattle.std.proofs.Common.{◌≡◌, ◌<◌, ◌∙◌, length, sym, ap, arith}
use Rattle.std.specs.Prelude.{None, is_some, true, slice_index_or}
use Rattle.std.proofs.lemmas.List.{get_or_read}
use Rattle.rt_base.specs.TaskNos.{numbers_of_tasks}
use Rattle.rt_rules.specs.Numbers.{numbers_from}
use Rattle.rt_rules.specs.Walks.{followers, inherited}
use Rattle.sem_laws.specs.KeptKeys.{key_at}
use Rattle.prio_inherit.specs.Waits.{base_of, next_of}
use Rattle.prio_inherit.proofs.Settling.{told-below, kept-highest}
use Rattle.prio_inherit.proofs.Inherit.key.Goals as goal

pub returns-in-None : goal.returns-in-None
returns-in-None c =
    let told : is_some (slice_index_or c.self.inside.bases.items c.args.task.0 None) ≡ true = rw (← c.self.view_is) at c.requires in
    let below : c.args.task.0 < length c.self.inside.bases.items = told-below c.self.inside.bases.items c.args.task.0 told in
    let boosts_below : c.args.task.0 < length c.self.inside.boosts.items = omega (arith, c.self.invariant.inherit.bases_length, c.self.invariant.inherit.boosts_length) in
    let keys_below : c.args.task.0 < length c.self.inside.keys.items = omega (arith, c.self.invariant.inherit.bases_length, c.self.invariant.inherit.keys_length) in
    let boost : slice_index_or c.self.inside.boosts.items c.args.task.0 None ≡ None = sym (get_or_read c.self.inside.boosts.items c.args.task.0 c.index.result.now boosts_below c.index.ensures None) ∙ c.in-None.is in
    let read : c.index-in-None.result.now ≡ key_at c.self.inside.keys.items c.args.task.0 = get_or_read c.self.inside.keys.items c.args.task.0 c.index-in-None.result.now keys_below c.index-in-None.ensures _ in
    rw (← c.self.view_is) (read ∙ kept-highest _ _ _ _ c.args.task.0 c.self.invariant.inherit below
    ∙ ap (λ o. inherited o (base_of c.self.inside.bases.items) (followers (next_of (numbers_of_tasks c.self.inside.nexts.items)) (numbers_from 0 (length c.self.inside.bases.items)) c.args.task.0) c.args.task.0) (sym boost))
