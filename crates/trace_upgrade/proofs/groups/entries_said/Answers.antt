use Rattle.std.proofs.Common.{◌≡◌, List, None, Some, refl, sym, subst}
use Rattle.rt_rules.specs.declared.history.Entry.{Entry}
use Rattle.trace_upgrade.proofs.TextLaws.{EntriesLeft, IsFirst, entries-all, entries-end, entries-next}
use Rattle.trace_upgrade.proofs.groups.entries_said.Goals as goal

pub loop-entry-init : goal.loop-entry-init
loop-entry-init c = λ g es more begins ended. entries-all c.args.k.now g es more c.new-entries.result.items c.args.text.now c.new-entries.ensures.items begins

some-none : {A : Type 0} (x : A) → Some x ≡ None → ⊥
some-none x e = cc

pub loop-entry-preserved : goal.loop-entry-preserved
loop-entry-preserved c = λ g es more begins ended.
    let first : IsFirst c.args.k.now c.loop-entry.left.now (Some (c.in-Some.entry, c.in-Some.rest.now)) = record { entry = c.in-Some.ensures.entry; none = λ h. absurd (some-none _ (c.in-Some.ensures.none h)) } in
    subst (λ (xs : List Entry). EntriesLeft c.args.k.now g es more xs c.in-Some.rest.now) (sym c.in_ok-push.ensures.items)
    (entries-next c.args.k.now g es more c.loop-entry.entries.items c.loop-entry.left.now _ first c.in-Some.entry c.in-Some.rest.now ended refl (c.loop-entry.invariant g es more begins ended))

pub returns : goal.returns
returns c = λ g es more begins ended.
    let first : IsFirst c.args.k.now c.loop-entry.left.now None = record { entry = c.in_default.ensures.entry; none = λ h. refl } in
    entries-end c.args.k.now g es more c.loop-entry.entries.items c.loop-entry.left.now _ first refl (c.loop-entry.invariant g es more begins ended)
