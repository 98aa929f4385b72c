use Rattle.std.proofs.Common.{◌≡◌, refl, sym, ap, ◌∙◌, arith}
use Rattle.std.specs.Prelude.{Some}
use Rattle.block_counts.specs.SeenWords.{waiters_of}
use Rattle.group_jobs.specs.Kept.{cpu_of}
use Rattle.group_core.specs.Listing.{freed_at}
use Rattle.group_core.specs.WaitingList.{WaitingList}
use Rattle.group_core.proofs.Freeing.{freed-held, listed-can, listed-few, listed-once, names-sem, told-are, told-none}
use Rattle.group_core.proofs.waiting_list.WaitingList.list.Goals as goal

pub list_for-requires-clause-can : goal.list_for-requires-clause-can
list_for-requires-clause-can c =
    let told : freed_at c.args.parts.now c.args.sems.now.table (cpu_of c.args.jobs.now.kept c.args.cpu.0).runs c.args.act ≡ Some c.in-Some.sem = sym c.freed_by.ensures ∙ c.in-Some.is in
    listed-can _ _ _ _ _ _ _ c.requires.1 c.in-Some.sem.0 (freed-held _ _ _ _ _ _ _ c.requires.1 c.in-Some.sem told)

pub list_for-requires-clause-few : goal.list_for-requires-clause-few
list_for-requires-clause-few c =
    let told : freed_at c.args.parts.now c.args.sems.now.table (cpu_of c.args.jobs.now.kept c.args.cpu.0).runs c.args.act ≡ Some c.in-Some.sem = sym c.freed_by.ensures ∙ c.in-Some.is in
    let few = listed-few _ _ _ _ _ _ _ c.requires.1 c.in-Some.sem.0 (freed-held _ _ _ _ _ _ _ c.requires.1 c.in-Some.sem told) in
    omega (arith, few, ap (λ (l : WaitingList). l.room) c.self.view_is)

pub returns-in-Some-clause-waiting : goal.returns-in-Some-clause-waiting
returns-in-Some-clause-waiting c = λ at can.
    told-are at _ _ _ _ _ _ can c.in-Some.sem c.list_for.new.self.waiting (sym c.freed_by.ensures ∙ c.in-Some.is) (ap (λ (l : WaitingList). l.waiting) c.list_for.ensures)

pub returns-in-Some-clause-once : goal.returns-in-Some-clause-once
returns-in-Some-clause-once c =
    let told : freed_at c.args.parts.now c.args.sems.now.table (cpu_of c.args.jobs.now.kept c.args.cpu.0).runs c.args.act ≡ Some c.in-Some.sem = sym c.freed_by.ensures ∙ c.in-Some.is in
    rw (ap (λ (l : WaitingList). l.waiting) c.list_for.ensures) (listed-once _ _ _ _ _ _ _ c.requires.1 c.in-Some.sem.0 (freed-held _ _ _ _ _ _ _ c.requires.1 c.in-Some.sem told))

pub returns-in_default-clause-waiting : goal.returns-in_default-clause-waiting
returns-in_default-clause-waiting c = λ at can. told-none at _ _ _ _ _ _ can (waiters_of c.clear.new.self.items) (sym c.freed_by.ensures ∙ c.in_default.is) (ap waiters_of c.clear.ensures.items)

pub freed_by-requires-clause-sem : goal.freed_by-requires-clause-sem
freed_by-requires-clause-sem c = names-sem _ _ _ _ _ _ _ c.requires.1
