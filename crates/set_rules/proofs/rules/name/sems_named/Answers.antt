use Rattle.std.proofs.Common.{◌≡◌, List, not, true, false, take, ap, sym, ◌∙◌}
use Rattle.rt_task.specs.declared.Sem.{Sem}
use Rattle.rt_task.specs.declared.bad_set.Part.TheVariants as parts
use Rattle.rt_task.specs.declared.bad_set.SetKind.TheVariants as kinds
use Rattle.rt_task.specs.NameRules as rules
use Rattle.set_rules.specs.inside.NamesSeen.{has_name}
use Rattle.set_rules.proofs.NameLaws.{names-next}
use Rattle.set_rules.proofs.RefusalLaws.{first_failing-passes, each-stops}
use Rattle.set_rules.proofs.rules.name.sems_named.Goals as goal

pub returns-then-not-sem_name : goal.returns-then-not-sem_name
returns-then-not-sem_name c =
    let xs : List Sem = c.as_slice-sems.result.now in
    let i = c.loop-i.i in
    let x : Sem = c.index-sems-i.result in
    let fails : rules.sem_name c.args.d.now (take i xs) x ≡ false = sym (c.sem_name.ensures c.args.d.now (take i xs) (c.in_ok-is_new.ensures.new ∙ ap not (c.loop-i.invariant.names x.name))) ∙ c.if-not-sem_name.true in
    each-stops c.stop.result kinds.Name parts.Sem (rules.sem_name c.args.d.now) xs c.args.d.now.sems i x c.stop.ensures c.as_slice-sems.ensures c.loop-i-test.true c.index-sems-i.is fails c.loop-i.invariant.rest

pub loop-i-preserved : goal.loop-i-preserved
loop-i-preserved c =
    let xs : List Sem = c.as_slice-sems.result.now in
    let i = c.loop-i.i in
    let x : Sem = c.index-sems-i.result in
    let passes : rules.sem_name c.args.d.now (take i xs) x ≡ true = sym (c.sem_name.ensures c.args.d.now (take i xs) (c.in_ok-is_new.ensures.new ∙ ap not (c.loop-i.invariant.names x.name))) ∙ c.if-not-sem_name.false in
    record {
      rest = first_failing-passes (rules.sem_name c.args.d.now) xs i x c.loop-i-test.true c.index-sems-i.is passes ∙ c.loop-i.invariant.rest;
      names = names-next (λ (y : Sem). y.name) xs i x (has_name c.loop-i.names) (has_name c.add_name.new.names) c.loop-i-test.true c.index-sems-i.is c.loop-i.invariant.names c.in_ok-is_new.ensures.added;
    }
