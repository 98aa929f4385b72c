use Rattle.std.proofs.lemmas.Grind.{common_steps}
use Rattle.std.proofs.Common.{ap, ◌∙◌, subst, sym, arith, refl}
use Rattle.std.proofs.lemmas.List.{length-map}
use Rattle.rt_base.specs.TaskNos.{number_of_task, numbers, numbers_of_tasks}
use Rattle.group_resvs.specs.GroupResvs.{GroupResvs, IsSettled}
use Rattle.group_resvs.specs.Touched.{IsSettledBut}
use Rattle.group_resvs.specs.declared.touched.Touched.TheVariants.{Nothing}
use Rattle.group_resvs.proofs.ChangedLists.{all_changed-self}
use Rattle.group_resvs.proofs.TouchedLaws.{all_settled-nothing, settled_but-nothing}
use Rattle.group_resvs.proofs.GroupResvs.settle.Goals as goal

pub returns-in-Nothing : goal.returns-in-Nothing
returns-in-Nothing c =
    let but : IsSettledBut Nothing c.self.inside.resvs (numbers_of_tasks c.self.inside.serves.items) = subst (λ t. IsSettledBut t c.self.inside.resvs (numbers_of_tasks c.self.inside.serves.items)) c.in-Nothing.is c.self.invariant.5 in
    subst (λ (a : GroupResvs). IsSettled a (record { resvs = c.self.inside.resvs; serves = numbers_of_tasks c.self.inside.serves.items; changed = numbers c.clear.new.self.items })) c.self.view_is (record {
      resvs = all_settled-nothing c.self.inside.resvs (numbers_of_tasks c.self.inside.serves.items) but;
      serves = λ r there. but.serves_at r there refl;
      all = omega (arith, length-map c.self.inside.serves.items number_of_task, c.self.inside.serves.ok, c.self.invariant.1);
      changed = ap numbers c.clear.ensures.items ∙ sym (all_changed-self (numbers_of_tasks c.self.inside.serves.items));
    })

pub invariant_of-self-in-Many : goal.invariant_of-self-in-Many
invariant_of-self-in-Many c = grind (arith, common_steps, settled_but-nothing)
