-- At first nobody holds, waits or is boosted.
use Rattle.std.proofs.Common.{◌≡◌, ◌∙◌, ◌+◌, ℕ, zero, suc, [], length, refl, sym, subst}
use Rattle.std.specs.Prelude.{None, replicate, slice_index_or}
use Rattle.std.proofs.lemmas.List.{length-replicate}
use Rattle.rt_rules.proofs.BoolLaws.{clash, unless}
use Rattle.rt_model.specs.Boosts.{boost}
use Rattle.rt_model.specs.EffectiveKeys.{waits_for}
use Rattle.rt_model.specs.Group.{Group}
use Rattle.rt_model.specs.Reachable.{opened}
use Rattle.rt_laws.proofs.jobs.Engaged.{holder-engaged, nobody-engaged}
use Rattle.rt_laws.proofs.pcp.PcpWalks.{walk-stops}
use Rattle.rt_laws.proofs.Rules.{MeetsRules}
use Rattle.rt_laws.proofs.ValidSets.{rules_of}
use Rattle.rt_laws.proofs.semaphores.Waiting.{nobody-waits, none-waits}
use Rattle.rt_changes.proofs.Boosts.{boost-none}
use Rattle.sem_table.proofs.NewRows.{new_keeps}
use Rattle.sem_table.proofs.Rows.{new_rows}
use Rattle.group_sems.specs.Keeping.{OpeningIsKept}
use Rattle.group_sems.specs.Kept.{KeepsBoosts, KeepsNexts}
use Rattle.group_sems.proofs.Outside.{opened-empty}

-- a list of nothing tells nothing
none-at : {X : Type 0} (n t : ℕ) (x : X) → slice_index_or (replicate n x) t x ≡ x
none-at zero t x = refl
none-at (suc n) zero x = refl
none-at (suc n) (suc t) x = none-at n t x

first-wait : (g : Group) → MeetsRules g → (t : ℕ) → waits_for g t [] ≡ None
first-wait g rules t = walk-stops g rules [] opened t (none-waits g t [] (λ s there. nobody-waits g t s))

first-boost : (g : Group) (t : ℕ) → boost g t [] ≡ None
first-boost g t = boost-none g t [] (λ s there plain. unless _ (λ m. clash _ (holder-engaged g t s [] m) (nobody-engaged g t s)))

first-nexts : (g : Group) → MeetsRules g → KeepsNexts g [] (replicate (length g.setup.tasks + 1) None)
first-nexts g rules = record {
  room = length-replicate (length g.setup.tasks + 1) None;
  are = λ t there. none-at (length g.setup.tasks + 1) t None ∙ sym (first-wait g rules t);
  others = λ t away. none-at (length g.setup.tasks + 1) t None;
}

first-boosts : (g : Group) → KeepsBoosts g [] (replicate (length g.setup.tasks + 1) None)
first-boosts g = record {
  room = length-replicate (length g.setup.tasks + 1) None;
  are = λ t there. none-at (length g.setup.tasks + 1) t None ∙ sym (first-boost g t);
}

pub opening_is_kept : OpeningIsKept
opening_is_kept g v valid new ceilings nexts boosts = record {
  sems_are = new_keeps g v.table valid new;
  rows_are = new_rows g v.table valid new;
  none_outside = opened-empty g v.table new;
  nexts_are = subst (KeepsNexts g []) (sym nexts) (first-nexts g (rules_of g valid));
  boosts_are = subst (KeepsBoosts g []) (sym boosts) (first-boosts g);
  ceilings_are = ceilings;
}
