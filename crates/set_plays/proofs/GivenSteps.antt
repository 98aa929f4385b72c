-- The processors of the steps that a set gives are there.
use Rattle.std.proofs.Common.{◌≡◌, ◌<◌, true, length, map, get_or, ltb-true, refl, ap, ◌∙◌, subst, arith}
use Rattle.std.specs.Prelude.{All, nat_lt, slice_index_or, ◌&&◌}
use Rattle.std.proofs.lemmas.List.{get_or-map, length-map}
use Rattle.rt_base.specs.declared.TheConstants.{TICK_END}
use Rattle.rt_task.specs.declared.Drive.{Drive}
use Rattle.rt_task.specs.declared.Drive.TheVariants.{Steps, Horizon}
use Rattle.rt_task.specs.declared.Parts.{Parts}
use Rattle.rt_task.specs.declared.Step.{Step}
use Rattle.rt_task.specs.Draft.{draft_drive, draft_of, draft_step, steps_of}
use Rattle.rt_task.specs.Lookups as lookups
use Rattle.rt_task.specs.RangeRules.{step_range}
use Rattle.rt_task.specs.RuleWords.{act_in_range}
use Rattle.rt_task.specs.Validity.{IsValid}
use Rattle.rt_rules.proofs.BoolLaws.{both}
use Rattle.rt_laws.proofs.ValidSets.{KeepsRule, step_rows}
use Rattle.rt_plays.specs.Drives.{steps_given}
use Rattle.rt_plays.proofs.ProcessorLaws.{cpu_count}
use Rattle.rt_plays.proofs.SetLimits.{cpus-drafted}

pub steps-inside : (p : Parts) → IsValid p → All (λ (s : Step). s.cpu.0 < cpu_count p.clusters) (steps_given p.drive)
unfolding step_range lookups.cpus
steps-inside p valid i s low = by_drive p.drive refl low
  where
    by_drive : (drive : Drive) → p.drive ≡ drive → i < length (steps_given drive) → (get_or (steps_given drive) i s).cpu.0 < cpu_count p.clusters
    by_drive (Steps steps) same inside =
        let listed : steps_of (draft_drive p.drive) ≡ map draft_step steps = ap (λ (x : Drive). steps_of (draft_drive x)) same in
        let there : i < length (steps_of (draft_drive p.drive)) = omega (arith, inside, ap length listed, length-map steps draft_step) in
        let seen : slice_index_or (steps_of (draft_drive p.drive)) i (draft_step s) ≡ draft_step (get_or steps i s) = ap (λ xs. slice_index_or xs i (draft_step s)) listed ∙ get_or-map draft_step steps i s (draft_step s) inside in
        let range = subst (λ x. KeepsRule (step_range (draft_of p)) i x) seen ((step_rows p valid).range i (draft_step s) there) in
        let t : Step = get_or steps i s in
        let by_cpu : nat_lt t.cpu.0 (lookups.cpus (draft_of p)) ≡ true = (both (nat_lt t.cpu.0 (lookups.cpus (draft_of p))) (nat_lt t.tick.0 TICK_END && act_in_range t.act) range.keeps).0 in
        omega (arith, ltb-true t.cpu.0 (lookups.cpus (draft_of p)) by_cpu, cpus-drafted p.clusters)
    by_drive (Horizon h) same inside = absurd (omega arith)
