-- Keys and links of a partition: nobody inherits, and the link is the first of the ranking.
use Rattle.std.specs.Prelude.{◌≡◌, ◌⊎◌, ℕ, unwrap_or}
use Rattle.rt_task.specs.declared.Protocol.TheVariants.{Fmlp, Mpcp}
use Rattle.rt_rules.specs.Numbers.{first}
use Rattle.rt_rules.specs.Rankings.{tasks_of}
use Rattle.rt_model.specs.BaseKeys.{base_key}
use Rattle.rt_model.specs.Group.{Group, cpus, protocol}
use Rattle.split_rules.specs.PartLinks.{boost, effective_key, linked, part, ranking}
use Rattle.split_rules.specs.PartPast.{PartPast, moves}
use Rattle.split_laws.specs.Parts.{IsSeat}

-- each semaphore is one whose holder is boosted
abbrev pub AllBoost : Group → Type 0
AllBoost g = (s : ℕ) → (protocol g s ≡ Fmlp) ⊎ (protocol g s ≡ Mpcp)

-- A task's key is its boost, or else its own base key: who waits, waits for a boosted task or for one of another partition.
abbrev pub KeyIsOwn : Type 0
KeyIsOwn = (g : Group) (q t : ℕ) (past : PartPast) → AllBoost g →
    effective_key g q t past ≡ unwrap_or (boost g q t past) (base_key g t (moves past))

-- The processor is linked to the first of the ranking, whatever it ran and was linked to.
abbrev pub LinkIsFirst : Type 0
LinkIsFirst = (g : Group) (q : ℕ) (past : PartPast) → IsSeat g q → cpus g (part g q) ≡ 1 →
    linked g q past ≡ first (tasks_of (ranking g q past))
