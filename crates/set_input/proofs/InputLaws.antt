-- A set that is not made is refused, and one that can be played is not.
use Rattle.std.proofs.Common.{◌≡◌, ℕ, List, refl, sym, ap, ◌∙◌, subst}
use Rattle.std.specs.Prelude.{Option, None, Some, Result, Err, IsOk}
use Rattle.rt_base.specs.declared.TheConstants.{MOST_SET_BYTES}
use Rattle.rt_task.specs.declared.Parts.{Parts}
use Rattle.rt_task.specs.declared.bad_set.BadSet.{BadSet}
use Rattle.rt_task.specs.declared.bad_set.SetStop.{SetStop}
use Rattle.rt_task.specs.declared.bad_set.SetStop.TheVariants.{Bad, NoMemory}
use Rattle.rt_task.specs.Answers.{Stops}
use Rattle.rt_fault.specs.Reading.{TakesAll}
use Rattle.rt_fault.specs.declared.status.Status.TheVariants.{BadInput}
use Rattle.rt_fault.specs.Stops.{unmade}
use Rattle.set_read.specs.Sets.{set}
use Rattle.set_input.specs.Ends.{Reading}
use Rattle.set_input.specs.Inputs.{WasRefused, CanPlay}
use Rattle.set_input.proofs.EndLaws.{IsToldWithin}

-- a set that is not made is refused with its refusal
pub stop-refused : (stop : SetStop) (b : BadSet) (r : Result Parts BadSet) → Stops stop r → unmade stop ≡ BadInput b → r ≡ Err b
stop-refused (Bad x) b r told same = cc
stop-refused NoMemory b r told same = cc

-- ---- a set that can be played

pub can_play-told : (left : Option (List ℕ)) → CanPlay left → IsToldWithin MOST_SET_BYTES left
can_play-told None can = absurd can
can_play-told (Some xs) can = record { bytes = xs; left_is = refl; within = can.0 }

pub can_play-unrefused : (source : Reading) (b : BadSet) → CanPlay source.old.left → WasRefused source b → ⊥
can_play-unrefused source b can refused = by_left source.old.left can refused.all
  where
    by_left : (left : Option (List ℕ)) → CanPlay left → TakesAll left source.new.left refused.bytes → ⊥
    by_left None able all = able
    by_left (Some xs) able all =
        let wrong : IsOk {T = Parts} {E = BadSet} (Err b) = subst IsOk (ap set (sym all.0) ∙ refused.refused) able.1 in
        cc
