-- A set has reservations under P-RES alone.
use Rattle.std.proofs.Common.{◌≡◌, Bool, true, false, List, [], ◌∷◌, ◌++◌, length, ap, refl}
use Rattle.std.specs.Prelude.{None, Some, map, ◌&&◌, if◌then◌else◌}
use Rattle.rt_task.specs.Draft.{draft_of, draft_resv}
use Rattle.rt_task.specs.Refusals.{first_failing}
use Rattle.rt_task.specs.SharingRules.{resv_sharing}
use Rattle.rt_task.specs.Validity.{IsValid}
use Rattle.rt_task.specs.declared.Parts.{Parts}
use Rattle.rt_task.specs.declared.Resv.{Resv}
use Rattle.rt_task.specs.declared.draft.DraftResv.{DraftResv}
use Rattle.rt_task.specs.RuleWords.{is_p_res}
use Rattle.rt_plays.proofs.ValidRows.{passes_rows}

pub no_resvs : (p : Parts) → IsValid p → is_p_res p.plugin ≡ false → p.resvs ≡ []
unfolding resv_sharing
no_resvs p valid plain = by_resvs p.resvs (passes_rows p valid).resvs
  where
    by_resvs : (rs : List Resv) → first_failing (resv_sharing (draft_of p)) [] (map draft_resv rs) ≡ None → rs ≡ []
    by_resvs [] h = refl
    by_resvs (r ∷ rs) h = absurd (clash (is_p_res (draft_of p).plugin) plain h)
      where
        clash : (b : Bool) → b ≡ false → (if b && true then first_failing (resv_sharing (draft_of p)) ([] ++ draft_resv r ∷ []) (map draft_resv rs) else Some (length {A = DraftResv} [])) ≡ None → ⊥
        clash true e k = cc
        clash false e k = cc
