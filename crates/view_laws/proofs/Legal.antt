-- Plays of all groups of a set are legal.
use Rattle.std.proofs.Common.{◌≡◌, ℕ, suc, ◌+◌, ◌<◌, List, [], ◌∷◌, length, arith, subst}
use Rattle.std.specs.Prelude.{slice_index_or, ⊤}
use Rattle.rt_task.specs.declared.Drive.{Drive}
use Rattle.rt_task.specs.declared.Drive.TheVariants.{Steps, Horizon}
use Rattle.rt_task.specs.declared.Parts.{Parts}
use Rattle.rt_rules.specs.declared.history.Entry.{Entry}
use Rattle.rt_model.specs.Group.{Group}
use Rattle.rt_model.specs.Histories.{IsLegal}
use Rattle.rt_plays.specs.Plays.{IsPlayBy, group_with}

-- a play is legal
pub legal-play : (drive : Drive) (g : Group) (es : List Entry) → IsPlayBy drive g es → IsLegal g es
legal-play (Steps steps) g es h = h.legal
legal-play (Horizon n) g es h = h.begun.legal

abbrev pub AreLegal : Parts → ℕ → List (List Entry) → Type 0
AreLegal p n [] = ⊤
AreLegal p n (es ∷ hs) = IsLegal (group_with p n) es × AreLegal p (n + 1) hs

pub each-legal : (p : Parts) (n : ℕ) (hs : List (List Entry)) → ((m : ℕ) → m < length hs → IsLegal (group_with p (n + m)) (slice_index_or hs m [])) → AreLegal p n hs
each-legal p n [] h = tt
each-legal p n (es ∷ hs) h = (first_one, each-legal p (n + 1) hs later_ones)
  where
    first_one : IsLegal (group_with p n) es
    first_one =
        let number : n + 0 ≡ n = omega arith in
        subst (λ k. IsLegal (group_with p k) es) number (h 0 (omega arith))

    later_ones : (m : ℕ) → m < length hs → IsLegal (group_with p (n + 1 + m)) (slice_index_or hs m [])
    later_ones m low =
        let number : n + suc m ≡ n + 1 + m = omega arith in
        subst (λ k. IsLegal (group_with p k) (slice_index_or hs m [])) number (h (suc m) (omega (arith, low)))
