-- The line of a reservation: what is left of its budget, the clock of its last refill, and the client at its front.
use Rattle.std.specs.Prelude.{ℕ, List, [], ◌∷◌, codes, decimal}
use Rattle.rt_model.specs.Group.{Group, resv}
use Rattle.rt_model.specs.Past.{Past}
use Rattle.rt_model.specs.Reservations.{front, last, left}
use Rattle.set_canonical.specs.Words.{resv_kind_word}
use Rattle.trace_lines.specs.Grammar.{number_word}
use Rattle.why_texts.specs.Pieces.{state_line, task_or_dash}

module _ (g : Group) where
  abbrev pub resv_line : ℕ → Past → List ℕ
  resv_line r past = state_line (
      codes "resv " ∷ (resv g r).name ∷ codes " " ∷ resv_kind_word (resv g r).kind
      ∷ codes " left " ∷ decimal (left g r past) ∷ codes " of " ∷ decimal (resv g r).budget
      ∷ codes " refilled " ∷ number_word (last g r past) ∷ codes " front " ∷ task_or_dash g (front g r past) ∷ [])
