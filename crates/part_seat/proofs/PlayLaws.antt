-- What a step of the script, and a grant that is taken, make of a partition.
use Rattle.std.proofs.Common.{◌≡◌, ◌⊎◌, true, List, None, Some, refl, sym, ap, ◌∙◌, subst}
use Rattle.rt_task.specs.declared.Act.{Act}
use Rattle.split_rules.specs.declared.SplitAct.TheVariants.{Plain}
use Rattle.part_player.specs.Players.{PlayerOf, has_entry}
use Rattle.part_seat.specs.AtTurns.{ComesUnlock, HasActed, HasPlayed, IsPassedAt}
use Rattle.part_seat.specs.Partitions.{PartOf, Seat, books_in, cells_of}
use Rattle.part_seat.specs.declared.passed.Passed.{Passed}
use Rattle.part_seat.specs.declared.passed.PlayedStep.{PlayedStep}

-- a partition, by its player and its seats
abbrev pub part_of : PlayerOf → List Seat → PartOf
part_of x seats = record { setup = x.setup; cpu = x.cpu; entries = x.entries; seats = seats; room = x.room }

module _ (a : PartOf) (x x' : PlayerOf) (seats seats' l : List Seat) (r : PlayedStep) where
  -- what the step did at the semaphores
  abbrev pub Acts : PlayerOf → Type 0
  Acts b = ((books_in seats' ≡ books_in seats) × (r.passed ≡ None)) ⊎ HasActed b.cpu (books_in seats) (books_in seats') r.passed

  abbrev pub Passes : PlayerOf → Type 0
  Passes b = (c : Passed) → r.passed ≡ Some c → IsPassedAt b.setup b.cpu seats' c × ComesUnlock (part_of b seats)

  pub has-played : (b : PlayerOf) → part_of x seats ≡ a → b ≡ record x { begun = true } → x' ≡ has_entry r.entry b → l ≡ seats' → cells_of seats' ≡ cells_of seats
      → ((act : Act) × (r.entry.act ≡ Plain act)) → Acts b → Passes b → HasPlayed a (part_of x' l) r
  has-played b is begun ended same cells plain acts passed =
      subst (λ (m : PartOf). HasPlayed m (part_of x' l) r) is
      (subst (λ (k : List Seat). HasPlayed (part_of x seats) (part_of x' k) r) (sym same)
      (subst (λ (y : PlayerOf). HasPlayed (part_of x seats) (part_of y seats') r) (sym (ended ∙ ap (has_entry r.entry) begun))
      (record {
        same = record { setup = refl; cpu = refl; cells = cells };
        entries = refl;
        plain = plain;
        acts = subst Acts begun acts;
        passed = subst Passes begun passed;
      })))
