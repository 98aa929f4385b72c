use Rattle.std.proofs.Common.{◌≡◌, ◌≢◌, ℕ, zero, suc, ◌<◌, [], ◌∷◌, refl, slice_index, arith}
use Rattle.std.specs.Prelude.{None, Some}
use Rattle.cluster_table.specs.Clusters.{fresh}
use Rattle.cluster_table.specs.Table.{Table, HasProcessor, HasTask}
use Rattle.part_tests.proofs.clusters.play_all.Goals as goal

abbrev opened : Table
opened = record {
  homes = 0 ∷ 0 ∷ 1 ∷ 2 ∷ 2 ∷ [];
  clusters = Some (fresh 0 2 8) ∷ None ∷ Some (fresh 3 2 8) ∷ [];
}

opened-fits : (q t : ℕ) → q < 5 → q ≢ 2 → t < 8 → HasProcessor opened (slice_index opened.homes q) q × HasTask opened (slice_index opened.homes q) t
opened-fits zero t low apart room = ((fresh 0 2 8, refl, (omega arith, omega arith)), (fresh 0 2 8, refl, room))
opened-fits (suc zero) t low apart room = ((fresh 0 2 8, refl, (omega arith, omega arith)), (fresh 0 2 8, refl, room))
opened-fits (suc (suc zero)) t low apart room = absurd (apart refl)
opened-fits (suc (suc (suc zero))) t low apart room = ((fresh 3 2 8, refl, (omega arith, omega arith)), (fresh 3 2 8, refl, room))
opened-fits (suc (suc (suc (suc zero)))) t low apart room = ((fresh 3 2 8, refl, (omega arith, omega arith)), (fresh 3 2 8, refl, room))
opened-fits (suc (suc (suc (suc (suc q))))) t low apart room = absurd (omega arith)

pub loop-q-init : goal.loop-q-init
loop-q-init g c =
    let is : c.expect-table.result ≡ opened = rw c.expect-table.ensures at c.open-table.ensures in
    rw is (record { count = refl; fit = opened-fits })
