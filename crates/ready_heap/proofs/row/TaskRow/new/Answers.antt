use Rattle.std.proofs.Common.{◌≡◌, zero, suc, ℕ, replicate, refl, ap, ◌∷◌}
use Rattle.std.specs.Prelude.{None}
use Rattle.ready_heap.specs.Row.{keys_in}
use Rattle.ready_heap.proofs.row.TaskRow.new.Goals as goal

keys_in-replicate : (n : ℕ) → keys_in (replicate n None) ≡ replicate n None
keys_in-replicate zero = refl
keys_in-replicate (suc n) = ap (λ ks. None ∷ ks) (keys_in-replicate n)

pub returns : goal.returns
returns c = rw (c.in_ok-arena.ensures, c.in_ok-tasks.ensures.items, keys_in-replicate)
