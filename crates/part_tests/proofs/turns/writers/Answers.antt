use Rattle.std.proofs.Common.{◌≡◌, ℕ, zero, suc, ◌<◌, [], ◌∷◌, map, sym, subst, arith}
use Rattle.std.specs.Prelude.{Contains}
use Rattle.part_tests.proofs.turns.writers.Goals as goal

both_there : (a b q : ℕ) → a ≡ 0 → b ≡ 1 → q < 2 → Contains (a ∷ b ∷ []) q
both_there a b zero first second lt = (0, omega arith, first)
both_there a b (suc zero) first second lt = (1, omega arith, second)
both_there a b (suc (suc q)) first second lt = absurd (omega arith)

pub close-requires-clause-all : goal.close-requires-clause-all
close-requires-clause-all c = λ q lt.
    subst (λ l. Contains (map (λ p. p.cpu) l) q) (sym c.in_ok-seats.ensures)
    (both_there c.args.first.cpu c.args.second.cpu q c.requires.first.2 c.requires.second.2 (let e = c.requires.cpus in omega arith))
