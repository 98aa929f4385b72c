use Rattle.std.proofs.Common.{◌≡◌, ℕ, List, rules}
use Rattle.std.specs.Prelude.{None, Option, replicate}
use Rattle.release_queue.specs.Timers.{tick_at}
use Rattle.group_jobs.proofs.KeptMoves.{replicated}
use Rattle.rank_afresh.specs.Moments.{IsLeast}
use Rattle.rank_afresh.proofs.moments.Moments.new.Goals as goal

none-waits : (count next : ℕ) (ticks : List (Option ℕ)) → ticks ≡ replicate count None → IsLeast next ticks
none-waits count next ticks is = λ t n some h. let none : tick_at ticks t ≡ None = rw is (replicated count t None) in cc

ticks-are : (c : goal.In_ok-vec) → c.in_ok-vec.field-0.items ≡ replicate c.args.count None
ticks-are c = search rules

pub invariant_of-result : goal.invariant_of-result
invariant_of-result c = none-waits c.args.count _ c.in_ok-vec.field-0.items (ticks-are c)
