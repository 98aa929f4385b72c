use Rattle.std.proofs.Common.{◌≡◌, ◌<◌, ℕ, true}
use Rattle.rt_rules.specs.Numbers.{has}
use Rattle.rank_afresh.specs.Visits.{HasMore}
use Rattle.rank_afresh.proofs.visits.Visits.add_all.Given as goal

-- the first clusters are added
abbrev pub invariant-loop-position : goal.invariant-loop-position
invariant-loop-position l = record {
  more : HasMore l.initial.self l.self;
  all : (n : ℕ) → n < l.position → has n l.self.positions ≡ true;
}
