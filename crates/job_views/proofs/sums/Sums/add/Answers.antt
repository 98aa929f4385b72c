use Rattle.std.proofs.Common.{◌*◌, ◌^◌, arith}
use Rattle.std.proofs.lemmas.Int.{ints}
use Rattle.job_views.proofs.sums.Sums.add.Goals as goal

pub returns-clause-fits : goal.returns-clause-fits
returns-clause-fits c = λ n h. record {
  late_few = omega (arith, h.late_few, c.late_with-self.ensures.few);
  units_few = omega (arith, h.units_few, c.from.ensures);
  preemptions_few = omega (arith, h.preemptions_few, c.from-2.ensures);
  migrations_few = omega (arith, h.migrations_few, c.from-3.ensures);
  moves_few = omega (arith, h.moves_few, c.from-4.ensures);
  requests_few = omega (arith, h.requests_few, c.from-5.ensures);
  queued_few = omega (arith, h.queued_few, c.from-6.ensures);
  sum_low = let low = c.plus-self.ensures.low (2 ^ 64 * n) h.sum_low in omega (arith, ints, low);
  sum_high = let high = c.plus-self.ensures.high (2 ^ 64 * n) h.sum_high in omega (arith, ints, high);
}
