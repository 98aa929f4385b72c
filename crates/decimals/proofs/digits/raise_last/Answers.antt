use Rattle.std.proofs.Common.{◌≡◌, length, ap, decimal, arith}
use Rattle.std.proofs.lemmas.Fmt.{decimal_nonempty}
use Rattle.decimals.proofs.DigitLaws.{last_digit, decimal_raised}
use Rattle.decimals.proofs.digits.raise_last.Goals as goal

pub overflow_sub-last : goal.overflow_sub-last
overflow_sub-last c = omega (arith, c.len-last.ensures, decimal_nonempty c.args.n c.ranges.n.fits, ap length c.requires.digits)

pub index_mut-requires : goal.index_mut-requires
index_mut-requires c = omega (arith, c.len-last.ensures, decimal_nonempty c.args.n c.ranges.n.fits, ap length c.requires.digits)

pub overflow_add-index_mut : goal.overflow_add-index_mut
overflow_add-index_mut c =
    let all : c.len-last.result ≡ length (decimal c.args.n) = omega (arith, c.len-last.ensures, ap length c.requires.digits) in
    let last = rw (all, c.requires.digits) at c.index_mut.ensures.value in
    omega (arith, last, last_digit c.args.n c.ranges.n.fits c.index_mut.result.now)

pub returns-clause-digits : goal.returns-clause-digits
returns-clause-digits c =
    let all : c.len-last.result ≡ length (decimal c.args.n) = omega (arith, c.len-last.ensures, ap length c.requires.digits) in
    let last = rw (all, c.requires.digits) at c.index_mut.ensures.value in
    rw (all, c.requires.digits, last, last_digit c.args.n c.ranges.n.fits c.index_mut.result.now) (decimal_raised c.args.n c.ranges.n.fits c.requires.last)
