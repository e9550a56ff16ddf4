-- A digit alone, or the digits of the tenth part and one more; a number of 64 bits has no more than 20. Assumes nothing.
use Rattle.std.proofs.Common.{arith}
use Rattle.text.proofs.Putting.{digit_one, digit-more}
use Rattle.text.proofs.Decimals.{decimal-length}
use Rattle.text.proofs.+put_decimal.Goals as goal

pub returns-then-n-lt10-clause-puts_at : goal.returns-then-n-lt10-clause-puts_at
returns-then-n-lt10-clause-puts_at t c = digit_one _ _ _ _ c.if-n-lt10.true c.put.ensures

pub returns-clause-puts_at : goal.returns-clause-puts_at
returns-clause-puts_at t c = digit-more _ _ c.if-n-lt10.false c.put_decimal-next.ensures.puts_at c.put-2.ensures

pub returns-clause-upper_bound : goal.returns-clause-upper_bound
returns-clause-upper_bound t c =
    let p = digit-more _ _ c.if-n-lt10.false c.put_decimal-next.ensures.puts_at c.put-2.ensures in
    omega (arith, p.after_is, decimal-length c.args.n c.ranges.n.fits)
