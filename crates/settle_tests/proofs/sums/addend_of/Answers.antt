-- `settle_tests::sums::addend_of` meets its contract: what is committed is worth no more than fits, since both factors are within their limits.
use Prim.Native.Nat.{◌≤◌}
use native.Mathlib.Omega.{arith}
use native.Mathlib.Nat.{mul-le-mul}
use Rattle.limits.specs.Limits.{nominated_limit, rate_limit}
use Rattle.settle_tests.specs.Sums.{committed-in, rate-in}
use Rattle.settle_tests.proofs.sums.addend_of.Goals as goal

pub overflow_mul-result : goal.overflow_mul-result
overflow_mul-result c =
    let H = c.args.year.now.valid in
    let l = c.requires.i_lt_registrations in
    let kw : c.new-committed.result.0 ≤ nominated_limit = rw (c.new-committed.ensures, c.get.ensures) (committed-in H c.requires.ready l) in
    let rate : c.get-4.result ≤ rate_limit = rw c.get-4.ensures (rate-in H c.requires.ready l) in record { fits = omega (arith, mul-le-mul kw rate) }
