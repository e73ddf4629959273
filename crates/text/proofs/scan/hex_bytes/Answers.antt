-- With i pairs passed, the front of out holds their bytes and the rest is as it was.
use mathlib.Core.Path.{◌≡◌, refl}
use native.Mathlib.Omega.{arith}
use lib.ListN.{length-set}
use Rattle.text.specs.Digits.{pairs}
use Rattle.text.proofs.Digits.{pairs-more}
use Rattle.text.proofs.scan.hex_bytes.Goals as goal

pub loop-i-init : goal.loop-i-init
unfolding pairs
loop-i-init c = (omega arith, refl, refl)

pub loop-i-preserved : goal.loop-i-preserved
loop-i-preserved c =
    let a = c.args in
    let l = c.loop-i in
    (omega arith, rw length-set l.invariant.1, rw (c.pair.ensures, l.invariant.2) (pairs-more a.s.now a.out.now l.i (omega (arith, c.min-n.ensures))))

pub returns : goal.returns
returns c =
    let l = c.loop-i in
    let n : l.i ≡ c.min-n.result = omega arith in record { value = omega arith; out_after = rw n at l.invariant.2 }
