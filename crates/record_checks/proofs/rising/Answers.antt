-- Every pair of ids passed rises; the first that does not settles the question.
use mathlib.Core.Path.{◌≡◌, refl, sym}
use Prim.Native.Nat.{ℕ, ◌+◌, ◌-◌, ◌*◌, ◌≤◌, ◌<◌}
use borrow.Author.Tests.{lt-ltb, le-ltb}
use native.Mathlib.Nat.{mul-le-mul_right}
use lib.Dec.{ltb}
use Rattle.ids.specs.Ids.{at, all_to}
use Rattle.ids.specs.Tests.{all_more, all-fails}
use Rattle.record_layouts.specs.Questions.{rises}
use native.Mathlib.Omega.{arith}
use Rattle.record_checks.proofs.rising.Goals as goal

-- two more items lie within the n
room : (w n k : ℕ) → k + 1 < n → w * k + 2 * w ≤ n * w
room w n k h = let more : (k + 2) * w ≤ n * w = mul-le-mul_right w (omega arith) in omega arith

-- none or one item rises
pub returns-then-n-eq0 : goal.returns-then-n-eq0
unfolding rises all_to
returns-then-n-eq0 c = let none : c.args.n ≡ 0 = omega (arith, c.if-n-eq0.true) in rw none

pub loop-k-init : goal.loop-k-init
unfolding all_to
loop-k-init c = (omega arith, omega (arith, c.if-n-eq0.false), omega arith, refl)

pub returns-then-values-q : goal.returns-then-values-q
unfolding rises
returns-then-values-q c =
    let a = c.args in
    let l = c.loop-k in
    let vs = a.values.now in
    let q : a.from + a.fields * (l.k - 1 + 1) ≡ l.p + a.fields = omega (arith, l.invariant.2) in
    sym (all-fails (a.n - 1) (λ i. ltb (at vs (a.from + a.fields * i)) (at vs (a.from + a.fields * (i + 1)))) (l.k - 1) (omega (arith, l.invariant.0))
    (rw (q, ← l.invariant.2) (le-ltb (at vs l.p) (at vs (l.p + a.fields)) c.if-values-q.true)))

pub loop-k-preserved : goal.loop-k-preserved
loop-k-preserved c =
    let a = c.args in
    let l = c.loop-k in
    let vs = a.values.now in
    let next : l.k + 1 - 1 ≡ l.k - 1 + 1 = omega (arith, l.invariant.0) in
    let q : a.from + a.fields * (l.k - 1 + 1) ≡ l.p + a.fields = omega (arith, l.invariant.2) in (
      omega arith,
      omega arith,
      rw next (sym q),
      rw next (all_more (l.k - 1) (λ i. ltb (at vs (a.from + a.fields * i)) (at vs (a.from + a.fields * (i + 1)))) l.invariant.3
          (rw (q, ← l.invariant.2) (lt-ltb (at vs l.p) (at vs (l.p + a.fields)) (omega (arith, c.if-values-q.false))))),
    )

pub returns : goal.returns
unfolding rises
returns c =
    let l = c.loop-k in
    let n : l.k ≡ c.args.n = omega (arith, l.invariant.1) in
    sym (rw n at l.invariant.3)
