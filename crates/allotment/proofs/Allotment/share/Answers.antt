-- `Allotment::share` meets its contract: a total of 0 leaves no weight to pass; else the product is at most amount × total, and the quotients rise.
use Prim.Native.Nat.{ℕ, ◌+◌, ◌-◌, ◌*◌, ◌/◌}
use mathlib.Core.Path.{◌≡◌, refl, sym}
use native.Mathlib.Omega.{arith}
use native.Mathlib.Nat.{add-zero, div-zero}
use borrow.Author.Rules.{rules}
use Rattle.allotment.specs.Divisions.{divisions-none, divisions-some}
use Rattle.allotment.specs.Stepper.{Asks, Gives}
use Rattle.allotment.specs.declared.Allotment.{Allotment}
use Rattle.allotment.proofs.Allotment.share.Goals as goal

-- total 0: nothing is passed, nothing more can be, and no division is made
none : {s : Allotment} {x : ℕ} → Asks s x → s.total ≡ 0 → Gives s x (record { value = 0; next = s })
none {s} {x} k z =
    let e : s.passed ≡ s.passed + x = omega (arith, k.within) in record {
      value = sym (rw (z, div-zero (s.amount * (s.passed + x)), div-zero (s.amount * s.passed)));
      next = record { amount = refl; total = refl; passed = e; quotient = rw (← e) k.carried; divisions = rw (divisions-none 1 z) (sym (add-zero s.divisions)) };
    }

pub returns-then-self-eq0 : goal.returns-then-self-eq0
returns-then-self-eq0 c = none c.requires c.if-self-eq0.true

-- else one division is made
one : {s : Allotment} {x : ℕ} → Asks s x → (s.total ≡ 0 → ⊥) → let q = s.amount * (s.passed + x) / s.total in
    Gives s x (record { value = q - s.quotient; next = record { amount = s.amount; total = s.total; passed = s.passed + x; quotient = q; divisions = s.divisions + 1 } })
one {s} {x} k o =
    record {
      value = rw k.carried;
      next = record { amount = refl; total = refl; passed = refl; quotient = refl; divisions = rw (divisions-some 1 o) };
    }

pub returns : goal.returns
returns c = one (search rules) (search rules)
