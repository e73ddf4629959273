-- What 42 bits say in two's complement: of a statement's amount, this close's amount less that of the close before.
use Rattle.std.specs.Prelude.{ℕ, zero, suc, ◌-◌, ◌^◌, ◌≤◌, ◌<◌, Bool, true, false, cond, ◌≡◌, refl, ltb, ℤ, pos, negsuc, ◌-ℤ◌}
use Rattle.std.proofs.Common.{ap, arith, add-zero, lt-ltb, le-ltb, ltb-true, ltb-false}
use Rattle.statement.specs.Statement.{difference}

unfoldable pub value42 : ℕ → ℤ
value42 x = cond (ltb x (2 ^ 41)) (pos x) (negsuc (2 ^ 42 - suc x))

pub value-difference : (now before : ℕ) → now < 2 ^ 41 → before < 2 ^ 41 → value42 (difference now before) ≡ pos now -ℤ pos before
unfolding value42 difference
value-difference now zero p q =
    let h : difference now 0 ≡ now = omega arith in
    rw (h, lt-ltb now (2 ^ 41) p, add-zero now)
value-difference now (suc before) p q = go (ltb now (suc before)) refl
  where
    go : (b : Bool) → ltb now (suc before) ≡ b → value42 (difference now (suc before)) ≡ cond b (negsuc (suc before - suc now)) (pos (now - suc before))
    go true e =
        let l : now < suc before = ltb-true now (suc before) e in
        let h : difference now (suc before) ≡ 2 ^ 42 - (suc before - now) = omega arith in
        let m : 2 ^ 41 ≤ 2 ^ 42 - (suc before - now) = omega arith in
        let z : 2 ^ 42 - suc (2 ^ 42 - (suc before - now)) ≡ suc before - suc now = omega arith in
        rw (h, le-ltb (2 ^ 42 - (suc before - now)) (2 ^ 41) m) (ap negsuc z)
    go false e =
        let l : suc before ≤ now = ltb-false now (suc before) e in
        let h : difference now (suc before) ≡ now - suc before = omega arith in
        let m : now - suc before < 2 ^ 41 = omega arith in
        rw (h, lt-ltb (now - suc before) (2 ^ 41) m)
