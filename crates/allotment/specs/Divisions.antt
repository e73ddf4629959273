-- How many divisions an allotment makes (document 02's C-13), for any number of parties.
use Rattle.std.specs.Prelude.{ℕ, ◌+◌, ◌≤◌, Bool, true, false, cond, ◌≡◌, refl, eqb}
use Rattle.std.proofs.Common.{ap, arith, eq-eqb, ne_eqb}

-- one for each party, and none where the sum W of all weights is 0
unfoldable pub divisions : ℕ → ℕ → ℕ
divisions parties W = cond (eqb W 0) 0 parties

pub divisions-none : (parties : ℕ) {W : ℕ} → W ≡ 0 → divisions parties W ≡ 0
unfolding divisions
divisions-none parties {W} e = ap (λ b. cond b 0 parties) (eq-eqb W 0 e)

pub divisions-some : (parties : ℕ) {W : ℕ} → (W ≡ 0 → ⊥) → divisions parties W ≡ parties
unfolding divisions
divisions-some parties {W} o = ap (λ b. cond b 0 parties) (ne_eqb W 0 o)

-- one party more
pub divisions-step : (parties W : ℕ) → divisions (parties + 1) W ≡ divisions parties W + divisions 1 W
unfolding divisions
divisions-step parties W = omega (arith, go (eqb W 0))
  where
    go : (b : Bool) → cond b 0 (parties + 1) ≡ cond b 0 parties + cond b 0 1
    go true = refl
    go false = refl

pub divisions-le : (parties W : ℕ) → divisions parties W ≤ parties
unfolding divisions
divisions-le parties W = omega (arith, go (eqb W 0))
  where
    go : (b : Bool) → cond b 0 parties ≤ parties
    go true = omega arith
    go false = omega arith
