-- What the answer to a question says of the number of those that are put in order: its own where it fails, else that of those behind it.
use Rattle.std.specs.Prelude.{ℕ, ◌+◌, ◌<◌, ◌≡◌, refl, Bool, true, false, cond, Result}
use Rattle.std.proofs.Common.{sym, arith}
use Rattle.std.specs.Result.{IsErrAnd}
use Rattle.std.proofs.lemmas.Result.{err_from_is_err_and}
use Rattle.refusals.specs.declared.Refusal.{Refusal}
use Rattle.refusals.specs.Numbers.{number, answered}

-- a refusal has a number
pub numbered : (q : Refusal) → 0 < number q
numbered q = grind arith

-- what `?` hands on is the refusal that it found
pub handed : {A : Type 0} (r : Result A Refusal) (q : Refusal) {n : ℕ} → IsErrAnd r (λ e. e ≡ q) → number q ≡ n → answered r ≡ n
handed r q i e =
    let p = err_from_is_err_and r i in
    rw (p.1, p.2) e

-- where a question fails, and where it passes: the number is that of the later ones
pub refused : (q : Refusal) (asked : Bool) (n later : ℕ) → number q ≡ cond asked 0 n → number q ≡ cond asked later n
refused q true n later f = absurd (omega (arith, numbered q, f))
refused q false n later f = f

pub passed : (asked : Bool) (n : ℕ) {x later : ℕ} → 0 ≡ cond asked 0 (n + 1) → x ≡ later → x ≡ cond asked later (n + 1)
passed true n f g = g
passed false n f g = absurd (omega (arith, f))

-- the same of two questions at once
pub both_refused : (q : Refusal) (one two : Bool) (m n later : ℕ) → number q ≡ cond one (cond two 0 n) m → number q ≡ cond one (cond two later n) m
both_refused q true two m n later f = refused q two n later f
both_refused q false two m n later f = f

pub both_passed : (one two : Bool) (m n : ℕ) {x later : ℕ} → 0 ≡ cond one (cond two 0 (n + 1)) (m + 1) → x ≡ later → x ≡ cond one (cond two later (n + 1)) (m + 1)
both_passed true two m n f g = passed two n f g
both_passed false two m n f g = absurd (omega (arith, f))
