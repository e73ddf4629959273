-- Laws of tables of items: how many fields and bits they have, and one more item read or written.
use Rattle.std.specs.Prelude.{◌≡◌, refl, length}
use Rattle.std.proofs.Math.Path.{sym, ap}
use Rattle.std.proofs.Common.{◌∙◌, suc-mul, add-one, length-append}
use mathlib.Core.List.{List, ◌++◌, append_assoc, append-nil}
use Prim.Native.Nat.{ℕ, zero, suc, ◌+◌, ◌*◌, ◌≤◌, ◌<◌}
use native.Mathlib.Omega.{arith}
use Rattle.bits.specs.Table.{total, times, fields_at, laid, Fit}
use Rattle.bits.specs.TableLaws.{total-append, fields-append, length_fields, narrow-split, laid-again}

module _ {A : Type 0} (xs : List A) where
  pub length-times : (n : ℕ) → length (times n xs) ≡ n * length xs
  unfolding times
  length-times zero = omega arith
  length-times (suc n) = rw (length-append xs (times n xs), length-times n, suc-mul) (omega arith)

  pub times_more : (n : ℕ) → times (n + 1) xs ≡ times n xs ++ xs
  unfolding times
  times_more zero = append-nil xs
  times_more (suc n) = ap (λ (k : ℕ). times k xs) (add-one (suc n)) ∙ ap (λ (l : List A). xs ++ l) (ap (λ (k : ℕ). times k xs) (sym (add-one n)) ∙ times_more n) ∙ sym (append_assoc xs (times n xs) xs)

  -- item k of n has others behind it
  pub times-split : (k n : ℕ) → k < n → (rest : List A) × (times n xs ≡ (times k xs ++ xs) ++ rest)
  unfolding times
  times-split k zero h = absurd (omega arith)
  times-split zero (suc n) h = (times n xs, refl)
  times-split (suc k) (suc n) h =
      let r = times-split k n (omega arith) in
      (r.0, ap (λ (l : List A). xs ++ l) r.1 ∙ simp append_assoc)

pub total-times : (ws : List ℕ) (n : ℕ) → total (times n ws) ≡ n * total ws
unfolding times
total-times ws zero = omega arith
total-times ws (suc n) = rw (total-append ws (times n ws), total-times ws n, suc-mul) (omega arith)

-- one more item
pub length_more : (ws : List ℕ) (k : ℕ) → length (times (k + 1) ws) ≡ length (times k ws) + length ws
length_more ws k = rw (times_more ws k) (length-append (times k ws) ws)

pub total-more-item : (ws : List ℕ) (k : ℕ) → total (times (k + 1) ws) ≡ total (times k ws) + total ws
total-more-item ws k = rw (times_more ws k) (total-append (times k ws) ws)

-- item k of n
module _ (ws : List ℕ) (n k : ℕ) (h : k < n) where
  pub length-item : length (times k ws) + length ws ≤ length (times n ws)
  length-item =
      let r = times-split ws k n h in
      omega (arith, ap length r.1, length-append (times k ws ++ ws) r.0, length-append (times k ws) ws)

  pub total-item : total (times k ws) + total ws ≤ total (times n ws)
  total-item =
      let r = times-split ws k n h in
      omega (arith, ap total r.1, total-append (times k ws ++ ws) r.0, total-append (times k ws) ws)

  pub fit-item : {xs : List ℕ} {p : ℕ} (q : ℕ) → Fit xs p (times n ws) → q ≡ p + total (times k ws) → Fit xs q ws
  fit-item q f e =
      let r = times-split ws k n h in
      let t = narrow-split (times k ws ++ ws) r.0 (rw r.1 at f.narrows) in
      record { narrows = (narrow-split (times k ws) ws t.0).1; within = omega (arith, total-item, f.within); small = omega (arith, total-item, f.small) }

-- one more item read into out from a place on, behind the k that are there
pub out-item : (xs : List ℕ) (p to : ℕ) (ws out old : List ℕ) (k at q : ℕ) → at ≡ to + length (times k ws) → q ≡ p + total (times k ws) → at ≤ length old
    → out ≡ laid to (fields_at xs p (times k ws)) old → laid at (fields_at xs q ws) out ≡ laid to (fields_at xs p (times (k + 1) ws)) old
out-item xs p to ws out old k at q e f h g =
    let fs = fields_at xs p (times k ws) in
    let place : at ≡ to + length fs = omega (arith, length_fields xs p (times k ws)) in
    let more : fields_at xs p (times (k + 1) ws) ≡ fs ++ fields_at xs q ws = rw (times_more ws k, f) (fields-append xs p (times k ws) ws) in
    rw (place, g, more) (laid-again to fs old (fields_at xs q ws) (omega arith))
