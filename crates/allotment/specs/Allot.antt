-- The allotment of an amount by weights, for any number of parties, and its facts.
use Rattle.std.specs.Prelude.{ℕ, zero, suc, ◌+◌, ◌*◌, ◌-◌, ◌/◌, ◌≤◌, ◌<◌, ◌≡◌}
use Rattle.std.proofs.Common.{sym, ◌∙◌, inl, inr, arith, le_trans, div-mul-le_self, le-div_iff_mul-le, eq-zero-or-pos, mul-le-mul_left, mul-le-mul_right, mul-zero, mul-div_cancel, le_refl, add-zero, zero-lt-suc}
use Rattle.std.proofs.Math.Nat.{div-zero, div-le_of_le-mul, zero-div, add-mul-div_right, sub_self}
use Rattle.ids.specs.Ids.{sum_to}
use Rattle.ids.specs.Sums.{sum_same, sum_one}

-- of a by the n weights w, share i: a × S(i + 1) / W less a × S(i) / W, with S(i) the sum of the weights before i and W of all
unfoldable pub share : ℕ → (ℕ → ℕ) → ℕ → ℕ → ℕ
share n w a i = a * sum_to (suc i) w / sum_to n w - a * sum_to i w / sum_to n w

pub div_mono : (a b k : ℕ) → a ≤ b → a / k ≤ b / k
div_mono a b zero h = rw (div-zero a, div-zero b) (le_refl 0)
div_mono a b (suc k) h = (le-div_iff_mul-le {k = suc k} (zero-lt-suc k)).1 (le_trans (div-mul-le_self a (suc k)) h)

-- laws of quotients by any W, which the shares' laws are read off: the first m differences of the quotients a × S(i) / W add up to the last
quotients_sum : (m : ℕ) (w : ℕ → ℕ) (a W : ℕ) → sum_to m (λ i. a * sum_to (suc i) w / W - a * sum_to i w / W) ≡ a * sum_to m w / W
unfolding sum_to
quotients_sum zero w a W = sym (rw (mul-zero a) (zero-div W))
quotients_sum (suc m) w a W = omega (arith, quotients_sum m w a W, div_mono (a * sum_to m w) (a * sum_to (suc m) w) W (mul-le-mul_left a (omega arith)))

-- which is at most a, where W is the sum of these weights
quotient_within : (a W : ℕ) → a * W / W ≤ a
quotient_within a W = div-le_of_le-mul W (omega arith)

-- no difference exceeds b, if what is divided grows by at most b × W
quotients_most : (x y b W : ℕ) → y ≤ x + b * W → y / W - x / W ≤ b
quotients_most x y b W h = elim (eq-zero-or-pos W) [
  | inl e ↦ rw (e, div-zero y, div-zero x) (omega arith)
  | inr l ↦ omega (arith, add-mul-div_right x b l, div_mono y (x + b * W) W h)
]

-- the first m shares add up to a × S(m) / W
shares_sum : (n m : ℕ) (w : ℕ → ℕ) (a : ℕ) → sum_to m (share n w a) ≡ a * sum_to m w / sum_to n w
unfolding share
shares_sum n m w a = quotients_sum m w a (sum_to n w)

-- if there is a weight above 0, the shares add up to the amount; else every share is 0
shares-all : (n : ℕ) (w : ℕ → ℕ) (a : ℕ) → 0 < sum_to n w → sum_to n (share n w a) ≡ a
unfolding share
shares-all n w a l = quotients_sum n w a (sum_to n w) ∙ mul-div_cancel a l

pub share-none : (n : ℕ) (w : ℕ → ℕ) (a i : ℕ) → sum_to n w ≡ 0 → share n w a i ≡ 0
unfolding share sum_to
share-none n w a i e = rw (e, div-zero (a * (sum_to i w + w i)), div-zero (a * sum_to i w))

shares-le : (n : ℕ) (w : ℕ → ℕ) (a : ℕ) → sum_to n (share n w a) ≤ a
unfolding share
shares-le n w a = rw (quotients_sum n w a (sum_to n w)) (quotient_within a (sum_to n w))

-- a weight of 0 gets 0
pub share-zero : (n : ℕ) (w : ℕ → ℕ) (a i : ℕ) → w i ≡ 0 → share n w a i ≡ 0
unfolding share sum_to
share-zero n w a i e = rw (e, add-zero (sum_to i w)) (sub_self (a * sum_to i w / sum_to n w))

-- no share exceeds b, if the amount times its weight is at most b times all weights
pub share-most : (n : ℕ) (w : ℕ → ℕ) (a i b : ℕ) → a * w i ≤ b * sum_to n w → share n w a i ≤ b
unfolding share sum_to
share-most n w a i b h = quotients_most (a * sum_to i w) (a * sum_to (suc i) w) b (sum_to n w) (omega arith)

-- nor its weight, if the amount is at most all weights
share-le : (n : ℕ) (w : ℕ → ℕ) (a i : ℕ) → a ≤ sum_to n w → share n w a i ≤ w i
unfolding share sum_to
share-le n w a i h = quotients_most (a * sum_to i w) (a * sum_to (suc i) w) (w i) (sum_to n w) (omega (arith, mul-le-mul_right (w i) h))

-- weights that are equal have equal shares
pub share-same : {n i : ℕ} {w v : ℕ → ℕ} (a : ℕ) → ((j : ℕ) → j < n → w j ≡ v j) → i < n → share n w a i ≡ share n v a i
unfolding share
share-same {n} {i} {w} {v} a h l =
    rw (sum_same n h, sum_same (suc i) {f = w} {g = v} (λ j m. h j (omega arith)), sum_same i {f = w} {g = v} (λ j m. h j (omega arith)))

-- The allotment's facts, for any number of parties: the shares add up to the amount if there is a weight above 0, none exceeds its weight
-- if the amount is at most all weights, and together they are never more than the amount.
pub record Allotted (n : ℕ) (w : ℕ → ℕ) (a : ℕ) (shares : ℕ → ℕ) : Type 0 where
  pub all : 0 < sum_to n w → sum_to n shares ≡ a
  pub at_most : a ≤ sum_to n w → (i : ℕ) → shares i ≤ w i
  pub within : sum_to n shares ≤ a

pub allotted : (n : ℕ) (w : ℕ → ℕ) (a : ℕ) → Allotted n w a (share n w a)
unfolding share sum_to
allotted n w a = record {
  all = λ l. quotients_sum n w a (sum_to n w) ∙ mul-div_cancel a l;
  at_most = λ h i. quotients_most (a * sum_to i w) (a * sum_to (suc i) w) (w i) (sum_to n w) (omega (arith, mul-le-mul_right (w i) h));
  within = rw (quotients_sum n w a (sum_to n w)) (quotient_within a (sum_to n w));
}

-- nor does a share exceed the amount
pub one-share : {n a i : ℕ} {w shares : ℕ → ℕ} → Allotted n w a shares → i < n → shares i ≤ a
one-share {shares = shares} h l = le_trans (sum_one shares l) h.within
