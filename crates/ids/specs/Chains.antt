-- `any`, `all` and a sum over a range of ids are those over the ids below its end.
use Rattle.std.specs.Prelude.{ℕ, zero, suc, ◌+◌, ◌≡◌, refl, Bool, true, false, ◌&&◌, ◌||◌, map}
use Rattle.std.proofs.Common.{sym, ◌∙◌, arith}
use Rattle.std.proofs.Math.Bool.{or-false, or_assoc, and_assoc}
use Rattle.std.specs.List.{list_any, list_all, range_with_len, fold, sum}
use Rattle.ids.specs.Ids.{any_to, all_to, sum_to}
use Rattle.ids.specs.Sums.{sum_step}
use Rattle.ids.specs.Tests.{any_step, all-step}

and-true : (x : Bool) → (x && true) ≡ x
and-true true = refl
and-true false = refl

module _ (p : ℕ → Bool) where
  any-from : (a n : ℕ) → (any_to a p || list_any p (range_with_len a n)) ≡ any_to (a + n) p
  unfolding any_to
  any-from a zero =
      let none : a + 0 ≡ a = omega arith in
      rw none (or-false (any_to a p))
  any-from a (suc n) =
      let same : a + 1 + n ≡ a + suc n = omega arith in
      sym (or_assoc (any_to a p) (p a) (list_any p (range_with_len (a + 1) n))) ∙ (rw (same, any_step a p) at (any-from (a + 1) n))

  pub any_over : (n : ℕ) → list_any p (range_with_len 0 n) ≡ any_to n p
  unfolding any_to
  any_over n =
      let all : 0 + n ≡ n = omega arith in
      rw all at (any-from 0 n)

  all-from : (a n : ℕ) → (all_to a p && list_all p (range_with_len a n)) ≡ all_to (a + n) p
  unfolding all_to
  all-from a zero =
      let none : a + 0 ≡ a = omega arith in
      rw none (and-true (all_to a p))
  all-from a (suc n) =
      let same : a + 1 + n ≡ a + suc n = omega arith in
      sym (and_assoc (all_to a p) (p a) (list_all p (range_with_len (a + 1) n))) ∙ (rw (same, all-step a p) at (all-from (a + 1) n))

  pub all_over : (n : ℕ) → list_all p (range_with_len 0 n) ≡ all_to n p
  unfolding all_to
  all_over n =
      let all : 0 + n ≡ n = omega arith in
      rw all at (all-from 0 n)

module _ (f : ℕ → ℕ) where
  sum-from : (a n so : ℕ) → so ≡ sum_to a f → fold ◌+◌ so (map f (range_with_len a n)) ≡ sum_to (a + n) f
  sum-from a zero so e =
      let none : a + 0 ≡ a = omega arith in
      rw none e
  sum-from a (suc n) so e =
      let same : a + 1 + n ≡ a + suc n = omega arith in
      rw same at (sum-from (a + 1) n (so + f a) (omega (arith, e, sum_step a f)))

  pub sum_over : (n : ℕ) → sum (map f (range_with_len 0 n)) ≡ sum_to n f
  unfolding sum_to
  sum_over n =
      let all : 0 + n ≡ n = omega arith in
      rw all at (sum-from 0 n 0 refl)
