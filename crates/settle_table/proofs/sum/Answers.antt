-- `settle_table::sum` meets its contract: the places of a slice are those from its front on. Assumes nothing.
use Rattle.std.proofs.Common.{ℕ, zero, suc, ◌≡◌, ◌+◌, ◌-◌, ◌≤◌, ◌<◌, List, length, take, drop, sum, refl, ◌∙◌, rules, arith, length-drop}
use Rattle.std.proofs.Math.Seq.{take-suc}
use Rattle.std.proofs.lemmas.List.{get_or-drop}
use Rattle.std.proofs.lemmas.List.Sums.{sum_by_push}
use Rattle.ids.specs.Ids.{at, sum_to}
use Rattle.settle_table.proofs.sum.Goals as goal

-- the sum of the n places of l from p on, and the same of a slice
module _ (l : List ℕ) (p : ℕ) where
  sum-front : (n : ℕ) → p + n ≤ length l → sum (take n (drop p l)) ≡ sum_to n (λ i. at l (p + i))
  unfolding sum_to
  sum-front zero h = refl
  sum-front (suc n) h =
      let z : n < length (drop p l) = omega (arith, length-drop p l) in
      rw (take-suc (drop p l) n 0 z, get_or-drop p l n 0) (omega (arith, sum-front n (omega arith), sum_by_push (λ x. x) (take n (drop p l)) (at l (p + n))))

  sum-slice : (n : ℕ) → p + n ≤ length l → sum (take (p + n - p) (drop p l)) ≡ sum_to n (λ i. at l (p + i))
  sum-slice n h = let z : p + n - p ≡ n = omega arith in rw z (sum-front n h)

pub sum-requires-clause-fits : goal.sum-requires-clause-fits
sum-requires-clause-fits c =
    let b = rw (← (sum-slice c.args.cells.now c.args.p c.args.n c.requires.0)) at c.requires.1 in search rules

pub returns : goal.returns
returns c =
    let part : c.sum.result ≡ sum (take (c.args.p + c.args.n - c.args.p) (drop c.args.p c.args.cells.now)) = search rules in
    part ∙ sum-slice c.args.cells.now c.args.p c.args.n c.requires.0
