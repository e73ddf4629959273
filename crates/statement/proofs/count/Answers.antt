-- `statement::count` meets its contract.
use mathlib.Core.Bool.{Bool, true, false, cond}
use mathlib.Core.List.{List, [], ◌∷◌}
use mathlib.Core.Path.{◌≡◌, refl, sym, ◌∙◌}
use Prim.Native.Nat.{ℕ, zero, suc, ◌+◌}
use native.Mathlib.Omega.{arith}
use lib.ListN.{length}
use Rattle.std.specs.Prelude.{count_by}
use Rattle.std.proofs.Common.{rules}
use Rattle.std.proofs.lemmas.List.Recursion.{is_count_by}
use Rattle.ids.specs.Ids.{holds, sum_to, count_to}
use Rattle.statement.proofs.count.Goals as goal

-- a sum from its first summand on
sum-first : (n : ℕ) (f : ℕ → ℕ) → sum_to (suc n) f ≡ f 0 + sum_to n (λ i. f (suc i))
unfolding sum_to
sum-first zero f = omega arith
sum-first (suc n) f = omega (arith, sum-first n f)

none-counted : count_to 0 (holds []) ≡ 0
unfolding sum_to
none-counted = refl

one_more : (b : Bool) (marks : List Bool) → count_to (suc (length marks)) (holds (b ∷ marks)) ≡ cond b (1 + count_to (length marks) (holds marks)) (count_to (length marks) (holds marks))
one_more true marks = sum-first (length marks) (λ i. cond (holds (true ∷ marks) i) 1 0)
one_more false marks = sum-first (length marks) (λ i. cond (holds (false ∷ marks) i) 1 0) ∙ omega arith

-- so marks are counted from the first on, as a list's are
counted : (marks : List Bool) → count_to (length marks) (holds marks) ≡ count_by (λ b. b) marks
counted = is_count_by (λ marks. count_to (length marks) (holds marks)) (λ b. b) none-counted one_more

pub returns : goal.returns
returns c =
    let n : c.count.result ≡ count_by (λ (b : Bool). b) c.args.marks = search rules in
    let all : length c.args.marks ≡ 16 = search rules in n ∙ sym (rw all at (counted c.args.marks))
