-- The table has the first part of each kind.
use mathlib.Core.Bool.{true}
use mathlib.Core.List.{List, [], ◌∷◌}
use mathlib.Core.Path.{◌≡◌, refl}
use Prim.Native.Nat.{ℕ}
use borrow.Author.Tests.{eqb-true}
use native.Mathlib.Omega.{arith}
use lib.Dec.{eqb}
use Rattle.ids.specs.Ids.{at, all_to}
use Rattle.ids.specs.Tests.{all-at}
use Rattle.record_layouts.specs.Parts.{start_of, kinds}
use Rattle.record_layouts.proofs.first_of.Goals as goal

abbrev firsts : List ℕ
firsts = 0 ∷ 1 ∷ 2 ∷ 3 ∷ 4 ∷ 7 ∷ 10 ∷ 11 ∷ 12 ∷ 15 ∷ 17 ∷ []

each : all_to 11 (λ k. eqb (at firsts k) (start_of kinds k)) ≡ true
unfolding all_to start_of kinds
each = refl

pub returns : goal.returns
returns c = eqb-true _ _ (all-at 11 (λ k. eqb (at firsts k) (start_of kinds k)) each c.args.kind (omega arith))
