-- Who is no party of a year owes nothing and gets nothing.
use Rattle.std.specs.Prelude.{ℕ, ◌<◌, Bool, ◌&&◌}
use Rattle.std.proofs.Math.Bool.{true, false}
use Rattle.std.proofs.Math.Path.{◌≡◌, refl}
use Rattle.std.proofs.Common.{arith}
use Rattle.std.proofs.Math.Dec.{eqb}
use borrow.Author.Tests.{ltb-false}
use Rattle.ids.specs.Tests.{any_at}
use Rattle.limits.specs.Limits.{registrations}
use Rattle.year.specs.declared.Year.{Year}
use Rattle.year.specs.Year.{known, seller, obligation, size}
use Rattle.year.specs.Sound.{Sound}
use Rattle.year.specs.Limits.{size_is}
use Rattle.owed.specs.Facts.{facts_of}
use Rattle.owed_laws.specs.Parties.{Known, compliance-none, test-none, credit-none, lse-none}
use Rattle.statement.specs.Statement.{has_registration, has_obligation}
use Rattle.claim_history.specs.Columns.{Column, pays, tests, gets, receives, party, owes}

module _ {y : Year} (S : Sound y) (K : Known (facts_of y)) where
  others : (s : ℕ) → has_registration y.terms s ≡ false → (i : ℕ) → i < registrations → known y.terms i ≡ true → eqb (seller y.terms i) s ≡ false
  unfolding has_registration
  others s none i l k = go (eqb (seller y.terms i) s) refl
    where
      go : (b : Bool) → eqb (seller y.terms i) s ≡ b → b ≡ false
      go false q = refl
      go true q =
          absurd (let z : ◌≡◌ {A = ℕ} 0 1 = cc (none, any_at (size y.terms) (λ j. known y.terms j && eqb (seller y.terms j) s) i (omega (arith, size_is S.terms)) (rw (k, q))) in omega arith)

  pub owes-none : (c : Column) (k i : ℕ) → party c y.terms i ≡ false → owes c (facts_of y) k i ≡ 0
  unfolding party owes has_obligation
  owes-none pays k s e = compliance-none K s (others s e) k
  owes-none tests k s e = test-none K s (others s e) k
  owes-none gets k s e = credit-none K s (others s e) k
  owes-none receives k j e = lse-none (facts_of y) k j (omega (arith, ltb-false 0 (obligation y.terms j) e))
