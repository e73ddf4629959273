-- What is read from a statement in each column.
use Rattle.std.specs.Prelude.{ℕ, Bool, true, false, cond, List, ◌≡◌, refl, eqb, pos}
use Rattle.std.proofs.Common.{ap, arith, ne_eqb}
use Rattle.year.specs.declared.Terms.{Terms}
use Rattle.year.specs.declared.Amounts.{Amounts}
use Rattle.year.specs.Sound.{SoundTerms, SoundAmounts}
use Rattle.statement.specs.Statement.{has_registration, has_obligation}
use Rattle.statement.specs.ReadBack.{sellers_in, lses_in, compliance_in, test_in, credit_in, lse_in}
use Rattle.statement.specs.Reading.{sum-none}
use Rattle.statement.specs.Starts.{less, Starts, line_seller, line_lse}
use Rattle.statement.specs.ReadBackLaws.{compliance-reads, test-reads, credit-reads, lse-reads, line-has-seller, line-has-lse}
use Rattle.claim_history.specs.Columns.{Column, pays, tests, gets, receives, party, party-below, column, line_in}

-- ids of which p holds are none of which it does not
apart : (p : ℕ → Bool) (i s : ℕ) → p i ≡ true → p s ≡ false → eqb i s ≡ false
apart p i s t f = ne_eqb i s (λ e. absurd (let z : ◌≡◌ {A = ℕ} 0 1 = cc (ap p e) in omega arith))

-- what starts with a statement says the amounts to date less those of the close before, and nothing of others than the parties
module _ {T : Terms} {k : ℕ} {now before : Amounts} {xs : List ℕ} (f : Starts T k now before xs) (S : SoundTerms T) (a : SoundAmounts now) (b : SoundAmounts before) where
  says : (c : Column) (i : ℕ) → party c T i ≡ true → line_in c xs i ≡ less (column c now) (column c before) i
  unfolding line_in party column
  says pays i e = compliance-reads f a b i (party-below pays S i e) e
  says tests i e = test-reads f a b i (party-below tests S i e) e
  says gets i e = credit-reads f a b i (party-below gets S i e) e
  says receives i e = lse-reads f a b i (party-below receives S i e) e

  silent : (c : Column) (i : ℕ) → party c T i ≡ false → line_in c xs i ≡ pos 0
  unfolding line_in party compliance_in test_in credit_in lse_in
  silent pays i e = sum-none (sellers_in xs) _ (λ j l. rw (apart (has_registration T) (line_seller xs j) i (line-has-seller f a b j l).1 e))
  silent tests i e = sum-none (sellers_in xs) _ (λ j l. rw (apart (has_registration T) (line_seller xs j) i (line-has-seller f a b j l).1 e))
  silent gets i e = sum-none (sellers_in xs) _ (λ j l. rw (apart (has_registration T) (line_seller xs j) i (line-has-seller f a b j l).1 e))
  silent receives i e = sum-none (lses_in xs) _ (λ j l. rw (apart (has_obligation T) (line_lse xs j) i (line-has-lse f a b j l).1 e))

  pub reads : (c : Column) (i : ℕ) → line_in c xs i ≡ cond (party c T i) (less (column c now) (column c before) i) (pos 0)
  reads c i = go (party c T i) refl
    where
      go : (p : Bool) → party c T i ≡ p → line_in c xs i ≡ cond p (less (column c now) (column c before) i) (pos 0)
      go true e = says c i e
      go false e = silent c i e
