-- A statement reads back: one line for each seller with a registration and each LSE with an obligation, rising; their amounts; the sums.
use Rattle.std.specs.Prelude.{ℕ, ◌+◌, ◌<◌, true, List, ◌≡◌, eqb, ℤ, pos, ◌+ℤ◌}
use Rattle.std.proofs.Math.Bool.{cond}
use Rattle.std.proofs.Math.Path.{ap}
use Rattle.std.proofs.Common.{◌∙◌}
use Rattle.ids.specs.Ids.{count_to}
use Rattle.limits.specs.Limits.{parties}
use Rattle.year.specs.declared.Terms.{Terms}
use Rattle.year.specs.declared.Amounts.{Amounts}
use Rattle.year.specs.Sound.{SoundAmounts}
use Rattle.statement.specs.Statement.{has_registration, has_obligation}
use Rattle.statement.specs.ReadBack.{sumℤ, sellers_in, lses_in, amount_at, seller_line, lse_line, seller_in, compliance_in, test_in, credit_in, lse_in, charges_in, credits_in}
use Rattle.statement.specs.Reading.{count-below, line-id, line-rising, sum-lines, sum_of}
use Rattle.statement.specs.Starts.{less, Starts, line_seller, line_lse, seller-line, lse-line}

module _ {T : Terms} {k : ℕ} {now before : Amounts} {xs : List ℕ} (f : Starts T k now before xs) (a : SoundAmounts now) (b : SoundAmounts before) where
  -- every seller with a registration has a line, every line is of such a seller, and the sellers rise, so that none has two
  pub seller-has-line : (s : ℕ) → s < parties → has_registration T s ≡ true → (i : ℕ) × (i < sellers_in xs) × (line_seller xs i ≡ s)
  seller-has-line s l e =
      (count_to s (has_registration T), rw f.sellers (count-below parties (has_registration T) s l e), (seller-line f a b s l e).id)

  pub line-has-seller : (i : ℕ) → i < sellers_in xs → (line_seller xs i < parties) × (has_registration T (line_seller xs i) ≡ true)
  line-has-seller i l =
      let r = line-id parties (has_registration T) (line_seller xs) (λ s m e. (seller-line f a b s m e).id) i (rw f.sellers at l) in
      (r.0, r.1)

  pub sellers-rise : (i j : ℕ) → i < j → j < sellers_in xs → line_seller xs i < line_seller xs j
  sellers-rise i j l m =
      line-rising parties (has_registration T) (line_seller xs) (λ s n e. (seller-line f a b s n e).id) i j l (rw f.sellers at m)

  -- so too the LSEs with an obligation
  pub lse-has-line : (j : ℕ) → j < parties → has_obligation T j ≡ true → (i : ℕ) × (i < lses_in xs) × (line_lse xs i ≡ j)
  lse-has-line j l e =
      (count_to j (has_obligation T), rw f.lses (count-below parties (has_obligation T) j l e), (lse-line f a b j l e).id)

  pub line-has-lse : (i : ℕ) → i < lses_in xs → (line_lse xs i < parties) × (has_obligation T (line_lse xs i) ≡ true)
  line-has-lse i l =
      let r = line-id parties (has_obligation T) (line_lse xs) (λ j m e. (lse-line f a b j m e).id) i (rw f.lses at l) in
      (r.0, r.1)

  pub lses-rise : (i j : ℕ) → i < j → j < lses_in xs → line_lse xs i < line_lse xs j
  lses-rise i j l m =
      line-rising parties (has_obligation T) (line_lse xs) (λ s n e. (lse-line f a b s n e).id) i j l (rw f.lses at m)

  -- the amounts of a seller with a registration, by their bits in its line
  seller-amount : (c : ℕ) (h : ℕ → ℤ) → ((i : ℕ) → i < parties → has_registration T i ≡ true → amount_at xs (seller_line xs (count_to i (has_registration T)) + c) ≡ h i)
      → (s : ℕ) → s < parties → has_registration T s ≡ true → seller_in xs c s ≡ h s
  seller-amount c h is s l e =
      ap (λ n. sumℤ n (λ i. cond (eqb (line_seller xs i) s) (amount_at xs (seller_line xs i + c)) (pos 0))) f.sellers
      ∙ sum_of parties (has_registration T) (line_seller xs) (λ i. amount_at xs (seller_line xs i + c)) h s l (λ i m y. ((seller-line f a b i m y).id, is i m y)) ∙ rw e

  pub compliance-reads : (s : ℕ) → s < parties → has_registration T s ≡ true → compliance_in xs s ≡ less now.compliance before.compliance s
  unfolding compliance_in
  compliance-reads = seller-amount 4 (less now.compliance before.compliance) (λ i l e. (seller-line f a b i l e).compliance)

  pub test-reads : (s : ℕ) → s < parties → has_registration T s ≡ true → test_in xs s ≡ less now.test before.test s
  unfolding test_in
  test-reads = seller-amount 46 (less now.test before.test) (λ i l e. (seller-line f a b i l e).test)

  pub credit-reads : (s : ℕ) → s < parties → has_registration T s ≡ true → credit_in xs s ≡ less now.credit before.credit s
  unfolding credit_in
  credit-reads = seller-amount 88 (less now.credit before.credit) (λ i l e. (seller-line f a b i l e).credit)

  -- the amount of an LSE with an obligation
  pub lse-reads : (j : ℕ) → j < parties → has_obligation T j ≡ true → lse_in xs j ≡ less now.lse before.lse j
  unfolding lse_in
  lse-reads j l e =
      ap (λ n. sumℤ n (λ i. cond (eqb (line_lse xs i) j) (amount_at xs (lse_line xs i + 4)) (pos 0))) f.lses
      ∙ sum_of parties (has_obligation T) (line_lse xs) (λ i. amount_at xs (lse_line xs i + 4)) (less now.lse before.lse) j l
      (λ i m y. ((lse-line f a b i m y).id, (lse-line f a b i m y).credit))
      ∙ rw e

  -- the statement's charges and credits
  pub charges-read : charges_in xs
      ≡ sumℤ parties (λ s. cond (has_registration T s) (less now.compliance before.compliance s +ℤ less now.test before.test s) (pos 0))
  unfolding charges_in
  charges-read =
      ap (λ n. sumℤ n (λ i. amount_at xs (seller_line xs i + 4) +ℤ amount_at xs (seller_line xs i + 46))) f.sellers
      ∙ sum-lines parties (has_registration T) (λ i. amount_at xs (seller_line xs i + 4) +ℤ amount_at xs (seller_line xs i + 46))
      (λ s. less now.compliance before.compliance s +ℤ less now.test before.test s)
      (λ i l e. rw ((seller-line f a b i l e).compliance, (seller-line f a b i l e).test))

  pub credits-read : credits_in xs
      ≡ sumℤ parties (λ s. cond (has_registration T s) (less now.credit before.credit s) (pos 0))
      +ℤ sumℤ parties (λ j. cond (has_obligation T j) (less now.lse before.lse j) (pos 0))
  unfolding credits_in
  credits-read =
      let sellers =
      ap (λ n. sumℤ n (λ i. amount_at xs (seller_line xs i + 88))) f.sellers
      ∙ sum-lines parties (has_registration T) (λ i. amount_at xs (seller_line xs i + 88)) (less now.credit before.credit) (λ i l e. (seller-line f a b i l e).credit) in
      let lses =
      ap (λ n. sumℤ n (λ i. amount_at xs (lse_line xs i + 4))) f.lses
      ∙ sum-lines parties (has_obligation T) (λ i. amount_at xs (lse_line xs i + 4)) (less now.lse before.lse) (λ i l e. (lse-line f a b i l e).credit) in
      rw (sellers, lses)
