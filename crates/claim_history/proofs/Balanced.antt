-- A statement's charges equal its credits: it says the difference of two bills that balance.
use Rattle.std.specs.Prelude.{ℕ, zero, suc, ◌+◌, ◌<◌, Bool, List, ◌≡◌, ℤ, neg_ℤ, ◌+ℤ◌, ◌-ℤ◌}
use Rattle.std.proofs.Math.Bool.{true, false, cond}
use Rattle.std.proofs.Math.Path.{refl}
use Rattle.std.proofs.Common.{ap, sym, ◌∙◌, arith}
use Rattle.std.proofs.Math.IntN.{pos, +ℤ_assoc, +ℤ_comm, neg_ℤ-+ℤ}
use Rattle.ids.specs.Ids.{at, sum_to}
use Rattle.limits.specs.Limits.{parties, sellers}
use Rattle.year.specs.declared.Terms.{Terms}
use Rattle.year.specs.declared.Amounts.{Amounts}
use Rattle.year.specs.Sound.{SoundAmounts}
use Rattle.statement.specs.ReadBack.{sumℤ, charges_in, credits_in}
use Rattle.statement.specs.Starts.{less, Starts}
use Rattle.statement.specs.ReadBackLaws.{charges-read, credits-read}
use Rattle.claim_history.specs.Columns.{Column, pays, tests, gets, receives, party, column}
use Rattle.claim_history.proofs.Billed.{Billed, sum_in}

four : (a b c d : ℤ) → (a +ℤ b) +ℤ (c +ℤ d) ≡ (a +ℤ c) +ℤ (b +ℤ d)
four a b c d =
    +ℤ_assoc a b (c +ℤ d) ∙ rw (← +ℤ_assoc b c d, +ℤ_comm b c, +ℤ_assoc c b d) (sym (+ℤ_assoc a c (b +ℤ d)))

differences : (m n k l : ℕ) → (pos m -ℤ pos n) +ℤ (pos k -ℤ pos l) ≡ pos (m + k) -ℤ pos (n + l)
differences m n k l =
    four (pos m) (neg_ℤ (pos n)) (pos k) (neg_ℤ (pos l)) ∙ ap (λ x. pos (m + k) +ℤ x) (sym (neg_ℤ-+ℤ (pos n) (pos l)))

-- a sum of differences is the difference of the sums
sum-differences : (n : ℕ) (g : ℕ → ℤ) (f h : ℕ → ℕ) → ((i : ℕ) → i < n → g i ≡ pos (f i) -ℤ pos (h i))
    → sumℤ n g ≡ pos (sum_to n f) -ℤ pos (sum_to n h)
unfolding sumℤ sum_to
sum-differences zero g f h e = refl
sum-differences (suc n) g f h e =
    rw (sum-differences n g f h (λ i l. e i (omega arith)), e n (omega arith)) (differences (sum_to n f) (sum_to n h) (f n) (h n))

module _ {T : Terms} {k : ℕ} {a b : Amounts} {xs : List ℕ} (f : Starts T k a b xs) (A : SoundAmounts a) (B : SoundAmounts b)
    (now : Billed T a) (before : Billed T b) where
  abbrev difference : Column → ℕ → ℤ
  difference c = less (column c a) (column c b)

  -- who has no line has no difference
  blank-line : (c : Column) (i : ℕ) → i < parties → cond (party c T i) (difference c i) (pos 0) ≡ difference c i
  blank-line c i l = go (party c T i) (now.blank c i l) (before.blank c i l)
    where
      go : (p : Bool) → (p ≡ false → at (column c a) i ≡ 0) → (p ≡ false → at (column c b) i ≡ 0) → cond p (difference c i) (pos 0) ≡ difference c i
      go true p q = refl
      go false p q = rw (p refl, q refl)

  blank-lines : (s : ℕ) → s < sellers
      → cond (party pays T s) (difference pays s +ℤ difference tests s) (pos 0)
      ≡ pos (at (column pays a) s + at (column tests a) s) -ℤ pos (at (column pays b) s + at (column tests b) s)
  unfolding party
  blank-lines s l = go (party pays T s) (now.blank pays s l) (now.blank tests s l) (before.blank pays s l) (before.blank tests s l)
    where
      go : (p : Bool) → (p ≡ false → at (column pays a) s ≡ 0) → (p ≡ false → at (column tests a) s ≡ 0)
          → (p ≡ false → at (column pays b) s ≡ 0) → (p ≡ false → at (column tests b) s ≡ 0)
          → cond p (difference pays s +ℤ difference tests s) (pos 0)
          ≡ pos (at (column pays a) s + at (column tests a) s) -ℤ pos (at (column pays b) s + at (column tests b) s)
      go true p q r t = differences (at (column pays a) s) (at (column pays b) s) (at (column tests a) s) (at (column tests b) s)
      go false p q r t = rw (p refl, q refl, r refl, t refl)

  credits-are : credits_in xs ≡ pos (sum_in gets a + sum_in receives a) -ℤ pos (sum_in gets b + sum_in receives b)
  unfolding party column
  credits-are =
      credits-read f A B
      ∙ rw (sum-differences parties _ (at (column gets a)) (at (column gets b)) (blank-line gets), sum-differences parties _ (at (column receives a)) (at (column receives b)) (blank-line receives))
      (differences (sum_in gets a) (sum_in gets b) (sum_in receives a) (sum_in receives b))

  charges-are : charges_in xs ≡ pos (sum_in gets a + sum_in receives a) -ℤ pos (sum_in gets b + sum_in receives b)
  unfolding party column
  charges-are =
      charges-read f A B
      ∙ sum-differences parties _ (λ s. at (column pays a) s + at (column tests a) s) (λ s. at (column pays b) s + at (column tests b) s) blank-lines
      ∙ rw (now.balanced, before.balanced)

  pub balanced : charges_in xs ≡ credits_in xs
  balanced = charges-are ∙ sym credits-are
