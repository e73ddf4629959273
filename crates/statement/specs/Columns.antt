-- Amounts in columns of sixteen ids: each fits, and what stands in the sellers' columns.
use Rattle.std.specs.Prelude.{ℕ, ◌+◌, ◌-◌, ◌*◌, ◌<◌, List, ◌++◌, ◌≡◌, length}
use Rattle.std.proofs.Common.{◌∙◌, length-append, get_or-append-add}
use Rattle.std.proofs.Math.Decide.{dec_lt}
use native.Mathlib.Omega.{arith}
use Rattle.std.proofs.Math.ListN.{get_or-append}
use Rattle.ids.specs.Ids.{at}
use Rattle.ids.specs.Each.{Each}
use Rattle.limits.specs.Limits.{parties}
use Rattle.year.specs.declared.Amounts.{Amounts}
use Rattle.year.specs.Sound.{Fits42, SoundAmounts}
use Rattle.statement.specs.Statement.{seller_columns}

-- n columns of amounts that 42 bits of two's complement hold
abbrev pub Columns : ℕ → List ℕ → Type 0
Columns n l = Each Fits42 0 (parties * n) l

-- columns one after another: where those behind the first stand, and that all fit
after-column : {n : ℕ} (l k : List ℕ) (i : ℕ) → length l ≡ n → at (l ++ k) (n + i) ≡ at k i
after-column l k i e = rw (← e) (get_or-append-add l k i 0)

each_append : {n m : ℕ} {l k : List ℕ} → Each Fits42 0 n l → Each Fits42 0 m k → Each Fits42 0 (n + m) (l ++ k)
each_append {n} {m} {l} {k} a b =
    record {
      long = length-append l k ∙ rw (a.long, b.long);
      at = λ i h. elim (dec_lt i n) [
        | yes y ↦ rw (get_or-append l k 0 i (omega (arith, a.long))) (a.at i y)
        | no y ↦
            let e : i ≡ n + (i - n) = omega arith in
            rw (e, after-column l k (i - n) a.long) (b.at (i - n) (omega arith))
      ];
    }

module _ {a : Amounts} (s : SoundAmounts a) where
  pub columns-sound : Columns 3 (seller_columns a)
  unfolding seller_columns
  columns-sound = each_append s.compliance (each_append s.test s.credit)

  pub compliance-at : (j i : ℕ) → i < parties → j ≡ i → at (seller_columns a) j ≡ at a.compliance i
  unfolding seller_columns
  compliance-at j i l e = rw e (get_or-append a.compliance (a.test ++ a.credit) 0 i (omega (arith, s.compliance.long)))

  pub test_at : (j i : ℕ) → i < parties → j ≡ parties + i → at (seller_columns a) j ≡ at a.test i
  unfolding seller_columns
  test_at j i l e = rw e (after-column a.compliance (a.test ++ a.credit) i s.compliance.long ∙ get_or-append a.test a.credit 0 i (omega (arith, s.test.long)))

  pub credit-at : (j i : ℕ) → i < parties → j ≡ 32 + i → at (seller_columns a) j ≡ at a.credit i
  unfolding seller_columns
  credit-at j i l e =
      let f : j ≡ parties + (parties + i) = omega arith in
      rw f (after-column a.compliance (a.test ++ a.credit) (parties + i) s.compliance.long ∙ after-column a.test a.credit i s.test.long)
