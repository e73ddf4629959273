-- The four columns of a statement: compliance, test and credit by seller, credit by LSE.
use Rattle.std.specs.Prelude.{ℕ, ◌<◌, Bool, true, ◌&&◌, List, ◌≡◌, eqb, ℤ}
use Rattle.std.proofs.Math.Decide.{dec_lt}
use Rattle.std.proofs.Common.{arith, eqb-true, ltb-true}
use Rattle.std.proofs.Math.ListN.{get_or-eq_default}
use Rattle.ids.specs.Ids.{at}
use Rattle.ids.specs.Tables.{get_or-tabulate}
use Rattle.ids.specs.Tests.{and_parts, any_some}
use Rattle.limits.specs.Limits.{parties, sellers, lses}
use Rattle.year.specs.declared.Terms.{Terms}
use Rattle.year.specs.declared.Amounts.{Amounts}
use Rattle.year.specs.Year.{known, seller, obligation, size}
use Rattle.year.specs.Sound.{SoundTerms}
use Rattle.year.specs.Limits.{seller-below, lse-count-is}
use Rattle.owed.specs.Facts.{Facts}
use Rattle.owed.specs.Owed.{compliance, test, credit, lse, amounts}
use Rattle.statement.specs.Statement.{has_registration, has_obligation}
use Rattle.statement.specs.ReadBack.{compliance_in, test_in, credit_in, lse_in}

pub data Column : Type 0 where
  pays : Column
  tests : Column
  gets : Column
  receives : Column

-- whose lines it has, where the amounts to date stand, what they are, and what a statement says
unfoldable pub party : Column → Terms → ℕ → Bool
party pays T s = has_registration T s
party tests T s = has_registration T s
party gets T s = has_registration T s
party receives T j = has_obligation T j

unfoldable pub column : Column → Amounts → List ℕ
column pays a = a.compliance
column tests a = a.test
column gets a = a.credit
column receives a = a.lse

unfoldable pub owes : Column → Facts → ℕ → ℕ → ℕ
owes pays F k s = compliance F k s
owes tests F k s = test F k s
owes gets F k s = credit F k s
owes receives F k j = lse F k j

unfoldable pub line_in : Column → List ℕ → ℕ → ℤ
line_in pays x s = compliance_in x s
line_in tests x s = test_in x s
line_in gets x s = credit_in x s
line_in receives x j = lse_in x j

registered-below : (T : Terms) → SoundTerms T → (s : ℕ) → has_registration T s ≡ true → s < sellers
unfolding has_registration
registered-below T S s e =
    let r = any_some (size T) (λ i. known T i && eqb (seller T i) s) e in
    let q = eqb-true (seller T r.0) s (and_parts (known T r.0) (eqb (seller T r.0) s) r.2).1 in
    rw q at (seller-below S r.0)

obliged-below : (T : Terms) → SoundTerms T → (j : ℕ) → has_obligation T j ≡ true → j < lses
unfolding has_obligation obligation
obliged-below T S j e = elim (dec_lt j parties) [
  | yes l ↦ l
  | no n ↦
      let z : at T.obligations j ≡ 0 = get_or-eq_default T.obligations 0 (omega (arith, lse-count-is S)) in
      absurd (omega (arith, ltb-true 0 (at T.obligations j) e))
]

-- the parties are among the sixteen ids
pub party-below : (c : Column) {T : Terms} → SoundTerms T → (i : ℕ) → party c T i ≡ true → i < parties
unfolding party
party-below pays {T} S i e = registered-below T S i e
party-below tests {T} S i e = registered-below T S i e
party-below gets {T} S i e = registered-below T S i e
party-below receives {T} S i e = obliged-below T S i e

pub amounts-at : (c : Column) (F : Facts) (k i : ℕ) → i < parties → at (column c (amounts F k)) i ≡ owes c F k i
unfolding column owes amounts
amounts-at pays F k i l = get_or-tabulate (compliance F k) sellers i 0 l
amounts-at tests F k i l = get_or-tabulate (test F k) sellers i 0 l
amounts-at gets F k i l = get_or-tabulate (credit F k) sellers i 0 l
amounts-at receives F k i l = get_or-tabulate (lse F k) lses i 0 l
