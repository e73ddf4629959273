-- What a year has billed balances, and nobody else but the parties has an amount in it.
use Rattle.std.specs.Prelude.{ℕ, ◌+◌, ◌<◌, false, ◌≡◌, refl}
use Rattle.std.proofs.Common.{◌∙◌, arith}
use Rattle.ids.specs.Ids.{at, sum_to}
use Rattle.ids.specs.Sums.{sum_same}
use Rattle.limits.specs.Limits.{parties, lses}
use Rattle.year.specs.declared.Terms.{Terms}
use Rattle.year.specs.declared.Amounts.{Amounts}
use Rattle.year.specs.declared.Year.{Year}
use Rattle.year.specs.Year.{no_amounts, obligation}
use Rattle.ids.specs.Sets.{get_or-replicate-same}
use Rattle.year.specs.Sound.{Sound}
use Rattle.owed.specs.Facts.{facts_of}
use Rattle.owed.specs.Owed.{amounts, credit, lse, charges, credits}
use Rattle.owed_laws.specs.Limits.{limits}
use Rattle.owed_laws.specs.Balance.{balance}
use Rattle.owed_laws.specs.Parties.{Known}
use Rattle.claim_history.specs.Columns.{Column, pays, tests, gets, receives, party, column, owes, amounts-at}
use Rattle.claim_history.proofs.Blank.{owes-none}

abbrev pub sum_in : Column → Amounts → ℕ
sum_in c a = sum_to parties (at (column c a))

pub record Billed (T : Terms) (a : Amounts) : Type 0 where
  pub blank : (c : Column) (i : ℕ) → i < parties → party c T i ≡ false → at (column c a) i ≡ 0
  pub balanced : sum_to parties (λ s. at (column pays a) s + at (column tests a) s) ≡ sum_in gets a + sum_in receives a

pub none-at : (c : Column) (i : ℕ) → at (column c no_amounts) i ≡ 0
unfolding column
none-at pays i = get_or-replicate-same parties i 0
none-at tests i = get_or-replicate-same parties i 0
none-at gets i = get_or-replicate-same parties i 0
none-at receives i = get_or-replicate-same parties i 0

-- before the first close
pub billed-none : (T : Terms) → Billed T no_amounts
unfolding column sum_to
billed-none T = record { blank = λ c i l e. none-at c i; balanced = refl }

-- at a close
pub billed-amounts : {y : Year} → Sound y → Known (facts_of y) → 0 < sum_to lses (obligation y.terms) → (k : ℕ) → Billed y.terms (amounts (facts_of y) k)
unfolding owes charges credits
billed-amounts {y} S K l k =
    let F = facts_of y in
    let own : (c : Column) (i : ℕ) → i < parties → at (column c (amounts F k)) i ≡ owes c F k i = λ c. amounts-at c F k in
    record {
      blank = λ c i b e. own c i b ∙ owes-none S K c k i e;
      balanced =
          sum_same parties (λ s b. omega (arith, own pays s b, own tests s b))
          ∙ balance (limits S) k l
          ∙ omega (arith, sum_same parties {f = at (column gets (amounts F k))} {g = credit F k} (own gets), sum_same parties {f = at (column receives (amounts F k))} {g = lse F k} (own receives));
    }
