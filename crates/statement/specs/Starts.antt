-- A statement's bytes start with its fields: the line of each party stands in its place, and says what is due now less what was before.
use Rattle.std.specs.Prelude.{ℕ, ◌+◌, ◌*◌, ◌<◌, true, List, ◌++◌, ◌≡◌, refl, ℤ, pos, ◌-ℤ◌}
use Rattle.std.proofs.Common.{ap, ◌∙◌, zero-add, add_assoc, arith}
use Rattle.ids.specs.Ids.{at, count_to}
use Rattle.limits.specs.Limits.{parties, sellers}
use Rattle.bits.specs.PackLaws.{read_back}
use Rattle.year.specs.declared.Terms.{Terms}
use Rattle.year.specs.declared.Amounts.{Amounts}
use Rattle.year.specs.Year.{lse_count}
use Rattle.year.specs.Sound.{SoundTerms, SoundAmounts}
use Rattle.year.specs.Limits.{lse-count-is}
use Rattle.statement.specs.Statement.{widths_of, values_of, has_registration, has_obligation, seller_columns, line_fields, seller_fields, lse_fields, lines_to, statement_fields, statement_of}
use Rattle.statement.specs.Lines.{bits_in, lines-bits}
use Rattle.statement.specs.Sizes.{same_length, statement-fits}
use Rattle.statement.specs.Columns.{Columns, columns-sound, compliance-at, test_at, credit-at}
use Rattle.statement.specs.Value42.{value42, value-difference}
use Rattle.statement.specs.ReadBack.{month_in, sellers_in, lses_in, id_at, amount_at, seller_line, lse_line}
use Rattle.statement.specs.Reading.{Holds, holds-all, holds-split, holds-line, holds-amount}

-- one amount less another, at an id
abbrev pub less : List ℕ → List ℕ → ℕ → ℤ
less now before i = pos (at now i) -ℤ pos (at before i)

-- xs starts with the statement of month k
pub record Starts (T : Terms) (k : ℕ) (now before : Amounts) (xs : List ℕ) : Type 0 where
  pub month : month_in xs ≡ k
  pub sellers : sellers_in xs ≡ count_to parties (has_registration T)
  pub lses : lses_in xs ≡ count_to parties (has_obligation T)
  pub seller : (s : ℕ) → s < parties → has_registration T s ≡ true → Holds xs (seller_line xs (count_to s (has_registration T))) (seller_fields now before s)
  pub lse : (j : ℕ) → j < parties → has_obligation T j ≡ true → Holds xs (lse_line xs (count_to j (has_obligation T))) (lse_fields now before j)

starts_with : {T : Terms} {k : ℕ} {now before : Amounts} (xs : List ℕ) → SoundTerms T → Holds xs 0 (statement_fields T k now before) → Starts T k now before xs
unfolding statement_fields month_in sellers_in lses_in
starts_with {T} {k} {now} {before} xs s all =
    let p = has_registration T in
    let q = has_obligation T in
    let A = lines_to sellers p (seller_fields now before) in
    let B = lines_to (lse_count T) q (lse_fields now before) in
    let lines = holds-split xs 14 A B all.1.1.1 in
    let start : 14 + bits_in A ≡ 14 + 130 * sellers_in xs = omega (arith, lines-bits 3 (seller_columns now) (seller_columns before) p sellers, all.1.0) in
    let later : Holds xs (14 + 130 * sellers_in xs) B = rw start at lines.1 in
    record {
      month = all.0;
      sellers = all.1.0;
      lses = all.1.1.0 ∙ ap (λ n. count_to n q) (lse-count-is s);
      seller = holds-line xs 14 3 (seller_columns now) (seller_columns before) p sellers lines.0;
      lse = λ j l. holds-line xs (14 + 130 * sellers_in xs) 1 now.lse before.lse q (lse_count T) later j (omega (arith, lse-count-is s));
    }

pub starts : {T : Terms} {k : ℕ} (now before : Amounts) (rest : List ℕ) → SoundTerms T → k < 16 → Starts T k now before (statement_of T k now before ++ rest)
unfolding statement_of
starts {T} {k} now before rest s l =
    let fs = statement_fields T k now before in
    starts_with (statement_of T k now before ++ rest) s
    (holds-all _ 0 fs (read_back (widths_of fs) (values_of fs) rest (statement-fits s k now before l) (same_length fs)))

-- what the line of party i at p says: its id, and in each column what is due now less what was before
pub record Line (xs : List ℕ) (p n : ℕ) (now before : List ℕ) (i : ℕ) : Type 0 where
  pub id : id_at xs p ≡ i
  pub amount : (k : ℕ) → k < n → amount_at xs (p + (4 + 42 * k)) ≡ less now before (parties * k + i)

line_reads : {xs : List ℕ} {p n : ℕ} {now before : List ℕ} {i : ℕ} → Columns n now → Columns n before → i < parties → Holds xs p (line_fields n now before i) → Line xs p n now before i
unfolding line_fields id_at amount_at
line_reads {xs} {p} {n} {now} {before} {i} a b l h =
    record {
      id = h.0;
      amount = λ k m. ap value42 (rw (add_assoc p 4 (42 * k)) at (holds-amount xs (p + 4) n now before i h.1 k m)) ∙ value-difference _ _ (a.at (parties * k + i) (omega arith)) (b.at (parties * k + i) (omega arith));
    }

-- the ids of the lines
abbrev pub line_seller : List ℕ → ℕ → ℕ
line_seller xs i = id_at xs (seller_line xs i)

abbrev pub line_lse : List ℕ → ℕ → ℕ
line_lse xs j = id_at xs (lse_line xs j)

-- the lines of sellers and of LSEs
pub record SellerLine (xs : List ℕ) (now before : Amounts) (s i : ℕ) : Type 0 where
  pub id : line_seller xs i ≡ s
  pub compliance : amount_at xs (seller_line xs i + 4) ≡ less now.compliance before.compliance s
  pub test : amount_at xs (seller_line xs i + 46) ≡ less now.test before.test s
  pub credit : amount_at xs (seller_line xs i + 88) ≡ less now.credit before.credit s

pub record LseLine (xs : List ℕ) (now before : Amounts) (j i : ℕ) : Type 0 where
  pub id : line_lse xs i ≡ j
  pub credit : amount_at xs (lse_line xs i + 4) ≡ less now.lse before.lse j

module _ {T : Terms} {k : ℕ} {now before : Amounts} {xs : List ℕ} (f : Starts T k now before xs) (a : SoundAmounts now) (b : SoundAmounts before) where
  pub seller-line : (s : ℕ) → s < parties → has_registration T s ≡ true → SellerLine xs now before s (count_to s (has_registration T))
  seller-line s l e =
      let h = line_reads (columns-sound a) (columns-sound b) l (f.seller s l e) in
      record {
        id = h.id;
        compliance = h.amount 0 (omega arith) ∙ rw (compliance-at a (0 + s) s l (omega arith), compliance-at b (0 + s) s l (omega arith));
        test = h.amount 1 (omega arith) ∙ rw (test_at a (parties + s) s l refl, test_at b (parties + s) s l refl);
        credit = h.amount 2 (omega arith) ∙ rw (credit-at a (32 + s) s l refl, credit-at b (32 + s) s l refl);
      }

  pub lse-line : (j : ℕ) → j < parties → has_obligation T j ≡ true → LseLine xs now before j (count_to j (has_obligation T))
  lse-line j l e =
      let h = line_reads a.lse b.lse l (f.lse j l e) in
      record { id = h.id; credit = rw (zero-add j) at (h.amount 0 (omega arith)) }
