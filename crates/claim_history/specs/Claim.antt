-- Demand 3, as one claim about a whole list of calls and what a book answers to it. How the book comes to its answers is not in it.
use Rattle.std.specs.Prelude.{ℕ, ◌*◌, ◌≤◌, true, List, [], ◌∷◌, ◌++◌, map, ◌≡◌, length, ℤ, pos}
use Rattle.year.specs.declared.Terms.{Terms}
use Rattle.owed.specs.Facts.{Facts, facts_of}
use Rattle.owed.specs.Owed.{compliance, test, credit, lse, revenue}
use Rattle.statement.specs.Statement.{has_registration, has_obligation}
use Rattle.statement.specs.ReadBack.{compliance_in, test_in, credit_in, lse_in, charges_in, credits_in}
use Rattle.record_heads.specs.Record.{month_of}
use Rattle.book_recorded.specs.Recorded.{gather, alone, terms_in, recorded}
use Rattle.book_outcome.specs.Outcome.{record_in, post_number}
use Rattle.claim_history.specs.Runs.{Call, Answered, is_closing, acceptances, accepted_in, statements, so_far, Variant}

-- at an accepted close x, after the calls before it
module _ (before : List Answered) (x : Answered) where
  -- the terms that the records accepted before it set, and what the rules read of these records; this close's month
  abbrev terms : Terms
  terms = terms_in (accepted_in before)

  abbrev facts : Facts
  facts = facts_of (recorded (accepted_in before))

  abbrev month : ℕ
  month = month_of (record_in x.call.bytes).head

  -- a sum over the statements up to this one, itself included
  abbrev sum : (List ℕ → ℤ) → ℤ
  sum f = so_far f (statements (before ++ x ∷ []))

  pub record AtClose : Type 0 where
    -- charges equal credits in cents
    pub balanced : charges_in x.after ≡ credits_in x.after
    -- each party's amounts so far, each sort for itself, are its amount to date
    pub compliances : (s : ℕ) → has_registration terms s ≡ true → sum (λ x. compliance_in x s) ≡ pos (compliance facts month s)
    pub tests : (s : ℕ) → has_registration terms s ≡ true → sum (λ x. test_in x s) ≡ pos (test facts month s)
    pub credits : (s : ℕ) → has_registration terms s ≡ true → sum (λ x. credit_in x s) ≡ pos (credit facts month s)
    pub lses : (j : ℕ) → has_obligation terms j ≡ true → sum (λ x. lse_in x j) ≡ pos (lse facts month j)
    -- yearly limit: compliance so far, times 1,000, is at most revenue to date
    pub yearly_limit :
        (s : ℕ) → has_registration terms s ≡ true
        → (n : ℕ) × (sum (λ x. compliance_in x s) ≡ pos n) × (n * 1000 ≤ revenue facts month s)

-- seller r's charge lines: its compliance and test amount, in a statement and in each statement of a list
abbrev pub charge_line : ℕ → List ℕ → ℤ × ℤ
charge_line r x = (compliance_in x r, test_in x r)

abbrev pub charge_lines : ℕ → List Answered → List (ℤ × ℤ)
charge_lines r = gather (λ x. alone (is_closing x) (charge_line r x.after))

pub record Demand3 (answers : List Call → List Answered) (H : List Call) : Type 0 where
  -- every call is answered, in order
  pub each : map (λ x. x.call) (answers H) ≡ H
  -- with the number of the first question that fails, put to its bytes, the records accepted before it and the length of its buffer: it is accepted exactly when none does
  pub numbered :
      (before : List Answered) (x : Answered) (after : List Answered) → answers H ≡ before ++ x ∷ after
      → x.number ≡ post_number (recorded (accepted_in before)) x.call.bytes (length x.call.buffer)
  -- at every accepted close
  pub closed :
      (before : List Answered) (x : Answered) (after : List Answered) → answers H ≡ before ++ x ∷ after
      → is_closing x ≡ true → AtClose before x
  -- replacing one seller's reductions changes neither which records are accepted, but for that seller's retests, nor any other seller's charge lines
  pub independent :
      (s : ℕ) (G : List Call) → Variant s [] (answers H) G
      → (acceptances s (answers G) ≡ acceptances s (answers H)) × ((r : ℕ) → (r ≡ s → ⊥) → charge_lines r (answers G) ≡ charge_lines r (answers H))
