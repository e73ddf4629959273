-- Every accepted close of a list keeps the claims of demand 3.
use Rattle.std.specs.Prelude.{ℕ, true, List, [], ◌∷◌, ◌++◌, ◌≡◌, pos}
use Rattle.std.proofs.Common.{sym, ◌∙◌}
use Rattle.std.proofs.Math.IntN.{+ℤ_idr}
use Rattle.year.specs.declared.Year.{Year}
use Rattle.year.specs.Year.{new_year}
use Rattle.year.specs.Steps.{with_close}
use Rattle.owed.specs.Facts.{facts_of}
use Rattle.owed.specs.Owed.{compliance, amounts}
use Rattle.owed_laws.specs.Limits.{limits}
use Rattle.owed_laws.specs.Totals.{sound-amounts}
use Rattle.owed_laws.specs.Cap.{yearly-limit}
use Rattle.statement.specs.Starts.{starts}
use Rattle.record_heads.specs.Record.{Record, month_of}
use Rattle.book_outcome.specs.Outcome.{record_in}
use Rattle.book_recorded.specs.Recorded.{terms_in, recorded}
use Rattle.book_recorded.specs.Booked.{booked, facts-booked}
use Rattle.claim_history.specs.Runs.{Call, accepted_in, statements, so_far}
use Rattle.claim_history.specs.Taking.{closes, shown, answers, run}
use Rattle.claim_history.specs.Claim.{AtClose}
use Rattle.claim_history.proofs.YearFollowsRecords.{run-append, answers-more, run-years}
use Rattle.claim_history.specs.Columns.{Column, pays, tests, gets, receives, party, party-below, owes, amounts-at, line_in}
use Rattle.claim_history.proofs.Billed.{Billed, none-at}
use Rattle.claim_history.proofs.StepInvariants.{StepInvariants, kept_new, kept_run, kept_step}
use Rattle.claim_history.proofs.Closes.{close-step, close-month, close-buffer}
use Rattle.claim_history.proofs.Telescope.{telescopes}
use Rattle.claim_history.proofs.Balanced.{balanced}

module _ (cs : List Call) (c : Call) (e : closes (run new_year cs) c ≡ true) where
  abbrev there : Year
  there = run new_year cs

  abbrev records : List Record
  records = accepted_in (answers new_year cs)

  abbrev month : ℕ
  month = month_of (record_in c.bytes).head

  kept : StepInvariants there
  kept = kept_run kept_new cs

  after : run new_year (cs ++ c ∷ []) ≡ with_close there (amounts (facts_of there) month)
  unfolding run
  after = run-append new_year cs (c ∷ []) ∙ close-step there c e

  -- in each column the amounts so far are the amount to date
  so-far : (col : Column) (i : ℕ) → party col there.terms i ≡ true
      → so_far (λ x. line_in col x i) (statements (answers new_year cs ++ shown there c ∷ [])) ≡ pos (owes col (facts_of there) month i)
  so-far col i p =
      rw (← answers-more new_year cs c)
      (sym (+ℤ_idr (so_far (λ x. line_in col x i) (statements (answers new_year (cs ++ c ∷ [])))))
      ∙ (rw (none-at col i) at (telescopes col i kept_new (cs ++ c ∷ []) (rw after p)))
      ∙ rw (after, amounts-at col (facts_of there) month i (party-below col kept.sound.terms i p)))

  -- what this close bills
  bills : Billed there.terms (amounts (facts_of there) month)
  bills = rw (close-step there c e) at (kept_step kept c).billed

  -- what the accepted records say is what the year has
  terms-are : there.terms ≡ terms_in records
  unfolding booked recorded
  terms-are = rw (run-years cs)

  facts-are : facts_of there ≡ facts_of (recorded records)
  facts-are = rw (run-years cs) (facts-booked records)

  pub at-close : AtClose (answers new_year cs) (shown there c)
  unfolding line_in owes party
  at-close =
      record {
        balanced =
            rw (close-buffer there c e)
            (balanced (starts (amounts (facts_of there) month) there.billed _ kept.sound.terms (close-month there c e)) (sound-amounts (limits kept.sound) month) kept.sound.billed bills kept.billed);
        compliances = rw (← facts-are, ← terms-are) (so-far pays);
        tests = rw (← facts-are, ← terms-are) (so-far tests);
        credits = rw (← facts-are, ← terms-are) (so-far gets);
        lses = rw (← facts-are, ← terms-are) (so-far receives);
        yearly_limit =
            rw (← facts-are, ← terms-are)
            (λ s p. (compliance (facts_of there) month s, so-far pays s p, yearly-limit (limits kept.sound) month s));
      }
