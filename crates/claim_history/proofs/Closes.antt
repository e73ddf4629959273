-- At an accepted close: the year after it, and what stands in the buffer. Other calls leave the buffer, what is billed and the count of closes.
use Rattle.std.specs.Prelude.{ℕ, ◌<◌, Bool, ◌&&◌, ◌++◌, ◌≡◌, refl, length, drop, pos}
use Rattle.std.proofs.Math.Bool.{true, false, cond}
use Rattle.std.proofs.Common.{◌∙◌, arith}
use Rattle.ids.specs.Tests.{and_parts}
use Rattle.year.specs.declared.Listing.{Listing}
use Rattle.year.specs.declared.Year.{Year}
use Rattle.year.specs.Steps.{with_close}
use Rattle.year.specs.Sound.{Sound}
use Rattle.owed.specs.Facts.{facts_of}
use Rattle.owed.specs.Owed.{amounts}
use Rattle.owed_laws.specs.Limits.{limits}
use Rattle.owed_laws.specs.Totals.{sound-amounts}
use Rattle.statement.specs.Statement.{statement_of}
use Rattle.statement.specs.Starts.{less, starts}
use Rattle.record_heads.specs.declared.CloseHead.{CloseHead}
use Rattle.record_heads.specs.declared.Head.{Head}
use Rattle.record_heads.specs.declared.Head.TheVariants.{Close}
use Rattle.record_heads.specs.Record.{Record, is_close, month_of}
use Rattle.question_list.specs.Admitted.{not-finished, next-month}
use Rattle.book_recorded.specs.After.{year_by, year_with}
use Rattle.book_accept.specs.Leaves.{buffer_with, written_with}
use Rattle.book_outcome.specs.Outcome.{record_in, buffer_after, written_after}
use Rattle.claim_history.specs.Runs.{Call, is_accepted, is_closing}
use Rattle.claim_history.specs.Taking.{accepts, closes, buffered, step}
use Rattle.claim_history.proofs.YearFollowsRecords.{step_by}
use Rattle.claim_history.specs.Admitted.{accepted-admitted}
use Rattle.claim_history.specs.Columns.{Column, party, column, line_in}
use Rattle.claim_history.proofs.ReadColumns.{reads}
use Rattle.claim_history.proofs.StepInvariants.{never}
use Rattle.claim_history.proofs.StepCases.{StepCases, terms, event, test, close, retest, does}

-- a close is what passes for one
is-close : {h : Head} → StepCases h → is_close h ≡ true → (c : CloseHead) × (h ≡ Close c)
is-close (terms x) e = never x.other e
is-close (event v q) e = never refl (rw q at e)
is-close (test t q) e = never refl (rw q at e)
is-close (close c q) e = (c, q)
is-close (retest t q) e = never refl (rw q at e)

-- anything else leaves what is billed and the count of closes
other-by : {h : Head} → StepCases h → is_close h ≡ false → (y : Year) (l : Listing) → ((year_by y l h).billed ≡ y.billed) × ((year_by y l h).closed ≡ y.closed)
unfolding year_by
other-by (terms x) e y l = rw (x.is y l) (refl, refl)
other-by (event v q) e y l = rw q (refl, refl)
other-by (test t q) e y l = rw q (refl, refl)
other-by (close c q) e y l = never (rw q at e) refl
other-by (retest t q) e y l = rw q (refl, refl)

module _ (y : Year) (c : Call) where
  abbrev record_of : Record
  record_of = record_in c.bytes

  abbrev month : ℕ
  month = month_of record_of.head

  close-parts : closes y c ≡ true → (accepts y c ≡ true) × ((k : CloseHead) × (record_of.head ≡ Close k))
  unfolding is_closing
  close-parts e =
      let p = and_parts (accepts y c) (is_close record_of.head) e in
      (p.0, is-close (does record_of.head) p.1)

  pub close-step : closes y c ≡ true → step y c ≡ with_close y (amounts (facts_of y) month)
  unfolding year_by
  close-step e =
      let p = close-parts e in
      step_by y c ∙ rw (p.0, p.1.1)

  pub close-month : closes y c ≡ true → month < 16
  close-month e =
      let p = close-parts e in
      let a = rw p.1.1 at (accepted-admitted y c p.0) in
      rw p.1.1 (omega (arith, next-month a, not-finished a))

  pub close-buffer : closes y c ≡ true
      → buffered y c
      ≡ statement_of y.terms month (amounts (facts_of y) month) y.billed
      ++ drop (length (statement_of y.terms month (amounts (facts_of y) month) y.billed)) c.buffer
  unfolding buffered buffer_after buffer_with is_accepted
  close-buffer e =
      let p = close-parts e in
      rw (p.0, p.1.1)

  pub close-written : closes y c ≡ true → written_after y c.bytes (length c.buffer) ≡ length (statement_of y.terms month (amounts (facts_of y) month) y.billed)
  unfolding written_after written_with is_accepted
  close-written e =
      let p = close-parts e in
      rw (p.0, p.1.1)

  -- what its statement says in a column
  pub close-line : Sound y → closes y c ≡ true → (col : Column) (i : ℕ)
      → line_in col (buffered y c) i
      ≡ cond (party col y.terms i) (less (column col (amounts (facts_of y) month)) (column col y.billed) i) (pos 0)
  close-line S e col i =
      rw (close-buffer e)
      (reads (starts (amounts (facts_of y) month) y.billed _ S.terms (close-month e)) S.terms (sound-amounts (limits S) month) S.billed col i)

  pub other-same : closes y c ≡ false → ((step y c).billed ≡ y.billed) × ((step y c).closed ≡ y.closed)
  unfolding is_closing
  other-same e = rw (step_by y c) (go (accepts y c) e)
    where
      go : (a : Bool) → (a && is_close record_of.head) ≡ false
          → let z = cond a (year_with y record_of) y in (z.billed ≡ y.billed) × (z.closed ≡ y.closed)
      go false e = (refl, refl)
      go true e = other-by (does record_of.head) e y record_of.listing

  -- any other call leaves the buffer, and writes no statement
  pub other-leaves : closes y c ≡ false → (buffer_after y c.bytes c.buffer ≡ c.buffer) × (written_after y c.bytes (length c.buffer) ≡ 0)
  unfolding is_closing is_accepted buffer_after buffer_with written_after written_with
  other-leaves e = go (accepts y c) e
    where
      go : (a : Bool) → (a && is_close record_of.head) ≡ false
          → (cond a (buffer_with y record_of c.buffer) c.buffer ≡ c.buffer) × (cond a (written_with y record_of) 0 ≡ 0)
      go false e = (refl, refl)
      go true e = rw e (refl, refl)
