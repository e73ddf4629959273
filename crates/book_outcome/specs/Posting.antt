-- The outcome of a call that refuses its record, and of one that accepts it.
use Rattle.std.specs.Prelude.{ℕ, List, ◌≡◌, length}
use Rattle.std.proofs.Math.Path.{refl}
use Rattle.std.proofs.Common.{sym, ◌∙◌}
use borrow.Author.Tests.{eq-eqb, ne_eqb}
use Rattle.ids.specs.Tests.{cond-true, cond-false}
use Rattle.record_layouts.specs.Questions.{consumed}
use Rattle.year.specs.declared.Year.{Year}
use Rattle.book_recorded.specs.After.{year_with}
use Rattle.book_accept.specs.Leaves.{buffer_with, written_with}
use Rattle.book_outcome.specs.Outcome.{record_in, post_number, year_after, buffer_after, written_after, Posts}

module _ (y : Year) (bytes before : List ℕ) where
  -- neither the year nor the buffer is changed
  pub refuses : {number used : ℕ} → number ≡ post_number y bytes (length before) → (number ≡ 0 → ⊥) → used ≡ consumed bytes
      → Posts y bytes before number used 0 y before
  unfolding year_after buffer_after written_after
  refuses e n u =
      let fails = ne_eqb (post_number y bytes (length before)) 0 (λ q. n (e ∙ q)) in
      record { numbers = e; uses = u; writes = cond-false _ fails refl; years = cond-false _ fails refl; leaves = cond-false _ fails refl }

  pub accepts : {used written : ℕ} {year : Year} {after : List ℕ} → 0 ≡ post_number y bytes (length before) → used ≡ consumed bytes
      → written ≡ written_with y (record_in bytes) → year ≡ year_with y (record_in bytes) → after ≡ buffer_with y (record_in bytes) before → Posts y bytes before 0 used written year after
  unfolding year_after buffer_after written_after
  accepts e u w h b =
      let passes = eq-eqb (post_number y bytes (length before)) 0 (sym e) in
      record { numbers = e; uses = u; writes = cond-true _ passes w; years = cond-true _ passes h; leaves = cond-true _ passes b }
