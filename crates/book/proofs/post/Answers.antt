-- `book::post` meets its contract: a thin join of the parts. Assumes nothing.
use mathlib.Core.Path.{◌≡◌, refl, sym, ap, ◌∙◌}
use native.Mathlib.Omega.{arith}
use lib.ListN.{length}
use Rattle.std.proofs.lemmas.Result.{err_from_is_err_and}
use Rattle.ids.specs.Ids.{at}
use Rattle.record_layouts.specs.Layout.{most_numbers}
use Rattle.record_layouts.specs.Questions.{first_failed, numbers_of, record_number, row}
use Rattle.record_numbers.specs.Accepted.{accepted}
use Rattle.record_numbers.specs.Calls.{Fills}
use Rattle.std.specs.Prelude.{ℕ, List}
use Rattle.refusals.specs.Asked.{numbered}
use Rattle.year.specs.declared.Listing.{Listing}
use Rattle.year.specs.declared.Year.{Year}
use Rattle.record_heads.specs.declared.Head.{Head}
use Rattle.year.specs.Sound.{SoundListing}
use Rattle.year_cells.specs.Layout.{listing_at, year_in}
use Rattle.record_heads.specs.Record.{Record, head_of, listing_in}
use Rattle.record_heads.specs.RecordLaws.{record-row}
use Rattle.record_listing.specs.Listed.{sound-listed}
use Rattle.record_heads.specs.Within.{Within}
use Rattle.question_list.specs.Questions.{month_begun, number_in, questions}
use Rattle.question_list.specs.Admitted.{admitted}
use Rattle.book_recorded.specs.After.{year_with}
use Rattle.book_accept.specs.Leaves.{buffer_with, written_with}
use Rattle.book_outcome.specs.Outcome.{post_number}
use Rattle.book_outcome.specs.Numbers.{record-refused, record-accepted}
use Rattle.book_outcome.specs.Made.{values-long, within, permits}
use Rattle.book_outcome.specs.StaysSound.{suits}
use Rattle.book_outcome.specs.Posting.{refuses, accepts}
use Rattle.book.proofs.post.Goals as goal

-- questions 1 to 5 pass, and the values are the record's numbers
module _ {bytes values : List ℕ} {used count : ℕ} (f : Fills bytes 0 used count values) where
  quiet : record_number bytes ≡ 0
  quiet = sym f.numbers

  rows : values ≡ row (numbers_of bytes)
  rows = f.rows quiet

  long : length values ≡ most_numbers
  long = rw rows (values-long bytes (accepted _ quiet))

  -- the later questions are put to it
  answered : (y : Year) (room : ℕ) {head : Head} {l : Listing} {n : ℕ} → head ≡ head_of values → l ≡ listing_in values → n ≡ number_in y head l room → n ≡ post_number y bytes room
  answered y room head-is list-is asked =
      rw (head-is, list-is, rows) at asked
      ∙ ap (λ (r : Record). first_failed (questions month_begun y r room)) (record-row (numbers_of bytes))
      ∙ sym (record-accepted y bytes room quiet)

pub returns-in_err-parsed-clause-posts : goal.returns-in_err-parsed-clause-posts
returns-in_err-parsed-clause-posts c =
    let a = c.args in
    let y = year_in a.year.now.cells in
    let p = err_from_is_err_and c.from_residual.result c.from_residual.ensures.1 in
    let f = c.in_err-parsed.ensures in
    let some = numbered c.in_err-parsed.field-0.0.refusal in
    let number = f.numbers ∙ sym (record-refused y a.bytes.now (length a.buffer.now) (λ q. omega (arith, some, f.numbers, q))) in
    rw (p.1, p.2) (refuses y a.bytes.now a.buffer.now number (λ q. omega (arith, some, q)) f.uses)

pub head_of-head-requires : goal.head_of-head-requires
head_of-head-requires c = omega (arith, long c.in_ok-parsed.ensures)

pub spread-requires : goal.spread-requires
spread-requires c =
    let f = c.in_ok-parsed.ensures in
    record { values_len = long f; permitted = rw (rows f) (permits c.args.bytes.now (accepted _ (quiet f))); row_value = refl }

pub ask-requires : goal.ask-requires
ask-requires c =
    let f = c.in_ok-parsed.ensures in
    record { within = rw (c.head_of-head.ensures, rows f) (within c.args.bytes.now (accepted _ (quiet f))) }

pub returns-in-Err-clause-posts : goal.returns-in-Err-clause-posts
returns-in-Err-clause-posts c =
    let a = c.args in
    let y = year_in a.year.now.cells in
    let f = c.in_ok-parsed.ensures in
    let some = numbered c.in-Err.refusal in
    let number = answered f y (length a.buffer.now) c.head_of-head.ensures c.spread.ensures.lists c.in-Err.ensures in
    refuses y a.bytes.now a.buffer.now number (λ q. omega (arith, some, q)) f.uses

pub accept-written-requires : goal.accept-written-requires
accept-written-requires c =
    let f = c.in_ok-parsed.ensures in
    let bytes = c.args.bytes.now in
    let a = accepted bytes (quiet f) in
    let head = c.head_of-head in
    let l = listing_at (at c.spread.new.row) in
    let passes = admitted month_begun (year_in c.args.year.now.cells) (record { head = head.result; listing = l }) (length c.args.buffer.now) (sym c.in_default.ensures) in
    let limits : Within head.result = rw (head.ensures, rows f) (within bytes a) in
    let listing : SoundListing l = rw (c.spread.ensures.lists, rows f) (sound-listed (permits bytes a)) in
    record { suits = suits c.args.year.now.valid.sound listing head.result limits passes; head_value = passes.sixteen }

pub returns-clause-posts : goal.returns-clause-posts
unfolding buffer_with written_with
returns-clause-posts c =
    let f = c.in_ok-parsed.ensures in
    let taken = c.accept-written.ensures in
    let lists = c.spread.ensures.lists in
    let head = c.head_of-head.ensures in
    let a = c.args in
    let y = year_in a.year.now.cells in
    let same = record-row (numbers_of a.bytes.now) in
    accepts y a.bytes.now a.buffer.now (answered f y (length a.buffer.now) head lists c.in_default.ensures) f.uses
    ((rw (head, rows f) at taken.writes) ∙ ap (λ (r : Record). written_with y r) same)
    ((rw (head, lists, rows f) at taken.equals) ∙ ap (λ (r : Record). year_with y r) same)
    ((rw (head, rows f) at taken.leaves) ∙ ap (λ (r : Record). buffer_with y r a.buffer.now) same)
