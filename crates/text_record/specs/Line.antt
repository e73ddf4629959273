-- The line of a record, and the numbers of one that is read.
use Rattle.std.specs.Prelude.{ℕ, Option, Some, None, ◌+◌, ◌-◌, ◌*◌, ◌≤◌, cond, List, ◌≡◌, eqb, take, replicate}
use Rattle.std.proofs.Math.Path.{ap}
use Rattle.std.proofs.Common.{sym, ◌∙◌, arith}
use Rattle.std.proofs.Math.ListN.{length, length-append}
use Rattle.std.proofs.Math.Seq.{take-append_seam}
use Rattle.refusals.specs.declared.Refusal.{Refusal}
use Rattle.refusals.specs.Numbers.{number}
use Rattle.record_layouts.specs.Layout.{most_numbers}
use Rattle.record_layouts.specs.Questions.{numbers_of, record_number, row}
use Rattle.record_numbers.specs.Calls.{Fills}
use Rattle.record_numbers.specs.Accepted.{accepted, taken-numbers, numbers-few}
use Rattle.text.specs.Lines.{numbers_line}
use Rattle.text_bill.specs.Text.{refusal_line}

-- of the record at the front of the bytes: its numbers, or its refusal
unfoldable pub record_line : ℕ → List ℕ → List ℕ
record_line position bytes = cond (eqb (record_number bytes) 0) (numbers_line (numbers_of bytes)) (refusal_line position (record_number bytes))

-- the number of a refusal, 0 where there is none
abbrev pub refused_number : Option Refusal → ℕ
refused_number None = 0
refused_number (Some q) = number q

-- room for it: a number has at most 20 digits and one character beside it, and there is a newline
abbrev pub line_room : ℕ
line_room = 21 * most_numbers + 1

module _ (bytes : List ℕ) {number used count : ℕ} {values : List ℕ} (p : Fills bytes number used count values) (e : number ≡ 0) where
  zero : record_number bytes ≡ 0
  zero = sym p.numbers ∙ e

  counts : count ≡ length (numbers_of bytes)
  counts = p.counts ∙ ap length (taken-numbers bytes zero)

  rows : values ≡ row (numbers_of bytes)
  rows = p.rows zero

  pub count-few : count ≤ most_numbers
  count-few = omega (arith, counts, numbers-few bytes (accepted bytes zero))

  pub count-within : count ≤ length values
  unfolding row
  count-within = omega (arith, counts, ap length rows, length-append (numbers_of bytes) (replicate (most_numbers - length (numbers_of bytes)) 0))

  pub values-front : take count values ≡ numbers_of bytes
  unfolding row
  values-front = rw (counts, rows) (take-append_seam (numbers_of bytes) (replicate (most_numbers - length (numbers_of bytes)) 0))
