-- What reading a record answers, and what it leaves in the lent buffer.
use Rattle.std.specs.Prelude.{ℕ, ◌≤◌, ◌<◌, List, ◌≡◌, length, take, Result}
use Rattle.std.proofs.Math.Path.{sym}
use Rattle.std.proofs.Common.{ap, arith, ◌∙◌, le-leb, eq-eqb, ne_eqb, take_at}
use Rattle.std.proofs.lemmas.Bool.{lt-leb}
use Rattle.ids.specs.Tests.{cond-true, cond-false}
use Rattle.record_layouts.specs.Layout.{size_of, most_numbers}
use Rattle.record_layouts.specs.Questions.{first_failed, rules_of, numbers_of, record_number, row}
use Rattle.record_numbers.specs.Accepted.{Accepted, accepted, taken-numbers, consumed-size, numbers-few, number-first, number-later}
use Rattle.record_parse.specs.declared.Parsed.{Parsed}
use Rattle.record_parse.specs.Answers.{used_of, count_of}
use Rattle.refusals.specs.declared.Refused.{Refused}
use Rattle.refusals.specs.Numbers.{number_of}
use Rattle.record_numbers.specs.Calls.{read_number, over, read_buffer, Reads, Fills}

-- reading puts question 16 behind the others
module _ (bytes : List ℕ) (room : ℕ) where
  pub read-fails : (record_number bytes ≡ 0 → ⊥) → record_number bytes ≡ read_number bytes room
  unfolding read_number
  read-fails e = sym (number-first bytes _ e)

  pub read_short : record_number bytes ≡ 0 → room < most_numbers → 16 ≡ read_number bytes room
  unfolding read_number first_failed
  read_short e l = sym (number-later bytes _ e ∙ rw (lt-leb most_numbers room l))

  pub read-full : record_number bytes ≡ 0 → most_numbers ≤ room → 0 ≡ read_number bytes room
  unfolding read_number first_failed
  read-full e l = sym (number-later bytes _ e ∙ rw (le-leb most_numbers room l))

-- the answer, and the lent buffer before and after
abbrev pub Answers : List ℕ → List ℕ → Result Parsed Refused → List ℕ → Type 0
Answers bytes before r after = Reads bytes before (number_of r) (count_of r) (used_of r) after

-- an answer with the number of a question that failed, and one with none
pub rejects : {bytes before after : List ℕ} {number count used : ℕ} (n : ℕ) → number ≡ n → count ≡ 0 → used ≡ 0 → after ≡ before → (n ≡ 0 → ⊥) → n ≡ read_number bytes (length before)
    → Reads bytes before number count used after
unfolding read_buffer
rejects n e f g kept some t =
    let z = ne_eqb _ 0 (λ q. some (t ∙ q)) in
    record { numbers = e ∙ t; counts = cond-false _ z f; uses = cond-false _ z g; leaves = cond-false _ z kept }

pub yields : {bytes before after : List ℕ} {number count used : ℕ} → number ≡ 0 → count ≡ length (numbers_of bytes) → used ≡ size_of (rules_of bytes) → after ≡ over (numbers_of bytes) before
    → 0 ≡ read_number bytes (length before) → Reads bytes before number count used after
unfolding read_buffer
yields e f g made t =
    let z = eq-eqb _ 0 (sym t) in
    record { numbers = e ∙ t; counts = cond-true _ z f; uses = cond-true _ z g; leaves = cond-true _ z made }

-- a record taken apart: its numbers, few enough, in front of the row
module _ {bytes values : List ℕ} {used count : ℕ} (f : Fills bytes 0 used count values) where
  taken : Accepted bytes
  taken = accepted bytes (sym f.numbers)

  pub counted : count ≡ length (numbers_of bytes)
  counted = f.counts ∙ ap length (taken-numbers bytes (sym f.numbers))

  pub few : count ≤ most_numbers
  few = omega (arith, counted, numbers-few bytes taken)

  pub front : take count values ≡ numbers_of bytes
  unfolding row
  front = rw (f.rows (sym f.numbers)) (take_at (numbers_of bytes) _ count (sym counted))

  pub all-used : used ≡ size_of (rules_of bytes)
  all-used = f.uses ∙ consumed-size bytes taken
