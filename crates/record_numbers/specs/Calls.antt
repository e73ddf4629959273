-- What reading and writing a record answer, and what they leave in the lent buffer.
use Rattle.std.specs.Prelude.{ℕ, ◌&&◌, cond, List, [], ◌∷◌, ◌++◌, ◌≡◌, length, drop, leb, eqb}
use Rattle.ids.specs.Ids.{at}
use Rattle.bits.specs.Pack.{encode}
use Rattle.record_layouts.specs.Layout.{widths, size_of, most_numbers}
use Rattle.record_layouts.specs.Questions.{first_failed, rules_of, numbers_of, numbers_taken, rules_by, is_kind, permitted, ids_rise, record_questions, record_number, consumed, row}

-- reading, with a buffer for so many numbers: questions 1 to 5, then 16
unfoldable pub read_number : List ℕ → ℕ → ℕ
read_number bytes room = first_failed (record_questions bytes ++ ((16, leb most_numbers room) ∷ []))

-- the front of a buffer, and the rest as it was
abbrev pub over : List ℕ → List ℕ → List ℕ
over front buffer = front ++ drop (length front) buffer

unfoldable pub read_buffer : List ℕ → List ℕ → List ℕ
read_buffer bytes buffer = cond (eqb (read_number bytes (length buffer)) 0) (over (numbers_of bytes) buffer) buffer

pub record Reads (bytes before : List ℕ) (number count used : ℕ) (after : List ℕ) : Type 0 where
  pub numbers : number ≡ read_number bytes (length before)
  pub counts : count ≡ cond (eqb (read_number bytes (length before)) 0) (length (numbers_of bytes)) 0
  pub uses : used ≡ cond (eqb (read_number bytes (length before)) 0) (size_of (rules_of bytes)) 0
  pub leaves : after ≡ read_buffer bytes before

-- a record's bytes
unfoldable pub bytes_by : List ℕ → List ℕ
bytes_by vs = encode (widths (rules_by vs)) vs

-- writing, with a buffer for so many bytes: questions 1, 3, 5, then 16
unfoldable pub write_number : List ℕ → ℕ → ℕ
write_number vs room =
    first_failed
    ((1, is_kind (at vs 0))
    ∷ (3, eqb (length vs) (length (rules_by vs)) && permitted (rules_by vs) vs)
    ∷ (5, ids_rise vs)
    ∷ (16, leb (size_of (rules_by vs)) room)
    ∷ [])

unfoldable pub write_buffer : List ℕ → List ℕ → List ℕ
write_buffer vs buffer = cond (eqb (write_number vs (length buffer)) 0) (over (bytes_by vs) buffer) buffer

pub record Writes (vs before : List ℕ) (number used : ℕ) (after : List ℕ) : Type 0 where
  pub numbers : number ≡ write_number vs (length before)
  pub uses : used ≡ cond (eqb (write_number vs (length before)) 0) (size_of (rules_by vs)) 0
  pub leaves : after ≡ write_buffer vs before

-- a record taken apart into a row of zeros: questions 1 to 5, and its numbers in the row; what is refused may leave numbers there
pub record Fills (bytes : List ℕ) (number used count : ℕ) (values : List ℕ) : Type 0 where
  pub numbers : number ≡ record_number bytes
  pub uses : used ≡ consumed bytes
  pub counts : count ≡ length (numbers_taken bytes)
  pub rows : record_number bytes ≡ 0 → values ≡ row (numbers_of bytes)
