-- What taking a record apart answers: the bytes consumed, the numbers counted, and what questions 3 to 5 say.
use Rattle.std.specs.Prelude.{ℕ, true, List, ◌≡◌, Result, Ok, Err}
use Rattle.std.proofs.Common.{arith}
use Rattle.record_layouts.specs.Questions.{kind_of, is_kind, is_whole, rules_of, numbers_of, record_number, consumed, row}
use Rattle.record_layouts.specs.Layout.{size_of}
use Rattle.record_parse.specs.declared.Parsed.{Parsed}
use Rattle.refusals.specs.declared.Refused.{Refused}
use Rattle.refusals.specs.declared.Refusal.{Refusal}
use Rattle.refusals.specs.Numbers.{number}

-- the bytes consumed, of a refused record too
abbrev pub used_of : Result Parsed Refused → ℕ
used_of (Ok parsed) = parsed.used
used_of (Err refused) = refused.used

-- how many numbers, none where it is refused
abbrev pub count_of : Result Parsed Refused → ℕ
count_of (Ok parsed) = parsed.count
count_of (Err refused) = 0

-- of a whole record: the question that failed first, and its numbers in the row where none did
pub record Asked (bytes : List ℕ) (number : ℕ) (values : List ℕ) : Type 0 where
  pub numbers : number ≡ record_number bytes
  pub rows : record_number bytes ≡ 0 → values ≡ row (numbers_of bytes)

-- a whole record of a known kind is consumed
pub whole-uses : (bytes : List ℕ) → is_kind (kind_of bytes) ≡ true → is_whole bytes ≡ true → size_of (rules_of bytes) ≡ consumed bytes
unfolding consumed
whole-uses bytes first whole = rw (first, whole)

-- no question has the number of none
pub number-some : (q : Refusal) → number q ≡ 0 → ⊥
number-some q e = grind arith
