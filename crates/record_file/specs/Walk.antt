-- The walk of a record file: record after record, up to a number 1 or 2, or to the end of the bytes.
use Rattle.std.specs.Prelude.{ℕ, zero, suc, Bool, ◌||◌, cond, List, [], ◌∷◌, eqb, length, drop}
use Rattle.record_layouts.specs.Questions.{record_number, consumed}

-- after 1 and 2 no record's end is known
abbrev pub ends : ℕ → Bool
ends number = eqb number 1 || eqb number 2

-- the first n records at most, each as the bytes from its start on: bytes after a record are not looked at
unfoldable pub records_to : ℕ → List ℕ → List (List ℕ)
records_to zero file = []
records_to (suc n) [] = []
records_to (suc n) (b ∷ bs) =
    let file = b ∷ bs in
    file ∷ cond (ends (record_number file)) [] (records_to n (drop (consumed file) file))

-- all of them: a record that does not end the file takes a byte at least
abbrev pub records_in : List ℕ → List (List ℕ)
records_in file = records_to (length file) file
