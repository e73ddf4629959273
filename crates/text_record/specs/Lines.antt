-- What dump prints of a whole file, and that windows of it print the same.
use Rattle.std.specs.Prelude.{ℕ, ◌+◌, ◌≤◌, ◌<◌, Bool, true, false, cond, ◌≡◌, refl, length, take, drop}
use mathlib.Core.List.{List, [], ◌∷◌, ◌++◌}
use Rattle.std.proofs.Math.Path.{ap}
use Rattle.std.proofs.Common.{◌∙◌}
use Rattle.record_layouts.specs.Questions.{record_number, consumed}
use Rattle.record_layouts.specs.Layout.{longest_record}
use Rattle.record_file.specs.Walk.{ends, records_in}
use Rattle.record_file.specs.WalkLaws.{records-in}
use Rattle.record_file.specs.Window.{Alike, cut-alike, same_number, same_numbers, same-consumed}
use Rattle.text_record.specs.Line.{record_line}

-- of records, the first at a position
unfoldable pub lines_of : ℕ → List (List ℕ) → List ℕ
lines_of position [] = []
lines_of position (bytes ∷ records) = record_line position bytes ++ lines_of (position + 1) records

abbrev pub dump_text : List ℕ → List ℕ
dump_text file = lines_of 1 (records_in file)

unless : (b : Bool) (position : ℕ) (records : List (List ℕ)) → lines_of position (cond b [] records) ≡ cond b [] (lines_of position records)
unfolding lines_of
unless true position records = refl
unless false position records = refl

-- of a file's rest, by a window of it (the bytes at hand, as many as the longest record has, or all): the first record's line, and
-- the lines of the bytes behind it unless it ends the file
module _ (position : ℕ) (rest : List ℕ) (n : ℕ) (enough : longest_record ≤ n) where
  abbrev window : List ℕ
  window = take n rest

  alike : Alike window rest
  alike = cut-alike n rest enough

  same_line : record_line position window ≡ record_line position rest
  unfolding record_line
  same_line = rw (same_number alike, same_numbers alike)

  pub lines-first : 0 < length rest
      → lines_of position (records_in rest)
      ≡ record_line position window ++ cond (ends (record_number window)) [] (lines_of (position + 1) (records_in (drop (consumed window) rest)))
  unfolding lines_of
  lines-first l =
      rw (same_line, same_number alike, same-consumed alike)
      (ap (lines_of position) (records-in rest l)
      ∙ ap (λ (t : List ℕ). record_line position rest ++ t) (unless (ends (record_number rest)) (position + 1) (records_in (drop (consumed rest) rest))))
