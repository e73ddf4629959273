-- The record of a line, and that it fits.
use Rattle.std.specs.Prelude.{ℕ, ◌+◌, ◌-◌, ◌≤◌, min, Bool, ◌&&◌, ◌≡◌, refl, take, Result, Ok, Err}
use Rattle.std.proofs.Math.Bool.{true, false, cond}
use mathlib.Core.List.{List, [], ◌++◌, append-nil}
use Rattle.std.proofs.Math.Path.{sym}
use Rattle.std.proofs.Common.{◌∙◌, add-zero, arith, le-leb, eqb-true, take-append-drop, length-take-le, take_all, take_at, drop-drop}
use Rattle.std.proofs.Math.Decide.{dec_lt}
use Rattle.std.proofs.Math.Dec.{eqb}
use Rattle.std.proofs.Math.ListN.{length, drop, length-drop, drop_of_length-le}
use Rattle.ids.specs.Ids.{at}
use Rattle.ids.specs.Tests.{and_parts}
use Rattle.bits.specs.PackLaws.{length-encode}
use Rattle.refusals.specs.declared.Refusal.{Refusal}
use Rattle.record_layouts.specs.Layout.{widths, size_of, longest_permitted, most_numbers}
use Rattle.record_layouts.specs.LayoutLaws.{length-widths}
use Rattle.record_layouts.specs.Questions.{first_failed, rules_by, permitted}
use Rattle.record_layouts.specs.QuestionLaws.{head-permitted, permitted-bits}
use Rattle.record_numbers.specs.Calls.{bytes_by, Writes, write_number, write_buffer}
use Rattle.record_numbers.specs.RoundTrip.{writable}
use Rattle.text.specs.Pasted.{Pasted, none}
use Rattle.text.specs.Words.{numbers}

-- the numbers that are kept of a line: one more than a record has is a wrong count
abbrev pub kept : List ℕ → List ℕ
kept line = take (most_numbers + 1) (numbers line)

-- a line's number, with room for any record: one of which the start is cut off is longer than any record's
unfoldable pub line_number : Bool → List ℕ → ℕ
line_number cut line = cond cut 3 (write_number (kept line) longest_permitted)

-- the place behind what is put from a place on: the same where nothing is
abbrev pub behind : ℕ → Result ℕ Refusal → ℕ
behind at (Ok place) = place
behind at (Err q) = at

-- its record, nothing of a line that is refused
unfoldable pub line_record : Bool → List ℕ → List ℕ
line_record cut line = cond (eqb (line_number cut line) 0) (bytes_by (kept line)) []

-- more room than the longest record takes makes no difference
enough : (vs : List ℕ) (room : ℕ) → longest_permitted ≤ room → write_number vs room ≡ write_number vs longest_permitted
unfolding write_number first_failed rules_by
enough vs room h = go (eqb (length vs) (length (rules_by vs)) && permitted (rules_by vs) vs) refl
  where
    go : (b : Bool) → (eqb (length vs) (length (rules_by vs)) && permitted (rules_by vs) vs) ≡ b → write_number vs room ≡ write_number vs longest_permitted
    go false q = rw q
    go true q =
        let fields = (and_parts (eqb (length vs) (length (rules_by vs))) (permitted (rules_by vs) vs) q).1 in
        let bits = permitted-bits (at vs 0) vs (head-permitted (at vs 0) vs vs fields) in
        let size : size_of (rules_by vs) ≤ longest_permitted = omega arith in
        rw (le-leb (size_of (rules_by vs)) room (omega arith), le-leb (size_of (rules_by vs)) longest_permitted size)

-- the numbers that a line leaves in the front of a row
pub kept-front : (line old : List ℕ) (n : ℕ) → n ≡ min (length (numbers line)) (length old) → length old ≡ most_numbers + 1 → take n (take n (numbers line) ++ drop n old) ≡ kept line
kept-front line old n e l =
    let ns = numbers line in
    take_at (take n ns) (drop n old) n (length-take-le n ns (omega arith))
    ∙ elim (dec_lt (length ns) (most_numbers + 1)) [
      | yes h ↦ take_all n ns (omega arith) ∙ sym (take_all (most_numbers + 1) ns (omega arith))
      | no h ↦ let m : n ≡ most_numbers + 1 = omega arith in rw m
    ]

-- a line that is cut leaves nothing
pub cut_record : (line old : List ℕ) (at : ℕ) → at ≤ length old → Pasted old old at (line_record true line) at
unfolding line_record line_number
cut_record line old at h = none old at h

-- what is written into the rest of a buffer, as it is put back
module _ (line old : List ℕ) (place : ℕ) (h : place + longest_permitted ≤ length old) {number used : ℕ} {after : List ℕ} (w : Writes (kept line) (drop place old) number used after) where
  abbrev vs : List ℕ
  vs = kept line

  room : write_number vs (length (drop place old)) ≡ write_number vs longest_permitted
  room = enough vs (length (drop place old)) (omega (arith, length-drop place old))

  pub written-number : number ≡ line_number false line
  unfolding line_number
  written-number = w.numbers ∙ room

  pub written-record : Pasted old (take place old ++ (after ++ drop (length old - place) (drop place old))) place (line_record false line) (place + used)
  unfolding line_record line_number write_buffer bytes_by
  written-record =
      let nothing : drop (length old - place) (drop place old) ≡ [] = drop_of_length-le (drop place old) {i = length old - place} (omega (arith, length-drop place old)) in
      rw (nothing, append-nil, w.leaves, w.uses, room) (go (eqb (write_number vs longest_permitted) 0) refl)
    where
      go : (b : Bool) → eqb (write_number vs longest_permitted) 0 ≡ b
          → Pasted old (take place old ++ cond b (bytes_by vs ++ drop (length (bytes_by vs)) (drop place old)) (drop place old)) place (cond b (bytes_by vs) []) (place + cond b (size_of (rules_by vs)) 0)
      go false q = rw (take-append-drop, add-zero) (none old place (omega arith))
      go true q =
          let p = writable vs longest_permitted (eqb-true (write_number vs longest_permitted) 0 q) in
          let long : length (bytes_by vs) ≡ size_of (rules_by vs) = length-encode (widths (rules_by vs)) vs (p.counted ∙ sym (length-widths (rules_by vs))) in
          record { bytes = rw (drop-drop (length (bytes_by vs)) place old); next = rw long; within = omega (arith, p.fits) }
