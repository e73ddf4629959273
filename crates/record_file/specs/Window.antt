-- What a record answers depends on as many of the bytes from its start on as the longest record has: a window of a file answers as the file does.
use Prim.Native.Nat.{ℕ, ◌-◌, ◌*◌, ◌≤◌, min}
use Rattle.std.specs.Prelude.{List, ◌≡◌, take}
use Rattle.std.proofs.Math.Path.{sym, ap}
use Rattle.std.proofs.Common.{◌∙◌, arith, take-take}
use Rattle.std.proofs.Math.Decide.{dec_lt}
use borrow.Author.Tests.{le-leb, lt-leb}
use Rattle.std.proofs.Math.ListN.{length, length-take}
use Rattle.bits.specs.BitLaws.{agree-take, agree-field}
use Rattle.bits.specs.Table.{total}
use Rattle.bits.specs.TableLaws.{fields-take}
use Rattle.bits.specs.Pack.{bytes_for}
use Rattle.record_layouts.specs.Layout.{head, widths, size_of, longest_record}
use Rattle.record_layouts.specs.LayoutLaws.{head_small}
use Rattle.record_layouts.specs.Questions.{kind_of, head_numbers, rules_of, numbers_of, is_whole, is_filled, record_questions, record_number, consumed}
use Rattle.record_layouts.specs.QuestionLaws.{few_bits}

-- bytes with the same front, as long as the longest record
pub record Alike (xs ys : List ℕ) : Type 0 where
  pub fronts : take longest_record xs ≡ take longest_record ys

-- the first n bytes, if these are so many
pub cut-alike : (n : ℕ) (bytes : List ℕ) → longest_record ≤ n → Alike (take n bytes) bytes
cut-alike n bytes l = record { fronts = take-take longest_record n bytes l }

module _ {xs ys : List ℕ} (e : Alike xs ys) where
  pub same_kind : kind_of xs ≡ kind_of ys
  unfolding kind_of
  same_kind = agree-field (agree-take xs ys longest_record e.fronts) 0 4 (omega arith) (omega arith)

  same_head : head_numbers xs ≡ head_numbers ys
  unfolding head_numbers
  same_head = rw same_kind (fields-take xs ys longest_record 0 (widths (head (kind_of ys))) e.fronts (omega (arith, (head_small (kind_of ys)).1)))

  same-rules : rules_of xs ≡ rules_of ys
  unfolding rules_of
  same-rules = rw (same_kind, same_head)

  pub same_numbers : numbers_of xs ≡ numbers_of ys
  unfolding numbers_of
  same_numbers = rw same-rules (fields-take xs ys longest_record 0 (widths (rules_of ys)) e.fronts (omega (arith, few_bits ys)))

  same_whole : is_whole xs ≡ is_whole ys
  unfolding is_whole
  same_whole = rw same-rules (elim (dec_lt (length ys) (size_of (rules_of ys))) [
    | yes l ↦ lt-leb (size_of (rules_of ys)) (length xs) (omega (arith, ahead, few_bits ys)) ∙ sym (lt-leb (size_of (rules_of ys)) (length ys) l)
    | no l ↦ le-leb (size_of (rules_of ys)) (length xs) (omega (arith, ahead, few_bits ys)) ∙ sym (le-leb (size_of (rules_of ys)) (length ys) (omega arith))
  ])
    where
      ahead : min longest_record (length xs) ≡ min longest_record (length ys)
      ahead = sym (length-take longest_record xs) ∙ ap length e.fronts ∙ length-take longest_record ys

  same-filled : is_filled xs ≡ is_filled ys
  unfolding is_filled
  same-filled =
      let bits = total (widths (rules_of ys)) in
      rw (same-rules, agree-field (agree-take xs ys longest_record e.fronts) bits (8 * bytes_for bits - bits) (omega arith) (omega (arith, few_bits ys)))

  pub same_number : record_number xs ≡ record_number ys
  unfolding record_questions record_number
  same_number = rw (same_kind, same_whole, same-rules, same_numbers, same-filled)

  pub same-consumed : consumed xs ≡ consumed ys
  unfolding consumed
  same-consumed = rw (same_kind, same_whole, same-rules)
