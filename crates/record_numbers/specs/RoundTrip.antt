-- The round trip both ways: what is read is written back bit for bit, and what is written is read back number for number.
use Rattle.std.specs.Prelude.{ℕ, suc, ◌-◌, ◌*◌, ◌^◌, ◌≤◌, ◌<◌, true, ◌&&◌, ◌≡◌, leb, ltb, eqb, get_or}
use mathlib.Core.List.{List, [], ◌∷◌, ◌++◌}
use Rattle.std.proofs.Math.Path.{sym, ap}
use Rattle.std.proofs.Common.{◌∙◌, arith}
use borrow.Author.Tests.{leb-true, ltb-true, eqb-true, le-leb, eq-eqb}
use Rattle.std.proofs.Math.ListN.{length, take, length-append}
use Rattle.std.proofs.Math.Seq.{length-take-le, take_at}
use Rattle.ids.specs.Ids.{at}
use Rattle.ids.specs.Tests.{and_parts}
use Rattle.bits.specs.Bits.{Bytes}
use Rattle.bits.specs.BitLaws.{agree-take, agree-field}
use Rattle.bits.specs.Table.{total, fields_at, Valid}
use Rattle.bits.specs.TableLaws.{fields-take}
use Rattle.bits.specs.Pack.{bytes_for, encode, filling}
use Rattle.bits.specs.PackLaws.{length-encode, read_back, filling-zero, write-back}
use Rattle.record_layouts.specs.Layout.{Rule, no_rule, widths, size_of, most_numbers}
use Rattle.record_layouts.specs.LayoutLaws.{every, every_in, sound, sound-rules, width-at, length-widths}
use Rattle.record_layouts.specs.Questions.{first_failed, rules_of, numbers_of, rules_by, is_kind, is_whole, permitted, is_filled, ids_rise, record_number, consumed}
use Rattle.record_layouts.specs.QuestionLaws.{permitted-at, rules-by, rules-of, numbers-kind}
use Rattle.record_numbers.specs.Calls.{over, read_number, read_buffer, Reads, bytes_by, write_number, write_buffer, Writes}
use Rattle.record_numbers.specs.Parsing.{Writable}
use Rattle.record_numbers.specs.Accepted.{Accepted, accepted, not-failed, passed, number-later, number-none, consumed-size, numbers-count}

-- numbers that are permitted fit their fields
valid-at : (ws vs : List ℕ) → ((j : ℕ) → j < length ws → get_or vs j 0 < 2 ^ get_or ws j 0) → Valid ws vs
valid-at [] vs h = tt
valid-at (w ∷ ws) [] h = tt
valid-at (w ∷ ws) (v ∷ vs) h = (h 0 (omega arith), valid-at ws vs (λ j l. h (suc j) (omega arith)))

pub valid-permitted : (rs : List Rule) (vs : List ℕ) → every sound rs ≡ true → permitted rs vs ≡ true → Valid (widths rs) vs
unfolding sound
valid-permitted rs vs s e =
    valid-at (widths rs) vs (λ j l.
    let m : j < length rs = omega (arith, length-widths rs) in
    let r = get_or rs j no_rule in
    let high = (and_parts (leb 1 r.width && leb r.width 42) (ltb r.high (2 ^ r.width)) (every_in sound rs no_rule j s m)).1 in
    rw (width-at rs j) (omega (arith, ltb-true r.high (2 ^ r.width) high, (permitted-at rs vs e j m).1)))

pub valid-by : (vs : List ℕ) → permitted (rules_by vs) vs ≡ true → Valid (widths (rules_by vs)) vs
unfolding rules_by
valid-by vs e = valid-permitted (rules_by vs) vs (sound-rules (at vs 0) vs) e

pub writable : (vs : List ℕ) (room : ℕ) → write_number vs room ≡ 0 → Writable vs room
unfolding write_number first_failed
writable vs room e =
    let a = passed 0 (is_kind (at vs 0)) _ e in
    let b = passed 2 (eqb (length vs) (length (rules_by vs)) && permitted (rules_by vs) vs) _ a.1 in
    let c = passed 4 (ids_rise vs) _ b.1 in
    let d = passed 15 (leb (size_of (rules_by vs)) room) _ c.1 in
    let f = and_parts (eqb (length vs) (length (rules_by vs))) (permitted (rules_by vs) vs) b.0 in
    record { kind = a.0; counted = eqb-true (length vs) (length (rules_by vs)) f.0; permits = f.1; rise = c.0; fits = leb-true (size_of (rules_by vs)) room d.0 }

pub not-refused : (vs : List ℕ) (room : ℕ) → Writable vs room → write_number vs room ≡ 0
unfolding write_number first_failed
not-refused vs room w =
    rw (w.kind, eq-eqb (length vs) (length (rules_by vs)) w.counted, w.permits, w.rise, le-leb (size_of (rules_by vs)) room w.fits)

-- the bytes are read as these numbers, and so many bytes are used
pub record ReadAs (bytes vs : List ℕ) (used : ℕ) : Type 0 where
  pub accepts : record_number bytes ≡ 0
  pub numbers : numbers_of bytes ≡ vs
  pub uses : consumed bytes ≡ used

numbers-are : (bytes vs : List ℕ) → rules_of bytes ≡ rules_by vs → fields_at bytes 0 (widths (rules_by vs)) ≡ vs → numbers_of bytes ≡ vs
unfolding numbers_of
numbers-are bytes vs rules reads = rw rules reads

-- bytes with these numbers in their fields, and zero filling, are a record of these numbers
read_as : (bytes vs : List ℕ) → is_kind (at vs 0) ≡ true → permitted (rules_by vs) vs ≡ true → ids_rise vs ≡ true
    → fields_at bytes 0 (widths (rules_by vs)) ≡ vs → filling bytes (widths (rules_by vs)) ≡ 0 → size_of (rules_by vs) ≤ length bytes → ReadAs bytes vs (size_of (rules_by vs))
unfolding is_whole is_filled
read_as bytes vs kind permits rise reads zeros long =
    let first = (rules-of bytes vs kind reads).0 in
    let rules = (rules-of bytes vs kind reads).1 in
    let numbers = numbers-are bytes vs rules reads in
    let a : Accepted bytes = record {
      kind = rw first kind;
      whole = rw rules (le-leb (size_of (rules_by vs)) (length bytes) long);
      permits = rw (rules, numbers) permits;
      filled = rw rules (eq-eqb (filling bytes (widths (rules_by vs))) 0 zeros);
      rise = rw numbers rise;
    } in
    record { accepts = not-failed bytes a; numbers = numbers; uses = consumed-size bytes a ∙ ap size_of rules }

-- whatever is read, writing its numbers gives back the bytes used
module _ (bytes : List ℕ) (e : record_number bytes ≡ 0) where
  whole : size_of (rules_of bytes) ≤ length bytes
  unfolding is_whole
  whole = leb-true (size_of (rules_of bytes)) (length bytes) (accepted bytes e).whole

  zeros : filling bytes (widths (rules_of bytes)) ≡ 0
  unfolding is_filled
  zeros = eqb-true (filling bytes (widths (rules_of bytes))) 0 (accepted bytes e).filled

  pub read-writes : (room : ℕ) → size_of (rules_of bytes) ≤ room → write_number (numbers_of bytes) room ≡ 0
  read-writes room l =
      let a = accepted bytes e in
      let rules = rules-by bytes a.kind in
      not-refused (numbers_of bytes) room (record {
        kind = rw (numbers-kind bytes a.kind) a.kind;
        counted = rw rules (numbers-count bytes);
        permits = rw rules a.permits;
        rise = a.rise;
        fits = rw rules l;
      })

  pub read-back-bytes : Bytes bytes → bytes_by (numbers_of bytes) ≡ take (consumed bytes) bytes
  unfolding bytes_by numbers_of
  read-back-bytes xs =
      let a = accepted bytes e in
      rw (rules-by bytes a.kind, consumed-size bytes a) (write-back bytes (widths (rules_of bytes)) xs (omega (arith, whole)) zeros)

  -- and bytes behind the record do not matter
  pub rest-free : (rest : List ℕ) → ReadAs (take (consumed bytes) bytes ++ rest) (numbers_of bytes) (consumed bytes)
  unfolding numbers_of
  rest-free rest =
      let a = accepted bytes e in
      let n = consumed bytes in
      let ws = widths (rules_of bytes) in
      let new = take n bytes ++ rest in
      let size = consumed-size bytes a in
      let rules = rules-by bytes a.kind in
      let l : length (take n bytes) ≡ n = length-take-le n bytes (omega (arith, whole)) in
      let front : take n new ≡ take n bytes = take_at (take n bytes) rest n l in
      let kept : fields_at new 0 ws ≡ fields_at bytes 0 ws = fields-take new bytes n 0 ws front (omega arith) in
      let fill : filling new ws ≡ filling bytes ws = agree-field (agree-take new bytes n front) (total ws) (8 * bytes_for (total ws) - total ws) (omega arith) (omega arith) in
      let r = read_as new (numbers_of bytes) (rw (numbers-kind bytes a.kind) a.kind) (rw rules a.permits) a.rise (rw rules kept) (rw rules (fill ∙ zeros))
      (rw rules (omega (arith, length-append (take n bytes) rest))) in
      record { accepts = r.accepts; numbers = r.numbers; uses = r.uses ∙ ap size_of rules ∙ sym size }

length-by : (vs : List ℕ) → length vs ≡ length (rules_by vs) → length (bytes_by vs) ≡ size_of (rules_by vs)
unfolding bytes_by
length-by vs e = length-encode (widths (rules_by vs)) vs (e ∙ sym (length-widths (rules_by vs)))

-- whatever is written, reading its bytes, whatever follows, gives back the numbers
pub write-reads : (vs : List ℕ) (room : ℕ) → write_number vs room ≡ 0 → (rest : List ℕ) → ReadAs (bytes_by vs ++ rest) vs (length (bytes_by vs))
unfolding bytes_by
write-reads vs room e rest =
    let w = writable vs room e in
    let ws = widths (rules_by vs) in
    let n : length vs ≡ length ws = w.counted ∙ sym (length-widths (rules_by vs)) in
    let size = length-encode ws vs n in
    rw size
    (read_as (bytes_by vs ++ rest) vs w.kind w.permits w.rise (read_back ws vs rest (valid-by vs w.permits) n) (filling-zero ws vs rest n)
    (omega (arith, length-append (encode ws vs) rest)))

-- The round trip of the calls. Whatever `read` accepts, `write` of its numbers, with room, accepts, and leaves the bytes that were read.
module _ {bytes buffer out : List ℕ} {count used : ℕ} (r : Reads bytes buffer 0 count used out) where
  unrefused : eqb (read_number bytes (length buffer)) 0 ≡ true
  unrefused = eq-eqb (read_number bytes (length buffer)) 0 (sym r.numbers)

  record-read : record_number bytes ≡ 0
  unfolding read_number
  record-read = (number-none bytes _ (sym r.numbers)).0

  size-read : used ≡ size_of (rules_of bytes)
  size-read = rw unrefused at r.uses

  numbers-read : take count out ≡ numbers_of bytes
  unfolding read_buffer
  numbers-read =
      let all : out ≡ over (numbers_of bytes) buffer = rw unrefused at r.leaves in
      let n : count ≡ length (numbers_of bytes) = rw unrefused at r.counts in
      rw all (take_at (numbers_of bytes) _ count (sym n))

  pub read-write : {before after : List ℕ} {number written : ℕ} → Bytes bytes → used ≤ length before → Writes (take count out) before number written after
      → (number ≡ 0) × (written ≡ used) × (after ≡ over (take used bytes) before)
  unfolding write_buffer
  read-write {before} {after} {number} {written} xs room w =
      let e = record-read in
      let a = accepted bytes e in
      let vs = numbers_of bytes in
      let v : Writes vs before number written after = rw numbers-read at w in
      let zero = read-writes bytes e (length before) (omega (arith, size-read)) in
      let yes = eq-eqb (write_number vs (length before)) 0 zero in
      let size : written ≡ size_of (rules_by vs) = rw yes at v.uses in
      let all : after ≡ over (bytes_by vs) before = rw yes at v.leaves in
      let back : bytes_by vs ≡ take used bytes = read-back-bytes bytes e xs ∙ rw (consumed-size bytes a, size-read) in
      (v.numbers ∙ zero, size ∙ ap size_of (rules-by bytes a.kind) ∙ sym size-read, all ∙ ap (λ (l : List ℕ). over l before) back)

-- Whatever `write` accepts, `read` of its bytes, whatever follows them, with room, accepts, and leaves the numbers that were written.
pub write_read : {vs before after : List ℕ} {used : ℕ} → Writes vs before 0 used after → (rest : List ℕ) {buffer out : List ℕ} {number count read : ℕ} → most_numbers ≤ length buffer
    → Reads (take used after ++ rest) buffer number count read out → (number ≡ 0) × (count ≡ length vs) × (read ≡ used) × (out ≡ over vs buffer)
unfolding write_buffer read_buffer read_number first_failed
write_read {vs} {before} {after} {used} w rest {buffer} {out} {number} {count} {read} room r =
    let zero : write_number vs (length before) ≡ 0 = sym w.numbers in
    let yes = eq-eqb (write_number vs (length before)) 0 zero in
    let ok = writable vs (length before) zero in
    let n = length-by vs ok.counted in
    let all : after ≡ over (bytes_by vs) before = rw yes at w.leaves in
    let size : used ≡ length (bytes_by vs) = rw yes at w.uses ∙ sym n in
    let front : take used after ≡ bytes_by vs = rw all (take_at (bytes_by vs) _ used (sym size)) in
    let bytes = bytes_by vs ++ rest in
    let q : Reads bytes buffer number count read out = rw front at r in
    let back = write-reads vs (length before) zero rest in
    let none : read_number bytes (length buffer) ≡ 0 = number-later bytes _ back.accepts ∙ rw (le-leb most_numbers (length buffer) room) in
    let sure = eq-eqb (read_number bytes (length buffer)) 0 none in
    let uses : read ≡ size_of (rules_of bytes) = rw sure at q.uses in (
      q.numbers ∙ none,
      rw (sure, back.numbers) at q.counts,
      uses ∙ sym (consumed-size bytes (accepted bytes back.accepts)) ∙ back.uses ∙ sym size,
      rw (sure, back.numbers) at q.leaves,
    )
