-- Laws of packing: what was encoded reads back, and bytes with zero filling are the encoding of their fields.
use Rattle.std.specs.Prelude.{◌≡◌, refl, List, [], ◌∷◌, ◌++◌, length, take, drop}
use Rattle.std.proofs.Common.{sym, ap, ◌∙◌, zero-add, length-append, length-drop, get_or-append-add, get_or-drop, take_at}
use Prim.Native.Nat.{ℕ, zero, suc, ◌+◌, ◌-◌, ◌*◌, ◌/◌, ◌%◌, ◌^◌, ◌≤◌, ◌<◌}
use Rattle.std.proofs.Math.Decide.{dec_lt}
use native.Mathlib.Omega.{arith}
use Rattle.std.proofs.Math.ListN.{get_or, get_or-append, get_or-eq_default}
use Rattle.std.proofs.lemmas.List.{get_or_at}
use Rattle.bits.specs.Bits.{Bytes, bit_at, number, field_at}
use Rattle.bits.specs.BitLaws.{below-append, number_lt, number-mid, number-zero, number-one, number_is, Agree, agree-join, agree-append, bit-after, field-bits, same_bytes}
use Rattle.bits.specs.Table.{total, fields_at, Valid}
use Rattle.bits.specs.TableLaws.{length_fields, fields-valid, fields-agree}
use Rattle.bits.specs.Pack.{bits_of, spell, bytes_for, byte_of, bytes_of, pack, encode, filling}

length-bits : (w v : ℕ) → length (bits_of w v) ≡ w
unfolding bits_of
length-bits zero v = refl
length-bits (suc w) v = ap suc (length-bits w _)

bits-lt : (w v q : ℕ) → get_or (bits_of w v) q 0 < 2
unfolding bits_of
bits-lt zero v q = omega arith
bits-lt (suc w) v zero = omega arith
bits-lt (suc w) v (suc q) = bits-lt w _ q

-- the bit at place k from the top
bits_at : (w v k : ℕ) → k < w → get_or (bits_of w v) k 0 ≡ v / 2 ^ (w - 1 - k) % 2
unfolding bits_of
bits_at zero v k h = absurd (omega arith)
bits_at (suc w) v zero h =
    let e : suc w - 1 - 0 ≡ w = omega arith in
    rw e
bits_at (suc w) v (suc k) h =
    let e : suc w - 1 - suc k ≡ w - 1 - k = omega arith in
    rw e (bits_at w v k (omega arith))

pub length-spell : (ws vs : List ℕ) → length vs ≡ length ws → length (spell ws vs) ≡ total ws
unfolding spell
length-spell [] vs e = refl
length-spell (w ∷ ws) [] e = absurd (omega arith)
length-spell (w ∷ ws) (v ∷ vs) e = rw (length-append, length-bits, length-spell ws vs (omega arith))

spell-lt : (ws vs : List ℕ) (q : ℕ) → get_or (spell ws vs) q 0 < 2
unfolding spell
spell-lt [] vs q = omega arith
spell-lt (w ∷ ws) [] q = omega arith
spell-lt (w ∷ ws) (v ∷ vs) q = below-append 2 (bits_of w v) (spell ws vs) (bits-lt w v) (spell-lt ws vs) q

-- a list of bytes with the values' bits from p on has the values in its fields
spell-fields : (xs : List ℕ) (p : ℕ) (ws vs : List ℕ) → Valid ws vs → length vs ≡ length ws
    → ((q : ℕ) → q < total ws → bit_at xs (p + q) ≡ get_or (spell ws vs) q 0) → fields_at xs p ws ≡ vs
unfolding spell
spell-fields xs p [] [] a e h = refl
spell-fields xs p [] (v ∷ vs) a e h = absurd (omega arith)
spell-fields xs p (w ∷ ws) [] a e h = absurd (omega arith)
spell-fields xs p (w ∷ ws) (v ∷ vs) a e h =
    let n = length-bits w v in
    let first : field_at xs p w ≡ v =
    number_is (bit_at xs) p w v a.0 (λ k l. h k (omega arith) ∙ get_or-append (bits_of w v) (spell ws vs) 0 k (omega arith) ∙ bits_at w v k l) in
    let rest : fields_at xs (p + w) ws ≡ vs = spell-fields xs (p + w) ws vs a.1 (omega arith) (λ q l.
    let at : p + w + q ≡ p + (w + q) = omega arith in
    rw at (h (w + q) (omega arith)) ∙ ap (λ (j : ℕ). get_or (bits_of w v ++ spell ws vs) (j + q) 0) (sym n) ∙ get_or-append-add (bits_of w v) (spell ws vs) q 0) in
    rw (first, rest)

length-bytes : (bits : List ℕ) (n : ℕ) → length (bytes_of bits n) ≡ n
unfolding bytes_of
length-bytes bits zero = refl
length-bytes bits (suc n) = rw (length-append, length-bytes bits n) (omega arith)

bytes-at : (bits : List ℕ) (n i : ℕ) → i < n → get_or (bytes_of bits n) i 0 ≡ byte_of bits i
unfolding bytes_of
bytes-at bits zero i h = absurd (omega arith)
bytes-at bits (suc n) i h =
    let l = length-bytes bits n in
    elim (dec_lt i n) [
      | yes a ↦ get_or-append (bytes_of bits n) (byte_of bits n ∷ []) 0 i (omega arith) ∙ bytes-at bits n i a
      | no a ↦
          let z : i ≡ n = omega arith in
          rw z (get_or_at (bytes_of bits n) (byte_of bits n) [] 0 n l)
    ]

module _ (bits : List ℕ) (bit : (q : ℕ) → get_or bits q 0 < 2) where
  bytes_lt : (n : ℕ) → Bytes (bytes_of bits n)
  unfolding bytes_of byte_of
  bytes_lt zero i = omega arith
  bytes_lt (suc n) i = below-append (2 ^ 8) (bytes_of bits n) (byte_of bits n ∷ []) (bytes_lt n) one i
    where
      one : (i : ℕ) → get_or (byte_of bits n ∷ []) i 0 < 2 ^ 8
      one zero = number_lt (λ q. get_or bits q 0) bit (8 * n) 8
      one (suc i) = omega arith

  -- packed bits are in their places
  bytes-bit : (n q : ℕ) → q < 8 * n → bit_at (bytes_of bits n) q ≡ get_or bits q 0
  unfolding bit_at byte_of
  bytes-bit n q h =
      let at : 8 * (q / 8) + q % 8 ≡ q = omega arith in
      let all : 8 ≡ q % 8 + 1 + (7 - q % 8) = omega arith in
      rw (bytes-at bits n (q / 8) (omega arith))
      (rw (← all, at, number-one) at (number-mid (λ j. get_or bits j 0) bit (8 * (q / 8)) (q % 8) 1 (7 - q % 8)))

pub length-encode : (ws vs : List ℕ) → length vs ≡ length ws → length (encode ws vs) ≡ bytes_for (total ws)
unfolding encode pack
length-encode ws vs e = rw (length-bytes, length-spell ws vs e)

pub bytes-encode : (ws vs : List ℕ) → Bytes (encode ws vs)
unfolding encode pack
bytes-encode ws vs = bytes_lt (spell ws vs) (spell-lt ws vs) (bytes_for (length (spell ws vs)))

-- the bits of an encoding are the values', and zero behind them
encode-bit : (ws vs rest : List ℕ) (q : ℕ) → length vs ≡ length ws → q < 8 * bytes_for (total ws) → bit_at (encode ws vs ++ rest) q ≡ get_or (spell ws vs) q 0
unfolding encode pack
encode-bit ws vs rest q e h =
    let n = length-spell ws vs e in
    let l = length-encode ws vs e in
    (agree-append (encode ws vs) rest).same q (omega arith) (omega arith) ∙ bytes-bit (spell ws vs) (spell-lt ws vs) (bytes_for (length (spell ws vs))) q (rw n h)

-- what was encoded reads back, whatever follows
pub read_back : (ws vs rest : List ℕ) → Valid ws vs → length vs ≡ length ws → fields_at (encode ws vs ++ rest) 0 ws ≡ vs
read_back ws vs rest a e = spell-fields (encode ws vs ++ rest) 0 ws vs a e (λ q h. rw zero-add (encode-bit ws vs rest q e (omega arith)))

-- the filling of an encoding is zero
pub filling-zero : (ws vs rest : List ℕ) → length vs ≡ length ws → filling (encode ws vs ++ rest) ws ≡ 0
filling-zero ws vs rest e =
    let n = length-spell ws vs e in
    number-zero (bit_at (encode ws vs ++ rest)) (total ws) (8 * bytes_for (total ws) - total ws) (λ q l h. encode-bit ws vs rest q e (omega arith) ∙ get_or-eq_default (spell ws vs) 0 (omega arith))

-- bytes that have the values in their fields, zero filling, and the bits of old behind it are the values' encoding in front of old's rest
pub encode-unique : (old new ws vs : List ℕ) → Bytes old → Bytes new → length new ≡ length old → bytes_for (total ws) ≤ length old
    → fields_at new 0 ws ≡ vs → filling new ws ≡ 0 → ((q : ℕ) → 8 * bytes_for (total ws) ≤ q → bit_at new q ≡ bit_at old q)
    → new ≡ encode ws vs ++ drop (bytes_for (total ws)) old
encode-unique old new ws vs ho hn long room reads zeros after =
    let n = bytes_for (total ws) in
    let e : length vs ≡ length ws = rw reads at (length_fields new 0 ws) in
    let a : Valid ws vs = rw reads at (fields-valid new 0 ws) in
    let l = length-encode ws vs e in
    let out = encode ws vs ++ drop n old in
    let fill : total ws + (8 * n - total ws) ≡ 8 * n = omega arith in
    let fields : Agree new out 0 (total ws) = rw zero-add at (fields-agree new out 0 ws (reads ∙ sym (read_back ws vs (drop n old) a e))) in
    let filled : Agree new out (total ws) (8 * n) =
    rw fill at (field-bits new out (total ws) (8 * n - total ws) (zeros ∙ sym (filling-zero ws vs (drop n old) e))) in
    let behind : Agree new out (8 * n) (8 * length new) =
    record { same = λ q k h. after q k ∙ sym (rw l at (bit-after (encode ws vs) old q (omega arith))) } in
    let bytes : Bytes out = below-append (2 ^ 8) (encode ws vs) (drop n old) (bytes-encode ws vs) (λ i. rw get_or-drop (ho (n + i))) in
    let size : length new ≡ length out = rw (length-append, l, length-drop) (omega arith) in
    same_bytes hn bytes size (agree-join fields (agree-join filled behind))

-- to encode what was read is to write the same bytes
pub write-back : (xs ws : List ℕ) → Bytes xs → total ws ≤ 8 * length xs → filling xs ws ≡ 0 → encode ws (fields_at xs 0 ws) ≡ take (bytes_for (total ws)) xs
write-back xs ws hx long zeros =
    let n = bytes_for (total ws) in
    let vs = fields_at xs 0 ws in
    let whole : xs ≡ encode ws vs ++ drop n xs = encode-unique xs xs ws vs hx hx refl (omega arith) refl zeros (λ q h. refl) in
    sym (ap (λ (l : List ℕ). take n l) whole ∙ take_at (encode ws vs) (drop n xs) n (length-encode ws vs (length_fields xs 0 ws)))

-- 110 and 1000011, and six zero bits that fill the second byte
pub encode-figure : encode (3 ∷ 7 ∷ []) (6 ∷ 67 ∷ []) ≡ 208 ∷ 192 ∷ []
unfolding encode pack bytes_of byte_of spell bits_of number
encode-figure = refl
