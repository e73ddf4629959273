-- Laws of the writer: one number written after another, tables of values as one number, and that what is finished is the encoding.
use Rattle.std.specs.Prelude.{◌≡◌, refl, List, [], ◌∷◌, ◌++◌, ℕ, ◌+◌, ◌-◌, ◌*◌, ◌/◌, ◌%◌, ◌^◌, ◌≤◌, ◌<◌, length, get_or, take, drop}
use Rattle.std.proofs.Common.{sym, ap, subst, ◌∙◌, add-zero, zero-add, add-one, arith, length-append, length-drop, take-append-drop, pow_pos, pow-add, take-add, take-suc, length-take-le}
use Rattle.std.proofs.Math.Arith.{digits_lt}
use Rattle.std.proofs.Math.Pow.{high, low}
use Rattle.bits_write.specs.declared.Writer.{Writer}
use Rattle.bits.specs.Bits.{Bytes, bit_at, number, field_at}
use Rattle.bits.specs.BitLaws.{field_lt, field-split}
use Rattle.bits.specs.Table.{total, times, fields_at, Valid}
use Rattle.bits.specs.TableLaws.{total-append, valid-split}
use Rattle.bits.specs.ItemLaws.{length-item, times_more, times-split}
use Rattle.bits.specs.Pack.{bytes_for, encode, filling}
use Rattle.bits.specs.PackLaws.{encode-unique}
use Rattle.bits_write.specs.Written.{joined, written_bits, written, Wrote, Finished}

joined-lt : (ws vs : List ℕ) → Valid ws vs → joined ws vs < 2 ^ total ws
unfolding joined
joined-lt [] vs a = omega arith
joined-lt (w ∷ ws) [] a = pow_pos (w + total ws)
joined-lt (w ∷ ws) (v ∷ vs) a = rw (pow-add 2 w (total ws)) (digits_lt a.0 (joined-lt ws vs a.1))

-- two tables in a row
pub joined-append : (ws vs us ts : List ℕ) → length vs ≡ length ws → joined (ws ++ us) (vs ++ ts) ≡ joined ws vs * 2 ^ total us + joined us ts
unfolding joined
joined-append [] [] us ts e = omega arith
joined-append [] (v ∷ vs) us ts e = absurd (omega arith)
joined-append (w ∷ ws) [] us ts e = absurd (omega arith)
joined-append (w ∷ ws) (v ∷ vs) us ts e =
    rw (total-append ws us, pow-add 2 (total ws) (total us), joined-append ws vs us ts (omega arith)) (omega arith)

-- one more value
pub joined-more : (ws vs : List ℕ) (i : ℕ) → i < length ws → i < length vs
    → joined (take (i + 1) ws) (take (i + 1) vs) ≡ joined (take i ws) (take i vs) * 2 ^ get_or ws i 0 + get_or vs i 0
unfolding joined
joined-more ws vs i h k =
    let n : length (take i vs) ≡ length (take i ws) = length-take-le i vs (omega arith) ∙ sym (length-take-le i ws (omega arith)) in
    rw (add-one, take-suc ws i 0, take-suc vs i 0, joined-append (take i ws) (take i vs) (get_or ws i 0 ∷ []) (get_or vs i 0 ∷ []) n, add-zero (get_or ws i 0)) (omega arith)

-- one more item of n, with the values from a place on
module _ (ws vs : List ℕ) (n k i : ℕ) (h : k < n) (e : i ≡ length (times k ws)) (all : length vs ≡ length (times n ws)) where
  abbrev item : List ℕ
  item = take (length ws) (drop i vs)

  item-parts : (rest : List ℕ) × (vs ≡ (take i vs ++ item) ++ rest)
  item-parts = (drop (i + length ws) vs, rw (← take-add i (length ws) vs) (sym (take-append-drop (i + length ws) vs)))

  pub length-item-values : (length (take i vs) ≡ length (times k ws)) × (length item ≡ length ws)
  length-item-values =
      let l = length-item ws n k h in
      (length-take-le i vs (omega arith) ∙ e, length-take-le (length ws) (drop i vs) (omega (arith, length-drop i vs)))

  pub valid-item : Valid (times n ws) vs → Valid ws item
  valid-item v =
      let l = length-item-values in
      let p = item-parts in
      let r = times-split ws k n h in
      let both : Valid ((times k ws ++ ws) ++ r.0) ((take i vs ++ item) ++ p.0) = rw r.1 at (subst (λ (l : List ℕ). Valid (times n ws) l) p.1 v) in
      let front = (valid-split (times k ws ++ ws) r.0 (take i vs ++ item) p.0 (omega (arith, length-append (take i vs) item, length-append (times k ws) ws)) both).0 in
      (valid-split (times k ws) ws (take i vs) item l.0 front).1

  pub joined-item : joined (times (k + 1) ws) (take (i + length ws) vs) ≡ joined (times k ws) (take i vs) * 2 ^ total ws + joined ws item
  joined-item = rw (times_more ws k, take-add i (length ws) vs) (joined-append (times k ws) (take i vs) ws item length-item-values.0)

-- bits that spell the number of a table have its values in their fields
pub joined-fields : (xs : List ℕ) (p : ℕ) (ws vs : List ℕ) → Valid ws vs → length vs ≡ length ws → field_at xs p (total ws) ≡ joined ws vs → fields_at xs p ws ≡ vs
unfolding joined
joined-fields xs p [] [] a e f = refl
joined-fields xs p [] (v ∷ vs) a e f = absurd (omega arith)
joined-fields xs p (w ∷ ws) [] a e f = absurd (omega arith)
joined-fields xs p (w ∷ ws) (v ∷ vs) a e f =
    let t = total ws in
    let l = field_lt xs (p + w) t in
    let m = joined-lt ws vs a.1 in
    let both : field_at xs p w * 2 ^ t + field_at xs (p + w) t ≡ v * 2 ^ t + joined ws vs = sym (field-split xs p w t) ∙ f in
    let first : field_at xs p w ≡ v = sym (high (field_at xs p w) t l) ∙ ap (λ (x : ℕ). x / 2 ^ t) both ∙ high v t m in
    let rest : field_at xs (p + w) t ≡ joined ws vs = sym (low (field_at xs p w) t l) ∙ ap (λ (x : ℕ). x % 2 ^ t) both ∙ low v t m in
    rw (first, joined-fields xs (p + w) ws vs a.1 (omega arith) rest)

pub written_none : (xs : List ℕ) (p : Writer) → Wrote xs xs p p 0 0
written_none xs p = record { long = refl; onward = omega arith; ends = omega arith; spells = omega arith; after = λ i l. refl }

-- one number after another
pub written-join : {old cur new : List ℕ} {p q r : Writer} {a u b v : ℕ} → Wrote old cur p q a u → Wrote cur new q r b v → Wrote old new p r (a + b) (u * 2 ^ b + v)
written-join {old} {cur} {new} {p} {q} {r} {a} {u} {b} {v} f g =
    record {
      long = g.long ∙ f.long;
      onward = omega (arith, f.onward, g.onward);
      ends = omega (arith, f.ends, g.ends);
      spells = g.spells ∙ ap (λ (x : ℕ). x * 2 ^ b + v) f.spells ∙ rw (pow-add 2 a b) (omega arith);
      after = λ i l. g.after i l ∙ f.after i (omega (arith, g.onward));
    }

-- a table written from the first bit on, and then zero bits, make the encoding
module _ {old cur new : List ℕ} {p q : Writer} {size : ℕ} (ws vs : List ℕ) (valid : Valid ws vs) (same : length vs ≡ length ws)
    (at : p.at ≡ 0) (waiting : p.waiting ≡ 0) (rest : p.rest ≡ 0) (f : Wrote old cur p q (total ws) (joined ws vs)) (g : Finished cur new q size) where
  bits_are : written_bits q ≡ total ws
  bits_are = omega (arith, f.ends)

  pub written-size : size ≡ bytes_for (total ws)
  written-size = g.ends ∙ ap bytes_for bits_are

  spelt : written cur q ≡ joined ws vs
  unfolding number
  spelt =
      let none : written old p ≡ 0 = rw (at, waiting, rest) in
      f.spells ∙ rw none (omega arith)

  abbrev fill : ℕ
  fill = 8 * bytes_for (total ws) - total ws

  whole : field_at new 0 (total ws) * 2 ^ fill + filling new ws ≡ joined ws vs * 2 ^ fill + 0
  whole =
      let n : total ws + fill ≡ 8 * bytes_for (total ws) = omega arith in
      let s : field_at new 0 (8 * bytes_for (total ws)) ≡ field_at new 0 (total ws) * 2 ^ fill + filling new ws = rw (n, zero-add (total ws)) at (field-split new 0 (total ws) fill) in
      let t : field_at new 0 (8 * bytes_for (total ws)) ≡ joined ws vs * 2 ^ fill = rw (written-size, spelt, bits_are) at g.spells in
      sym s ∙ t ∙ sym (add-zero _)

  zeros : filling new ws ≡ 0
  zeros =
      sym (low (field_at new 0 (total ws)) fill (field_lt new (total ws) fill)) ∙ ap (λ (x : ℕ). x % 2 ^ fill) whole ∙ low (joined ws vs) fill (pow_pos fill)

  kept : fields_at new 0 ws ≡ vs
  kept =
      joined-fields new 0 ws vs valid same
      (sym (high (field_at new 0 (total ws)) fill (field_lt new (total ws) fill)) ∙ ap (λ (x : ℕ). x / 2 ^ fill) whole ∙ high (joined ws vs) fill (pow_pos fill))

  behind : (k : ℕ) → 8 * bytes_for (total ws) ≤ k → bit_at new k ≡ bit_at old k
  unfolding bit_at
  behind k l = rw (g.after (k / 8) (omega (arith, written-size)), f.after (k / 8) (omega (arith, bits_are)))

  pub written-encodes : Bytes old → Bytes new → bytes_for (total ws) ≤ length old → new ≡ encode ws vs ++ drop (bytes_for (total ws)) old
  written-encodes ho hn room = encode-unique old new ws vs ho hn (g.long ∙ f.long) room kept zeros behind
