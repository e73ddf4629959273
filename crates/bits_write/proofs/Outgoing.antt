-- The lowest bytes of a number, the highest of them first, spell it.
use mathlib.Core.List.{List, ◌++◌}
use mathlib.Core.Path.{◌≡◌, refl, ap, ◌∙◌}
use Prim.Native.Nat.{ℕ, zero, suc, ◌+◌, ◌-◌, ◌*◌, ◌/◌, ◌%◌, ◌^◌, ◌≤◌, ◌<◌}
use native.Mathlib.Nat.{zero-add, add-zero, suc-add, mod-lt, mod-eq_of_lt}
use native.Mathlib.Omega.{arith}
use lib.ListN.{length, get_or, take, drop, length-append, get_or-append}
use lib.Pow.{pow_pos, pow-add, mod-pow-add}
use Rattle.std.specs.Int.{byte_at, bytes_high_first}
use Rattle.std.proofs.Common.{length-drop, length-take-le, get_or-drop, take_all}
use Rattle.std.proofs.lemmas.List.{take_at, get_or-append_right}
use Rattle.bits.specs.Bits.{number, field_at}
use Rattle.bits.specs.BitLaws.{field-split, byte-field, agree-take, agree-field}
use Rattle.bits_write.specs.Held.{Out}

bytes-pow : (k : ℕ) → 256 ^ k ≡ 2 ^ (8 * k)
bytes-pow zero = refl
bytes-pow (suc k) = let e : 8 * suc k ≡ 8 * k + 8 = omega arith in rw (e, pow-add 2 (8 * k) 8, ← bytes-pow k) (omega arith)

byte-is : (k v : ℕ) → byte_at k v ≡ v / 2 ^ (8 * k) % 2 ^ 8
byte-is zero v = omega arith
byte-is (suc k) v = rw (← bytes-pow (suc k))

bytes-long : (n v : ℕ) → length (bytes_high_first n v) ≡ n
bytes-long zero v = refl
bytes-long (suc n) v = omega (arith, bytes-long n v)

-- behind k bytes are the lowest n
bytes-behind : (k n v : ℕ) → drop k (bytes_high_first (k + n) v) ≡ bytes_high_first n v
bytes-behind zero n v = rw zero-add
bytes-behind (suc k) n v = rw suc-add (bytes-behind k n v)

-- the last n of a word's eight bytes
pub last_bytes : (n v : ℕ) → n ≤ 8 → take (8 - (8 - n)) (drop (8 - n) (bytes_high_first 8 v)) ≡ bytes_high_first n v
last_bytes n v l =
    let all : 8 - n + n ≡ 8 = omega arith in
    let left : 8 - (8 - n) ≡ n = omega arith in
    let behind = rw all at (bytes-behind (8 - n) n v) in
    let whole = take_all n (bytes_high_first n v) (omega (arith, bytes-long n v)) in
    rw left (ap (take n) behind ∙ whole)

spelt : (n v at : ℕ) (xs : List ℕ) → ((i : ℕ) → i < n → get_or xs (at + i) 0 ≡ get_or (bytes_high_first n v) i 0) → field_at xs (8 * at) (8 * n) ≡ v % 2 ^ (8 * n)
unfolding number
spelt zero v at xs h = omega arith
spelt (suc n) v at xs h =
    let head : get_or xs at 0 ≡ v / 2 ^ (8 * n) % 2 ^ 8 = rw (add-zero at) at (h 0 (omega arith)) ∙ byte-is n v in
    let small : get_or xs at 0 < 2 ^ 8 = rw head (mod-lt (v / 2 ^ (8 * n)) (pow_pos 8)) in
    let rest = spelt n v (at + 1) xs (λ i l. let p : at + 1 + i ≡ at + suc i = omega arith in rw p (h (suc i) (omega arith))) in
    let long : 8 * suc n ≡ 8 + 8 * n = omega arith in
    let next : 8 * at + 8 ≡ 8 * (at + 1) = omega arith in
    rw (long, field-split xs (8 * at) 8 (8 * n), byte-field xs at small, head, next, rest, mod-pow-add v 8 (8 * n))

-- they are laid over n bytes from a place on
module _ (old : List ℕ) (at n v : ℕ) (room : at + n ≤ length old) (small : v < 2 ^ (8 * n)) where
  abbrev front : List ℕ
  front = take at old

  abbrev behind : List ℕ
  behind = drop n (drop at old)

  abbrev new : List ℕ
  new = front ++ (bytes_high_first n v ++ behind)

  front-long : length front ≡ at
  front-long = length-take-le at old (omega arith)

  inside : (i : ℕ) → i < n → get_or new (at + i) 0 ≡ get_or (bytes_high_first n v) i 0
  inside i l =
      let j : at + i - at ≡ i = omega arith in
      get_or-append_right front (bytes_high_first n v ++ behind) at (at + i) 0 front-long (omega arith) ∙ rw j (get_or-append (bytes_high_first n v) behind 0 i (omega (arith, bytes-long n v)))

  kept : field_at new 0 (8 * at) ≡ field_at old 0 (8 * at)
  kept = agree-field (agree-take new old at (take_at front (bytes_high_first n v ++ behind) at front-long)) 0 (8 * at) (omega arith) (omega arith)

  after : (i : ℕ) → at + n ≤ i → get_or new i 0 ≡ get_or old i 0
  after i l =
      let j : at + (n + (i - at - n)) ≡ i = omega arith in
      get_or-append_right front (bytes_high_first n v ++ behind) at i 0 front-long (omega arith)
      ∙ get_or-append_right (bytes_high_first n v) behind n (i - at) 0 (bytes-long n v) (omega arith)
      ∙ get_or-drop n (drop at old) (i - at - n) 0 ∙ get_or-drop at old (n + (i - at - n)) 0 ∙ ap (λ (k : ℕ). get_or old k 0) j

  pub gone : Out old new at n v
  gone =
      let e : 8 * (at + n) ≡ 8 * at + 8 * n = omega arith in
      record {
        long = omega (arith, length-append front (bytes_high_first n v ++ behind), length-append (bytes_high_first n v) behind, bytes-long n v, length-drop n (drop at old), length-drop at old, front-long);
        spells = rw (e, field-split new 0 (8 * at) (8 * n), kept, zero-add (8 * at), spelt n v at new inside, mod-eq_of_lt small);
        after = after;
      }
