-- One comparison tells the patterns of a NaN, and each of these is read as `nan`.
use Rattle.std.proofs.Common.{◌≡◌, ℕ, ◌%◌, ◌<◌, ◌≤◌, Bool, not, T, ltb, sym, refl, ◌∙◌, subst, not-le_of_lt, ltb→lt, lt→ltb}
use lib.Dec.{not_T}
use lib.Ieee.{Float, nan, inf, fin, binary32, of_bits, nan_bits, is_nan, div}
use lib.Ieee.Bits.{nan_bits_above, nan_bits_is}

pub no_nan : (n : ℕ) → n % 0x8000_0000 ≤ 0x7f80_0000 → T (not (nan_bits binary32 n))
no_nan n h =
    subst (λ (b : Bool). T (not b)) (sym (nan_bits_above binary32 n))
    (not_T (ltb 0x7f80_0000 (n % 0x8000_0000)) (λ t. not-le_of_lt (ltb→lt 0x7f80_0000 (n % 0x8000_0000) t) h))

only : (x : Float) → T (is_nan x) → x ≡ nan
unfolding is_nan
only nan t = refl
only (inf s) t = absurd t
only (fin s m e) t = absurd t

is-nan : (n : ℕ) → 0x7f80_0000 < n % 0x8000_0000 → nan ≡ of_bits binary32 n
is-nan n h = sym (only (of_bits binary32 n) (subst T (nan_bits_is binary32 n) (subst T (sym (nan_bits_above binary32 n)) (lt→ltb 0x7f80_0000 (n % 0x8000_0000) h))))

quotient : div binary32 (of_bits binary32 0) (of_bits binary32 0) ≡ nan
unfolding div of_bits
quotient = refl

pub nan_of : (n : ℕ) → 0x7f80_0000 < n % 0x8000_0000 → div binary32 (of_bits binary32 0) (of_bits binary32 0) ≡ of_bits binary32 n
nan_of n h = quotient ∙ is-nan n h
