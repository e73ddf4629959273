-- When a binary32 value counts (document 02, C-14), and what it is in eighths.
-- A value is as in `lib.Ieee`: `fin s m e` is m × 2 ^ e, negative where s is true, and 2 ^ e is the fraction up e / down e. So eight times its size is m * up e * 8 / down e.
use Rattle.std.specs.Prelude.{◌≡◌, ℕ, ◌-◌, ◌*◌, ◌/◌, ◌%◌, ◌≤◌, Bool, true, false, not, ◌&&◌, ◌||◌, [], ◌∷◌, map, ◌==◌, nat_lt, refl, Float}
use Rattle.std.specs.Float.{nan, inf, fin, binary32}
use Rattle.std.specs.Float.Ieee.{up, down, sub, of_bits}

-- the eighths of 131,072 kW
abbrev pub edge : ℕ
edge = 8 * 131072

-- how many eighths it is, where it counts
unfoldable pub eighths_of : Float → ℕ
eighths_of nan = 0
eighths_of (inf s) = 0
eighths_of (fin s m e) = m * up e * 8 / down e

-- a whole number of eighths, at least 0 (minus zero is zero), below 131,072
unfoldable pub counts : Float → Bool
counts nan = false
counts (inf s) = false
counts (fin s m e) = m * up e * 8 % down e == 0 && ((not s || m == 0) && nat_lt (m * up e * 8 / down e) edge)

-- The exact case: r is x less y, both of which count. Where y is no larger it is binary32's own subtraction, which loses nothing: r counts, and has as many eighths as x has more than y.
-- Where y is larger r is 0, as `-` on ℕ is.
pub record Less (x y r : Float) : Type 0 where
  pub subtracted : eighths_of y ≤ eighths_of x → r ≡ sub binary32 x y
  pub counted : counts r ≡ true
  pub exact : eighths_of r ≡ eighths_of x - eighths_of y

-- Worked by hand, each value by its bit pattern: those that count, in eighths, and those that do not.
abbrev whether : ℕ → Bool × ℕ
whether bits = (counts (of_bits binary32 bits), eighths_of (of_bits binary32 bits))

figures : (
    -- 0, minus zero, 0.125, 1, 100,000.875, 131,071.875
    map whether (0x0000_0000 ∷ 0x8000_0000 ∷ 0x3e00_0000 ∷ 0x3f80_0000 ∷ 0x47c3_5070 ∷ 0x47ff_fff0 ∷ [])
    ≡ ((true, 0) ∷ (true, 0) ∷ (true, 1) ∷ (true, 8) ∷ (true, 800007) ∷ (true, 1048575) ∷ []))
    × (
    -- 0.0625, the value below 1, 131,072, −0.125, the subnormals next to 0, the infinities, a quiet and a signalling NaN
    map (λ (bits : ℕ). counts (of_bits binary32 bits)) (0x3d80_0000 ∷ 0x3f7f_ffff ∷ 0x4800_0000 ∷ 0xbe00_0000 ∷ 0x0000_0001 ∷ 0x8000_0001 ∷ 0x7f80_0000 ∷ 0xff80_0000 ∷ 0x7fc0_0000 ∷ 0xff80_0001 ∷ [])
    ≡ (false ∷ false ∷ false ∷ false ∷ false ∷ false ∷ false ∷ false ∷ false ∷ false ∷ []))
unfolding counts eighths_of of_bits
figures = (refl, refl)
