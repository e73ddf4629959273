-- Laws of the bill's lines: an amount by its bits, and lines one after another.
use Rattle.std.specs.Prelude.{◌≡◌, List, ◌∷◌, ℕ, suc, ◌+◌, ◌-◌, ◌*◌, ◌^◌, ◌≤◌, ◌<◌, length}
use Rattle.std.proofs.Common.{add-one, arith, lt-ltb, le-ltb}
use Rattle.statement.specs.Value42.{value42}
use Rattle.text.specs.Pasted.{Pasted, none, then}
use Rattle.text.specs.Lines.{decimal}
use Rattle.text_bill.specs.Text.{cents, lines_from}

-- an amount below 2 ^ 41 is its digits, and any other `-` and the digits of what is left to 2 ^ 42
pub cents-low : (x : ℕ) → x < 2 ^ 41 → cents (value42 x) ≡ decimal x
unfolding cents value42
cents-low x h = rw (lt-ltb x (2 ^ 41) h)

pub cents-high : (x : ℕ) → 2 ^ 41 ≤ x → x < 2 ^ 42 → cents (value42 x) ≡ 45 ∷ decimal (2 ^ 42 - x)
unfolding cents value42
cents-high x h small =
    let e : suc (2 ^ 42 - suc x) ≡ 2 ^ 42 - x = omega arith in
    rw (le-ltb x (2 ^ 41) h, e)

-- a turn of a loop that puts lines
pub lines_none : (line : ℕ → List ℕ) (bits from : ℕ) (old : List ℕ) (at : ℕ) → at ≤ length old → Pasted old old at (lines_from line bits from 0) at
unfolding lines_from
lines_none line bits from old at h = none old at h

pub lines_step : {old mid new : List ℕ} {at p end : ℕ} (line : ℕ → List ℕ) (bits from n : ℕ) → Pasted old mid at (lines_from line bits from n) p → Pasted mid new p (line (from + bits * n)) end → Pasted old new at (lines_from line bits from (n + 1)) end
unfolding lines_from
lines_step line bits from n f g = rw add-one (then f g)
