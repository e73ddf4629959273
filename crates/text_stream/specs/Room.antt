-- Where output goes on that is gathered in a buffer.
use Rattle.std.specs.Prelude.{ℕ, ◌+◌, cond, leb}

-- behind what is gathered, where so many bytes of a buffer's size are left there, else at the front
unfoldable pub place_for : ℕ → ℕ → ℕ → ℕ
place_for room size at = cond (leb (at + room) size) at 0
