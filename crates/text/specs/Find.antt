-- Where a byte stands.
use Rattle.std.specs.Prelude.{ℕ, ◌≤◌, ◌<◌, List, ◌≡◌, length, get_or}

-- e is the first place from p on that holds b, or the length
pub record Ends (s : List ℕ) (p b e : ℕ) : Type 0 where
  pub from : p ≤ e
  pub within : e ≤ length s
  pub before : (k : ℕ) → p ≤ k → k < e → get_or s k 0 ≡ b → ⊥
  pub found : e < length s → get_or s e 0 ≡ b
