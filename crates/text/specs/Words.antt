-- The words of a line, and the numbers that they spell.
use Rattle.std.specs.Prelude.{ℕ, ◌+◌, ◌-◌, ◌*◌, ◌^◌, ◌≤◌, ◌<◌, min, Bool, false, ◌&&◌, ◌||◌, cond, ◌≡◌, leb, eqb, length, get_or, take, drop}
use mathlib.Core.List.{List, [], ◌∷◌, ◌++◌, map, foldl}

-- spaces, tabs and carriage returns separate words
unfoldable pub separates : ℕ → Bool
separates b = eqb b 32 || eqb b 9 || eqb b 13

-- a word before others; where it is empty it is none
unfoldable pub closed : List ℕ → List (List ℕ) → List (List ℕ)
closed [] ws = ws
closed (b ∷ w) ws = (b ∷ w) ∷ ws

-- the words of a text of which the start w of a word is passed
unfoldable pub words_from : List ℕ → List ℕ → List (List ℕ)
words_from w [] = closed w []
words_from w (b ∷ s) = cond (separates b) (closed w (words_from [] s)) (words_from (w ++ (b ∷ [])) s)

abbrev pub words : List ℕ → List (List ℕ)
words s = words_from [] s

-- a number with a character behind it: at most 2 ^ 64 - 1, and that where the character is no decimal digit
unfoldable pub further : ℕ → ℕ → ℕ
further v b = cond (leb 48 b && leb b 57) (min (v * 10 + (b - 48)) (2 ^ 64 - 1)) (2 ^ 64 - 1)

-- the number that a word spells
unfoldable pub spelled : List ℕ → ℕ
spelled w = foldl further 0 w

-- the numbers of a line
unfoldable pub numbers : List ℕ → List ℕ
numbers s = map spelled (words s)

-- e is where the next word starts from p on, or the length
pub record Starts (s : List ℕ) (p e : ℕ) : Type 0 where
  pub from : p ≤ e
  pub within : e ≤ length s
  pub passes : words (drop p s) ≡ words (drop e s)
  pub starts : e < length s → separates (get_or s e 0) ≡ false

-- e is where the word that starts at p ends
pub record Stops (s : List ℕ) (p e : ℕ) : Type 0 where
  pub after : p < e
  pub within : e ≤ length s
  pub word : words (drop p s) ≡ take (e - p) (drop p s) ∷ words (drop e s)
