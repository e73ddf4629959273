-- A buffer that is filled from the front: what stands there and what is still to come are the whole, and past it all is as it was.
use Prim.Native.Nat.{ℕ, ◌+◌, ◌≤◌, ◌<◌}
use mathlib.Core.List.{List, [], ◌∷◌, ◌++◌, append_assoc, append-nil}
use mathlib.Core.Path.{◌≡◌, refl, sym, ap, ◌∙◌}
use native.Mathlib.Numerals.{add-one}
use native.Mathlib.Omega.{arith}
use lib.ListN.{length, take, drop, set, length-append, length-drop, take-append-drop}
use lib.Seq.{length-take-le, take_at, drop_at, drop-drop, set_split}
use Rattle.record_numbers.specs.Calls.{over}

pub record Front (whole rest before : List ℕ) (n : ℕ) (now : List ℕ) : Type 0 where
  pub within : n ≤ length before
  pub long : length now ≡ length before
  pub done : whole ≡ take n now ++ rest
  pub kept : drop n now ≡ drop n before

pub front-none : (whole before : List ℕ) → Front whole whole before 0 before
front-none w b = record { within = omega arith; long = refl; done = refl; kept = refl }

-- a number more, as the code stores it
pub set-over : (l : List ℕ) (i v : ℕ) → i < length l → set l i v ≡ take i l ++ over (v ∷ []) (drop i l)
set-over l i v h = set_split l i v h ∙ rw (drop-drop 1 i l, add-one i)

module _ {whole before now : List ℕ} {n : ℕ} where
  -- more of the whole, laid over what stands behind the front
  pub front-more : (s : List ℕ) {rest : List ℕ} → Front whole (s ++ rest) before n now → n + length s ≤ length before
      → Front whole rest before (n + length s) (take n now ++ over s (drop n now))
  front-more s {rest} f h =
      let behind = drop (length s) (drop n now) in
      let front : length (take n now) ≡ n = length-take-le n now (omega (arith, f.long, f.within)) in
      let both : length (take n now ++ s) ≡ n + length s = omega (arith, length-append (take n now) s) in
      let joined : take n now ++ (s ++ behind) ≡ (take n now ++ s) ++ behind = sym (append_assoc (take n now) s behind) in
      record {
        within = h;
        long = rw joined (omega (arith, length-append (take n now ++ s) behind, length-drop (length s) (drop n now), length-drop n now, f.long));
        done = f.done ∙ rw (joined, take_at (take n now ++ s) behind (n + length s) both, append_assoc);
        kept = rw (joined, drop_at (take n now ++ s) behind (n + length s) both, f.kept) (drop-drop (length s) n before);
      }

  -- nothing is still to come
  pub front-all : Front whole [] before n now → (n ≡ length whole) × (now ≡ over whole before)
  front-all f =
      let all : whole ≡ take n now = f.done ∙ append-nil (take n now) in
      let front : length whole ≡ n = ap length all ∙ length-take-le n now (omega (arith, f.long, f.within)) in
      (sym front, sym (take-append-drop n now) ∙ rw (f.kept, ← all, front))
