-- Calls that take a record (document 01, 'The lists of demand 3'), and what is read off a list of calls that are answered.
use Rattle.std.specs.Prelude.{ℕ, Bool, true, false, ◌&&◌, ◌||◌, List, [], ◌∷◌, ◌++◌, ◌≡◌, length, drop, eqb, ℤ, pos, ◌+ℤ◌}
use Rattle.record_numbers.specs.Reductions.{with_reductions}
use Rattle.record_layouts.specs.Questions.{numbers_of, record_number, consumed}
use Rattle.year.specs.declared.Terms.{Terms}
use Rattle.year.specs.Year.{seller}
use Rattle.record_heads.specs.Record.{Record, is_close, is_retest_of}
use Rattle.book_recorded.specs.Recorded.{gather, alone, terms_in}
use Rattle.book_outcome.specs.Outcome.{record_in}

-- a call: any bytes, none too, and a lent buffer of any length and contents
pub record Call : Type 0 where
  pub bytes : List ℕ
  pub buffer : List ℕ

-- a call that is answered: with a number, and with what the buffer holds afterwards
pub record Answered : Type 0 where
  pub call : Call
  pub number : ℕ
  pub after : List ℕ

-- is its record accepted, and is that a close
unfoldable pub is_accepted : Answered → Bool
is_accepted x = eqb x.number 0

unfoldable pub is_closing : Answered → Bool
is_closing x = is_accepted x && is_close (record_in x.call.bytes).head

-- of a list, by position: is the call accepted, or seller s's retest, which alone may be accepted otherwise when s's reductions are replaced
abbrev pub acceptances : ℕ → List Answered → List Bool
acceptances s = gather (λ x. (is_accepted x || is_retest_of s (record_in x.call.bytes).head) ∷ [])

-- the accepted records; the statements, which stand in the buffer after each accepted close
abbrev pub record_from : Answered → List Record
record_from x = alone (is_accepted x) (record_in x.call.bytes)

abbrev pub accepted_in : List Answered → List Record
accepted_in = gather record_from

abbrev pub statements : List Answered → List (List ℕ)
statements = gather (λ x. alone (is_closing x) x.after)

-- an amount that is read from each statement, summed
unfoldable pub so_far : (List ℕ → ℤ) → List (List ℕ) → ℤ
so_far f [] = pos 0
so_far f (x ∷ xs) = f x +ℤ so_far f xs

-- is registration i seller s's
abbrev pub is_own : Terms → ℕ → ℕ → Bool
is_own T s i = eqb (seller T i) s

-- a call of G for the call x of H, which comes after the accepted records rs: an accepted record has other reductions, such as questions 1 to 5 let pass (0 to 100,000), in those entries whose registration is seller s's;
-- the bytes after it, the other records and the buffers' lengths are as in H
pub data Varied (s : ℕ) (rs : List Record) (x : Answered) (d : Call) : Type 0 where
  refused : is_accepted x ≡ false → d.bytes ≡ x.call.bytes → length d.buffer ≡ length x.call.buffer → Varied s rs x d
  accepted : is_accepted x ≡ true → record_number d.bytes ≡ 0
      → (f : ℕ → ℕ) → numbers_of d.bytes ≡ with_reductions (is_own (terms_in rs) s) f (numbers_of x.call.bytes)
      → drop (consumed d.bytes) d.bytes ≡ drop (consumed x.call.bytes) x.call.bytes
      → length d.buffer ≡ length x.call.buffer → Varied s rs x d

-- G for H, call by call
pub data Variant (s : ℕ) : List Record → List Answered → List Call → Type 0 where
  done : {rs : List Record} → Variant s rs [] []
  next : {rs : List Record} {x : Answered} {d : Call} {xs : List Answered} {ds : List Call}
      → Varied s rs x d → Variant s (rs ++ record_from x) xs ds → Variant s rs (x ∷ xs) (d ∷ ds)
