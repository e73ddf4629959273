-- Laws of a file's calls: a window answers as the file does, what ends a file, and the statement that a close leaves.
use Rattle.std.specs.Prelude.{ℕ, ◌+◌, ◌*◌, ◌<◌, Bool, true, false, List, [], ◌∷◌, ◌++◌, ◌≡◌, refl, eqb, ltb, length, drop}
use Rattle.std.proofs.Math.Bool.{cond}
use Rattle.std.proofs.Common.{ap, ◌∙◌, arith, take_at, ltb-true, eqb-true, ne_eqb}
use Rattle.std.proofs.lemmas.Bool.{eqb-false}
use Rattle.bits.specs.Pack.{bytes_for}
use Rattle.ids.specs.Tests.{and_parts}
use Rattle.record_layouts.specs.LayoutLaws.{every}
use Rattle.record_layouts.specs.Questions.{first_failed, record_number}
use Rattle.year.specs.declared.Year.{Year}
use Rattle.year.specs.Sound.{Sound}
use Rattle.year.specs.Limits.{lse-count-is}
use Rattle.owed.specs.Facts.{facts_of}
use Rattle.owed.specs.Owed.{amounts}
use Rattle.statement.specs.Statement.{statement_of}
use Rattle.statement.specs.Sizes.{bits-counted, statement-length}
use Rattle.statement.specs.ReadBack.{sellers_in, lses_in}
use Rattle.statement.specs.Starts.{starts}
use Rattle.record_heads.specs.Record.{Record, month_of}
use Rattle.question_list.specs.Questions.{month_begun, questions}
use Rattle.book_recorded.specs.After.{year_with}
use Rattle.book_recorded.specs.Recorded.{gather, alone}
use Rattle.book_outcome.specs.Outcome.{record_in, post_number, year_after, buffer_after}
use Rattle.book_outcome.specs.Numbers.{record-refused, record-accepted}
use Rattle.book_outcome.specs.Numbers as numbers
use Rattle.record_file.specs.Walk.{ends}
use Rattle.record_file.specs.Window.{Alike, same_number, same_numbers}
use Rattle.claim_history.specs.Runs.{Call, statements}
use Rattle.claim_history.specs.Taking.{closes, buffered, step, answered, answers}
use Rattle.claim_history.proofs.Closes.{close-month, close-buffer}
use Rattle.claim_history.specs.Files.{statement_in, joined}

-- a window answers as the whole rest of a file does
module _ {xs ys : List ℕ} (e : Alike xs ys) where
  same-record : record_in xs ≡ record_in ys
  same-record = rw (same_numbers e)

  module _ (y : Year) where
    pub same_post : (room : ℕ) → post_number y xs room ≡ post_number y ys room
    same_post room = numbers.same_post y y xs ys room room (same_number e) (rw same-record)

    pub same-year : (room : ℕ) → year_after y xs room ≡ year_after y ys room
    unfolding year_after
    same-year room = rw (same_post room) (ap (λ (r : Record). cond (eqb (post_number y ys room) 0) (year_with y r) y) same-record)

    pub same-buffer : (buffer : List ℕ) → buffer_after y xs buffer ≡ buffer_after y ys buffer
    unfolding buffer_after
    same-buffer buffer = rw (same_post (length buffer), same-record)

-- questions behind the first two end no file
later : (qs : List (ℕ × Bool)) → every (λ q. ltb 2 q.0) qs ≡ true → ends (first_failed qs) ≡ false
unfolding first_failed every
later [] e = refl
later (q ∷ qs) e =
    let p = and_parts (ltb 2 q.0) (every (λ q. ltb 2 q.0) qs) e in
    go q.1 (later qs p.1) (ltb-true 2 q.0 p.0)
  where
    go : (b : Bool) → ends (first_failed qs) ≡ false → 2 < q.0 → ends (cond b (first_failed qs) q.0) ≡ false
    go true h l = h
    go false h l = rw (ne_eqb q.0 1 (λ z. omega arith), ne_eqb q.0 2 (λ z. omega arith))

pub ends-post : (y : Year) (bytes : List ℕ) (room : ℕ) → ends (post_number y bytes room) ≡ ends (record_number bytes)
unfolding questions every
ends-post y bytes room = go (eqb (record_number bytes) 0) refl
  where
    go : (b : Bool) → eqb (record_number bytes) 0 ≡ b → ends (post_number y bytes room) ≡ ends (record_number bytes)
    go true q =
        let zero = eqb-true (record_number bytes) 0 q in
        rw (record-accepted y bytes room zero, zero) (later (questions month_begun y (record_in bytes) room) refl)
    go false q = rw (record-refused y bytes room (eqb-false (record_number bytes) 0 q))

-- the statement of an accepted close stands in the front of its buffer, and its counts say its length
pub close-statement : (y : Year) (c : Call) → Sound y → closes y c ≡ true
    → statement_in (buffered y c) ≡ (let k = month_of (record_in c.bytes).head in statement_of y.terms k (amounts (facts_of y) k) y.billed)
unfolding statement_in
close-statement y c S e =
    let k = month_of (record_in c.bytes).head in
    let s = statement_of y.terms k (amounts (facts_of y) k) y.billed in
    let rest = drop (length s) c.buffer in
    let f = starts {T = y.terms} {k = k} (amounts (facts_of y) k) y.billed rest S.terms (close-month y c e) in
    let long : length s ≡ bytes_for (14 + 130 * sellers_in (s ++ rest) + 46 * lses_in (s ++ rest)) =
    rw (f.sellers, f.lses) (statement-length S.terms k (amounts (facts_of y) k) y.billed ∙ ap bytes_for (bits-counted S.terms k (amounts (facts_of y) k) y.billed ∙ rw (lse-count-is S.terms))) in
    rw (close-buffer y c e) (take_at s rest (bytes_for (14 + 130 * sellers_in (s ++ rest) + 46 * lses_in (s ++ rest))) long)

-- the statements of a list by its first call
pub joined-first : (y : Year) (c : Call) (cs : List Call)
    → joined (statements (answers y (c ∷ cs))) ≡ cond (closes y c) (statement_in (buffered y c)) [] ++ joined (statements (answers (step y c) cs))
unfolding joined answered gather
joined-first y c cs = go (closes y c)
  where
    go : (b : Bool) → joined (alone b (buffered y c) ++ statements (answers (step y c) cs)) ≡ cond b (statement_in (buffered y c)) [] ++ joined (statements (answers (step y c) cs))
    go true = refl
    go false = refl
