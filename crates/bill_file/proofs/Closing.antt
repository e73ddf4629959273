-- A call's statement is what its call leaves in the front of the buffer, and has the bytes that it says it wrote.
use mathlib.Core.Bool.{Bool, true, false, cond}
use mathlib.Core.List.{[]}
use mathlib.Core.Path.{◌≡◌, refl, ap, sym, ◌∙◌}
use lib.ListN.{length}
use Rattle.record_numbers.specs.Calls.{over}
use Rattle.year.specs.declared.Year.{Year}
use Rattle.year.specs.Sound.{Sound}
use Rattle.book_outcome.specs.Outcome.{buffer_after, written_after}
use Rattle.claim_history.specs.Runs.{Call}
use Rattle.claim_history.specs.Taking.{closes, buffered}
use Rattle.claim_history.proofs.Closes.{close-buffer, close-written, other-leaves}
use Rattle.claim_history.specs.Files.{statement_in}
use Rattle.claim_history.proofs.FileLaws.{close-statement}
use Rattle.bill_file.specs.Billed.{statement}

module _ (y : Year) (c : Call) (S : Sound y) where
  pub written_is : written_after y c.bytes (length c.buffer) ≡ length (statement y c)
  unfolding statement
  written_is = go (closes y c) refl
    where
      go : (b : Bool) → closes y c ≡ b → written_after y c.bytes (length c.buffer) ≡ length (cond (closes y c) (statement_in (buffered y c)) [])
      go true q = rw q (close-written y c q ∙ ap length (sym (close-statement y c S q)))
      go false q = rw q (other-leaves y c q).1

  -- the buffer after a call
  pub buffer-over : buffer_after y c.bytes c.buffer ≡ over (statement y c) c.buffer
  unfolding statement buffered
  buffer-over = go (closes y c) refl
    where
      go : (b : Bool) → closes y c ≡ b → buffer_after y c.bytes c.buffer ≡ over (cond (closes y c) (statement_in (buffered y c)) []) c.buffer
      go true q = rw (q, close-statement y c S q) (close-buffer y c q)
      go false q = rw q (other-leaves y c q).0
