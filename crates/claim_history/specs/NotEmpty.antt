-- Demand 3 speaks of variants that there are: H is one of itself, and so it is with one record varied; for every choice of reductions from 0 to 100,000 the record that writing gives is varied so.
use Rattle.std.specs.Prelude.{ℕ, ◌≤◌, Bool, true, false, cond, ◌≡◌, refl, length, drop}
use mathlib.Core.List.{List, [], ◌∷◌, ◌++◌, append-nil, append_assoc}
use Rattle.std.proofs.Common.{sym, le_refl, drop_at}
use Rattle.ids.specs.Ids.{at}
use Rattle.ids.specs.Tables.{is-tabulate}
use Rattle.limits.specs.Limits.{nominated_limit}
use Rattle.record_layouts.specs.Layout.{size_of}
use Rattle.record_numbers.specs.Reductions.{is_reduction, with_reductions}
use Rattle.record_numbers.proofs.Replaced.{writes}
use Rattle.record_layouts.specs.Questions.{numbers_of, rules_of, consumed}
use Rattle.record_numbers.specs.Calls.{bytes_by}
use Rattle.record_numbers.specs.Accepted.{not-failed}
use Rattle.record_numbers.specs.RoundTrip.{read-writes, write-reads}
use Rattle.year.specs.declared.Terms.{Terms}
use Rattle.year.specs.declared.Year.{Year}
use Rattle.year.specs.Year.{new_year}
use Rattle.record_heads.specs.Record.{Record}
use Rattle.book_recorded.specs.Recorded.{gather, terms_in}
use Rattle.claim_history.specs.Runs.{Call, record_from, accepted_in, is_own, Varied, refused, accepted, Variant, done, next}
use Rattle.claim_history.specs.Taking.{shown, step, answered, answers, run, accepts}
use Rattle.claim_history.specs.Admitted.{accepted-record}

-- each number in its own place
same_numbers : (T : Terms) (s : ℕ) (vs : List ℕ) → vs ≡ with_reductions (is_own T s) (at vs) vs
unfolding with_reductions
same_numbers T s vs = is-tabulate _ (length vs) 0 vs refl (λ j l. go j (is_reduction (is_own T s) vs j))
  where
    go : (j : ℕ) (b : Bool) → at vs j ≡ cond b (at vs j) (at vs j)
    go j true = refl
    go j false = refl

module _ (s : ℕ) (rs : List Record) (y : Year) (c : Call) where
  itself : Varied s rs (shown y c) c
  itself = go (accepts y c) refl
    where
      go : (t : Bool) → accepts y c ≡ t → Varied s rs (shown y c) c
      go false e = refused e refl refl
      go true e =
          accepted e (not-failed c.bytes (accepted-record y c e)) (at (numbers_of c.bytes)) (same_numbers (terms_in rs) s (numbers_of c.bytes)) refl refl

  -- the record with the reductions f, written
  pub chosen : accepts y c ≡ true → (f : ℕ → ℕ) → ((j : ℕ) → f j ≤ nominated_limit) → (buffer : List ℕ) → length buffer ≡ length c.buffer
      → Varied s rs (shown y c) (record { bytes = bytes_by (with_reductions (is_own (terms_in rs) s) f (numbers_of c.bytes)) ++ drop (consumed c.bytes) c.bytes; buffer = buffer })
  chosen e f small buffer l =
      let zero = not-failed c.bytes (accepted-record y c e) in
      let room = size_of (rules_of c.bytes) in
      let ws = with_reductions (is_own (terms_in rs) s) f (numbers_of c.bytes) in
      let rest = drop (consumed c.bytes) c.bytes in
      let ok = writes (is_own (terms_in rs) s) f (numbers_of c.bytes) small room (read-writes c.bytes zero room (le_refl room)) in
      let back = write-reads ws room ok rest in
      accepted e back.accepts f back.numbers (drop_at (bytes_by ws) rest (consumed (bytes_by ws ++ rest)) (sym back.uses)) l

module _ (s : ℕ) where
  -- calls as they are
  kept : (rs : List Record) (y : Year) (cs : List Call) → Variant s rs (answers y cs) cs
  unfolding answered
  kept rs y [] = done
  kept rs y (c ∷ cs) = next (itself s rs y c) (kept (rs ++ record_from (shown y c)) (step y c) cs)

  pub variant-itself : (H : List Call) → Variant s [] (answers new_year H) H
  variant-itself H = kept [] new_year H

  -- with one of them varied
  one-varied : (rs : List Record) (y : Year) (cs : List Call) {c d : Call} (ds : List Call) → Varied s (rs ++ accepted_in (answers y cs)) (shown (run y cs) c) d
      → Variant s rs (answers y (cs ++ c ∷ ds)) (cs ++ d ∷ ds)
  unfolding answered run gather
  one-varied rs y [] {c} ds v = next (rw (append-nil rs) at v) (kept (rs ++ record_from (shown y c)) (step y c) ds)
  one-varied rs y (x ∷ cs) {c} {d} ds v =
      let new = record_from (shown y x) in
      next (itself s rs y x) (one-varied (rs ++ new) (step y x) cs {c = c} {d = d} ds (rw (append_assoc rs new (accepted_in (answers (step y x) cs))) v))

  pub variant-one : (cs : List Call) {c d : Call} (ds : List Call) → Varied s (accepted_in (answers new_year cs)) (shown (run new_year cs) c) d
      → Variant s [] (answers new_year (cs ++ c ∷ ds)) (cs ++ d ∷ ds)
  variant-one = one-varied [] new_year
