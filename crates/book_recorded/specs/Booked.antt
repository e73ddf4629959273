-- The year that the book keeps after a list of accepted records has just what they say.
use Rattle.std.specs.Prelude.{ℕ, zero, suc, ◌+◌, ◌-◌, ◌*◌, ◌<◌, Bool, true, false, cond, ◌≡◌, refl, eqb, length, get_or, replicate}
use mathlib.Core.List.{List, [], ◌∷◌, ◌++◌, append_assoc, append-nil}
use Rattle.std.proofs.Common.{sym}
use Rattle.std.proofs.Math.Path.{fun_ext}
use Rattle.ids.specs.Ids.{tabulate}
use Rattle.ids.specs.Sets.{get_or-replicate-same}
use Rattle.limits.specs.Limits.{registrations, event_limit}
use Rattle.year.specs.declared.Listing.{Listing}
use Rattle.year.specs.declared.Clearings.{Clearings}
use Rattle.year.specs.declared.Event.{Event}
use Rattle.year.specs.declared.Amounts.{Amounts}
use Rattle.year.specs.declared.Year.{Year}
use Rattle.year.specs.Year.{new_year, no_clearings, no_event, no_retest, no_amounts, listed}
use Rattle.year.specs.Steps.{cleared_by, retest_by}
use Rattle.owed.specs.Facts.{facts_of}
use Rattle.owed.specs.Owed.{amounts}
use Rattle.record_heads.specs.declared.EventHead.{EventHead}
use Rattle.record_heads.specs.declared.ClearingHead.{ClearingHead}
use Rattle.record_heads.specs.declared.Head.{Head}
use Rattle.record_heads.specs.declared.Head.TheVariants as head
use Rattle.record_heads.specs.Record.{Record, for_close}
use Rattle.record_heads.specs.Events.{event_of}
use Rattle.book_recorded.specs.After.{year_by}
use Rattle.book_recorded.specs.Recorded.{gather, last_or, sum_over, summed, clearing_for, event, retest_for, terms_in, clearings_in, events_in, tests_in, retests_in, recorded}
use Rattle.book_recorded.specs.Gathered.{gather-more, some_more, last_more, last-alone, set-table, set-changed, over-table, set-filled, sum_more, length_more}

-- the amounts to date at a close, by the records before it, and at each close among records
abbrev billed_at : List Record → Record → List Amounts
billed_at before r = for_close (λ c. amounts (facts_of (recorded before)) c.month ∷ []) (λ h. []) r.head

unfoldable pub billed_in : List Record → List Record → List Amounts
billed_in before [] = []
billed_in before (r ∷ rs) = billed_at before r ++ billed_in (before ++ r ∷ []) rs

billed-more : (before rs : List Record) (r : Record) → billed_in before (rs ++ r ∷ []) ≡ billed_in before rs ++ billed_at (before ++ rs) r
unfolding billed_in
billed-more before [] r = rw (append-nil before) (append-nil (billed_at before r))
billed-more before (x ∷ rs) r =
    rw (billed-more (before ++ x ∷ []) rs r, append_assoc before (x ∷ []) rs)
    (sym (append_assoc (billed_at before x) (billed_in (before ++ x ∷ []) rs) (billed_at (before ++ x ∷ rs) r)))

-- the year as the book keeps it after these records: with sixteen rows for events, and with what was billed last
unfoldable pub booked : List Record → Year
booked rs =
    let y = recorded rs in
    record {
      opened = y.opened;
      started = y.started;
      closed = y.closed;
      terms = y.terms;
      clearings = y.clearings;
      events = y.events ++ replicate (event_limit - y.accepted) no_event;
      accepted = y.accepted;
      tests = y.tests;
      retests = y.retests;
      billed = last_or no_amounts (billed_in [] rs);
    }

-- the rows behind the events say nothing
padded : (es : List Event) (n ev : ℕ) → get_or (es ++ replicate n no_event) ev no_event ≡ get_or es ev no_event
padded [] n ev = get_or-replicate-same n ev no_event
padded (x ∷ es) n zero = refl
padded (x ∷ es) n (suc ev) = padded es n ev

pub facts-booked : (rs : List Record) → facts_of (booked rs) ≡ facts_of (recorded rs)
unfolding booked recorded
facts-booked rs =
    let es = events_in rs in
    let event = fun_ext (padded es (event_limit - length es)) in
    cc

-- what f and g say of the clearings, summed, with one clearing more, if it is the registration's
sums-more : (f g : ClearingHead → ℕ) (cs : List ClearingHead) (b : Bool) (c : ClearingHead)
    → ◌≡◌ {A = Clearings} (let ds = cs ++ cond b (c ∷ []) [] in record { count = length ds; value = sum_over f ds; kw = sum_over g ds })
    (cond b (record { count = length cs + 1; value = sum_over f cs + f c; kw = sum_over g cs + g c }) (record { count = length cs; value = sum_over f cs; kw = sum_over g cs }))
sums-more f g cs true c = cc (length_more cs c, sum_more f cs c, sum_more g cs c)
sums-more f g cs false c = rw (append-nil cs)

-- one clearing more, if it is the registration's
summed-more : (cs : List ClearingHead) (b : Bool) (c : ClearingHead) → summed (cs ++ cond b (c ∷ []) []) ≡ cond b (cleared_by (summed cs) c.price c.kw) (summed cs)
unfolding summed
summed-more = sums-more (λ c. c.price * c.kw) (λ c. c.kw)

module _ (rs : List Record) (l : Listing) where
  pub booked-more : (h : Head) → ((e : EventHead) → h ≡ head.Event e → (booked rs).accepted < event_limit)
      → year_by (booked rs) l h ≡ booked (rs ++ record { head = h; listing = l } ∷ [])
  unfolding year_by booked recorded summed terms_in clearings_in events_in tests_in retests_in
  booked-more (head.Opening o) room = simp (gather-more, billed-more, append-nil, some_more, last_more)
  booked-more (head.Registration r) room = simp (gather-more, billed-more, append-nil, last-alone, set-table)
  booked-more (head.Lse j) room = simp (gather-more, billed-more, append-nil, last-alone, set-table)
  booked-more (head.Event e) room =
      simp (gather-more, billed-more, append-nil, some_more, set-filled (gather event rs) event_limit no_event (event_of e l) (room e refl)) (simp length_more)
  booked-more (head.Test t) room = simp (gather-more, billed-more, append-nil, some_more, last-alone, set-table)
  booked-more (head.Close c) room = simp (gather-more, billed-more, append-nil, some_more, last_more, facts-booked) (simp length_more)
  booked-more (head.Clearing c) room =
      let cs : ℕ → List ClearingHead = λ i. gather (clearing_for i) rs in
      let mine : ℕ → Bool = eqb c.registration in
      let more : (i : ℕ) → summed (cs i ++ cond (mine i) (c ∷ []) []) ≡ cond (mine i) (cleared_by (summed (cs i)) c.price c.kw) (summed (cs i)) = λ i. sums-more (λ c. c.price * c.kw) (λ c. c.kw) (cs i) (mine i) c in
      rw (set-changed registrations (λ i. summed (cs i)) c.registration no_clearings (λ x. cleared_by x c.price c.kw))
      (simp (gather-more, billed-more, append-nil, more))
  booked-more (head.Retest t) room =
      rw (over-table registrations (λ i. last_or no_retest (gather (retest_for i) rs)) no_retest (listed l) (retest_by l))
      (simp (gather-more, billed-more, append-nil, last-alone))

pub booked-new : booked [] ≡ new_year
unfolding booked recorded terms_in clearings_in events_in tests_in retests_in billed_in gather last_or sum_over summed tabulate
booked-new = refl
