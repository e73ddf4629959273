-- Every call leaves a sound year sound.
use Rattle.std.specs.Prelude.{ℕ, ◌<◌, Bool, not, ◌&&◌, ◌||◌, cond, List}
use Rattle.std.proofs.Math.Bool.{true, false}
use Rattle.std.proofs.Math.Path.{◌≡◌, refl, subst}
use Rattle.std.proofs.Common.{ap, ◌∙◌, arith, eqb-true}
use Rattle.std.proofs.Math.Dec.{eqb}
use Rattle.ids.specs.Tests.{and_parts, all-at}
use Rattle.limits.specs.Limits.{registrations}
use Rattle.record_layouts.specs.Questions.{first_failed, numbers_of, row}
use Rattle.year.specs.declared.Listing.{Listing}
use Rattle.year.specs.declared.Terms.{Terms}
use Rattle.year.specs.declared.Year.{Year}
use Rattle.year.specs.Year.{test_group, listed, known, zone, product, size}
use Rattle.year.specs.Sound.{SoundListing, SoundTerms, Sound}
use Rattle.year.specs.Limits.{clearings-sound, size_is}
use Rattle.year.specs.ListingLaws.{sound-single}
use Rattle.year.specs.StaysSound.{sound-opening, sound-registration, sound-lse, sound-clearing, sound-event, sound-test, sound-retest, sound-close}
use Rattle.record_heads.specs.declared.Head.{Head}
use Rattle.record_heads.specs.declared.Head.TheVariants.{Opening, Registration, Lse, Event, Test, Close, Clearing, Retest}
use Rattle.record_heads.specs.Record.{Record, record_of}
use Rattle.record_heads.specs.RecordLaws.{record-row}
use Rattle.record_listing.specs.Listed.{sound-listed}
use Rattle.record_heads.specs.Within.{Within}
use Rattle.owed_laws.specs.Limits.{limits}
use Rattle.owed_laws.specs.Totals.{sound-amounts}
use Rattle.question_conditions.specs.Entries.{in_group, every_listed}
use Rattle.book_recorded.specs.After.{year_by, year_with}
use Rattle.question_list.specs.Questions.{month_begun, q7, questions}
use Rattle.question_list.specs.Admitted.{Admitted, admitted, not-started, event-room, test-group, test-free, retest-started, clearings-few, not-finished, next-month}
use Rattle.book_accept.specs.Suits.{Suits}
use Rattle.book_outcome.specs.Outcome.{record_in, post_number, year_after}
use Rattle.book_outcome.specs.Numbers.{all-passed}
use Rattle.book_outcome.specs.Made.{within, permits}

-- the listed registrations of a test are of its group
own-group : {T : Terms} → SoundTerms T → (l : Listing) (z p : ℕ) → every_listed T l (in_group T z p) ≡ true
    → (i : ℕ) → i < registrations → listed l i ≡ true → test_group (zone T i) (product T i) ≡ test_group z p
unfolding every_listed in_group
own-group {T} s l z p e i m t =
    let here : in_group T z p i ≡ true = rw t at (all-at (size T) (λ j. not (listed l j) || in_group T z p j) e i (omega (arith, size_is s))) in
    let group = (and_parts (known T i) (eqb (zone T i) z && eqb (product T i) p) here).1 in
    let both = and_parts (eqb (zone T i) z) (eqb (product T i) p) group in
    omega (arith, eqb-true (zone T i) z both.0, eqb-true (product T i) p both.1)

module _ {y : Year} (s : Sound y) where
  pub suits : {l : Listing} → SoundListing l → {room : ℕ} (h : Head) → Within h → Admitted month_begun y (record { head = h; listing = l }) room → Suits y l h
  unfolding Suits Within q7 listed
  suits sl (Opening o) w a = w
  suits sl (Registration r) w a =
      (not-started refl a, w.id, record { seller = w.seller; area = w.area; zone = w.zone; product = w.product; committed = w.committed; rate = w.rate; some = λ q. w.some; blank = λ q. absurd (let z : ◌≡◌ {A = ℕ} 0 1 = cc in omega arith) })
  suits sl (Lse j) w a = (w.id, w.obligation)
  suits sl (Event e) w a = (event-room a, record { month = w; listing = sl })
  suits {l} sl (Test t) w a =
      (omega (arith, w.zone, w.product), test-free a, record { listing = sound-single sl; own = own-group s.terms l t.zone t.product (test-group a); untaken = λ q. absurd (let z : ◌≡◌ {A = ℕ} 0 1 = cc in omega arith) })
  suits sl (Close c) w a = (not-finished a, next-month a)
  suits sl (Clearing c) w a = (w, clearings-few a)
  suits sl (Retest t) w a = (retest-started a s, sl)

  pub sound-by : (l : Listing) (h : Head) → Suits y l h → Sound (year_by y l h)
  unfolding Suits year_by
  sound-by l (Opening o) t = sound-opening s t
  sound-by l (Registration r) t = sound-registration s t.0 r.id t.2
  sound-by l (Lse j) t = sound-lse s j.id t.1
  sound-by l (Event e) t = sound-event s t.0 t.1
  sound-by l (Test t) u = sound-test s (test_group t.zone t.product) u.2
  sound-by l (Close c) t = sound-close s t.0 (sound-amounts (limits s) c.month)
  sound-by l (Clearing c) t =
      sound-clearing s c.registration t.1 (clearings-sound s c.registration) t.0.price t.0.some t.0.kw
  sound-by l (Retest t) u = sound-retest s u.0 u.1

  pub sound-after : (bytes : List ℕ) (room : ℕ) → Sound (year_after y bytes room)
  unfolding year_after
  sound-after bytes room = go (eqb (post_number y bytes room) 0) refl
    where
      go : (b : Bool) → eqb (post_number y bytes room) 0 ≡ b → Sound (cond b (year_with y (record_in bytes)) y)
      go true e =
          let all = all-passed y bytes room (eqb-true (post_number y bytes room) 0 e) in
          let r = record_of (row (numbers_of bytes)) in
          let named : r ≡ record_in bytes = record-row (numbers_of bytes) in
          subst (λ (q : Record). Sound (year_with y q)) named
          (sound-by r.listing r.head
          (suits (sound-listed (permits bytes all.0)) r.head (within bytes all.0) (admitted month_begun y r room (ap (λ (q : Record). first_failed (questions month_begun y q room)) named ∙ all.1))))
      go false e = s
