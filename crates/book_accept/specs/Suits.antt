-- What an accepted record fulfils, so that it can be taken and leaves the year sound.
use Rattle.std.specs.Prelude.{◌+◌, ◌≤◌, ◌<◌, true, false, ◌≡◌, get_or}
use Rattle.limits.specs.Limits.{registrations, lses, test_groups, event_limit, clearing_limit, close_limit, obligation_limit}
use Rattle.year.specs.declared.Listing.{Listing}
use Rattle.year.specs.declared.Year.{Year}
use Rattle.year.specs.Year.{clearings_of, no_test, test_group}
use Rattle.year.specs.Sound.{SoundRegistration, SoundListing, SoundEvent, SoundTest, Factors}
use Rattle.record_heads.specs.declared.Head.{Head}
use Rattle.record_heads.specs.declared.Head.TheVariants.{Opening, Registration, Lse, Event, Test, Close, Clearing, Retest}
use Rattle.record_heads.specs.Within.{ClearingWithin}
use Rattle.record_heads.specs.Events.{event_of}
use Rattle.book_recorded.specs.After.{registration_of, recorded_test}

-- what an accepted record makes is sound in the year
unfoldable pub Suits : Year → Listing → Head → Type 0
Suits y l (Opening o) = Factors o.leap o.factor o.requirement
Suits y l (Registration r) = (y.started ≡ false) × (r.id < registrations) × SoundRegistration (registration_of r)
Suits y l (Lse j) = (j.id < lses) × (j.obligation ≤ obligation_limit)
Suits y l (Event e) = (y.accepted < event_limit) × SoundEvent (event_of e l)
Suits y l (Test t) =
    (test_group t.zone t.product < test_groups) × ((get_or y.tests (test_group t.zone t.product) no_test).taken ≡ false) × SoundTest y.terms (test_group t.zone t.product) (recorded_test t l)
Suits y l (Close c) = (y.closed < close_limit) × (c.month ≡ y.closed + 1)
Suits y l (Clearing c) = ClearingWithin c × ((clearings_of y c.registration).count < clearing_limit)
Suits y l (Retest t) = (y.started ≡ true) × SoundListing l
