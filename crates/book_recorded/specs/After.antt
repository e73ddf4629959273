-- The year after an accepted record, by its kind.
use Rattle.std.specs.Prelude.{true}
use Rattle.year.specs.declared.Registration.{Registration}
use Rattle.year.specs.declared.Listing.{Listing}
use Rattle.year.specs.declared.Test.{Test}
use Rattle.year.specs.declared.Year.{Year}
use Rattle.year.specs.Year.{test_group}
use Rattle.year.specs.Listing.{single}
use Rattle.year.specs.Steps.{with_opening, with_registration, with_lse, with_clearing, with_event, with_test, with_retest, with_close}
use Rattle.owed.specs.Facts.{facts_of}
use Rattle.owed.specs.Owed.{amounts}
use Rattle.record_heads.specs.declared.RegistrationHead.{RegistrationHead}
use Rattle.record_heads.specs.declared.TestHead.{TestHead}
use Rattle.record_heads.specs.declared.Head.{Head}
use Rattle.record_heads.specs.declared.Head.TheVariants as head
use Rattle.record_heads.specs.Record.{Record}
use Rattle.record_heads.specs.Events.{event_of}

-- what a registration registers, and what a test is with what it lists
abbrev pub registration_of : RegistrationHead → Registration
registration_of r =
    record { known = true; seller = r.seller; area = r.area; zone = r.zone; product = r.product; committed = record { 0 = r.committed }; rate = r.rate }

abbrev pub recorded_test : TestHead → Listing → Test
recorded_test t l = record { taken = true; month = t.month; listing = single l }

unfoldable pub year_by : Year → Listing → Head → Year
year_by y l (head.Opening o) = with_opening y o.leap o.factor o.requirement
year_by y l (head.Registration r) = with_registration y r.id (registration_of r)
year_by y l (head.Lse j) = with_lse y j.id j.obligation
year_by y l (head.Event e) = with_event y (event_of e l)
year_by y l (head.Test t) = with_test y (test_group t.zone t.product) (recorded_test t l)
year_by y l (head.Close c) = with_close y (amounts (facts_of y) c.month)
year_by y l (head.Clearing c) = with_clearing y c.registration c.price c.kw
year_by y l (head.Retest t) = with_retest y l

abbrev pub year_with : Year → Record → Year
year_with y r = year_by y r.listing r.head
