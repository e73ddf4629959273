-- The year after an accepted record of each kind.
use Rattle.std.specs.Prelude.{ℕ, ◌+◌, ◌*◌, Bool, true, cond, List, set}
use Rattle.ids.specs.Ids.{tabulate}
use Rattle.limits.specs.Limits.{registrations}
use Rattle.year.specs.declared.Registration.{Registration}
use Rattle.year.specs.declared.Clearings.{Clearings}
use Rattle.year.specs.declared.Listing.{Listing}
use Rattle.year.specs.declared.Event.{Event}
use Rattle.year.specs.declared.Test.{Test}
use Rattle.year.specs.declared.Retest.{Retest}
use Rattle.year.specs.declared.Terms.{Terms}
use Rattle.year.specs.declared.Amounts.{Amounts}
use Rattle.year.specs.declared.Year.{Year}
use Rattle.year.specs.Year.{clearings_of, retest_of, listed, reduction}

-- antt has no record update: a setter for each part that changes
abbrev pub with_terms : Year → Bool → Terms → List Clearings → Year
with_terms y opened T cs =
    record { opened = opened; started = y.started; closed = y.closed; terms = T; clearings = cs; events = y.events; accepted = y.accepted; tests = y.tests; retests = y.retests; billed = y.billed }

-- an opening
abbrev pub with_opening : Year → ℕ → ℕ → ℕ → Year
with_opening y leap factor requirement =
    with_terms y true
    (record { leap = leap; factor = factor; requirement = requirement; registrations = y.terms.registrations; obligations = y.terms.obligations })
    y.clearings

-- other registrations
abbrev pub with_registrations : Year → List Registration → Year
with_registrations y rs =
    with_terms y y.opened
    (record { leap = y.terms.leap; factor = y.terms.factor; requirement = y.terms.requirement; registrations = rs; obligations = y.terms.obligations })
    y.clearings

-- a registration
abbrev pub with_registration : Year → ℕ → Registration → Year
with_registration y id r = with_registrations y (set y.terms.registrations id r)

-- an LSE
abbrev pub with_lse : Year → ℕ → ℕ → Year
with_lse y id kw =
    with_terms y y.opened
    (record { leap = y.terms.leap; factor = y.terms.factor; requirement = y.terms.requirement; registrations = y.terms.registrations; obligations = set y.terms.obligations id kw })
    y.clearings

-- a clearing, on top of the registration's others
abbrev pub cleared_by : Clearings → ℕ → ℕ → Clearings
cleared_by c price kw = record { count = c.count + 1; value = c.value + price * kw; kw = c.kw + kw }

abbrev pub with_clearing : Year → ℕ → ℕ → ℕ → Year
with_clearing y id price kw = with_terms y y.opened y.terms (set y.clearings id (cleared_by (clearings_of y id) price kw))

-- an event
abbrev pub with_event : Year → Event → Year
with_event y e =
    record { opened = y.opened; started = true; closed = y.closed; terms = y.terms; clearings = y.clearings; events = set y.events y.accepted e; accepted = y.accepted + 1; tests = y.tests; retests = y.retests; billed = y.billed }

-- a test, at its place
abbrev pub with_test : Year → ℕ → Test → Year
with_test y group t =
    record { opened = y.opened; started = true; closed = y.closed; terms = y.terms; clearings = y.clearings; events = y.events; accepted = y.accepted; tests = set y.tests group t; retests = y.retests; billed = y.billed }

-- a retest: each registration that it lists has one now, beside the test's entry
abbrev pub with_retests : Year → List Retest → Year
with_retests y rs =
    record { opened = y.opened; started = y.started; closed = y.closed; terms = y.terms; clearings = y.clearings; events = y.events; accepted = y.accepted; tests = y.tests; retests = rs; billed = y.billed }

abbrev pub retest_by : Listing → ℕ → Retest
retest_by l i = record { taken = true; reduction = reduction l i }

abbrev pub with_retest : Year → Listing → Year
with_retest y l = with_retests y (tabulate registrations (λ i. cond (listed l i) (retest_by l i) (retest_of y i)))

-- a close, with the amounts to date
abbrev pub with_close : Year → Amounts → Year
with_close y billed =
    record { opened = y.opened; started = true; closed = y.closed + 1; terms = y.terms; clearings = y.clearings; events = y.events; accepted = y.accepted; tests = y.tests; retests = y.retests; billed = billed }
