-- What the rules read, as functions of ids.
use Rattle.std.specs.Prelude.{ℕ}
use Rattle.year.specs.declared.Clearings.{Clearings}
use Rattle.year.specs.declared.Event.{Event}
use Rattle.year.specs.declared.Test.{Test}
use Rattle.year.specs.declared.Retest.{Retest}
use Rattle.year.specs.declared.Terms.{Terms}
use Rattle.year.specs.declared.Year.{Year}
use Rattle.year.specs.Year.{clearings_of, retest_of, event_at, test_at, seller}

pub record Facts : Type 0 where
  -- the opening, registrations and LSEs
  pub terms : Terms
  -- whose registration i is, and what its clearings come to
  pub seller : ℕ → ℕ
  pub clearings : ℕ → Clearings
  -- how many events are accepted; event ev in order of acceptance
  pub events : ℕ
  pub event : ℕ → Event
  -- the test of a group, 3 × zone + product; one that was not taken lists nothing
  pub test : ℕ → Test
  -- registration i's retest
  pub retest : ℕ → Retest

-- the facts of a year
abbrev pub facts_of : Year → Facts
facts_of y = record { terms = y.terms; seller = seller y.terms; clearings = clearings_of y; events = y.accepted; event = event_at y; test = test_at y; retest = retest_of y }
