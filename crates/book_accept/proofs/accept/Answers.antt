-- `book_accept::accept` meets its contract, by kind. Assumes nothing.
use borrow.Author.Tests.{leb-true}
use Rattle.limits.specs.Limits.{statement_limit}
use Rattle.question_list.specs.Questions.{q16}
use Rattle.book_recorded.specs.After.{year_by}
use Rattle.book_accept.specs.Suits.{Suits}
use Rattle.book_accept.proofs.accept.Goals as goal

pub add_opening-requires : goal.add_opening-requires
unfolding Suits
add_opening-requires c =
    let t = rw c.in-Opening.is at c.requires.suits in
    record { factors = t }

pub registration_of-registration-requires : goal.registration_of-registration-requires
unfolding Suits
registration_of-registration-requires c =
    let t = rw c.in-Registration.is at c.requires.suits in
    t.2.committed

pub add_registration-requires : goal.add_registration-requires
unfolding Suits
add_registration-requires c =
    let t = rw c.in-Registration.is at c.requires.suits in
    let is = c.registration_of-registration.ensures in
    record { year_value = t.0; id_lt_registrations = t.1; known_value = rw is; sound_registration = rw is t.2 }

pub add_lse-requires : goal.add_lse-requires
unfolding Suits
add_lse-requires c =
    let t = rw c.in-Lse.is at c.requires.suits in
    record { id_lt_lses = t.0; kw_le_obligation_limit = t.1 }

pub add_event-requires : goal.add_event-requires
unfolding Suits
add_event-requires c =
    let t = rw c.in-Event.is at c.requires.suits in
    record { year_bound = t.0; sound_event = t.1 }

pub group_of-group-requires : goal.group_of-group-requires
unfolding Suits
group_of-group-requires c =
    let t = rw c.in-Test.is at c.requires.suits in
    t.0

pub add_test-requires : goal.add_test-requires
unfolding Suits
add_test-requires c =
    let t = rw c.in-Test.is at c.requires.suits in
    let group = c.group_of-group.ensures in
    record { group_lt_test_groups = rw group t.0; no_test_value = rw group t.1; sound_test = rw group t.2 }

pub close_month-requires : goal.close_month-requires
unfolding Suits q16
close_month-requires c =
    let is = c.in-Close.is in
    let t = rw is at c.requires.suits in
    record { year_bound = t.0; month_value = t.1; statement_limit_in_bounds = leb-true statement_limit _ (rw is at c.requires.head_value) }

pub add_clearing-requires : goal.add_clearing-requires
unfolding Suits
add_clearing-requires c =
    let t = rw c.in-Clearing.is at c.requires.suits in
    record { id_lt_registrations = t.0.registration; id_bound = t.1; price_le_rate_limit = t.0.price; le_kw = t.0.some; kw_le_nominated_limit = t.0.kw }

pub add_retest-requires : goal.add_retest-requires
unfolding Suits
add_retest-requires c =
    let t = rw c.in-Retest.is at c.requires.suits in
    record { year_value = t.0; sound_listing = t.1 }

pub returns-in-Opening : goal.returns-in-Opening
unfolding year_by
returns-in-Opening c =
    let is = c.in-Opening.is in
    record { equals = rw is c.add_opening.ensures; leaves = rw is; writes = rw is }

pub returns-in-Registration : goal.returns-in-Registration
unfolding year_by
returns-in-Registration c =
    let is = c.in-Registration.is in
    record { equals = rw is (rw c.registration_of-registration.ensures at c.add_registration.ensures); leaves = rw is; writes = rw is }

pub returns-in-Lse : goal.returns-in-Lse
unfolding year_by
returns-in-Lse c =
    let is = c.in-Lse.is in
    record { equals = rw is c.add_lse.ensures; leaves = rw is; writes = rw is }

pub returns-in-Event : goal.returns-in-Event
unfolding year_by
returns-in-Event c =
    let is = c.in-Event.is in
    record { equals = rw is c.add_event.ensures; leaves = rw is; writes = rw is }

pub returns-in-Test : goal.returns-in-Test
unfolding year_by
returns-in-Test c =
    let is = c.in-Test.is in
    record { equals = rw is (rw c.group_of-group.ensures at c.add_test.ensures); leaves = rw is; writes = rw is }

pub returns-in-Close : goal.returns-in-Close
unfolding year_by
returns-in-Close c =
    let is = c.in-Close.is in
    let closed = c.close_month.ensures in
    record { equals = rw is closed.equals; leaves = rw is closed.leaves; writes = rw is closed.writes }

pub returns-in-Clearing : goal.returns-in-Clearing
unfolding year_by
returns-in-Clearing c =
    let is = c.in-Clearing.is in
    record { equals = rw is c.add_clearing.ensures; leaves = rw is; writes = rw is }

pub returns-in-Retest : goal.returns-in-Retest
unfolding year_by
returns-in-Retest c =
    let is = c.in-Retest.is in
    record { equals = rw is c.add_retest.ensures; leaves = rw is; writes = rw is }
