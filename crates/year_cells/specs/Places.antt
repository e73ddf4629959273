-- Where the year stands in its cells. Each part begins where the one before it ends, so that one that grows moves the others by itself.
use Rattle.std.specs.Prelude.{ℕ, ◌+◌, ◌*◌}
use Rattle.limits.specs.Limits.{registrations, sellers, lses, test_groups, event_limit}

-- a registration's row, and that of what its clearings come to
abbrev pub registration_width : ℕ
registration_width = 7

abbrev pub clearing_width : ℕ
clearing_width = 3

-- a listing's row: a mark and a reduction a registration, a deficit a seller, a second reduction a registration
abbrev pub reductions_in : ℕ
reductions_in = registrations

abbrev pub deficits_in : ℕ
deficits_in = reductions_in + registrations

abbrev pub second_in : ℕ
second_in = deficits_in + sellers

abbrev pub listing_width : ℕ
listing_width = second_in + registrations

-- an event's row: area, month, period, whether it is dual, then its listing
abbrev pub event_listing_in : ℕ
event_listing_in = 4

abbrev pub event_reductions_in : ℕ
event_reductions_in = event_listing_in + reductions_in

abbrev pub event_deficits_in : ℕ
event_deficits_in = event_listing_in + deficits_in

abbrev pub event_second_in : ℕ
event_second_in = event_listing_in + second_in

abbrev pub event_width : ℕ
event_width = event_listing_in + listing_width

-- a test's row: whether it is taken, its month, then its deficits
abbrev pub test_deficits_in : ℕ
test_deficits_in = 2

abbrev pub test_width : ℕ
test_width = test_deficits_in + sellers

-- the entries of all tests, or of all retests: a mark a registration, then a reduction a registration
abbrev pub entries_width : ℕ
entries_width = reductions_in + registrations

-- single cells
abbrev pub closed_place : ℕ
closed_place = 0

abbrev pub started_place : ℕ
started_place = 1

abbrev pub accepted_place : ℕ
accepted_place = 2

abbrev pub opened_place : ℕ
opened_place = 3

abbrev pub leap_place : ℕ
leap_place = 4

abbrev pub factor_place : ℕ
factor_place = 5

abbrev pub requirement_place : ℕ
requirement_place = 6

-- tables
abbrev pub registrations_place : ℕ
registrations_place = 7

abbrev pub obligations_place : ℕ
obligations_place = registrations_place + registration_width * registrations

abbrev pub events_place : ℕ
events_place = obligations_place + lses

abbrev pub tests_place : ℕ
tests_place = events_place + event_width * event_limit

abbrev pub test_entries_place : ℕ
test_entries_place = tests_place + test_width * test_groups

-- what is billed: compliance, test and credit of the sellers, then the LSEs' credit
abbrev pub billed_place : ℕ
billed_place = test_entries_place + entries_width

abbrev pub billed_test_place : ℕ
billed_test_place = billed_place + sellers

abbrev pub billed_credit_place : ℕ
billed_credit_place = billed_test_place + sellers

abbrev pub billed_lse_place : ℕ
billed_lse_place = billed_credit_place + sellers

abbrev pub clearings_place : ℕ
clearings_place = billed_lse_place + lses

abbrev pub retest_entries_place : ℕ
retest_entries_place = clearings_place + clearing_width * registrations

-- all cells
abbrev pub cell_count : ℕ
cell_count = retest_entries_place + entries_width
