-- The limits of document 01, each once: how many there may be of each, and the most of a figure.
use Rattle.std.specs.Prelude.{ℕ, ◌*◌}

-- the ids of registrations, of sellers and LSEs (the parties of a statement), of areas and zones are below these; there are three products
abbrev pub registrations : ℕ
registrations = 64

abbrev pub parties : ℕ
parties = 16

abbrev pub sellers : ℕ
sellers = parties

abbrev pub lses : ℕ
lses = parties

abbrev pub areas : ℕ
areas = 8

abbrev pub zones : ℕ
zones = 8

abbrev pub products : ℕ
products = 3

-- a group is a zone and a product: a group has one test
abbrev pub test_groups : ℕ
test_groups = products * zones

-- the events that a year takes, the clearings of a registration, and the months that are closed
abbrev pub event_limit : ℕ
event_limit = 16

abbrev pub clearing_limit : ℕ
clearing_limit = 4

abbrev pub close_limit : ℕ
close_limit = 15

-- kilowatts of one registration, nominated and unforced
abbrev pub nominated_limit : ℕ
nominated_limit = 100000

abbrev pub unforced_limit : ℕ
unforced_limit = 144000

-- kilowatts of a seller's registrations together
abbrev pub nominated_sum : ℕ
nominated_sum = registrations * nominated_limit

abbrev pub unforced_sum : ℕ
unforced_sum = registrations * unforced_limit

-- kilowatts of an LSE's obligation, or of a deficit
abbrev pub obligation_limit : ℕ
obligation_limit = 1000000

-- cents per MW-day of a registration or a clearing
abbrev pub rate_limit : ℕ
rate_limit = 100000

-- the DR Factor and the Forecast Pool Requirement, in ten-thousandths
abbrev pub factor_limit : ℕ
factor_limit = 12000

-- the bytes of the largest statement
abbrev pub statement_limit : ℕ
statement_limit = 354
