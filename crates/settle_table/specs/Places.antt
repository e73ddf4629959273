-- Where the rows of the working table stand: a place a registration, a seller, an LSE or an area. Each begins where the one before it ends.
use Rattle.std.specs.Prelude.{ℕ, ◌+◌, ◌-◌}
use Rattle.limits.specs.Limits.{registrations, sellers, lses, areas}

-- an amount a seller, allotted (Allotments.antt): the sums of all weights, then the amounts, the weights passed, the last quotients and the divisions
abbrev pub amount_in : ℕ
amount_in = sellers

abbrev pub passed_in : ℕ
passed_in = amount_in + sellers

abbrev pub quotient_in : ℕ
quotient_in = passed_in + sellers

abbrev pub divisions_in : ℕ
divisions_in = quotient_in + sellers

abbrev pub allotment_width : ℕ
allotment_width = divisions_in + sellers

-- what changes with each share
abbrev pub carried_width : ℕ
carried_width = allotment_width - passed_in

-- a registration's terms, its rate in force, and its cap
abbrev pub seller_row : ℕ
seller_row = 0

abbrev pub product_row : ℕ
product_row = seller_row + registrations

abbrev pub committed_row : ℕ
committed_row = product_row + registrations

abbrev pub rate_row : ℕ
rate_row = committed_row + registrations

abbrev pub cap_row : ℕ
cap_row = rate_row + registrations

-- the dispatch count of a registration (n), and 1 where any event lists it
abbrev pub dispatch_count_row : ℕ
dispatch_count_row = cap_row + registrations

abbrev pub dispatched_row : ℕ
dispatched_row = dispatch_count_row + registrations

-- what is spent of a cap; a seller's charges and credits to date
abbrev pub spent_row : ℕ
spent_row = dispatched_row + registrations

abbrev pub compliance_row : ℕ
compliance_row = spent_row + registrations

abbrev pub credit_row : ℕ
credit_row = compliance_row + sellers

-- one event: two allotments, of shortfalls by what entries are short and of excesses by what they are over, five rows each; u, e, 1 where it is listed, and its second reduction
abbrev pub short_row : ℕ
short_row = credit_row + sellers

abbrev pub over_row : ℕ
over_row = short_row + allotment_width

abbrev pub u_row : ℕ
u_row = over_row + allotment_width

abbrev pub e_row : ℕ
e_row = u_row + registrations

abbrev pub listed_row : ℕ
listed_row = e_row + registrations

abbrev pub second_row : ℕ
second_row = listed_row + registrations

-- what is measured off-peak: the off-peak u; a third allotment, of shortfalls by what entries are short; what they are over
abbrev pub off_u_row : ℕ
off_u_row = second_row + registrations

abbrev pub off_short_row : ℕ
off_short_row = off_u_row + registrations

abbrev pub off_over_row : ℕ
off_over_row = off_short_row + allotment_width

-- a seller's test charges to date, and an LSE's credit
abbrev pub test_row : ℕ
test_row = off_over_row + sellers

abbrev pub lse_row : ℕ
lse_row = test_row + sellers

-- a registration's group, and its area
abbrev pub group_row : ℕ
group_row = lse_row + lses

abbrev pub area_row : ℕ
area_row = group_row + registrations

-- what an area's registrations with a rate of their own committed, what that is worth, and the average
abbrev pub area_kw_row : ℕ
area_kw_row = area_row + registrations

abbrev pub area_worth_row : ℕ
area_worth_row = area_kw_row + areas

abbrev pub area_rate_row : ℕ
area_rate_row = area_worth_row + areas

-- how many places there are: of one event's first two allotments, of these and what pass 3 makes of them, of what comes behind the two, of what is measured off-peak, and of all its rows; of what the passes over events store, and of what holds 0 before them
abbrev pub allotment_places : ℕ
allotment_places = u_row - short_row

abbrev pub shared_places : ℕ
shared_places = off_u_row - short_row

abbrev pub later_places : ℕ
later_places = test_row - u_row

abbrev pub off_peak_places : ℕ
off_peak_places = test_row - off_u_row

abbrev pub event_places : ℕ
event_places = test_row - short_row

abbrev pub passed_places : ℕ
passed_places = test_row - dispatch_count_row

abbrev pub fresh_places : ℕ
fresh_places = group_row - dispatch_count_row

abbrev pub size : ℕ
size = area_rate_row + areas
