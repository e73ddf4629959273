-- `settle_closing::amounts::amounts_to_date` meets its contract: what each pass leaves in the table is what the next asks.
use Rattle.settle_lses.specs.Lses.{covered, net-fits}
use Rattle.settle_closing.specs.Closing.{Evented, Tested, evented, tested, amounts-are}
use Rattle.settle_closing.proofs.amounts.amounts_to_date.Goals as goal
use Rattle.settle_closing.proofs.amounts.amounts_to_date.Goals.{After-bill_events, After-charge_tests}

after_events : (c : After-bill_events) → Evented c.args.year.now.cells c.args.k c.bill_events.new.work
after_events c = let r = c.bill_events.ensures in evented c.args.year.now.cells c.args.k c.rate.ensures r.aside r.dispatched r.compliance r.credit

after_tests : (c : After-charge_tests) → Tested c.args.year.now.cells c.args.k c.charge_tests.new.work
after_tests c = let r = c.charge_tests.ensures in let e = c.bill_events.ensures in tested c.args.year.now.cells c.args.k (evented c.args.year.now.cells c.args.k c.rate.ensures e.aside e.dispatched e.compliance e.credit) r.aside r.charged

pub charge_tests-requires-clause-row : goal.charge_tests-requires-clause-row
charge_tests-requires-clause-row c = (after_events (goal.at.charge_tests-requires-clause-row c).After-bill_events).test

pub credit_lses-requires-clause-covered : goal.credit_lses-requires-clause-covered
credit_lses-requires-clause-covered c = let h = after_tests (goal.at.credit_lses-requires-clause-covered c).After-charge_tests in covered c.args.year.now.cells c.args.k h.compliance h.test h.credit c.args.year.now.valid

pub credit_lses-requires-clause-year_bound : goal.credit_lses-requires-clause-year_bound
credit_lses-requires-clause-year_bound c = let h = after_tests (goal.at.credit_lses-requires-clause-year_bound c).After-charge_tests in net-fits c.args.year.now.cells c.args.k h.compliance h.test h.credit c.args.year.now.valid

pub credit_lses-requires-clause-empty : goal.credit_lses-requires-clause-empty
credit_lses-requires-clause-empty c = let h = after_tests (goal.at.credit_lses-requires-clause-empty c).After-charge_tests in h.lse

pub returns : goal.returns
returns c =
    let s = c.credit_lses.ensures in
    rw (c.numbers_at.ensures, c.numbers_at-2.ensures, c.numbers_at-3.ensures, c.numbers_at-4.ensures)
    (amounts-are c.args.year.now.cells c.args.k (after_tests (goal.at.returns c).After-charge_tests) s.aside s.credited)
