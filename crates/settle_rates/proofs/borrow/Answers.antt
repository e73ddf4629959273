-- `settle_rates::borrow` meets its contract: a registration keeps its own rate, or has its area's.
use Rattle.std.specs.Prelude.{ℕ, ◌+◌, ◌*◌, ◌≤◌, ◌<◌, ◌≡◌, List}
use Rattle.std.proofs.Common.{ap, sym, ◌∙◌, arith, mul-le-mul}
use borrow.Author.Tests.{lt-ltb, le-ltb}
use Rattle.ids.specs.Ids.{at}
use Rattle.limits.specs.Limits.{registrations, unforced_limit, rate_limit}
use Rattle.year_cells.specs.Layout.{ValidCells}
use Rattle.settle_facts.specs.CellFacts.{facts}
use Rattle.owed.specs.Owed.{cap}
use Rattle.owed.specs.Owed as owed
use Rattle.owed_laws.specs.Limits.{limits, known_is}
use Rattle.owed_laws.specs.Rates.{rate-kept, rate-unknown, rate-borrowed}
use Rattle.owed_laws.specs.Bounds.{unforced-one}
use Rattle.settle_table.specs.Places.{committed_row, rate_row, area_row, area_rate_row}
use Rattle.settle_table.specs.Rows.{renewed-next}
use Rattle.settle_rates.specs.Rating.{Rating, rating-none, rating-more}
use Rattle.year.specs.Year.{area, committed}
use Rattle.settle_rates.proofs.borrow.Goals as goal

-- what is read of the table
module _ {y : List ℕ} {i : ℕ} {w : List ℕ} (h : Rating y i w) (l : i < registrations) where
  own_is : {o : ℕ} → o ≡ at w (rate_row + i) → o ≡ owed.own (facts y) i
  own_is e = e ∙ renewed-next h.rate l

  committed-is : {k : ℕ} → k ≡ at w (committed_row + i) → k ≡ committed (facts y).terms i
  committed-is e = e ∙ h.entered.committed.is i l

  area-is : {a : ℕ} → a ≡ at w (area_row + i) → a ≡ area (facts y).terms i
  area-is e = e ∙ h.entered.area.is i l

  -- one that commits something is known, and borrows
  rate-is : ValidCells y → {o k a r : ℕ} → o ≡ owed.own (facts y) i → o ≤ 0 → k ≡ committed (facts y).terms i → 0 < k
      → a ≡ area (facts y).terms i → r ≡ at w (area_rate_row + a) → r ≡ owed.rate (facts y) i
  rate-is v p z q s b e =
      let F = facts y in
      let L = limits v.sound in
      let none : owed.own F i ≡ 0 = omega arith in
      let there = known_is L i ∙ lt-ltb 0 (committed F.terms i) (omega arith) in
      rw b at e ∙ h.areas.is (area F.terms i) (L.area i) ∙ sym (rate-borrowed F i there none)

pub returns-then-own-gt0 : goal.returns-then-own-gt0
returns-then-own-gt0 c =
    let h = c.requires.rating in
    let l = c.requires.i_lt_registrations in
    rating-none h l (rate-kept (facts c.args.year.now.cells) c.args.i (omega (arith, own_is h l c.get-own.ensures, c.if-own-gt0.true)))

pub new-committed-requires : goal.new-committed-requires
new-committed-requires c = rw (committed-is c.requires.rating c.requires.i_lt_registrations c.get.ensures) ((limits c.args.year.now.valid.sound).committed c.args.i)

pub returns-then-committed-eq0 : goal.returns-then-committed-eq0
returns-then-committed-eq0 c =
    let h = c.requires.rating in
    let l = c.requires.i_lt_registrations in
    let F = facts c.args.year.now.cells in
    let i = c.args.i in
    let k = c.new-committed.ensures ∙ committed-is h l c.get.ensures in
    let unknown = known_is (limits c.args.year.now.valid.sound) i ∙ le-ltb 0 (committed F.terms i) (omega (arith, k, c.if-committed-eq0.true)) in
    rating-none h l (rate-unknown F i unknown)

pub get-rate-requires : goal.get-rate-requires
get-rate-requires c = omega (arith, area-is c.requires.rating c.requires.i_lt_registrations c.get-area.ensures, (limits c.args.year.now.valid.sound).area c.args.i)

pub unforced-all-requires : goal.unforced-all-requires
unforced-all-requires c =
    let k = c.new-committed.ensures ∙ committed-is c.requires.rating c.requires.i_lt_registrations c.get.ensures in
    record { kw_le_nominated_sum = omega (arith, k, (limits c.args.year.now.valid.sound).committed c.args.i) }

-- by the rate in force as by the registration's own
pub overflow_mul-cap : goal.overflow_mul-cap
overflow_mul-cap c =
    let h = c.requires.rating in
    let l = c.requires.i_lt_registrations in
    let L = limits c.args.year.now.valid.sound in
    let k = c.new-committed.ensures ∙ committed-is h l c.get.ensures in
    let o = own_is h l c.get-own.ensures in
    let r = rate-is h l c.args.year.now.valid o (omega (arith, c.if-own-gt0.false)) k (omega (arith, c.if-committed-eq0.false)) (area-is h l c.get-area.ensures) c.get-rate.ensures in
    let all : c.unforced-all.result.0 ≤ unforced_limit = rw (c.unforced-all.ensures, k) (unforced-one L (L.committed c.args.i)) in
    let rate : c.get-rate.result ≤ rate_limit = rw r (L.rate c.args.i) in
    let own : c.get-own.result ≤ rate_limit = rw o (L.own c.args.i) in
    record { fits = omega (arith, mul-le-mul all rate, mul-le-mul all own) }

pub returns : goal.returns
unfolding cap
returns c =
    let h = c.requires.rating in
    let l = c.requires.i_lt_registrations in
    let k = c.new-committed.ensures ∙ committed-is h l c.get.ensures in
    let all = c.unforced-all.ensures ∙ ap (owed.unforced (facts c.args.year.now.cells)) k in
    let rate = rate-is h l c.args.year.now.valid (own_is h l c.get-own.ensures) (omega (arith, c.if-own-gt0.false)) k (omega (arith, c.if-committed-eq0.false)) (area-is h l c.get-area.ensures) c.get-rate.ensures in
    rating-more h l c.put.ensures rate c.put-2.ensures (λ j. all j * rate j)
