-- What question 3 says of a head: its fields within their limits, as far as the year and the code rest on them.
use Rattle.std.specs.Prelude.{ℕ, ◌≤◌, ◌<◌}
use Rattle.limits.specs.Limits.{registrations, sellers, lses, zones, products, close_limit, nominated_limit, obligation_limit, rate_limit}
use Rattle.year.specs.Sound.{Factors}
use Rattle.record_heads.specs.declared.RegistrationHead.{RegistrationHead}
use Rattle.record_heads.specs.declared.LseHead.{LseHead}
use Rattle.record_heads.specs.declared.ClearingHead.{ClearingHead}
use Rattle.record_heads.specs.declared.Head.{Head}
use Rattle.record_heads.specs.declared.Head.TheVariants.{Opening, Registration, Lse, Event, Test, Close, Clearing, Retest}

pub record RegistrationWithin (r : RegistrationHead) : Type 0 where
  pub id : r.id < registrations
  pub seller : r.seller < sellers
  pub area : r.area < 8
  pub zone : r.zone < 8
  pub product : r.product < products
  pub some : 1 ≤ r.committed
  pub committed : r.committed ≤ nominated_limit
  pub rate : r.rate ≤ rate_limit

pub record LseWithin (j : LseHead) : Type 0 where
  pub id : j.id < lses
  pub obligation : j.obligation ≤ obligation_limit

-- a zone and a product
pub record GroupWithin (z p : ℕ) : Type 0 where
  pub zone : z < zones
  pub product : p < products

pub record ClearingWithin (c : ClearingHead) : Type 0 where
  pub registration : c.registration < registrations
  pub price : c.price ≤ rate_limit
  pub some : 1 ≤ c.kw
  pub kw : c.kw ≤ nominated_limit

unfoldable pub Within : Head → Type 0
Within (Opening o) = Factors o.leap o.factor o.requirement
Within (Registration r) = RegistrationWithin r
Within (Lse j) = LseWithin j
Within (Event e) = e.month ≤ 12
Within (Test t) = GroupWithin t.zone t.product
Within (Close c) = c.month ≤ close_limit
Within (Clearing c) = ClearingWithin c
Within (Retest t) = GroupWithin t.zone t.product
