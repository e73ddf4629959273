-- How many divisions each allotment of the rules makes (document 02's C-13): as many as it has parties, none where its weights are all 0.
use Rattle.std.specs.Prelude.{ℕ, Bool, ◌&&◌, eqb, ltb}
use Rattle.ids.specs.Ids.{sum_to, count_to}
use Rattle.limits.specs.Limits.{registrations, lses}
use Rattle.allotment.specs.Divisions.{divisions}
use Rattle.year.specs.Year.{listed, obligation}
use Rattle.owed.specs.Facts.{Facts}
use Rattle.owed.specs.Owed.{of_seller, short, over, measured, off_short, e}

module _ (F : Facts) where
  -- of seller s's amount by weights: its entries are the parties
  abbrev pub seller_entry : (ℕ → Bool) → ℕ → ℕ → Bool
  seller_entry listed s i = eqb (F.seller i) s && listed i

  unfoldable pub divisions_of : (ℕ → Bool) → (ℕ → ℕ) → ℕ → ℕ
  divisions_of listed weight s = divisions (count_to registrations (seller_entry listed s)) (of_seller F s weight)

  -- of u and e of seller s's entries in event ev
  abbrev pub u_divisions : ℕ → ℕ → ℕ
  u_divisions ev = divisions_of (listed (F.event ev).listing) (short F ev)

  abbrev pub e_divisions : ℕ → ℕ → ℕ
  e_divisions ev = divisions_of (listed (F.event ev).listing) (over F ev)

  -- and of the off-peak u of those that are measured off-peak
  abbrev pub off_divisions : ℕ → ℕ → ℕ
  off_divisions ev = divisions_of (measured F ev) (off_short F ev)

  -- of event ev's credits: its entries are the parties
  unfoldable pub credit_divisions : ℕ → ℕ
  credit_divisions ev = divisions (count_to registrations (listed (F.event ev).listing)) (sum_to registrations (e F ev))

  -- of what the LSEs are credited: those that are known are the parties
  abbrev pub known_lse : ℕ → Bool
  known_lse j = ltb 0 (obligation F.terms j)

  unfoldable pub lse_divisions : ℕ
  lse_divisions = divisions (count_to lses known_lse) (sum_to lses (obligation F.terms))
