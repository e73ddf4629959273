-- Months and products: days to date, due months, and when a product may be called or tested. Month 1 is June, month 12 May.
use Rattle.std.specs.Prelude.{ℕ, ◌+◌, ◌-◌, ◌≤◌, min, max, Bool, true, false, not, ◌&&◌, ◌||◌, cond, List, [], ◌∷◌, refl, get_or, leb, eqb}
use Rattle.std.proofs.Common.{arith, leb-true}
use Rattle.ids.specs.Ids.{all_to}
use Rattle.ids.specs.Tests.{all-at}

-- the products
abbrev pub limited : ℕ
limited = 0

abbrev pub extended_summer : ℕ
extended_summer = 1

abbrev pub annual : ℕ
annual = 2

-- the period of an event: off-peak; 1 is on-peak and 3 both
abbrev pub off_peak : ℕ
off_peak = 2

-- the last day of each month, counted from 1 June, in a year of 365 days
abbrev pub month_ends : List ℕ
month_ends = 30 ∷ 61 ∷ 92 ∷ 122 ∷ 153 ∷ 183 ∷ 214 ∷ 245 ∷ 273 ∷ 304 ∷ 334 ∷ 365 ∷ []

-- D(k): days from 1 June to the end of month k, the leap day counted from month 9 on; months past 12 have those of month 12
unfoldable pub days : ℕ → ℕ → ℕ
days leap k = get_or month_ends (min k 12 - 1) 0 + cond (leb 9 k) leap 0

-- the month from which an event of month m is charged
unfoldable pub due : ℕ → ℕ → ℕ
due product m = max (cond (eqb product limited) 5 13) (m + 3)

abbrev pub between : ℕ → ℕ → ℕ → Bool
between low high m = leb low m && leb m high

-- June to October, and May
abbrev pub summer : ℕ → Bool
summer m = between 1 5 m || eqb m 12

-- may a product be called in month m, in this period
unfoldable pub callable : ℕ → ℕ → ℕ → Bool
callable product m period =
    cond (eqb product limited) (between 1 4 m && not (eqb period off_peak)) (cond (eqb product extended_summer) (summer m) true)

-- may a product be tested in month m
unfoldable pub testable : ℕ → ℕ → Bool
testable product m = cond (eqb product limited) (between 1 4 m) (summer m)

pub month-end-le : (k : ℕ) → get_or month_ends (min k 12 - 1) 0 ≤ 365
unfolding all_to
month-end-le k =
    leb-true (get_or month_ends (min k 12 - 1) 0) 365
    (all-at 12 (λ i. leb (get_or month_ends i 0) 365) refl (min k 12 - 1) (omega arith))

pub days-le : {leap : ℕ} (k : ℕ) → leap ≤ 1 → days leap k ≤ 366
unfolding days
days-le {leap} k h = go (leb 9 k)
  where
    go : (b : Bool) → get_or month_ends (min k 12 - 1) 0 + cond b leap 0 ≤ 366
    go true = omega (arith, month-end-le k)
    go false = omega (arith, month-end-le k)
