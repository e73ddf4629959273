-- A registration's line in the working table, and the daily charge from it.
use Rattle.std.specs.Prelude.{ℕ, ◌+◌, ◌*◌, ◌-◌, ◌/◌, min, max, Bool, cond, List}
use Rattle.ids.specs.Ids.{at}
use Rattle.settle_table.specs.Places.{seller_row, product_row, rate_row, cap_row, dispatch_count_row, spent_row, u_row, e_row, off_u_row}
use Rattle.settle_charges.specs.declared.prices.Line.{Line}

-- registration i in the table
abbrev pub line_at : List ℕ → ℕ → Line
line_at w i =
    record { seller = at w (seller_row + i); product = at w (product_row + i); n = at w (dispatch_count_row + i); rate = at w (rate_row + i); cap = at w (cap_row + i); spent = at w (spent_row + i); u = record { 0 = at w (u_row + i) }; off = record { 0 = at w (off_u_row + i) }; e = record { 0 = at w (e_row + i) } }

-- the lesser of what is asked, which is the higher of both, and the cap's rest
abbrev pub daily_of : Bool → Line → ℕ
daily_of peak l = min (max (l.u.0 * l.rate / cond peak (max l.n 2) 52) (l.off.0 * l.rate / 52)) (l.cap - l.spent)
