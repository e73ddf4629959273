-- The month, the sellers and the LSEs, one after another.
use native.Mathlib.Omega.{arith}
use Prim.Native.Nat.{◌≤◌}
use mathlib.Core.Path.{◌≡◌}
use Rattle.bits.specs.Bits.{field_at}
use Rattle.bits.specs.BitLaws.{field_lt}
use Rattle.text_bill.specs.Text.{statement_lines}
use Rattle.text.specs.Pasted.{pasted_length, then}
use Rattle.text_bill.proofs.statement_lines.Goals as goal
use Rattle.text_bill.proofs.statement_lines.Goals.{After-read_field-lses}

-- the three fields in front, and the cursor behind them
front_at : (c : After-read_field-lses) → let xs = c.args.statement.now in
    (c.read_field-month.result.value ≡ field_at xs 0 4) × (c.read_field-sellers.result.value ≡ field_at xs 4 5) × (c.read_field-lses.result.value ≡ field_at xs 9 5) × (c.read_field-lses.result.next.at ≡ 14)
front_at c =
    let z = c.first.ensures in
    let a : c.read_field-month.result.next.at ≡ 4 = omega (arith, c.read_field-month.ensures.next) in
    let b : c.read_field-sellers.result.next.at ≡ 9 = omega (arith, c.read_field-sellers.ensures.next) in
    (rw z at c.read_field-month.ensures.value, rw a at c.read_field-sellers.ensures.value, rw b at c.read_field-lses.ensures.value, omega (arith, c.read_field-lses.ensures.next))

counts-at : (c : After-read_field-lses) → (c.read_field-sellers.result.value ≤ 31) × (c.read_field-lses.result.value ≤ 31)
counts-at c =
    let xs = c.args.statement.now in
    let f = front_at c in
    (omega (arith, f.1, field_lt xs 4 5), omega (arith, f.2, field_lt xs 9 5))

pub put_parties-place-requires : goal.put_parties-place-requires
put_parties-place-requires c =
    let n = counts-at (goal.at.put_parties-place-requires c).After-read_field-lses in
    let f = front_at (goal.at.put_parties-place-requires c).After-read_field-lses in record { count_bound = n.0; lies = record { within = omega (arith, f.3); small = omega (arith, f.3) }; count_in_bounds = omega (arith, n.0, c.put_month.ensures.upper_bound) }

pub put_parties-requires : goal.put_parties-requires
put_parties-requires c =
    let n = counts-at (goal.at.put_parties-requires c).After-read_field-lses in
    let f = front_at (goal.at.put_parties-requires c).After-read_field-lses in
    let month = c.put_month.ensures in
    let sellers = c.put_parties-place.ensures in
    let long = pasted_length (then month.pasted sellers.puts) in record { count_bound = n.1; lies = record { within = omega (arith, n.0, n.1, f.3, sellers.reaches, c.requires.statement_room_in_bounds); small = omega (arith, n.0, n.1, f.3, sellers.reaches) }; count_in_bounds = omega (arith, n.0, n.1, month.upper_bound, sellers.reaches, c.requires.room_in_bounds) }

pub returns : goal.returns
unfolding statement_lines
returns c =
    let f = front_at (goal.at.returns c).After-read_field-lses in
    let sellers = c.put_parties-place.ensures in
    let lines = then c.put_month.ensures.pasted (then sellers.puts c.put_parties.ensures.puts) in
    rw (sellers.reaches.1, f.3, f.0, f.1, f.2) at lines
