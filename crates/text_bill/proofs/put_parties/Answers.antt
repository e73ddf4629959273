-- After each turn the lines so far stand in the buffer, and the cursor behind their bits.
use native.Mathlib.Nat.{mul-le-mul_left}
use native.Mathlib.Omega.{arith}
use Prim.Native.Nat.{◌+◌, ◌≤◌}
use mathlib.Core.Path.{◌≡◌}
use Rattle.text_bill.specs.Text.{party_bits, party_line}
use Rattle.text.specs.Pasted.{pasted_length}
use Rattle.text_bill.specs.TextLaws.{lines_none, lines_step}
use Rattle.text_bill.proofs.put_parties.Goals as goal

pub loop-init : goal.loop-init
loop-init c =
    let a = c.args in
    (omega arith, lines_none (party_line a.statement.now a.sort.letter a.sort.amounts) (party_bits a.sort.amounts) a.from.next.at a.out.now a.from.at (omega arith), omega arith, omega arith)

pub put_party-place-requires : goal.put_party-place-requires
put_party-place-requires c =
    let l = c.loop in
    let same = pasted_length l.invariant.1 in
    let more : l.counter + 1 ≤ c.args.count = omega arith in
    let ends = mul-le-mul_left c.args.sort.amounts more in record { lies = record { within = omega (arith, ends, c.requires.lies.within, l.invariant.3); small = omega (arith, ends, c.requires.lies.small, l.invariant.3) }; amounts_in_bounds = omega (arith, ends, c.requires.count_in_bounds, l.invariant.2) }

pub loop-preserved : goal.loop-preserved
loop-preserved c =
    let a = c.args in
    let l = c.loop in
    let put = c.put_party-place.ensures in (
      omega arith,
      lines_step (party_line a.statement.now a.sort.letter a.sort.amounts) (party_bits a.sort.amounts) a.from.next.at l.counter l.invariant.1 (rw l.invariant.3 at put.puts),
      omega (arith, put.reaches, l.invariant.2),
      omega (arith, put.reaches, l.invariant.3),
    )

pub returns : goal.returns
returns c =
    let l = c.loop in
    let all : l.counter ≡ c.args.count = omega arith in record { puts = rw (← all) l.invariant.1; reaches = (rw (← all) l.invariant.2, rw (← all) l.invariant.3) }

pub shape_of-out : goal.shape_of-out
shape_of-out c = pasted_length c.loop.invariant.1
