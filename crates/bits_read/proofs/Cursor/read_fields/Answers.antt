-- With i fields cut out of the word, they are laid over out from its place on, and the cursor in the word stands behind them.
use mathlib.Core.List.{List}
use mathlib.Core.Path.{◌≡◌, ap, ◌∙◌}
use Prim.Native.Nat.{ℕ, ◌+◌, ◌-◌, ◌*◌, ◌/◌, ◌%◌, ◌^◌, ◌≤◌, ◌<◌}
use native.Mathlib.Omega.{arith}
use lib.ListN.{get_or, length, set, take}
use lib.Seq.{take-length}
use Rattle.bits.specs.Bits.{field_at}
use Rattle.bits.specs.Table.{total, fields_at, laid, InWord}
use Rattle.bits.specs.TableLaws.{width-in, total-in, total-more, no-field-left, out-more}
use Rattle.bits.specs.Shifts.{middle}
use Rattle.bits_read.proofs.Cursor.read_fields.Goals as goal
use Rattle.bits_read.proofs.Cursor.read_fields.Goals.{else-loop-i-test, then-loop-i-test+then-c-end}

-- one more field that is cut out of the word at p is laid over out
laid-more : (to : ℕ) (old : List ℕ) {xs ws out : List ℕ} {at i p word value : ℕ} → InWord xs at ws → to + length ws ≤ length old → i < length ws → p ≡ at % 8 + total (take i ws)
    → out ≡ laid to (fields_at xs (8 * (at / 8) + at % 8) (take i ws)) old → word ≡ field_at xs (8 * (at / 8)) 64
    → value ≡ word / 2 ^ (64 - (p + get_or ws i 0)) % 2 ^ get_or ws i 0
    → set out (to + i) value ≡ laid to (fields_at xs (8 * (at / 8) + at % 8) (take (i + 1) ws)) old
laid-more to old {xs} {ws} {out} {at} {i} {p} {word} {value} inside room h behind before ahead cut =
    let first = 8 * (at / 8) in
    let start = at % 8 in
    let w = get_or ws i 0 in
    let place : first + p ≡ first + start + total (take i ws) = omega (arith, behind) in
    let is : value ≡ field_at xs (first + start + total (take i ws)) w =
    cut ∙ middle xs first p w _ (omega (arith, total-in ws i h, behind, inside.ends)) ahead ∙ ap (λ (q : ℕ). field_at xs q w) place in
    rw is (out-more xs (first + start) to ws out old i h room before)

pub cut-f-requires : goal.cut-f-requires
cut-f-requires c =
    let ws = c.args.ws.now in
    let i = c.loop-i.i in
    record { le_width = width-in ws i c.requires.in_word.narrows c.loop-i-test.true; width_bound = omega (arith, total-in ws i c.loop-i-test.true, c.loop-i.invariant.0, c.requires.in_word.ends) }

pub loop-i-preserved : goal.loop-i-preserved
loop-i-preserved c =
    let l = c.loop-i in
    let h = c.loop-i-test.true in
    let f = c.cut-f.ensures in
    (rw (total-more c.args.ws.now l.i h) (omega (arith, f.1, l.invariant.0)), laid-more c.args.to c.args.out.now c.requires.in_word c.requires.ws_in_bounds h l.invariant.0 l.invariant.1 c.ahead-word.ensures f.0)

-- the loop ends behind the last field: no field is left, or no bit
pub returns-clause-out_after : goal.returns-clause-out_after
returns-clause-out_after c =
    let ws = c.args.ws.now in
    let l = c.loop-i in
    let here : 8 * (c.args.self.at / 8) + c.args.self.at % 8 ≡ c.args.self.at = omega arith in
    elim c.loop-i-test.branch [
      | else-loop-i-test w ↦
          let all : l.i ≡ length ws = omega (arith, w.loop-i-test.false) in
          rw w.out-is (rw (all, take-length, here) at l.invariant.1)
      | then-loop-i-test+then-c-end w ↦
          let h = w.loop-i-test.true in
          let f = w.cut-f.ensures in
          let none : total (take (l.i + 1) ws) ≡ total ws = rw (total-more ws l.i h) (omega (arith, f.1, l.invariant.0, w.if-c-end.true, c.requires.bits_value)) in
          let all : l.i + 1 ≡ length ws = no-field-left ws (l.i + 1) c.requires.in_word.narrows (omega (arith, h)) none in
          rw w.out-is (rw (all, take-length, here) at (laid-more c.args.to c.args.out.now c.requires.in_word c.requires.ws_in_bounds h l.invariant.0 l.invariant.1 c.ahead-word.ensures f.0))
    ]
