-- With n words passed, the front of out holds their numbers, and those of the rest of the line are left.
use mathlib.Core.List.{[], map}
use mathlib.Core.Path.{◌≡◌, refl, ap, ◌∙◌}
use native.Mathlib.Numerals.{add-one}
use native.Mathlib.Omega.{arith}
use lib.ListN.{length, take, drop, length-drop, drop_of_length-le}
use lib.Seq.{length-take-le}
use Rattle.std.proofs.lemmas.List.{set-get_or}
use Rattle.text.specs.Words.{closed, words_from, spelled, numbers}
use Rattle.text.proofs.Digits.{front-more}
use Rattle.text.proofs.Words.{numbers-next, next-number}
use Rattle.text.proofs.scan.decimals.Goals as goal

pub loop-n-init : goal.loop-n-init
unfolding numbers
loop-n-init c =
    let w = c.word_start-at.ensures in
    record { within = w.within; starts = w.starts; counted = omega arith; left = ap (map spelled) w.passes; front = refl }

pub returns-then-at-line : goal.returns-then-at-line
unfolding numbers words_from closed
returns-then-at-line c =
    let l = c.loop-n in
    let line = c.args.line.now in
    let none : drop l.n (numbers line) ≡ [] = l.invariant.left ∙ rw (drop_of_length-le line {i = l.at} (omega arith)) in
    record { value = omega (arith, ap length none, length-drop l.n (numbers line)); out_after = rw set-get_or l.invariant.front }

pub loop-n-preserved : goal.loop-n-preserved
loop-n-preserved c =
    let l = c.loop-n in
    let a = c.args in
    let w = c.word_end-end in
    let next = c.word_start-at-in-loop-n in
    let v = c.decimal.result in
    let more = next-number (numbers a.line.now) (numbers (drop next.result a.line.now)) l.n v (l.invariant.left ∙ numbers-next a.line.now l.at w.result next.result v w.ensures next.ensures c.decimal.ensures) in
    record {
      within = next.ensures.within;
      starts = next.ensures.starts;
      counted = omega arith;
      left = more.2;
      front = rw (l.invariant.front, more.1, add-one) (front-more (take l.n (numbers a.line.now)) a.out.now l.n v (length-take-le l.n (numbers a.line.now) (omega arith)) (omega arith));
    }

pub returns : goal.returns
returns c =
    let l = c.loop-n in
    let all : l.n ≡ length l.out = omega arith in
    record { value = omega arith; out_after = rw all at l.invariant.front }
