-- What is passed is the characters of the word.
use Prim.Native.Nat.{◌-◌}
use mathlib.Core.Path.{◌≡◌, sym, ◌∙◌}
use native.Mathlib.Omega.{arith}
use lib.ListN.{length}
use Rattle.text.proofs.Words.{character-joined, word-closed}
use Rattle.text.proofs.scan.word_end.Goals as goal

pub loop-i-init : goal.loop-i-init
loop-i-init c =
    let a = c.args in
    let e : a.at - a.at ≡ 0 = omega arith in
    rw e at (character-joined a.line.now a.at (omega arith) a.at (omega arith) c.requires.at_value)

pub returns-then-is_separator : goal.returns-then-is_separator
returns-then-is_separator c =
    let l = c.loop-i in
    let a = c.args in
    let e = sym c.is_separator.ensures ∙ c.if-is_separator.true in
    record { after = omega arith; within = omega arith; word = l.invariant ∙ word-closed a.line.now a.at l.i (omega arith) (omega arith) (λ m. e) }

pub loop-i-preserved : goal.loop-i-preserved
loop-i-preserved c =
    let l = c.loop-i in
    let a = c.args in
    let e = sym c.is_separator.ensures ∙ c.if-is_separator.false in
    l.invariant ∙ character-joined a.line.now l.i (omega arith) a.at (omega arith) e

pub returns : goal.returns
returns c =
    let l = c.loop-i in
    let a = c.args in
    let all : l.i ≡ length a.line.now = omega arith in
    record { after = omega arith; within = omega arith; word = rw all at (l.invariant ∙ word-closed a.line.now a.at l.i (omega arith) (omega arith) (λ m. absurd (omega arith))) }
