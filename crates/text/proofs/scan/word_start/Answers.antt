-- What is passed is separators alone.
use mathlib.Core.Path.{sym, ◌∙◌}
use native.Mathlib.Omega.{arith}
use Rattle.text.proofs.Words.{separator-passed}
use Rattle.text.proofs.scan.word_start.Goals as goal

pub loop-i-preserved : goal.loop-i-preserved
loop-i-preserved c =
    let l = c.loop-i in
    let e = sym c.is_separator.ensures ∙ c.if-not-is_separator.false in
    l.invariant ∙ separator-passed c.args.line.now l.i (omega arith) e
