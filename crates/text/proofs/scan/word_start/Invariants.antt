-- What is passed is separators alone.
use mathlib.Core.Path.{◌≡◌}
use lib.ListN.{drop}
use Rattle.text.specs.Words.{words}
use Rattle.text.proofs.scan.word_start.Given as goal

abbrev pub invariant-loop-i : goal.invariant-loop-i
invariant-loop-i l = words (drop l.at l.line) ≡ words (drop l.i l.line)
