-- What is passed is the characters of the word.
use Prim.Native.Nat.{◌-◌}
use mathlib.Core.Path.{◌≡◌}
use lib.ListN.{take, drop}
use Rattle.text.specs.Words.{words, words_from}
use Rattle.text.proofs.scan.word_end.Given as goal

abbrev pub invariant-loop-i : goal.invariant-loop-i
invariant-loop-i l = words (drop l.at l.line) ≡ words_from (take (l.i - l.at) (drop l.at l.line)) (drop l.i l.line)
