-- The first number, and after each turn the further ones so far.
use Prim.Native.Nat.{◌+◌, ◌*◌, ◌≤◌}
use lib.ListN.{take}
use Rattle.text.specs.Lines.{decimal, word, each}
use Rattle.text.specs.Pasted.{Pasted}
use Rattle.text.proofs.numbers_line.Given as goal

abbrev pub invariant-loop-n : goal.invariant-loop-n
invariant-loop-n l = record {
  pasted : Pasted l.initial.out l.out l.initial.p (each (λ m. word (decimal m)) (take l.n-index l.rest)) l.p;
  upper_bound : l.p ≤ l.at + 21 * (l.n-index + 1);
}
