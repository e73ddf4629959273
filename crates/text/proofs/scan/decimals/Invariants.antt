-- With n words passed, the front of out holds their numbers, and those of the rest of the line are left.
use Prim.Native.Nat.{◌≤◌, ◌<◌}
use mathlib.Core.Bool.{false}
use mathlib.Core.List.{◌++◌}
use mathlib.Core.Path.{◌≡◌}
use lib.ListN.{length, get_or, take, drop}
use Rattle.text.specs.Words.{separates, numbers}
use Rattle.text.proofs.scan.decimals.Given as goal

abbrev pub invariant-loop-n : goal.invariant-loop-n
invariant-loop-n l = record {
  within : l.at ≤ length l.line;
  starts : l.at < length l.line → separates (get_or l.line l.at 0) ≡ false;
  counted : l.n ≤ length (numbers l.line);
  left : drop l.n (numbers l.line) ≡ numbers (drop l.at l.line);
  front : l.out ≡ take l.n (numbers l.line) ++ drop l.n l.initial.out;
}
