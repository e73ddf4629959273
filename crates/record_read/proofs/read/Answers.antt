-- What is refused leaves the buffer as it was; else the row has the numbers in front.
use mathlib.Core.Path.{◌≡◌, refl, sym, ◌∙◌}
use mathlib.Core.List.{List}
use Prim.Native.Nat.{ℕ, ◌≤◌}
use lib.ListN.{length, take}
use native.Mathlib.Omega.{arith}
use Rattle.std.proofs.Common.{length-take-le}
use Rattle.record_parse.specs.Answers.{number-some}
use Rattle.record_read.specs.Answers.{read-fails, read_short, read-full, rejects, yields, counted, few, front, all-used}
use Rattle.record_read.proofs.read.Goals as goal

pub returns-in-Err : goal.returns-in-Err
returns-in-Err c =
    let refused = c.in-Err.ensures in
    let some = number-some c.in-Err.refused.refusal in
    rejects _ refused.numbers refl refl refl (λ e. some (refused.numbers ∙ e)) (read-fails _ _ (λ e. some (refused.numbers ∙ e)))

pub returns-then-numbers-lt-NUMBERS : goal.returns-then-numbers-lt-NUMBERS
returns-then-numbers-lt-NUMBERS c =
    rejects 16 refl refl refl refl (λ e. omega arith) (read_short _ _ (sym c.in-Ok.ensures.numbers) c.if-numbers-lt-NUMBERS.true)

-- as many numbers as there are, in the buffer and in the row
fits : {n m : ℕ} (xs : List ℕ) → n ≤ m → m ≤ length xs → n ≡ length (take n xs)
fits xs few room = sym (length-take-le _ xs (omega arith))

pub slice_bounds-copy_from_slice-end : goal.slice_bounds-copy_from_slice-end
slice_bounds-copy_from_slice-end c = omega (arith, few c.in-Ok.ensures, c.if-numbers-lt-NUMBERS.false)

pub slice_bounds-copy_from_slice-end-2 : goal.slice_bounds-copy_from_slice-end-2
slice_bounds-copy_from_slice-end-2 c = fits _ (few c.in-Ok.ensures) c.if-numbers-lt-NUMBERS.false

pub slice_bounds-values-end : goal.slice_bounds-values-end
slice_bounds-values-end c = omega (arith, few c.in-Ok.ensures)

pub slice_bounds-copy_from_slice-end-3 : goal.slice_bounds-copy_from_slice-end-3
slice_bounds-copy_from_slice-end-3 c = fits _ (few c.in-Ok.ensures) (omega arith)

pub copy_from_slice-requires : goal.copy_from_slice-requires
copy_from_slice-requires c = sym (fits _ (few c.in-Ok.ensures) c.if-numbers-lt-NUMBERS.false) ∙ fits _ (few c.in-Ok.ensures) (omega arith)

pub returns : goal.returns
returns c =
    let p = c.in-Ok.ensures in
    yields refl (counted p) (all-used p) (rw (c.copy_from_slice.ensures.after, front p, counted p)) (read-full _ _ (sym p.numbers) c.if-numbers-lt-NUMBERS.false)
