-- `statement::columns` meets its contract: each part is copied into its place.
use mathlib.Core.List.{List, [], ◌++◌}
use mathlib.Core.Path.{◌≡◌, refl}
use Prim.Native.Nat.{ℕ, ◌≤◌}
use native.Mathlib.Omega.{arith}
use lib.ListN.{length, replicate, length-append}
use borrow.Rule.Slice.PartMut.{put_mid}
use Rattle.std.proofs.Common.{append_assoc, append-nil}
use Rattle.std.proofs.lemmas.List.{take_at, drop_at}
use Rattle.statement.specs.Statement.{seller_columns}
use Rattle.statement.proofs.issue.columns.Goals as goal

abbrev zeros : List ℕ
zeros = replicate 16 0

-- a part behind x is laid over
over : (n k : ℕ) (x part rest new : List ℕ) → length x ≡ n → length part ≡ k → put_mid n k (x ++ (part ++ rest)) new ≡ x ++ (new ++ rest)
over n k x part rest new e f = rw (take_at x (part ++ rest) n e, drop_at x (part ++ rest) n e, drop_at part rest k f)

module _ (a b d : List ℕ) (la : length a ≡ 16) (lb : length b ≡ 16) where
  two : put_mid 16 16 (a ++ (zeros ++ zeros)) b ≡ a ++ (b ++ zeros)
  two = over 16 16 a zeros zeros b la refl

  long : 48 ≤ length (put_mid 16 16 (a ++ (zeros ++ zeros)) b)
  long = rw two (omega (arith, length-append a (b ++ zeros), length-append b zeros))

  three : put_mid 32 16 (put_mid 16 16 (a ++ (zeros ++ zeros)) b) d ≡ a ++ (b ++ d)
  three =
      let behind : length (a ++ b) ≡ 32 = omega (arith, length-append a b) in
      rw two (rw (append-nil d, append_assoc a b zeros, append_assoc a b d) at (over 32 16 (a ++ b) zeros [] d behind refl))

pub slice_bounds-columns-end-3 : goal.slice_bounds-columns-end-3
slice_bounds-columns-end-3 c =
    rw (c.copy_from_slice.ensures.after, c.copy_from_slice-2.ensures.after) (long c.args.amounts.compliance c.args.amounts.test [] c.requires.compliance.long c.requires.test.long)

pub returns : goal.returns
unfolding seller_columns
returns c =
    rw (c.copy_from_slice.ensures.after, c.copy_from_slice-2.ensures.after, c.copy_from_slice-3.ensures.after)
    (three c.args.amounts.compliance c.args.amounts.test c.args.amounts.credit c.requires.compliance.long c.requires.test.long)
