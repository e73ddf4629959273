-- The last bytes of the word are laid over those from the place on.
use mathlib.Core.List.{List}
use mathlib.Core.Path.{◌≡◌, ap, ◌∙◌}
use Prim.Native.Nat.{ℕ, ◌+◌, ◌-◌}
use native.Mathlib.Omega.{arith}
use lib.ListN.{take, drop}
use Rattle.std.specs.Int.{bytes_high_first}
use Rattle.bits_write.proofs.Outgoing.{last_bytes, gone}
use Rattle.bits_write.proofs.out.Goals as goal

pub returns : goal.returns
returns c =
    let n = c.args.n in
    let count : c.args.at + n - c.args.at ≡ n = omega arith in
    let sent : c.copy_from_slice.new.self ≡ bytes_high_first n c.args.word =
    c.copy_from_slice.ensures.after ∙ ap (λ (xs : List ℕ). take (8 - (8 - n)) (drop (8 - n) xs)) c.to_be_bytes.ensures ∙ last_bytes n c.args.word c.requires.n_bound in
    rw (count, sent) (gone c.args.bytes.now c.args.at n c.args.word c.requires.n_in_bounds c.requires.word_bound)
