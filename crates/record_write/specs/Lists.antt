-- What writing a record's lists does behind its head.
use Rattle.std.specs.Prelude.{ℕ, List, length, take}
use Rattle.ids.specs.Ids.{at}
use Rattle.bits.specs.Table.{total}
use Rattle.bits_write.specs.declared.Writer.{Writer}
use Rattle.bits_write.specs.Written.{joined, Wrote}
use Rattle.record_layouts.specs.Layout.{head, widths}
use Rattle.record_layouts.specs.Questions.{rules_by}

-- a writer that has written the record's head has gone on to q, which has written all of it
abbrev pub Lists : List ℕ → List ℕ → List ℕ → Writer → Writer → Type 0
Lists vs one new w q =
    let hs = head (at vs 0) in
    (old : List ℕ) (p : Writer) → Wrote old one p w (total (widths hs)) (joined (widths hs) (take (length hs) vs))
    → Wrote old new p q (total (widths (rules_by vs))) (joined (widths (rules_by vs)) vs)
