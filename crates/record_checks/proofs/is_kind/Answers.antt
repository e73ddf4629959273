-- A kind is in the table, and has a head.
use mathlib.Core.Path.{sym, ◌∙◌}
use borrow.Author.Tests.{lt-ltb, le-ltb}
use native.Mathlib.Decide.{dec_lt}
use lib.ListN.{length}
use Rattle.record_layouts.specs.Layout.{head}
use Rattle.record_layouts.specs.Questions.{is_kind}
use Rattle.record_layouts.specs.QuestionLaws.{not-kind}
use native.Mathlib.Omega.{arith}
use Rattle.record_checks.proofs.is_kind.Goals as goal

pub returns-then-kind-ge-KINDS : goal.returns-then-kind-ge-KINDS
returns-then-kind-ge-KINDS c = sym (not-kind c.args.kind c.if-kind-ge-KINDS.true)

pub returns : goal.returns
unfolding is_kind
returns c =
    let p = c.part_at-head.result in
    let n = length (head c.args.kind) in
    let long = c.part_at-head.ensures.long in
    elim (dec_lt 0 n) [
      | yes l ↦ lt-ltb p.start p.end (omega arith) ∙ sym (lt-ltb 0 n l)
      | no l ↦ le-ltb p.start p.end (omega arith) ∙ sym (le-ltb 0 n (omega arith))
    ]
