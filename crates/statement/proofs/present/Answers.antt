-- `statement::present` meets its contract. The loop's invariant: the sellers of the registrations so far are marked.
use mathlib.Core.Path.{◌≡◌}
use native.Mathlib.Omega.{arith}
use Rattle.year.specs.Year.{known, seller, size}
use Rattle.year.specs.Limits.{seller-below, size_is}
use Rattle.statement.specs.Statement.{has_registration}
use Rattle.statement.specs.Marks.{among_first, marks-none, mark-skip, mark-more}
use Rattle.statement.proofs.present.Goals as goal
use Rattle.statement.proofs.present.Goals.{then-registration, else-registration}

pub loop-registration-init : goal.loop-registration-init
loop-registration-init c = marks-none _

pub loop-registration-preserved : goal.loop-registration-preserved
unfolding known seller
loop-registration-preserved c =
    let terms = c.args.terms in
    let i = c.loop-registration.registration-index in
    let so_far = c.loop-registration.invariant in
    elim c.if-registration.branch [
      | then-registration w ↦ rw w.sellers-is (mark-more terms i so_far w.if-registration.true (seller-below c.requires i))
      | else-registration w ↦ rw w.sellers-is (mark-skip terms i so_far w.if-registration.false)
    ]

pub returns : goal.returns
unfolding has_registration among_first
returns c =
    let all : c.loop-registration.registration-index ≡ size c.args.terms = omega (arith, size_is c.requires) in
    rw all at c.loop-registration.invariant
