-- `statement::issue::write_statement` meets its contract: the front and the lines are the statement's fields, which fit, and zero bits are behind them.
use mathlib.Core.Path.{refl}
use native.Mathlib.Omega.{arith}
use Rattle.ids.specs.Ids.{holds}
use Rattle.limits.specs.Limits.{parties}
use Rattle.bits_write.specs.WrittenLaws.{written-encodes}
use Rattle.statement.specs.Statement.{widths_of, values_of, statement_fields, statement_of}
use Rattle.ids.specs.Sums.{count_most}
use Rattle.statement.specs.Sizes.{same_length, statement-fits, statement-bits, statement-length}
use Rattle.statement.specs.WrittenFields.{WrittenFields, statement-written}
use Rattle.statement.proofs.issue.write_statement.Goals as goal
use Rattle.statement.proofs.issue.write_statement.Goals.{After-new, After-put_parties}

pub put_all-w-requires : goal.put_all-w-requires
put_all-w-requires c =
    let e = c.new.ensures in
    let sellers = count_most parties (holds c.present-sellers.result) in
    let lses = count_most parties (holds c.obliged-lses.result) in
    record { narrow = tt; values_len = refl; valid = (omega (arith, c.requires), (omega (arith, c.count.ensures), (omega (arith, c.count-2.ensures), tt))); ws_bound = omega (arith, e, c.requires) }

-- the writer has gone on from the first bit by the statement's fields
laid : (c : After-put_parties) → let a = c.args in
    WrittenFields a.bytes.now c.put_parties.new.out c.new.result c.put_parties.result (statement_fields a.terms a.month a.owed a.billed)
laid c =
    statement-written c.args.owed c.args.billed c.requires.sound_terms c.present-sellers.ensures c.obliged-lses.ensures
    (record { wrote = rw (c.count.ensures, c.count-2.ensures) at c.put_all-w.ensures })
    c.put_parties.ensures

pub finish-requires : goal.finish-requires
finish-requires c =
    let w = (laid (goal.at.finish-requires c).After-put_parties).wrote in
    let few = statement-bits c.requires.sound_terms c.args.month c.args.owed c.args.billed in
    record { self_bound = omega (arith, w.ends, w.long, c.new.ensures, c.requires) }

pub returns : goal.returns
unfolding statement_of
returns c =
    let e = c.new.ensures in
    let month = c.args.month in
    let owed = c.args.owed in
    let billed = c.args.billed in
    let fs = statement_fields c.args.terms month owed billed in
    let few = statement-bits c.requires.sound_terms month owed billed in
    let fits = statement-fits c.requires.sound_terms month owed billed (omega (arith, c.requires)) in
    let length-is = statement-length c.requires.sound_terms month owed billed in
    let w = (laid (goal.at.returns c).After-put_parties).wrote in
    record { leaves = rw length-is (written-encodes (widths_of fs) (values_of fs) fits (same_length fs) e.0 e.1 e.2 w c.finish.ensures (λ i. ((goal.at.returns c).After-new.type_inv.bytes i).fits) (λ i. (c.type_inv.bytes i).fits) (omega (arith, c.requires))); writes = omega (arith, c.finish.ensures.ends, w.ends, e, length-is) }
