-- The head is read first, and says the shape of the whole.
use mathlib.Core.Bool.{true}
use mathlib.Core.Path.{◌≡◌, refl, sym, ap, ◌∙◌}
use lib.ListN.{length}
use Rattle.bits.specs.Table.{total}
use Rattle.record_layouts.specs.Layout.{widths, size_of}
use Rattle.bits.specs.Pack.{bytes_for}
use Rattle.record_layouts.specs.Questions.{is_kind, rules_of, is_whole, row, head_numbers}
use Rattle.record_layouts.specs.QuestionLaws.{few_bits}
use Rattle.record_shapes.specs.Shapes.{Shaped}
use Rattle.record_numbers.specs.Parsing.{Known}
use Rattle.record_numbers.specs.Accepted.{numbers-count}
use Rattle.record_parse.specs.Answers.{number-some, whole-uses}
use Rattle.record_unpack.specs.Reading.{fails-1, fails-2, refuses, fills, row_first, row-start, row-rules, row-stated, whole-yes, whole-no}
use native.Mathlib.Omega.{arith}
use Rattle.record_parse.proofs.parse.Goals as goal
use Rattle.record_parse.proofs.parse.Goals.{After-read_head-head_end, After-shape_of-shape, After-size_of-used, Else-bytes-used, Else-not-is_kind}

-- the kind, the row with the head in front, and the shape that it says
known_at : (c : Else-not-is_kind) → Known c.args.bytes.now c.kind_of-first.result.value
known_at c =
    let kind = c.kind_of-first.ensures.0 in
    record { kind = kind; first = ap is_kind (sym kind) ∙ sym c.is_kind.ensures ∙ c.if-not-is_kind.false }

row_at : (c : After-read_head-head_end) → c.read_head-head_end.new.values ≡ row (head_numbers c.args.bytes.now)
row_at c = row_first (known_at (goal.at.After-read_head-head_end c).Else-not-is_kind) c.read_head-head_end.ensures.filled

shaped-at : (c : After-shape_of-shape) → Shaped (rules_of c.args.bytes.now) c.shape_of-shape.result
shaped-at c =
    let w = known_at (goal.at.After-shape_of-shape c).Else-not-is_kind in
    let same = row-rules w 0 (row-start w (row_at (goal.at.After-shape_of-shape c).After-read_head-head_end)) in
    let shaped = c.shape_of-shape.ensures in
    record { count = shaped.count ∙ ap length same; bits = shaped.bits ∙ ap (λ (rs : _). total (widths rs)) same }

size_is : (c : After-size_of-used) → c.size_of-used.result ≡ size_of (rules_of c.args.bytes.now)
size_is c = c.size_of-used.ensures ∙ ap bytes_for (shaped-at (goal.at.After-size_of-used c).After-shape_of-shape).bits

whole_at : (c : Else-bytes-used) → is_whole c.args.bytes.now ≡ true
whole_at c = whole-yes _ (rw (size_is (goal.at.Else-bytes-used c).After-size_of-used) at c.if-bytes-used.false)

pub returns-then-not-is_kind : goal.returns-then-not-is_kind
returns-then-not-is_kind c =
    let none = ap is_kind (sym c.kind_of-first.ensures.0) ∙ sym c.is_kind.ensures ∙ c.if-not-is_kind.true in
    refuses refl refl refl (λ e. omega arith) (fails-1 _ none)

pub shape_of-shape-requires : goal.shape_of-shape-requires
shape_of-shape-requires c =
    let w = known_at (goal.at.shape_of-shape-requires c).Else-not-is_kind in
    row-stated w 0 (row-start w (row_at (goal.at.shape_of-shape-requires c).After-read_head-head_end))

pub size_of-used-requires : goal.size_of-used-requires
size_of-used-requires c = omega (arith, (shaped-at (goal.at.size_of-used-requires c).After-shape_of-shape).bits, few_bits c.args.bytes.now)

pub returns-then-bytes-used : goal.returns-then-bytes-used
returns-then-bytes-used c =
    let w = known_at (goal.at.returns-then-bytes-used c).Else-not-is_kind in
    refuses refl refl refl (λ e. omega arith) (fails-2 _ w.first (whole-no _ (rw (size_is (goal.at.returns-then-bytes-used c).After-size_of-used) at c.if-bytes-used.true)))

pub parse_whole-requires : goal.parse_whole-requires
parse_whole-requires c =
    record {
      known = known_at (goal.at.parse_whole-requires c).Else-not-is_kind;
      whole = whole_at (goal.at.parse_whole-requires c).Else-bytes-used;
      behind_head = c.read_head-head_end.ensures.ends;
      head_read = row_at (goal.at.parse_whole-requires c).After-read_head-head_end;
    }

pub returns-in-Ok : goal.returns-in-Ok
returns-in-Ok c =
    let asked = c.in-Ok.ensures in
    let at = goal.at.returns-in-Ok c in
    fills (size_is at.After-size_of-used) ((shaped-at at.After-shape_of-shape).count ∙ sym (numbers-count _)) (asked.rows (sym asked.numbers))
    (record { numbers = asked.numbers; uses = whole-uses _ (known_at at.Else-not-is_kind).first (whole_at at.Else-bytes-used) })

pub returns-in-Err : goal.returns-in-Err
returns-in-Err c =
    let at = goal.at.returns-in-Err c in
    refuses refl (size_is at.After-size_of-used) refl (number-some c.in-Err.refusal)
    (record { numbers = c.in-Err.ensures.numbers; uses = whole-uses _ (known_at at.Else-not-is_kind).first (whole_at at.Else-bytes-used) })
