-- Each test is the question put to the bytes, and each return is the first that fails.
use mathlib.Core.Bool.{true}
use mathlib.Core.List.{List}
use Prim.Native.Nat.{ℕ, ◌<◌}
use Rattle.record_parse.specs.Answers.{Asked}
use mathlib.Core.Path.{◌≡◌, sym, ◌∙◌}
use Rattle.record_layouts.specs.Layout.{head}
use Rattle.record_layouts.specs.Questions.{rules_of, numbers_of, permitted, is_filled}
use Rattle.record_layouts.specs.QuestionLaws.{few_bits}
use Rattle.record_unpack.specs.Reading.{fails-3, fails-4, fails-5, fails-none, Fails, row-start, row-permits, row-stated, whole-stated, whole_long, whole-kind, whole-permitted, whole-head-permitted, whole-valid, whole-filled, whole-rise, whole-size, few-of, refused-of}
use native.Mathlib.Omega.{arith}
use Rattle.record_parse.proofs.parse_whole.Goals as goal
use Rattle.record_parse.proofs.parse_whole.Goals.{Else-not-head_permitted, Else-not-is_filled, Else-not-lists_permitted}

-- the questions that let pass
head_at : (c : Else-not-head_permitted) → permitted (head c.args.kind) (numbers_of c.args.bytes.now) ≡ true
head_at c = sym (row-permits c.requires.known 0 (row-start c.requires.known c.requires.head_read)) ∙ sym c.head_permitted.ensures ∙ c.if-not-head_permitted.false

permits-at : (c : Else-not-lists_permitted) → permitted (rules_of c.args.bytes.now) (numbers_of c.args.bytes.now) ≡ true
permits-at c = sym (whole-permitted c.requires.known c.read_lists-end.ensures.filled) ∙ sym c.lists_permitted.ensures ∙ c.if-not-lists_permitted.false

filled_at : (c : Else-not-is_filled) → is_filled c.args.bytes.now ≡ true
filled_at c = sym (whole-filled c.args.bytes.now _ c.read_lists-end.ensures.ends) ∙ sym c.is_filled.ensures ∙ c.if-not-is_filled.false

-- a question that failed, so that nothing is said of the row
failed : {bytes values : List ℕ} {n used : ℕ} → 0 < n → Fails bytes n used → Asked bytes n values
failed some f = record { numbers = f.numbers; rows = λ none. absurd (omega (arith, some, f.numbers, none)) }

pub head_permitted-requires : goal.head_permitted-requires
head_permitted-requires c =
    let stated = row-stated c.requires.known 0 (row-start c.requires.known c.requires.head_read) in
    record { kind_in_bounds = stated.kind; kind_in_bounds_2 = stated.head }

pub returns-then-not-head_permitted : goal.returns-then-not-head_permitted
returns-then-not-head_permitted c =
    let w = c.requires.known in
    let no = sym (row-permits w 0 (row-start w c.requires.head_read)) ∙ sym c.head_permitted.ensures ∙ c.if-not-head_permitted.true in
    failed (omega arith) (fails-3 c.args.bytes.now w.first c.requires.whole (refused-of w no))

pub read_lists-end-requires : goal.read_lists-end-requires
read_lists-end-requires c =
    record {
      known = c.requires.known;
      whole = c.requires.whole;
      few = few-of c.requires.known (head_at (goal.at.read_lists-end-requires c).Else-not-head_permitted);
      behind_head = c.requires.behind_head;
      head_read = c.requires.head_read;
    }

pub lists_permitted-requires : goal.lists_permitted-requires
lists_permitted-requires c =
    let w = c.requires.known in
    let v = c.read_lists-end.ensures.filled in
    record {
      stated = whole-stated w v;
      values_in_bounds = whole_long w v;
      values_value = whole-head-permitted w v ∙ head_at (goal.at.lists_permitted-requires c).Else-not-head_permitted;
      valid = λ e. whole-valid w v;
    }

pub returns-then-not-lists_permitted : goal.returns-then-not-lists_permitted
returns-then-not-lists_permitted c =
    let w = c.requires.known in
    let no = sym (whole-permitted w c.read_lists-end.ensures.filled) ∙ sym c.lists_permitted.ensures ∙ c.if-not-lists_permitted.true in
    failed (omega arith) (fails-3 c.args.bytes.now w.first c.requires.whole no)

pub is_filled-requires : goal.is_filled-requires
is_filled-requires c =
    let e = c.read_lists-end.ensures.ends in
    record { at_in_bounds = rw e (whole-size c.args.bytes.now c.requires.whole); at_bound = omega (arith, few_bits c.args.bytes.now) }

pub returns-then-not-is_filled : goal.returns-then-not-is_filled
returns-then-not-is_filled c =
    let no = sym (whole-filled c.args.bytes.now _ c.read_lists-end.ensures.ends) ∙ sym c.is_filled.ensures ∙ c.if-not-is_filled.true in
    failed (omega arith) (fails-4 c.args.bytes.now c.requires.known.first c.requires.whole (permits-at (goal.at.returns-then-not-is_filled c).Else-not-lists_permitted) no)

pub lists_rise-requires : goal.lists_rise-requires
lists_rise-requires c =
    let w = c.requires.known in
    let v = c.read_lists-end.ensures.filled in
    record { values_value = whole-kind w v; stated = whole-stated w v; values_in_bounds = whole_long w v }

pub returns-then-not-lists_rise : goal.returns-then-not-lists_rise
returns-then-not-lists_rise c =
    let w = c.requires.known in
    let no = sym (whole-rise w c.read_lists-end.ensures.filled) ∙ sym c.lists_rise.ensures ∙ c.if-not-lists_rise.true in
    let at = goal.at.returns-then-not-lists_rise c in
    failed (omega arith) (fails-5 c.args.bytes.now w.first c.requires.whole (permits-at at.Else-not-lists_permitted) (filled_at at.Else-not-is_filled) no)

pub returns : goal.returns
returns c =
    let w = c.requires.known in
    let v = c.read_lists-end.ensures.filled in
    let yes = sym (whole-rise w v) ∙ sym c.lists_rise.ensures ∙ c.if-not-lists_rise.false in
    let at = goal.at.returns c in
    let none = fails-none c.args.bytes.now w.first c.requires.whole (permits-at at.Else-not-lists_permitted) (filled_at at.Else-not-is_filled) yes in
    record { numbers = none.numbers; rows = λ e. v }
