-- Laws of the questions: what a record's numbers say of it, and what each question depends on.
use Prim.Native.Nat.{ℕ, zero, suc, ◌+◌, ◌-◌, ◌*◌, ◌^◌, ◌≤◌, ◌<◌}
use Rattle.std.specs.Prelude.{Bool, ◌&&◌, List, [], ◌++◌, ◌≡◌, leb, eqb, length, get_or, take, drop, replicate}
use Rattle.std.proofs.Math.Bool.{true, false, cond}
use Rattle.std.proofs.Math.Path.{refl}
use Rattle.std.proofs.Common.{sym, ap, ◌∙◌, add-zero, arith, length-append, get_or-append-add, take_at}
use Rattle.std.proofs.Math.Decide.{dec_lt}
use Rattle.std.proofs.Math.Nat.{sub-zero, zero-sub, suc-sub-suc}
use borrow.Author.Tests.{leb-true, ltb-true, le-leb, eqb-true}
use Rattle.std.proofs.Math.Dec.{ltb}
use Rattle.std.proofs.lemmas.List.{length-replicate}
use Rattle.std.proofs.Math.ListN.{get_or-append, get_or-eq_default}
use Rattle.std.proofs.Math.Seq.{drop-append-add}
use Rattle.ids.specs.Ids.{at, all_to}
use Rattle.ids.specs.Sets.{get_or-replicate-same}
use Rattle.ids.specs.Tests.{and_parts, all_same, all-at}
use Rattle.bits.specs.BitLaws.{field_lt, field_past}
use Rattle.bits.specs.Table.{total, fields_at, laid}
use Rattle.bits.specs.TableLaws.{fields-append, fields-at, length_fields}
use Rattle.record_layouts.specs.Layout.{Rule, no_rule, Layout, bare, layouts, layout_of, head, lists, list_at, items_in, rules_to, rules_for, place_of, widths, size_of, most_to, numbers_most, as_permitted, highest, longest_record, longest_permitted, most_numbers}
use Rattle.record_layouts.specs.LayoutLaws.{every, every-at, count-in, items-count, width-at, widths-append, length-widths, rules-front, rules-long, rule-head, bits-most, permitted-most, numbers-within}
use Rattle.record_layouts.specs.Questions.{kind_of, head_numbers, rules_of, numbers_of, rules_by, is_kind, is_whole, permits, permitted, rises, ids_rise, row, consumed}

drop-zeros : (n m : ℕ) → ◌≡◌ {A = List ℕ} (drop n (replicate m 0)) (replicate (m - n) 0)
drop-zeros zero m = rw sub-zero
drop-zeros (suc n) zero = rw zero-sub
drop-zeros (suc n) (suc m) = rw suc-sub-suc (drop-zeros n m)

-- a row has the numbers' values, and zeros behind them
pub at_row : (vs : List ℕ) (j : ℕ) → at (row vs) j ≡ at vs j
unfolding row
at_row vs j = elim (dec_lt j (length vs)) [
  | yes l ↦ get_or-append vs (replicate (most_numbers - length vs) 0) 0 j l
  | no l ↦
      let e : j ≡ length vs + (j - length vs) = omega arith in
      ap (λ (i : ℕ). get_or (vs ++ replicate (most_numbers - length vs) 0) i 0) e
      ∙ get_or-append-add vs (replicate (most_numbers - length vs) 0) (j - length vs) 0
      ∙ get_or-replicate-same (most_numbers - length vs) (j - length vs) 0
      ∙ sym (get_or-eq_default vs 0 (omega arith))
]

pub length-row : (vs : List ℕ) → length vs ≤ most_numbers → length (row vs) ≡ most_numbers
unfolding row
length-row vs l = omega (arith, length-append vs (replicate (most_numbers - length vs) 0), length-replicate {A = ℕ} (most_numbers - length vs) 0)

-- more numbers laid behind those of a row
pub row_more : (fs ys xs : List ℕ) (p : ℕ) → p ≡ length fs → xs ≡ row fs → laid p ys xs ≡ row (fs ++ ys)
unfolding row
row_more fs ys xs p e f =
    let n = length ys in
    let front : take p xs ≡ fs = rw f (take_at fs _ p (sym e)) in
    let at : p + n ≡ length fs + n = omega arith in
    let back : drop (p + n) xs ≡ replicate (most_numbers - length fs - n) 0 = rw (f, at) (drop-append-add fs (replicate (most_numbers - length fs) 0) n ∙ drop-zeros n (most_numbers - length fs)) in
    let left : most_numbers - length fs - n ≡ most_numbers - length (fs ++ ys) = omega (arith, length-append fs ys) in
    rw (front, back, left)

-- a value within its rule
module _ (r : Rule) (v : ℕ) where
  pub permits-yes : r.low ≤ v → v ≤ r.high → permits r v ≡ true
  unfolding permits
  permits-yes a b = rw (le-leb r.low v a, le-leb v r.high b)

  pub permits-bounds : permits r v ≡ true → (r.low ≤ v) × (v ≤ r.high)
  unfolding permits
  permits-bounds e =
      let a = and_parts (leb r.low v) (leb v r.high) e in
      (leb-true r.low v a.0, leb-true v r.high a.1)

-- the questions look at a record's numbers alone
pub permitted-same : (rs : List Rule) (vs us : List ℕ) → ((j : ℕ) → j < length rs → at vs j ≡ at us j) → permitted rs vs ≡ permitted rs us
unfolding permitted
permitted-same rs vs us h = all_same (length rs) (λ j l. ap (λ (v : ℕ). permits (get_or rs j no_rule) v) (h j l))

pub rises-same : (vs us : List ℕ) (w p n : ℕ) → ((k : ℕ) → k < n → at vs (p + w * k) ≡ at us (p + w * k)) → rises vs w p n ≡ rises us w p n
unfolding rises
rises-same vs us w p n h = all_same (n - 1) (λ k l. rw (h k (omega arith), h (k + 1) (omega arith)))

-- each number of a permitted record is within its rule
pub permitted-at : (rs : List Rule) (vs : List ℕ) → permitted rs vs ≡ true → (j : ℕ) → j < length rs → ((get_or rs j no_rule).low ≤ at vs j) × (at vs j ≤ (get_or rs j no_rule).high)
unfolding permitted
permitted-at rs vs e j l = permits-bounds (get_or rs j no_rule) (at vs j) (all-at (length rs) (λ i. permits (get_or rs i no_rule) (at vs i)) e j l)

all_yes : (m : ℕ) (p : ℕ → Bool) → ((i : ℕ) → i < m → p i ≡ true) → all_to m p ≡ true
unfolding all_to
all_yes zero p h = refl
all_yes (suc m) p h = rw (all_yes m p (λ i l. h i (omega arith)), h m (omega arith))

-- what is permitted has a permitted head
pub head-permitted : (k : ℕ) (us vs : List ℕ) → permitted (rules_for k us) vs ≡ true → permitted (head k) vs ≡ true
unfolding permitted
head-permitted k us vs t =
    all_yes (length (head k)) (λ j. permits (get_or (head k) j no_rule) (at vs j)) (λ j l.
    rw (← rule-head k us j l) (all-at (length (rules_for k us)) (λ i. permits (get_or (rules_for k us) i no_rule) (at vs i)) t j (omega (arith, rules-long k us))))

pub head-refused : (k : ℕ) (us vs : List ℕ) → permitted (head k) vs ≡ false → permitted (rules_for k us) vs ≡ false
head-refused k us vs e = go (permitted (rules_for k us) vs) refl
  where
    go : (b : Bool) → permitted (rules_for k us) vs ≡ b → b ≡ false
    go false q = refl
    go true q =
        let t = head-permitted k us vs q in
        absurd (let z : ◌≡◌ {A = ℕ} 0 1 = cc in omega arith)

-- the counts, and so the fields, of two lists of numbers with the same head
module _ (k : ℕ) (vs us : List ℕ) (same : (j : ℕ) → j < length (head k) → at vs j ≡ at us j) where
  pub counts_same : (i : ℕ) → items_in k vs i ≡ items_in k us i
  unfolding items_in
  counts_same i = go (ltb i (length (lists k))) refl
    where
      go : (b : Bool) → ltb i (length (lists k)) ≡ b → cond b (at vs (list_at k i).count) 0 ≡ cond b (at us (list_at k i).count) 0
      go true q = same (list_at k i).count (count-in k i (ltb-true i (length (lists k)) q))
      go false q = refl

  pub fields-same : (i : ℕ) → rules_to k vs i ≡ rules_to k us i
  unfolding rules_to
  fields-same zero = refl
  fields-same (suc i) = rw (fields-same i, counts_same i)

  pub rules-same : rules_for k vs ≡ rules_for k us
  unfolding rules_for
  rules-same = fields-same (length (lists k))

-- question 5 looks at the numbers alone
pub rises-all : (vs us : List ℕ) → ((j : ℕ) → at vs j ≡ at us j) → ids_rise vs ≡ ids_rise us
unfolding ids_rise
rises-all vs us same =
    let k = at us 0 in
    rw (same 0) (all_same (length (lists k)) (λ i l.
    rw (fields-same k vs us (λ j m. same j) i, counts_same k vs us (λ j m. same j) i) (rises-same vs us (length (list_at k i).fields) (place_of k us i) (items_in k us i) (λ j m. same _))))

-- a count as written has no more bits than its field
pub counts-written : (bytes : List ℕ) (k i : ℕ) → i < length (lists k) → items_in k (fields_at bytes 0 (widths (head k))) i ≤ 2 ^ (get_or (head k) (list_at k i).count no_rule).width - 1
counts-written bytes k i l =
    let j = (list_at k i).count in
    let ws = widths (head k) in
    let m = count-in k i l in
    let e = fields-at bytes 0 ws j (omega (arith, length-widths (head k))) in
    rw (items-count k (fields_at bytes 0 ws) i l, e, ← width-at (head k) j) (omega (arith, field_lt bytes (0 + total (take j ws)) (get_or ws j 0)))

-- a count as permitted is at most its field's highest value
pub counts-permitted : (k : ℕ) (vs : List ℕ) → permitted (head k) vs ≡ true → (i : ℕ) → i < length (lists k) → items_in k vs i ≤ (get_or (head k) (list_at k i).count no_rule).high
counts-permitted k vs e i l = rw (items-count k vs i l) (permitted-at (head k) vs e (list_at k i).count (count-in k i l)).1

-- so a record's bytes are no more than the longest's, and a permitted head makes for few enough numbers
pub few_bits : (bytes : List ℕ) → total (widths (rules_of bytes)) ≤ 8 * longest_record
unfolding rules_of head_numbers
few_bits bytes = bits-most (kind_of bytes) _ (counts-written bytes (kind_of bytes))

pub permitted-bits : (k : ℕ) (vs : List ℕ) → permitted (head k) vs ≡ true → total (widths (rules_for k vs)) ≤ 8 * longest_permitted
permitted-bits k vs e = permitted-most k vs (counts-permitted k vs e)

pub stated-bits : (k : ℕ) (vs : List ℕ) → permitted (head k) vs ≡ true → total (widths (rules_for k vs)) ≤ 8 * longest_record
stated-bits k vs e = omega (arith, permitted-bits k vs e)

pub few-numbers : (k : ℕ) (vs : List ℕ) → permitted (head k) vs ≡ true → length (rules_for k vs) ≤ most_numbers
unfolding highest numbers_most most_to
few-numbers k vs e = numbers-within as_permitted refl k vs (counts-permitted k vs e)

-- the first of more numbers
pub fields-front : (bytes : List ℕ) (rs more : List Rule) (j : ℕ) → j < length rs → at (fields_at bytes 0 (widths (rs ++ more))) j ≡ at (fields_at bytes 0 (widths rs)) j
fields-front bytes rs more j l =
    let ws = widths rs in
    rw (widths-append rs more, fields-append bytes 0 ws (widths more))
    (get_or-append (fields_at bytes 0 ws) (fields_at bytes (0 + total ws) (widths more)) 0 j (omega (arith, length_fields bytes 0 ws, length-widths rs)))

-- a record's first numbers are its head's
fields-head : (bytes : List ℕ) (k : ℕ) (us : List ℕ) (j : ℕ) → j < length (head k) → at (fields_at bytes 0 (widths (rules_for k us))) j ≡ at (fields_at bytes 0 (widths (head k))) j
fields-head bytes k us j l =
    let r = rules-front k us in
    rw r.1 (fields-front bytes (head k) r.0 j l)

past-table : (k : ℕ) → length layouts ≤ k → layout_of k ≡ (bare [])
past-table k l = get_or-eq_default layouts (bare []) l

pub not-kind : (k : ℕ) → length layouts ≤ k → is_kind k ≡ false
unfolding is_kind
not-kind k l = rw (past-table k l)

-- a kind is in the table, and every head begins with the kind's four bits
pub kind-in : (k : ℕ) → is_kind k ≡ true → k < length layouts
kind-in k e = elim (dec_lt k (length layouts)) [
  | yes l ↦ l
  | no l ↦ absurd (let z : ◌≡◌ {A = ℕ} 0 1 = cc (not-kind k (omega arith)) in omega arith)
]

pub head-kind : (k : ℕ) → is_kind k ≡ true → (1 ≤ length (head k)) × (get_or (widths (head k)) 0 0 ≡ 4)
unfolding is_kind every
head-kind k e =
    let four : Layout → Bool = λ l. cond (ltb 0 (length l.head)) (eqb (get_or (widths l.head) 0 0) 4) true in
    (ltb-true 0 (length (head k)) e, eqb-true (get_or (widths (head k)) 0 0) 4 (rw e at (every-at four layouts (bare []) k refl refl)))

pub kind_at : (bytes : List ℕ) (k : ℕ) → is_kind k ≡ true → at (fields_at bytes 0 (widths (head k))) 0 ≡ kind_of bytes
unfolding kind_of
kind_at bytes k e =
    let h = head-kind k e in
    fields-at bytes 0 (widths (head k)) 0 (omega (arith, length-widths (head k))) ∙ rw (h.1, add-zero)

-- a kind is in a byte
pub kind-byte : (bytes : List ℕ) → is_kind (kind_of bytes) ≡ true → 1 ≤ length bytes
unfolding kind_of is_kind
kind-byte bytes e = elim (dec_lt (length bytes) 1) [
  | yes l ↦ absurd (let z : ◌≡◌ {A = ℕ} 0 1 = cc (rw (field_past bytes 0 4 (omega arith)) at e) in omega arith)
  | no l ↦ omega arith
]

-- the numbers of a record say its kind, its counts and so its fields
module _ (bytes : List ℕ) (e : is_kind (kind_of bytes) ≡ true) where
  pub numbers-head : (j : ℕ) → j < length (head (kind_of bytes)) → at (numbers_of bytes) j ≡ at (head_numbers bytes) j
  unfolding numbers_of rules_of head_numbers
  numbers-head j l = fields-head bytes (kind_of bytes) _ j l

  pub numbers-kind : at (numbers_of bytes) 0 ≡ kind_of bytes
  unfolding head_numbers
  numbers-kind = numbers-head 0 (head-kind (kind_of bytes) e).0 ∙ kind_at bytes (kind_of bytes) e

  pub rules-by : rules_by (numbers_of bytes) ≡ rules_of bytes
  unfolding rules_by rules_of
  rules-by = rw numbers-kind (rules-same (kind_of bytes) (numbers_of bytes) (head_numbers bytes) numbers-head)

-- and bytes with the numbers in their fields are of a record with that kind and those fields
pub rules-of : (bytes vs : List ℕ) → is_kind (at vs 0) ≡ true → fields_at bytes 0 (widths (rules_by vs)) ≡ vs → (kind_of bytes ≡ at vs 0) × (rules_of bytes ≡ rules_by vs)
unfolding rules_by rules_of head_numbers
rules-of bytes vs e f =
    let k = at vs 0 in
    let us = fields_at bytes 0 (widths (head k)) in
    let same : (j : ℕ) → j < length (head k) → at us j ≡ at vs j = λ j l. sym (fields-head bytes k vs j l) ∙ ap (λ (l : List ℕ). at l j) f in
    let first : kind_of bytes ≡ k = sym (kind_at bytes k e) ∙ same 0 (head-kind k e).0 in
    (first, rw first (rules-same k us vs same))

-- the rows of the questions
pub permitted-row : (rs : List Rule) (vs : List ℕ) → permitted rs (row vs) ≡ permitted rs vs
permitted-row rs vs = permitted-same rs (row vs) vs (λ j l. at_row vs j)

-- a record consumes no more than the bytes that are there
either : (kind whole : Bool) (size most_numbers : ℕ) → leb size most_numbers ≡ whole → cond (kind && whole) size 0 ≤ most_numbers
either true true size most_numbers e = leb-true size most_numbers e
either true false size most_numbers e = omega arith
either false whole size most_numbers e = omega arith

pub consumed-within : (bytes : List ℕ) → consumed bytes ≤ length bytes
unfolding consumed is_whole
consumed-within bytes = either (is_kind (kind_of bytes)) (is_whole bytes) (size_of (rules_of bytes)) (length bytes) refl
