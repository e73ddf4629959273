-- One list more: the fields, numbers and bits before it and behind it, and questions 3 and 5 list by list.
use Prim.Native.Nat.{ℕ, zero, suc, ◌+◌, ◌-◌, ◌*◌, ◌^◌, ◌≤◌, ◌<◌}
use Rattle.std.specs.Prelude.{Bool, true, false, ◌&&◌, List, [], ◌∷◌, ◌++◌, ◌≡◌, refl, leb, ltb, eqb, get_or, drop}
use Rattle.std.proofs.Common.{append_assoc, append-nil, sym, ◌∙◌, add-suc, le_trans, add-one, leb-true, eqb-true, le-leb, length-append, get_or-append-add, get_or-drop, drop-drop}
use Rattle.std.proofs.Math.Path.{ap}
use Rattle.std.proofs.Math.Nat.{add-zero}
use native.Mathlib.Omega.{arith}
use Rattle.std.proofs.Math.ListN.{length, get_or-append, get_or-map}
use Rattle.std.proofs.lemmas.List.{length-map}
use Rattle.ids.specs.Ids.{at, all_to}
use Rattle.ids.specs.Tests.{and_parts, all_same, all_append}
use Rattle.bits.specs.Table.{total, times, Valid}
use Rattle.bits.specs.TableLaws.{total-append, valid-in}
use Rattle.bits.specs.ItemLaws.{length-times, total-times, times_more, times-split}
use Rattle.record_layouts.specs.Layout.{Rule, no_rule, lists, list_at, items_in, rules_to, rules_for, place_of, widths, longest_record}
use Rattle.record_layouts.specs.LayoutLaws.{every, sound, sound-rules, item-small, width-at, length-widths, widths-append, widths-times, rules-more}
use Rattle.record_layouts.specs.Questions.{permits, permitted, rises, ids_rise}
use Rattle.record_layouts.specs.Parts.{Stated, lows, highs, between, within, column_within, items_within, hold_all, ColumnFits, ItemsFit}

module _ (k : ℕ) (vs : List ℕ) (i : ℕ) where
  fields-behind : (j : ℕ) → (rest : List Rule) × (rules_to k vs (i + j) ≡ rules_to k vs i ++ rest)
  unfolding rules_to
  fields-behind zero = ([], rw add-zero (sym (append-nil (rules_to k vs i))))
  fields-behind (suc j) =
      let r = fields-behind j in
      let more = times (items_in k vs (i + j)) (list_at k (i + j)).fields in
      (r.0 ++ more, rw (add-suc i j, r.1) (append_assoc (rules_to k vs i) r.0 more))

  -- all fields are those before a list and others behind them
  pub rules-behind : i ≤ length (lists k) → (rest : List Rule) × (rules_for k vs ≡ rules_to k vs i ++ rest)
  unfolding rules_for
  rules-behind l =
      let n : length (lists k) ≡ i + (length (lists k) - i) = omega arith in
      let r = fields-behind (length (lists k) - i) in
      (r.0, ap (rules_to k vs) n ∙ r.1)

  pub rules-upto : i ≤ length (lists k) → (length (rules_to k vs i) ≤ length (rules_for k vs)) × (total (widths (rules_to k vs i)) ≤ total (widths (rules_for k vs)))
  rules-upto l =
      let r = rules-behind l in
      rw r.1 (omega (arith, length-append (rules_to k vs i) r.0), rw (widths-append (rules_to k vs i) r.0, total-append (widths (rules_to k vs i)) (widths r.0)) (omega arith))

  -- with list i the fields, numbers and bits are so many more
  pub widths-list : widths (rules_to k vs (i + 1)) ≡ widths (rules_to k vs i) ++ times (items_in k vs i) (widths (list_at k i).fields)
  widths-list =
      let fs = (list_at k i).fields in
      let n = items_in k vs i in
      ap widths (rules-more k vs i) ∙ widths-append (rules_to k vs i) (times n fs) ∙ ap (λ (l : List ℕ). widths (rules_to k vs i) ++ l) (widths-times n fs)

  pub length-list : length (rules_to k vs (i + 1)) ≡ length (rules_to k vs i) + items_in k vs i * length (list_at k i).fields
  length-list =
      let fs = (list_at k i).fields in
      rw (rules-more k vs i, length-append (rules_to k vs i) (times (items_in k vs i) fs), length-times fs (items_in k vs i))

  pub total-list : total (widths (rules_to k vs (i + 1))) ≡ total (widths (rules_to k vs i)) + items_in k vs i * total (widths (list_at k i).fields)
  total-list =
      let ws = widths (list_at k i).fields in
      ap total widths-list ∙ total-append (widths (rules_to k vs i)) (times (items_in k vs i) ws) ∙ ap (λ (x : ℕ). total (widths (rules_to k vs i)) + x) (total-times ws (items_in k vs i))

-- a field has at least one bit
length-total : (rs : List Rule) → every sound rs ≡ true → length rs ≤ total (widths rs)
unfolding every sound
length-total [] e = omega arith
length-total (r ∷ rs) e =
    let a = and_parts (sound r) (every sound rs) e in
    let b = and_parts (leb 1 r.width && leb r.width 42) (ltb r.high (2 ^ r.width)) a.0 in
    let c = and_parts (leb 1 r.width) (leb r.width 42) b.0 in
    omega (arith, leb-true 1 r.width c.0, length-total rs a.1)

module _ {k : ℕ} {vs : List ℕ} (s : Stated k vs) where
  pub stated-count : length (rules_for k vs) ≤ 8 * longest_record
  stated-count = le_trans (length-total (rules_for k vs) (sound-rules k vs)) s.bits

  module _ {i : ℕ} (l : i < length (lists k)) where
    -- up to list i and with it there are no more numbers and bits
    pub stated-list : (length (rules_to k vs i) + items_in k vs i * length (list_at k i).fields ≤ length (rules_for k vs))
        × (total (widths (rules_to k vs i)) + items_in k vs i * total (widths (list_at k i).fields) ≤ total (widths (rules_for k vs)))
    stated-list =
        let u = rules-upto k vs (i + 1) (omega arith) in
        rw (← length-list k vs i, ← total-list k vs i) u

-- an item has at least one field
pub item-some : (k i : ℕ) → i < length (lists k) → 1 ≤ length (list_at k i).fields
item-some k i l = some (list_at k i).fields (item-small k i l).0
  where
    some : (rs : List Rule) → 1 ≤ total (widths rs) → 1 ≤ length rs
    some [] h = h
    some (r ∷ rs) h = omega arith

-- field f of item m of list i, among all fields
pub rule-item : (k : ℕ) (vs : List ℕ) (i : ℕ) → i < length (lists k) → (m f : ℕ) → (let fs = (list_at k i).fields in m < items_in k vs i → f < length fs
    → (get_or (rules_for k vs) (place_of k vs i + (m * length fs + f)) no_rule ≡ get_or fs f no_rule) × (place_of k vs i + (m * length fs + f) < length (rules_for k vs)))
rule-item k vs i l m f h g =
    let fs = (list_at k i).fields in
    let n = items_in k vs i in
    let j = m * length fs + f in
    let before = rules_to k vs i in
    let r = rules-behind k vs (i + 1) (omega arith) in
    let t = times-split fs m n h in
    let all : rules_for k vs ≡ (before ++ times n fs) ++ r.0 = r.1 ∙ rw (rules-more k vs i) in
    let inner : j < length (times m fs ++ fs) = omega (arith, length-append (times m fs) fs, length-times fs m) in
    let inside : j < length (times n fs) = omega (arith, ap length t.1, length-append (times m fs ++ fs) t.0) in
    let place : j ≡ length (times m fs) + f = omega (arith, length-times fs m) in
    let item : get_or (times n fs) j no_rule ≡ get_or fs f no_rule =
    ap (λ (rs : List Rule). get_or rs j no_rule) t.1 ∙ get_or-append (times m fs ++ fs) t.0 no_rule j inner
    ∙ ap (λ (x : ℕ). get_or (times m fs ++ fs) x no_rule) place ∙ get_or-append-add (times m fs) fs f no_rule in
    let within : length before + j < length (before ++ times n fs) = omega (arith, length-append before (times n fs)) in (
      ap (λ (rs : List Rule). get_or rs (length before + j) no_rule) all ∙ get_or-append (before ++ times n fs) r.0 no_rule (length before + j) within
          ∙ get_or-append-add before (times n fs) j no_rule ∙ item,
      omega (arith, within, ap length all, length-append (before ++ times n fs) r.0),
    )

-- numbers that have no more bits than their widths: those of list i
pub items-fit : (k : ℕ) (vs : List ℕ) (i : ℕ) → i < length (lists k) → length (rules_for k vs) ≤ length vs → Valid (widths (rules_for k vs)) vs
    → ItemsFit (widths (list_at k i).fields) vs (length (rules_to k vs i)) (items_in k vs i)
items-fit k vs i l n v j g m h =
    let fs = (list_at k i).fields in
    let rs = rules_for k vs in
    let long = length-widths fs in
    let q = place_of k vs i + (m * length fs + j) in
    let r = rule-item k vs i l m j h (omega (arith, long)) in
    let place : place_of k vs i + j + m * length (widths fs) ≡ q = rw long (omega arith) in
    let width : get_or (widths rs) q 0 ≡ get_or (widths fs) j 0 = width-at rs q ∙ ap (λ (x : Rule). x.width) r.0 ∙ sym (width-at fs j) in
    rw (place, ← width) (valid-in (widths rs) vs q v (omega (arith, length-widths rs, r.1)) (omega (arith, n, r.1)))

-- question 3 of fields in a row
pub permitted-append : (rs ss : List Rule) (vs : List ℕ) → permitted (rs ++ ss) vs ≡ (permitted rs vs && permitted ss (drop (length rs) vs))
unfolding permitted
permitted-append rs ss vs =
    let rule : ℕ → Rule = λ j. get_or (rs ++ ss) j no_rule in
    ap (λ (n : ℕ). all_to n (λ j. permits (rule j) (at vs j))) (length-append rs ss)
    ∙ all_append (length rs) (length ss) (λ j. permits (rule j) (at vs j))
    ∙ cc (
      all_same (length rs) {p = λ j. permits (rule j) (at vs j)} {q = λ j. permits (get_or rs j no_rule) (at vs j)} (λ j l. rw (get_or-append rs ss no_rule j l)),
      all_same (length ss) {p = λ j. permits (rule (length rs + j)) (at vs (length rs + j))} {q = λ j. permits (get_or ss j no_rule) (at (drop (length rs) vs) j)}
          (λ j l. rw (get_or-append-add rs ss j no_rule, get_or-drop (length rs) vs j 0)),
    )

-- and by the two tables of limits
pub within-is : (rs : List Rule) (vs : List ℕ) → within (lows rs) (highs rs) vs ≡ permitted rs vs
unfolding within permitted permits
within-is rs vs =
    rw (length-map rs (λ r. r.low)) (all_same (length rs) (λ j l. rw (get_or-map (λ r. r.low) rs j no_rule, get_or-map (λ r. r.high) rs j no_rule)))

none-permitted : (rs : List Rule) (vs : List ℕ) → permitted (times 0 rs) vs ≡ true
unfolding times permitted all_to
none-permitted rs vs = refl

all_none : (m : ℕ) → all_to m (λ j. true) ≡ true
unfolding all_to
all_none zero = refl
all_none (suc m) = rw (all_none m)

all_both : (m : ℕ) (p q : ℕ → Bool) → all_to m (λ j. p j && q j) ≡ (all_to m p && all_to m q)
unfolding all_to
all_both zero p q = refl
all_both (suc m) p q = rw (all_both m p q) (swap (all_to m p) (all_to m q) (p m) (q m))
  where
    swap : (a b c d : Bool) → ((a && b) && (c && d)) ≡ ((a && c) && (b && d))
    swap true b true d = refl
    swap true true false d = refl
    swap true false false d = refl
    swap false b c d = refl

-- limits that hold all numbers of as many bits as a column's have hold the column
pub column-held : (l h b : ℕ) (vs : List ℕ) (p w n : ℕ) → hold_all l h b ≡ true → ColumnFits b vs p w n → column_within l h vs p w n ≡ true
unfolding hold_all column_within
column-held l h b vs p w n e f =
    let a = and_parts (eqb l 0) (leb (2 ^ b - 1) h) e in
    let low : l ≡ 0 = eqb-true l 0 a.0 in
    let high = leb-true (2 ^ b - 1) h a.1 in
    all_same n {q = λ k. true} (λ k m. rw (le-leb l (at vs (p + k * w)) (omega (arith, low)), le-leb (at vs (p + k * w)) h (omega (arith, high, f k m)))) ∙ all_none n

-- field by field as item by item
items-within : (rs : List Rule) (vs : List ℕ) (p n : ℕ) → permitted (times n rs) (drop p vs) ≡ items_within (lows rs) (highs rs) vs p n
unfolding items_within column_within within all_to
items-within rs vs p zero = none-permitted rs (drop p vs) ∙ sym (all_none (length (lows rs)))
items-within rs vs p (suc n) =
    let w = length (lows rs) in
    let next : times (suc n) rs ≡ times n rs ++ rs = ap (λ (k : ℕ). times k rs) (sym (add-one n)) ∙ times_more rs n in
    let place : p + length (times n rs) ≡ p + n * w = rw (length-times rs n, length-map rs (λ r. r.low)) in
    let item : within (lows rs) (highs rs) (drop (p + n * w) vs) ≡ all_to w (λ j. between (at (lows rs) j) (at (highs rs) j) (at vs (p + j + n * w))) =
    all_same w (λ j l. let e : p + n * w + j ≡ p + j + n * w = omega arith in rw (get_or-drop (p + n * w) vs j 0, e)) in
    rw (next, permitted-append (times n rs) rs (drop p vs), items-within rs vs p n, drop-drop (length (times n rs)) p vs, ← within-is rs, place, item)
    (sym (all_both w (λ j. column_within (at (lows rs) j) (at (highs rs) j) vs (p + j) w n) (λ j. between (at (lows rs) j) (at (highs rs) j) (at vs (p + j + n * w)))))

-- one list more
pub permitted-list : (k : ℕ) (vs : List ℕ) (i : ℕ)
    → permitted (rules_to k vs (i + 1)) vs ≡ (permitted (rules_to k vs i) vs && (let fs = (list_at k i).fields in items_within (lows fs) (highs fs) vs (length (rules_to k vs i)) (items_in k vs i)))
permitted-list k vs i =
    let fs = (list_at k i).fields in
    rw (rules-more k vs i, permitted-append (rules_to k vs i) (times (items_in k vs i) fs) vs, items-within fs vs (length (rules_to k vs i)) (items_in k vs i))

-- what is not permitted before a list is not permitted
pub permitted-behind : (k : ℕ) (vs : List ℕ) (i : ℕ) → i ≤ length (lists k) → permitted (rules_to k vs i) vs ≡ false → permitted (rules_for k vs) vs ≡ false
permitted-behind k vs i l e =
    let r = rules-behind k vs i l in
    rw (r.1, permitted-append (rules_to k vs i) r.0 vs, e)

-- question 5 of a record of kind k
pub ids-rise : (k : ℕ) (vs : List ℕ) → at vs 0 ≡ k → ids_rise vs ≡ all_to (length (lists k)) (λ i. rises vs (length (list_at k i).fields) (place_of k vs i) (items_in k vs i))
unfolding ids_rise
ids-rise k vs e = rw e
