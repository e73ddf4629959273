-- Laws of reductions: each number behind the head is one field of one item, and a reduction is a field that the row calls so.
use Rattle.std.specs.Prelude.{ℕ, zero, suc, ◌+◌, ◌-◌, ◌*◌, ◌≤◌, ◌<◌, Bool, true, ◌&&◌, List, [], ◌≡◌, refl, leb, ltb, length, get_or}
use Rattle.std.proofs.Math.Decide.{dec_lt}
use Rattle.std.proofs.Math.Nat.{zero-add}
use Rattle.std.proofs.Common.{add-zero, add-suc, add_assoc, suc-mul, mul-le-mul_right, add-one, arith}
use borrow.Author.Tests.{leb-true, ltb-true, eqb-true}
use Rattle.std.proofs.Math.Dec.{eqb}
use Rattle.ids.specs.Ids.{at, any_to}
use Rattle.ids.specs.Tests.{and_parts, any_some}
use Rattle.limits.specs.Limits.{nominated_limit}
use Rattle.record_layouts.specs.Layout.{no_rule, Items, no_items, bare, layouts, head, lists, list_at, items_in, rules_to, rules_for, place_of, item_at}
use Rattle.record_layouts.specs.LayoutLaws.{every, every-at, every_in}
use Rattle.record_layouts.specs.ListLaws.{length-list, rule-item}
use Rattle.record_numbers.specs.Reductions.{reduces_in, is_reduction}

-- field f of item m of list i is there
pub record Field (k : ℕ) (vs : List ℕ) (i m f : ℕ) : Type 0 where
  pub list : i < length (lists k)
  pub item : m < items_in k vs i
  pub field : f < length (list_at k i).fields

-- item m of n, of w fields each
item-before : (w m n f : ℕ) → m < n → f < w → m * w + f < n * w
item-before w m n f l h = omega (arith, mul-le-mul_right w l, suc-mul m w)

module _ (k : ℕ) (vs : List ℕ) where
  places-rise : (i j : ℕ) → place_of k vs i ≤ place_of k vs (i + j)
  places-rise i zero = rw add-zero (omega arith)
  places-rise i (suc j) =
      let more = rw (add-one (i + j)) at (length-list k vs (i + j)) in
      rw add-suc (omega (arith, more, places-rise i j))

  -- a list's items stand before the next list
  before-list : {i m f : ℕ} → Field k vs i m f → (j : ℕ) → i < j → item_at k vs i m + f < place_of k vs j
  before-list {i} {m} {f} t j l =
      let e : i + 1 + (j - (i + 1)) ≡ j = omega arith in
      omega (arith, item-before (length (list_at k i).fields) m (items_in k vs i) f t.item t.field, length-list k vs i, rw e at (places-rise (i + 1) (j - (i + 1))))

  -- two fields at one place are one
  pub same-field : {i m f j n g : ℕ} → Field k vs i m f → Field k vs j n g → item_at k vs i m + f ≡ item_at k vs j n + g → (i ≡ j) × (m ≡ n) × (f ≡ g)
  same-field {i} {m} {f} {j} {n} {g} s t e = elim (dec_lt i j) [
    | yes l ↦ absurd (omega (arith, before-list s j l))
    | no a ↦ elim (dec_lt j i) [
      | yes l ↦ absurd (omega (arith, before-list t i l))
      | no b ↦ let q : i ≡ j = omega arith in let r = inside q in (q, r.0, r.1)
    ]
  ]
    where
      w : ℕ
      w = length (list_at k i).fields

      inside : i ≡ j → (m ≡ n) × (f ≡ g)
      inside q =
          let u : Field k vs i n g = rw q t in
          let d : m * w + f ≡ n * w + g = omega (arith, rw (← q) at e) in
          elim (dec_lt m n) [
            | yes l ↦ absurd (omega (arith, item-before w m n f l s.field))
            | no a ↦ elim (dec_lt n m) [
              | yes l ↦ absurd (omega (arith, item-before w n m g l u.field))
              | no b ↦ let p : m ≡ n = omega arith in (p, omega (arith, rw p at d))
            ]
          ]

-- a reduction is a field behind the id, of any whole kW from 0 to 100,000
abbrev reduces : Items → ℕ → Bool
reduces x f = (leb 1 f && ltb f (length x.fields)) && (eqb (get_or x.fields f no_rule).low 0 && eqb (get_or x.fields f no_rule).high nominated_limit)

pub record Reduces (x : Items) (f : ℕ) : Type 0 where
  pub behind : 1 ≤ f
  pub inside : f < length x.fields
  pub low : (get_or x.fields f no_rule).low ≡ 0
  pub high : (get_or x.fields f no_rule).high ≡ nominated_limit

pub reduction-rule : (k i r : ℕ) → i < length (lists k) → r < length (list_at k i).reductions → Reduces (list_at k i) (at (list_at k i).reductions r)
unfolding every
reduction-rule k i r l h =
    let x = list_at k i in
    let f = at x.reductions r in
    let table = every-at (λ l. every (λ x. every (reduces x) x.reductions) l.lists) layouts (bare []) k refl refl in
    let row = every_in (λ x. every (reduces x) x.reductions) (lists k) no_items i table l in
    let a = and_parts (leb 1 f && ltb f (length x.fields)) (eqb (get_or x.fields f no_rule).low 0 && eqb (get_or x.fields f no_rule).high nominated_limit) (every_in (reduces x) x.reductions 0 r row h) in
    let b = and_parts (leb 1 f) (ltb f (length x.fields)) a.0 in
    let c = and_parts (eqb (get_or x.fields f no_rule).low 0) (eqb (get_or x.fields f no_rule).high nominated_limit) a.1 in
    record {
      behind = leb-true 1 f b.0;
      inside = ltb-true f (length x.fields) b.1;
      low = eqb-true (get_or x.fields f no_rule).low 0 c.0;
      high = eqb-true (get_or x.fields f no_rule).high nominated_limit c.1;
    }

-- number j is reduction `which` of item `item` of list `list`, whose id is picked
pub record Reduction (picked : ℕ → Bool) (vs : List ℕ) (j : ℕ) : Type 0 where
  pub list : ℕ
  pub item : ℕ
  pub which : ℕ
  pub named : which < length (list_at (at vs 0) list).reductions
  pub there : Field (at vs 0) vs list item (at (list_at (at vs 0) list).reductions which)
  pub place : j ≡ item_at (at vs 0) vs list item + at (list_at (at vs 0) list).reductions which
  pub picks : picked (at vs (item_at (at vs 0) vs list item)) ≡ true

module _ {picked : ℕ → Bool} {vs : List ℕ} where
  pub reduction-at : {j : ℕ} → is_reduction picked vs j ≡ true → Reduction picked vs j
  unfolding is_reduction reduces_in
  reduction-at {j} e =
      let k = at vs 0 in
      let a = any_some (length (lists k)) (λ i. any_to (items_in k vs i) (λ m. picked (at vs (item_at k vs i m)) && reduces_in k vs i m j)) e in
      let i = a.0 in
      let b = any_some (items_in k vs i) (λ m. picked (at vs (item_at k vs i m)) && reduces_in k vs i m j) a.2 in
      let m = b.0 in
      let c = and_parts (picked (at vs (item_at k vs i m))) (reduces_in k vs i m j) b.2 in
      let fs = (list_at k i).reductions in
      let d = any_some (length fs) (λ r. eqb j (item_at k vs i m + at fs r)) c.1 in
      record {
        list = i;
        item = m;
        which = d.0;
        named = d.1;
        there = record { list = a.1; item = b.1; field = (reduction-rule k i d.0 a.1 d.1).inside };
        place = eqb-true j (item_at k vs i m + at fs d.0) d.2;
        picks = c.0;
      }

  -- no number of the head is a reduction
  pub behind-head : {j : ℕ} → Reduction picked vs j → length (head (at vs 0)) ≤ j
  unfolding rules_to
  behind-head r = omega (arith, r.place, rw zero-add at (places-rise (at vs 0) vs 0 r.list))

  -- the rule of a reduction
  pub rule-reduction : {j : ℕ} → Reduction picked vs j → ((get_or (rules_for (at vs 0) vs) j no_rule).low ≡ 0) × ((get_or (rules_for (at vs 0) vs) j no_rule).high ≡ nominated_limit)
  rule-reduction r =
      let k = at vs 0 in
      let f = at (list_at k r.list).reductions r.which in
      let s = reduction-rule k r.list r.which r.there.list r.named in
      let e = (rule-item k vs r.list r.there.list r.item f r.there.item r.there.field).0 in
      rw (r.place, add_assoc, e) (s.low, s.high)
