-- The code's tables, as the layouts say them: the fields of every part of every kind one after another, a part being a head or an item of a list.
use Rattle.std.specs.Prelude.{ℕ, zero, suc, ◌+◌, ◌-◌, ◌*◌, ◌^◌, ◌≤◌, ◌<◌, Bool, ◌&&◌, List, [], ◌∷◌, ◌++◌, map, ◌≡◌, leb, eqb, length, get_or, take, drop}
use Rattle.ids.specs.Ids.{at, all_to}
use Rattle.bits.specs.Table.{total}
use Rattle.record_layouts.specs.declared.Part.{Part}
use Rattle.record_layouts.specs.Layout.{Rule, Items, no_items, Layout, layouts, layout_of, head, rules_for, widths, longest_record}

-- lists one after another, and where list k starts among them
unfoldable pub join : {A : Type 0} → List (List A) → List A
join [] = []
join (h ∷ hs) = h ++ join hs

unfoldable pub start_of : {A : Type 0} → List (List A) → ℕ → ℕ
start_of [] k = 0
start_of (h ∷ hs) zero = 0
start_of (h ∷ hs) (suc k) = length h + start_of hs k

-- the parts of a kind: its head, which has no count, and its lists
abbrev pub parts_in : Layout → List Items
parts_in l = record { count = 0; fields = l.head; reductions = [] } ∷ l.lists

abbrev pub part_at : ℕ → ℕ → Items
part_at k i = get_or (parts_in (layout_of k)) i no_items

-- of all kinds: their parts, and the fields of these
unfoldable pub kinds : List (List Items)
kinds = map parts_in layouts

unfoldable pub parts : List Items
parts = join kinds

unfoldable pub fields_in : List Items → List (List Rule)
fields_in xs = map (λ x. x.fields) xs

unfoldable pub rules : List Rule
rules = join (fields_in parts)

abbrev pub lows : List Rule → List ℕ
lows rs = map (λ r. r.low) rs

abbrev pub highs : List Rule → List ℕ
highs rs = map (λ r. r.high) rs

-- a part with these numbers, and part h: where its fields start and end, the bits that they take, the place of its count, and its first and its second reduction
abbrev pub row_of : ℕ → ℕ → ℕ → ℕ → ℕ → ℕ → Part
row_of s e b c r t = record { start = s; end = e; bits = b; count = c; reduction = r; second = t }

abbrev pub row_at : ℕ → Part
row_at h =
    let part = get_or parts h no_items in
    row_of (start_of (fields_in parts) h) (start_of (fields_in parts) (h + 1)) (total (widths part.fields)) part.count (at part.reductions 0) (at part.reductions 1)

-- p is where the tables have part i of kind k
pub record Placed (k i : ℕ) (p : Part) : Type 0 where
  pub fields : (f : Rule → ℕ) → take (p.end - p.start) (drop p.start (map f rules)) ≡ map f (part_at k i).fields
  pub long : p.end ≡ p.start + length (part_at k i).fields
  pub within : p.end ≤ length rules
  pub bits : p.bits ≡ total (widths (part_at k i).fields)
  pub count : p.count ≡ (part_at k i).count
  pub reduction : p.reduction ≡ at (part_at k i).reductions 0
  pub second : p.second ≡ at (part_at k i).reductions 1

-- numbers that state a record of kind k which is no longer than the longest
pub record Stated (k : ℕ) (vs : List ℕ) : Type 0 where
  pub kind : k < length layouts
  pub head : length (head k) ≤ length vs
  pub bits : total (widths (rules_for k vs)) ≤ 8 * longest_record

-- question 3 over a table of lowest values and one of highest: of numbers, of n numbers that stand w apart from place p on, and of n items in a row, field by field
abbrev pub between : ℕ → ℕ → ℕ → Bool
between l h v = leb l v && leb v h

unfoldable pub within : List ℕ → List ℕ → List ℕ → Bool
within ls hs vs = all_to (length ls) (λ j. between (at ls j) (at hs j) (at vs j))

unfoldable pub column_within : ℕ → ℕ → List ℕ → ℕ → ℕ → ℕ → Bool
column_within l h vs p w n = all_to n (λ k. between l h (at vs (p + k * w)))

unfoldable pub items_within : List ℕ → List ℕ → List ℕ → ℕ → ℕ → Bool
items_within ls hs vs p n = all_to (length ls) (λ j. column_within (at ls j) (at hs j) vs (p + j) (length ls) n)

-- the limits hold all numbers of w bits
unfoldable pub hold_all : ℕ → ℕ → ℕ → Bool
hold_all l h w = eqb l 0 && leb (2 ^ w - 1) h

-- n numbers that stand w apart from place p on have at most b bits; and so has each number of n items in a row by its width
abbrev pub ColumnFits : ℕ → List ℕ → ℕ → ℕ → ℕ → Type 0
ColumnFits b vs p w n = (k : ℕ) → k < n → at vs (p + k * w) < 2 ^ b

abbrev pub ItemsFit : List ℕ → List ℕ → ℕ → ℕ → Type 0
ItemsFit ws vs p n = (j : ℕ) → j < length ws → ColumnFits (at ws j) vs (p + j) (length ws) n
