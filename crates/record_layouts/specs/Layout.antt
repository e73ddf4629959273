-- The record layouts (document 01, 'Record layouts'; document 02, C-11, C-15 and C-17), as one table with a row a kind; what else is known of a kind is derived from its row.
use Rattle.std.specs.Prelude.{ℕ, zero, suc, ◌+◌, ◌-◌, ◌*◌, ◌^◌, max, cond, List, [], ◌∷◌, ◌++◌, map, length, get_or, ltb}
use Rattle.ids.specs.Ids.{at}
use Rattle.bits.specs.Table.{total, times}
use Rattle.bits.specs.Pack.{bytes_for}

-- a field: its width in bits, and its lowest and highest permitted value
pub record Rule : Type 0 where
  pub width : ℕ
  pub low : ℕ
  pub high : ℕ

-- a list of items: the place of its count among the head's numbers, the fields of an item, the first of them the id, and which of them are reductions
pub record Items : Type 0 where
  pub count : ℕ
  pub fields : List Rule
  pub reductions : List ℕ

-- a kind: the fields of its head, and the lists behind it
pub record Layout : Type 0 where
  pub head : List Rule
  pub lists : List Items

abbrev field : ℕ → ℕ → ℕ → Rule
field w l h = record { width = w; low = l; high = h }

abbrev kind : ℕ → Rule
kind k = field 4 k k

abbrev pub bare : List Rule → Layout
bare h = record { head = h; lists = [] }

-- past the last field and list; past the last kind, and for a number that is none, there is an empty head
abbrev pub no_rule : Rule
no_rule = field 0 0 0

abbrev pub no_items : Items
no_items = record { count = 0; fields = []; reductions = [] }

-- lists by the number that counts them. Deficits: seller, kW; entries: registration, reduction kW; entries of two reductions: registration, on-peak kW, off-peak kW
abbrev deficits : ℕ → Items
deficits n = record { count = n; fields = field 4 0 15 ∷ field 20 1 1000000 ∷ []; reductions = [] }

abbrev entries : ℕ → Items
entries n = record { count = n; fields = field 6 0 63 ∷ field 17 0 100000 ∷ []; reductions = 1 ∷ [] }

abbrev pairs : ℕ → Items
pairs n = record { count = n; fields = field 6 0 63 ∷ field 17 0 100000 ∷ field 17 0 100000 ∷ []; reductions = 1 ∷ 2 ∷ [] }

-- the kinds from 0 on
abbrev pub layouts : List Layout
layouts =
    bare []
    -- opening: leap, DR Factor, Forecast Pool Requirement
    ∷ bare (kind 1 ∷ field 1 0 1 ∷ field 14 1 12000 ∷ field 14 1 12000 ∷ [])
    -- registration: registration, seller, area, zone, product, committed kW, rate
    ∷ bare (kind 2 ∷ field 6 0 63 ∷ field 4 0 15 ∷ field 3 0 7 ∷ field 3 0 7 ∷ field 2 0 2 ∷ field 17 1 100000 ∷ field 17 0 100000 ∷ [])
    -- LSE: LSE, obligation kW
    ∷ bare (kind 3 ∷ field 4 0 15 ∷ field 20 1 1000000 ∷ [])
    -- event: area, month, period, deficits, entries
    ∷ record { head = kind 4 ∷ field 3 0 7 ∷ field 4 1 12 ∷ field 2 1 3 ∷ field 5 0 16 ∷ field 7 1 64 ∷ []; lists = deficits 4 ∷ entries 5 ∷ [] }
    -- test: zone, product, month, deficits, entries
    ∷ record { head = kind 5 ∷ field 3 0 7 ∷ field 2 0 2 ∷ field 4 1 12 ∷ field 5 0 16 ∷ field 7 1 64 ∷ []; lists = deficits 4 ∷ entries 5 ∷ [] }
    -- close: month
    ∷ bare (kind 6 ∷ field 4 1 15 ∷ [])
    -- clearing: registration, price, cleared kW
    ∷ bare (kind 7 ∷ field 6 0 63 ∷ field 17 0 100000 ∷ field 17 1 100000 ∷ [])
    -- event of two reductions: area, month, deficits, entries
    ∷ record { head = kind 8 ∷ field 3 0 7 ∷ field 4 1 12 ∷ field 5 0 16 ∷ field 7 1 64 ∷ []; lists = deficits 3 ∷ pairs 4 ∷ [] }
    -- retest: seller, zone, product, month, entries
    ∷ record { head = kind 9 ∷ field 4 0 15 ∷ field 3 0 7 ∷ field 2 0 2 ∷ field 4 1 12 ∷ field 7 1 64 ∷ []; lists = entries 5 ∷ [] }
    ∷ []

abbrev pub layout_of : ℕ → Layout
layout_of k = get_or layouts k (bare [])

abbrev pub head : ℕ → List Rule
head k = (layout_of k).head

abbrev pub lists : ℕ → List Items
lists k = (layout_of k).lists

abbrev pub list_at : ℕ → ℕ → Items
list_at k i = get_or (lists k) i no_items

-- how many items list i has, by its count among the numbers; none where the kind has no such list
unfoldable pub items_in : ℕ → List ℕ → ℕ → ℕ
items_in k vs i = cond (ltb i (length (lists k))) (at vs (list_at k i).count) 0

-- the fields of a record of kind k with these numbers, before its list i, and all of them
unfoldable pub rules_to : ℕ → List ℕ → ℕ → List Rule
rules_to k vs zero = head k
rules_to k vs (suc i) = rules_to k vs i ++ times (items_in k vs i) (list_at k i).fields

unfoldable pub rules_for : ℕ → List ℕ → List Rule
rules_for k vs = rules_to k vs (length (lists k))

-- where list i stands among the numbers
abbrev pub place_of : ℕ → List ℕ → ℕ → ℕ
place_of k vs i = length (rules_to k vs i)

-- where item m of list i begins among the numbers: there stands its id, and its other fields behind it
abbrev pub item_at : ℕ → List ℕ → ℕ → ℕ → ℕ
item_at k vs i m = place_of k vs i + m * length (list_at k i).fields

-- its number f
abbrev pub item_in : ℕ → List ℕ → ℕ → ℕ → ℕ → ℕ
item_in k vs i m f = at vs (item_at k vs i m + f)

abbrev pub widths : List Rule → List ℕ
widths rs = map (λ r. r.width) rs

-- the bytes of a record with these fields
abbrev pub size_of : List Rule → ℕ
size_of rs = bytes_for (total (widths rs))

-- the size of a kind's fields before its list i, at most, where each count is at most its limit
unfoldable pub most_to : (Rule → ℕ) → (List Rule → ℕ) → Layout → ℕ → ℕ
most_to limit size l zero = size l.head
most_to limit size l (suc i) =
    let items = get_or l.lists i no_items in
    most_to limit size l i + limit (get_or l.head items.count no_rule) * size items.fields

-- the bits and the numbers of a record, at most, with counts up to these limits: as written, as permitted
unfoldable pub bits_most : (Rule → ℕ) → Layout → ℕ
bits_most limit l = most_to limit (λ rs. total (widths rs)) l (length l.lists)

unfoldable pub numbers_most : (Rule → ℕ) → Layout → ℕ
numbers_most limit l = most_to limit length l (length l.lists)

abbrev pub as_written : Rule → ℕ
as_written r = 2 ^ r.width - 1

abbrev pub as_permitted : Rule → ℕ
as_permitted r = r.high

unfoldable pub highest : (Layout → ℕ) → List Layout → ℕ
highest f [] = 0
highest f (l ∷ ls) = max (f l) (highest f ls)

-- the bytes of the longest record, by counts as written, and of the longest that is permitted; the most numbers that a permitted record has:
-- `longest-is`, `longest-permitted-is` and `most-numbers-is` compute them from the table
abbrev pub longest_record : ℕ
longest_record = 731

abbrev pub longest_permitted : ℕ
longest_permitted = 371

abbrev pub most_numbers : ℕ
most_numbers = 229
