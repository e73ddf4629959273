-- Questions 1 to 5 (document 01, 'Questions at the counter'), of bytes and of numbers.
use Rattle.std.specs.Prelude.{ℕ, ◌+◌, ◌-◌, ◌*◌, Bool, ◌&&◌, cond, List, [], ◌∷◌, ◌++◌, length, get_or, replicate, leb, ltb, eqb}
use Rattle.ids.specs.Ids.{at, all_to}
use Rattle.bits.specs.Bits.{field_at}
use Rattle.bits.specs.Table.{fields_at}
use Rattle.bits.specs.Pack.{filling}
use Rattle.record_layouts.specs.Layout.{Rule, no_rule, head, lists, list_at, items_in, rules_for, place_of, widths, size_of, most_numbers}

-- the number of the first question that fails, 0 where none does
unfoldable pub first_failed : List (ℕ × Bool) → ℕ
first_failed [] = 0
first_failed (q ∷ qs) = cond q.1 (first_failed qs) q.0

-- of bytes: the kind, the numbers of the head, and the fields by the counts as written
unfoldable pub kind_of : List ℕ → ℕ
kind_of bytes = field_at bytes 0 4

unfoldable pub head_numbers : List ℕ → List ℕ
head_numbers bytes = fields_at bytes 0 (widths (head (kind_of bytes)))

unfoldable pub rules_of : List ℕ → List Rule
rules_of bytes = rules_for (kind_of bytes) (head_numbers bytes)

-- a record's numbers, in layout order
unfoldable pub numbers_of : List ℕ → List ℕ
numbers_of bytes = fields_at bytes 0 (widths (rules_of bytes))

-- of numbers: the fields by the counts among them
unfoldable pub rules_by : List ℕ → List Rule
rules_by vs = rules_for (at vs 0) vs

-- 1: is this a kind, one that has a head (no byte or number at all reads as kind 0)
unfoldable pub is_kind : ℕ → Bool
is_kind k = ltb 0 (length (head k))

-- 2: are all bytes there, by the counts as written
unfoldable pub is_whole : List ℕ → Bool
is_whole bytes = leb (size_of (rules_of bytes)) (length bytes)

-- 3: is each field permitted
unfoldable pub permits : Rule → ℕ → Bool
permits r v = leb r.low v && leb v r.high

unfoldable pub permitted : List Rule → List ℕ → Bool
permitted rs vs = all_to (length rs) (λ j. permits (get_or rs j no_rule) (at vs j))

-- 4: are the filling bits zero
unfoldable pub is_filled : List ℕ → Bool
is_filled bytes = eqb (filling bytes (widths (rules_of bytes))) 0

-- 5: do ids rise strictly in each list; the ids of n items of w fields from place p on
unfoldable pub rises : List ℕ → ℕ → ℕ → ℕ → Bool
rises vs w p n = all_to (n - 1) (λ k. ltb (at vs (p + w * k)) (at vs (p + w * (k + 1))))

unfoldable pub ids_rise : List ℕ → Bool
ids_rise vs =
    let k = at vs 0 in
    all_to (length (lists k)) (λ i. rises vs (length (list_at k i).fields) (place_of k vs i) (items_in k vs i))

-- questions 1 to 5 of a record's bytes, and the first of them that fails
unfoldable pub record_questions : List ℕ → List (ℕ × Bool)
record_questions bytes =
    (1, is_kind (kind_of bytes)) ∷ (2, is_whole bytes) ∷ (3, permitted (rules_of bytes) (numbers_of bytes)) ∷ (4, is_filled bytes) ∷ (5, ids_rise (numbers_of bytes)) ∷ []

unfoldable pub record_number : List ℕ → ℕ
record_number bytes = first_failed (record_questions bytes)

-- the bytes consumed: none after 1 and 2, else the record's length
unfoldable pub consumed : List ℕ → ℕ
consumed bytes = cond (is_kind (kind_of bytes) && is_whole bytes) (size_of (rules_of bytes)) 0

-- a record's numbers in a row of as many as a record has at most, zeros behind them
unfoldable pub row : List ℕ → List ℕ
row vs = vs ++ replicate (most_numbers - length vs) 0

-- the numbers that a record is taken for: its own, or none where a question fails
unfoldable pub numbers_taken : List ℕ → List ℕ
numbers_taken bytes = cond (eqb (record_number bytes) 0) (numbers_of bytes) []
