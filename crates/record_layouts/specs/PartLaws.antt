-- The tables have each part where the starts say.
use Prim.Native.Nat.{ℕ, zero, suc, ◌+◌, ◌-◌, ◌≤◌, ◌<◌}
use mathlib.Core.List.{List, [], ◌∷◌, ◌++◌, map}
use Rattle.std.specs.Prelude.{◌≡◌}
use Rattle.std.proofs.Math.Path.{refl, ap}
use Rattle.std.proofs.Common.{◌∙◌, arith, take_at, get_or-append-add}
use Rattle.std.proofs.Math.Nat.{zero-add, add_assoc}
use Rattle.std.proofs.Math.Numerals.{add-one}
use Rattle.std.proofs.Math.ListN.{length, get_or, drop, length-append, length-map, get_or-append, get_or-map}
use Rattle.std.proofs.Math.Seq.{drop-append-add}
use Rattle.ids.specs.Ids.{at}
use Rattle.bits.specs.Table.{total}
use Rattle.record_layouts.specs.Layout.{Rule, Items, no_items, bare, layouts, layout_of, lists, widths}
use Rattle.record_layouts.specs.Parts.{join, start_of, parts_in, part_at, kinds, parts, fields_in, rules, row_at, Placed}

module _ {A : Type 0} where
  start-zero : (hs : List (List A)) → start_of hs 0 ≡ 0
  unfolding start_of
  start-zero [] = refl
  start-zero (h ∷ hs) = refl

  start-next : (hs : List (List A)) (k : ℕ) → start_of hs (k + 1) ≡ start_of hs k + length (get_or hs k [])
  unfolding start_of
  start-next [] k = refl
  start-next (h ∷ hs) zero = omega (arith, start-zero hs)
  start-next (h ∷ hs) (suc k) = let r = start-next hs k in rw add-one (omega (arith, rw add-one at r))

  -- list k among the joined ones: its elements, and where it ends
  from_start : (hs : List (List A)) (k : ℕ) → k < length hs → (rest : List A) × (drop (start_of hs k) (join hs) ≡ get_or hs k [] ++ rest)
  unfolding join start_of
  from_start [] k l = absurd (omega arith)
  from_start (h ∷ hs) zero l = (join hs, refl)
  from_start (h ∷ hs) (suc k) l =
      let r = from_start hs k (omega arith) in
      (r.0, drop-append-add h (join hs) (start_of hs k) ∙ r.1)

  ends-in : (hs : List (List A)) (k : ℕ) → k < length hs → start_of hs k + length (get_or hs k []) ≤ length (join hs)
  unfolding join start_of
  ends-in [] k l = absurd (omega arith)
  ends-in (h ∷ hs) zero l = omega (arith, length-append h (join hs))
  ends-in (h ∷ hs) (suc k) l = omega (arith, length-append h (join hs), ends-in hs k (omega arith))

  join-at : (d : A) (hs : List (List A)) (k j : ℕ) → j < length (get_or hs k []) → get_or (join hs) (start_of hs k + j) d ≡ get_or (get_or hs k []) j d
  unfolding join start_of
  join-at d [] k j l = absurd (omega arith)
  join-at d (h ∷ hs) zero j l = rw zero-add (get_or-append h (join hs) d j l)
  join-at d (h ∷ hs) (suc k) j l = rw add_assoc (get_or-append-add h (join hs) (start_of hs k + j) d ∙ join-at d hs k j l)

module _ {A B : Type 0} (f : A → B) where
  map-append : (xs ys : List A) → map f (xs ++ ys) ≡ map f xs ++ map f ys
  map-append [] ys = refl
  map-append (x ∷ xs) ys = ap (λ (l : List B). f x ∷ l) (map-append xs ys)

  map-drop : (n : ℕ) (xs : List A) → drop n (map f xs) ≡ map f (drop n xs)
  map-drop zero xs = refl
  map-drop (suc n) [] = refl
  map-drop (suc n) (x ∷ xs) = map-drop n xs

  get_or-mapped : (xs : List A) (k : ℕ) (d : A) (e : B) → k < length xs → get_or (map f xs) k e ≡ f (get_or xs k d)
  get_or-mapped [] k d e l = absurd (omega arith)
  get_or-mapped (x ∷ xs) zero d e l = refl
  get_or-mapped (x ∷ xs) (suc k) d e l = get_or-mapped xs k d e (omega arith)

module _ (k : ℕ) (l : k < length layouts) where
  kind-is : get_or kinds k [] ≡ parts_in (layout_of k)
  unfolding kinds
  kind-is = get_or-mapped parts_in layouts k (bare []) [] l

  kind-in : k < length kinds
  unfolding kinds
  kind-in = l

  -- a kind has a part for its head and one for each list
  pub first_next : start_of kinds (k + 1) ≡ start_of kinds k + 1 + length (lists k)
  first_next = omega (arith, start-next kinds k, ap length kind-is)

  module _ (i : ℕ) (m : i ≤ length (lists k)) where
    pub part_in : start_of kinds k + i < length parts
    unfolding parts
    part_in = omega (arith, ends-in kinds k kind-in, ap length kind-is)

    pub part-is : get_or parts (start_of kinds k + i) no_items ≡ part_at k i
    unfolding parts
    part-is =
        join-at no_items kinds k i (omega (arith, ap length kind-is)) ∙ ap (λ (xs : List Items). get_or xs i no_items) kind-is

    fields-are : get_or (fields_in parts) (start_of kinds k + i) [] ≡ (part_at k i).fields
    unfolding fields_in
    fields-are = get_or-map (λ x. x.fields) parts (start_of kinds k + i) no_items ∙ ap (λ (x : Items). x.fields) part-is

    fields_within : start_of kinds k + i < length (fields_in parts)
    unfolding fields_in
    fields_within = omega (arith, part_in, length-map parts (λ x. x.fields))

    -- so a part is where the starts of the fields say
    pub placed : Placed k i (row_at (start_of kinds k + i))
    unfolding rules
    placed =
        let h = start_of kinds k + i in
        let hs = fields_in parts in
        let start = start_of hs h in
        let end = start_of hs (h + 1) in
        let long : end ≡ start + length (part_at k i).fields = omega (arith, start-next hs h, ap length fields-are) in
        let r = from_start hs h fields_within in
        let whole : drop start (join hs) ≡ (part_at k i).fields ++ r.0 = rw (← fields-are) r.1 in
        record {
          fields = λ f. rw (map-drop f start (join hs), whole, map-append f (part_at k i).fields r.0) (take_at (map f (part_at k i).fields) (map f r.0) (end - start) (omega (arith, length-map (part_at k i).fields f)));
          long = long;
          within = omega (arith, ends-in hs h fields_within, ap length fields-are);
          bits = ap (λ (x : Items). total (widths x.fields)) part-is;
          count = ap (λ (x : Items). x.count) part-is;
          reduction = ap (λ (x : Items). at x.reductions 0) part-is;
          second = ap (λ (x : Items). at x.reductions 1) part-is;
        }

-- a table is as long as the fields are many
pub table-long : (f : Rule → ℕ) {table : List ℕ} → table ≡ map f rules → length table ≡ length rules
table-long f e = ap length e ∙ length-map rules f

-- and they are few
pub rules-few : length rules ≤ 256
unfolding rules join fields_in parts kinds
rules-few = omega arith
