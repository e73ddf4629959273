-- Which numbers of a record are reductions, by its kind's row, and the record with others in their place.
use Rattle.std.specs.Prelude.{ℕ, ◌+◌, Bool, ◌&&◌, cond, List, length, eqb}
use Rattle.ids.specs.Ids.{at, any_to, tabulate}
use Rattle.record_layouts.specs.Layout.{lists, list_at, items_in, item_at}

-- of the numbers of a record of kind k: is number j a reduction of item m of list i
unfoldable pub reduces_in : ℕ → List ℕ → ℕ → ℕ → ℕ → Bool
reduces_in k vs i m j =
    let fields = (list_at k i).reductions in
    any_to (length fields) (λ r. eqb j (item_at k vs i m + at fields r))

-- is it a reduction of any item whose id is one of those picked
unfoldable pub is_reduction : (ℕ → Bool) → List ℕ → ℕ → Bool
is_reduction picked vs j =
    let k = at vs 0 in
    any_to (length (lists k)) (λ i. any_to (items_in k vs i) (λ m. picked (at vs (item_at k vs i m)) && reduces_in k vs i m j))

-- the numbers of a record with f j for each reduction, number j, of an item whose id is one of those picked; all else as it was
unfoldable pub with_reductions : (ℕ → Bool) → (ℕ → ℕ) → List ℕ → List ℕ
with_reductions picked f vs = tabulate (length vs) (λ j. cond (is_reduction picked vs j) (f j) (at vs j))
