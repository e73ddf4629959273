-- Laws of a record with names: its head is made of the head's numbers alone, and its listing item by item.
use Prim.Native.Nat.{ℕ, zero, suc, ◌+◌, ◌≤◌, ◌<◌}
use Rattle.std.specs.Prelude.{Bool, true, false, cond, List, ◌⊎◌, ◌≡◌, refl, eqb, length}
use Rattle.std.proofs.Common.{inl, inr, sym, ◌∙◌, le_refl, add-one, arith}
use Rattle.std.proofs.Math.Path.{fun_ext}
use borrow.Author.Tests.{eqb-true, eqb-false}
use Rattle.ids.specs.Ids.{at}
use Rattle.record_layouts.specs.Layout.{head, lists, list_at, items_in, item_at, item_in}
use Rattle.record_layouts.specs.Questions.{row}
use Rattle.record_layouts.specs.QuestionLaws.{at_row, counts_same, fields-same}
use Rattle.year.specs.declared.Listing.{Listing}
use Rattle.year.specs.Year.{no_listing}
use Rattle.record_heads.specs.declared.RetestHead.{RetestHead}
use Rattle.record_heads.specs.declared.Head.{Head}
use Rattle.record_heads.specs.declared.Head.TheVariants as head
use Rattle.record_heads.specs.Record.{head_of, with_item, with_items, listing_to, listing_in, record_of, for_retest, is_retest_of}

-- a choice of heads that are the same
either : (b : Bool) {x y z w : Head} → (b ≡ true → x ≡ y) → (b ≡ false → z ≡ w) → cond b x z ≡ cond b y w
either true h g = h refl
either false h g = g refl

-- two lists of numbers of one kind with the same head
module _ (vs ws : List ℕ) (first : at ws 0 ≡ at vs 0) (same : (j : ℕ) → j < length (head (at vs 0)) → at ws j ≡ at vs j) where
  number : (k j : ℕ) → at vs 0 ≡ k → j < length (head k) → at ws j ≡ at vs j
  number k j e l = same j (rw e l)

  pub same_head : head_of ws ≡ head_of vs
  unfolding head_of
  same_head =
      let k = at vs 0 in
      rw first
      (either (eqb k 1) (λ y. let e = eqb-true k 1 y in rw (number 1 1 e (omega arith), number 1 2 e (omega arith), number 1 3 e (omega arith)))
      (λ _. either (eqb k 2) (λ y. let e = eqb-true k 2 y in rw (number 2 1 e (omega arith), number 2 2 e (omega arith), number 2 3 e (omega arith), number 2 4 e (omega arith), number 2 5 e (omega arith), number 2 6 e (omega arith), number 2 7 e (omega arith)))
      (λ _. either (eqb k 3) (λ y. let e = eqb-true k 3 y in rw (number 3 1 e (omega arith), number 3 2 e (omega arith)))
      (λ _. either (eqb k 4) (λ y. let e = eqb-true k 4 y in rw (number 4 1 e (omega arith), number 4 2 e (omega arith), number 4 3 e (omega arith)))
      (λ _. either (eqb k 5) (λ y. let e = eqb-true k 5 y in rw (number 5 1 e (omega arith), number 5 2 e (omega arith), number 5 3 e (omega arith)))
      (λ _. either (eqb k 6) (λ y. rw (number 6 1 (eqb-true k 6 y) (omega arith)))
      (λ _. either (eqb k 7) (λ y. let e = eqb-true k 7 y in rw (number 7 1 e (omega arith), number 7 2 e (omega arith), number 7 3 e (omega arith)))
      (λ _. either (eqb k 8) (λ y. let e = eqb-true k 8 y in rw (number 8 1 e (omega arith), number 8 2 e (omega arith)))
      (λ _. either (eqb k 9) (λ y. let e = eqb-true k 9 y in rw (number 9 1 e (omega arith), number 9 2 e (omega arith), number 9 3 e (omega arith), number 9 4 e (omega arith)))
      (λ _. refl))))))))))

-- one item more, and one list more, as a loop says it
pub items_more : (k : ℕ) (vs : List ℕ) (i : ℕ) (l : Listing) (n : ℕ) → with_items k vs i l (n + 1) ≡ with_item (list_at k i).reductions (item_in k vs i n) (with_items k vs i l n)
unfolding with_items
items_more k vs i l n = rw (add-one n)

pub listing-more : (k : ℕ) (vs : List ℕ) (i : ℕ) → listing_to k vs (i + 1) ≡ with_items k vs i (listing_to k vs i) (items_in k vs i)
unfolding listing_to
listing-more k vs i = rw (add-one i)

-- what holds of two empty listings, and is kept by an item of each, holds of what two records with the same head list
module _ (R : Listing → Listing → Type 0) (vs ws : List ℕ) (first : at ws 0 ≡ at vs 0) (same : (j : ℕ) → j < length (head (at vs 0)) → at ws j ≡ at vs j)
    (step : (i m : ℕ) → i < length (lists (at vs 0)) → m < items_in (at vs 0) vs i → (l n : Listing) → R l n
    → R (with_item (list_at (at vs 0) i).reductions (item_in (at vs 0) vs i m) l) (with_item (list_at (at vs 0) i).reductions (λ f. at ws (item_at (at vs 0) vs i m + f)) n)) where
  items_keep : (i c : ℕ) → i < length (lists (at vs 0)) → c ≤ items_in (at vs 0) vs i → {l n : Listing} → R l n → R (with_items (at vs 0) vs i l c) (with_items (at vs 0) ws i n c)
  unfolding with_items
  items_keep i zero b h r = r
  items_keep i (suc c) b h r =
      let item : item_in (at vs 0) ws i c ≡ (λ f. at ws (item_at (at vs 0) vs i c + f)) = fun_ext (λ f. rw (fields-same (at vs 0) ws vs same i)) in
      rw item (step i c b h _ _ (items_keep i c b (omega arith) r))

  lists-keep : (i : ℕ) → i ≤ length (lists (at vs 0)) → R no_listing no_listing → R (listing_to (at vs 0) vs i) (listing_to (at vs 0) ws i)
  unfolding listing_to
  lists-keep zero b r = r
  lists-keep (suc i) b r =
      rw (counts_same (at vs 0) ws vs same i) (items_keep i (items_in (at vs 0) vs i) b (le_refl _) (lists-keep i (omega arith) r))

  pub listing-keeps : R no_listing no_listing → R (listing_in vs) (listing_in ws)
  unfolding listing_in
  listing-keeps r = rw first (lists-keep (length (lists (at vs 0))) (le_refl _) r)

-- a record's numbers in a row make the same record
pub record-row : (vs : List ℕ) → record_of (row vs) ≡ record_of vs
unfolding head_of
record-row vs =
    let same : (j : ℕ) → at (row vs) j ≡ at vs j = at_row vs in
    let heads : head_of (row vs) ≡ head_of vs = rw (same 0, same 1, same 2, same 3, same 4, same 5, same 6, same 7) in
    cc (
      heads,
      listing-keeps (λ l n. n ≡ l) vs (row vs) (same 0) (λ j l. same j)
          (λ i m l h a b e. rw (e, fun_ext (λ f. same (item_at (at vs 0) vs i m + f)))) refl,
    )

-- a head is a retest's, or nothing that is said of retests is said of it
pub retest-or-not : (h : Head) → ((t : RetestHead) × (h ≡ head.Retest t)) ⊎ ((f : RetestHead → Bool) (g : Head → Bool) → for_retest f g h ≡ g h)
retest-or-not (head.Opening o) = inr (λ f g. refl)
retest-or-not (head.Registration r) = inr (λ f g. refl)
retest-or-not (head.Lse j) = inr (λ f g. refl)
retest-or-not (head.Event e) = inr (λ f g. refl)
retest-or-not (head.Test t) = inr (λ f g. refl)
retest-or-not (head.Close c) = inr (λ f g. refl)
retest-or-not (head.Clearing c) = inr (λ f g. refl)
retest-or-not (head.Retest t) = inl (t, refl)

pub is-retest : (s : ℕ) (h : Head) → is_retest_of s h ≡ true → (t : RetestHead) × (h ≡ head.Retest t) × (t.seller ≡ s)
is-retest s h e = elim (retest-or-not h) [
  | inl r ↦ (r.0, r.1, eqb-true r.0.seller s (rw r.1 at e))
  | inr o ↦ absurd (let z : ◌≡◌ {A = ℕ} 0 1 = cc (e, o (λ t. eqb t.seller s) (λ h. false)) in omega arith)
]

-- what is said alike of the retests of sellers other than s is said alike of what is no retest of s's
pub other-retests : {f f' : RetestHead → Bool} (g : Head → Bool) (s : ℕ) (h : Head) → is_retest_of s h ≡ false → ((t : RetestHead) → (t.seller ≡ s → ⊥) → f t ≡ f' t)
    → for_retest f g h ≡ for_retest f' g h
other-retests {f} {f'} g s h e same = elim (retest-or-not h) [
  | inl r ↦ rw r.1 (same r.0 (eqb-false r.0.seller s (rw r.1 at e)))
  | inr o ↦ o f g ∙ sym (o f' g)
]
