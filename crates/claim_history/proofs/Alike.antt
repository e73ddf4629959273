-- Records that are alike but for one seller's reductions: what the questions and the year see of them.
use Rattle.std.specs.Prelude.{ℕ, ◌+◌, ◌<◌, Bool, true, false, cond, List, ◌≡◌, eqb, length}
use Rattle.std.proofs.Common.{inl, inr, ◌∙◌, add-zero, arith, ne_eqb, length-set}
use Rattle.std.proofs.Math.Path.{refl, sym}
use Rattle.ids.specs.Ids.{at}
use Rattle.ids.specs.Sets.{same_set}
use Rattle.record_layouts.specs.Layout.{lists, list_at, items_in, item_at, item_in}
use Rattle.record_layouts.specs.QuestionLaws.{head-kind}
use Rattle.year.specs.declared.Listing.{Listing}
use Rattle.year.specs.declared.Terms.{Terms}
use Rattle.year.specs.Year.{seller, reduction, second}
use Rattle.year.specs.Listing.{with_entry, with_second}
use Rattle.record_heads.specs.Record.{Record, with_item, record_of}
use Rattle.record_heads.specs.RecordLaws.{same_head, listing-keeps}
use Rattle.record_listing.specs.Listed.{Permitted, item-as}
use Rattle.record_numbers.specs.Reductions.{with_reductions}
use Rattle.record_numbers.proofs.Replaced.{kept-head, kept_field, kept-other, kept-id}
use Rattle.claim_history.specs.Runs.{is_own}
use Rattle.claim_history.proofs.Same.{SameListing, listing-refl}

pub record Alike (T : Terms) (s : ℕ) (r q : Record) : Type 0 where
  pub heads : r.head ≡ q.head
  pub listings : SameListing T s r.listing q.listing

pub alike_refl : (T : Terms) (s : ℕ) (r : Record) → Alike T s r r
alike_refl T s r = record { heads = refl; listings = listing-refl T s r.listing }

-- listings that are alike, as a step of reading one keeps them
record AlikeListing (T : Terms) (s : ℕ) (l n : Listing) : Type 0 where
  listed : l.listed ≡ n.listed
  deficits : l.deficits ≡ n.deficits
  long : length l.reductions ≡ length n.reductions
  reductions : (i : ℕ) → (seller T i ≡ s → ⊥) → at l.reductions i ≡ at n.reductions i
  long_second : length l.second ≡ length n.second
  seconds : (i : ℕ) → (seller T i ≡ s → ⊥) → at l.second i ≡ at n.second i

-- one more entry of a registration keeps them so, and its second reduction, if their kilowatts are the same where it is not the seller's
module _ {T : Terms} {s : ℕ} (e : ℕ) {v w : ℕ} {l n : Listing} where
  alike-entry : ((seller T e ≡ s → ⊥) → v ≡ w) → AlikeListing T s l n → AlikeListing T s (with_entry l e v) (with_entry n e w)
  alike-entry kw a =
      record {
        listed = rw a.listed;
        deficits = a.deficits;
        long = length-set l.reductions _ _ ∙ a.long ∙ sym (length-set n.reductions _ _);
        reductions = λ j o. same_set 0 l.reductions n.reductions e j a.long (a.reductions j o) (λ q. kw (rw q o));
        long_second = a.long_second;
        seconds = a.seconds;
      }

  alike-any : (b : Bool) → ((seller T e ≡ s → ⊥) → v ≡ w) → AlikeListing T s l n → AlikeListing T s (cond b l (with_second l e v)) (cond b n (with_second n e w))
  alike-any true kw a = a
  alike-any false kw a =
      record {
        listed = a.listed;
        deficits = a.deficits;
        long = a.long;
        reductions = a.reductions;
        long_second = length-set l.second _ _ ∙ a.long_second ∙ sym (length-set n.second _ _);
        seconds = λ j o. same_set 0 l.second n.second e j a.long_second (a.seconds j o) (λ q. kw (rw q o));
      }

module _ (T : Terms) (s : ℕ) (f : ℕ → ℕ) {vs : List ℕ} (p : Permitted vs) where
  abbrev k : ℕ
  k = at vs 0

  abbrev new : List ℕ
  new = with_reductions (is_own T s) f vs

  -- an item and its variant keep them so
  alike-item : (i m : ℕ) → i < length (lists k) → m < items_in k vs i → (l n : Listing) → AlikeListing T s l n
      → AlikeListing T s (with_item (list_at k i).reductions (item_in k vs i m) l) (with_item (list_at k i).reductions (λ g. at new (item_at k vs i m + g)) n)
  alike-item i m b h l n a = elim (item-as p i m b h) [
    | inl e ↦
        let kw : (g : ℕ) → g < length (list_at k i).fields → (seller T (at vs (item_at k vs i m)) ≡ s → ⊥) → at vs (item_at k vs i m + g) ≡ at new (item_at k vs i m + g) = λ g d o. sym (kept-other (is_own T s) f vs (record { list = b; item = h; field = d }) (ne_eqb (seller T (at vs (item_at k vs i m))) s o)) in
        rw (e.keeps (item_in k vs i m) l, e.keeps (λ g. at new (item_at k vs i m + g)) n, add-zero, kept-id (is_own T s) f vs b h)
        (alike-any (at vs (item_at k vs i m)) (eqb (at (list_at k i).reductions 1) 0) (kw (at (list_at k i).reductions 1) e.second) (alike-entry (at vs (item_at k vs i m)) (kw (at (list_at k i).reductions 0) e.inside) a))
    | inr d ↦
        let kw = kept_field (is_own T s) f vs {i = i} {m = m} {g = 1} (record { list = b; item = h; field = d.inside }) (λ r c q. omega (arith, rw d.none at c)) in
        rw (d.keeps (item_in k vs i m) l, d.keeps (λ g. at new (item_at k vs i m + g)) n, add-zero, kept-id (is_own T s) f vs b h, kw)
        (record { listed = a.listed; deficits = rw a.deficits; long = a.long; reductions = a.reductions; long_second = a.long_second; seconds = a.seconds })
  ]

  pub alike-replaced : Alike T s (record_of vs) (record_of new)
  unfolding reduction second
  alike-replaced =
      let heads = kept-head (is_own T s) f vs in
      let first = heads 0 (head-kind k p.kind).0 in
      let a = listing-keeps (AlikeListing T s) vs new first heads alike-item (record { listed = refl; deficits = refl; long = refl; reductions = λ i o. refl; long_second = refl; seconds = λ i o. refl }) in
      record { heads = sym (same_head vs new first heads); listings = record { listed = a.listed; deficits = a.deficits; reductions = a.reductions; seconds = a.seconds } }
