-- A record's numbers with other reductions in the entries picked: what stays, and that writing accepts them.
use Rattle.std.specs.Prelude.{ℕ, ◌+◌, ◌≤◌, ◌<◌, Bool, List, ◌≡◌, length, get_or}
use Rattle.std.proofs.Math.Bool.{true, false, cond}
use Rattle.std.proofs.Common.{true≢false, ◌∙◌, arith, add-zero, mul_comm}
use Rattle.std.proofs.Math.Path.{refl, sym}
use Rattle.std.proofs.Math.Decide.{dec_lt}
use Rattle.std.proofs.Math.ListN.{get_or-eq_default}
use Rattle.ids.specs.Ids.{at}
use Rattle.ids.specs.Tables.{length-tabulate, get_or-tabulate}
use Rattle.ids.specs.Tests.{all_same, all-at}
use Rattle.limits.specs.Limits.{nominated_limit}
use Rattle.record_layouts.specs.Layout.{no_rule, head, lists, list_at, items_in, rules_for, place_of, item_at}
use Rattle.record_layouts.specs.Questions.{rules_by, permits, permitted, ids_rise}
use Rattle.record_layouts.specs.QuestionLaws.{permits-yes, rises-same, counts_same, fields-same, rules-same, head-kind}
use Rattle.record_layouts.specs.ListLaws.{item-some, ids-rise}
use Rattle.record_numbers.specs.Calls.{write_number}
use Rattle.record_numbers.specs.Parsing.{Writable}
use Rattle.record_numbers.specs.RoundTrip.{writable, not-refused}
use Rattle.record_numbers.specs.Reductions.{is_reduction, with_reductions}
use Rattle.record_numbers.specs.ReductionLaws.{Field, same-field, reduction-rule, Reduction, reduction-at, behind-head, rule-reduction}

module _ (picked : ℕ → Bool) (f : ℕ → ℕ) (vs : List ℕ) where
  abbrev new : List ℕ
  new = with_reductions picked f vs

  same_length : length new ≡ length vs
  unfolding with_reductions
  same_length = length-tabulate _ (length vs)

  -- a number that is no reduction of those picked stays, and one that is gets a new reduction
  kept-not : (j : ℕ) → is_reduction picked vs j ≡ false → at new j ≡ at vs j
  unfolding with_reductions
  kept-not j q = elim (dec_lt j (length vs)) [
    | yes l ↦ get_or-tabulate (λ j. cond (is_reduction picked vs j) (f j) (at vs j)) (length vs) j 0 l ∙ rw q
    | no l ↦ get_or-eq_default new 0 (omega (arith, same_length)) ∙ sym (get_or-eq_default vs 0 (omega arith))
  ]

  kept_at : (j : ℕ) → (Reduction picked vs j → ⊥) → at new j ≡ at vs j
  kept_at j h = go (is_reduction picked vs j) refl
    where
      go : (b : Bool) → is_reduction picked vs j ≡ b → at new j ≡ at vs j
      go true q = absurd (h (reduction-at q))
      go false q = kept-not j q

  new-at : ((j : ℕ) → f j ≤ nominated_limit) → (j : ℕ) → is_reduction picked vs j ≡ true → at new j ≤ nominated_limit
  unfolding with_reductions
  new-at h j q = elim (dec_lt j (length vs)) [
    | yes l ↦ rw (get_or-tabulate (λ j. cond (is_reduction picked vs j) (f j) (at vs j)) (length vs) j 0 l, q) (h j)
    | no l ↦ omega (arith, get_or-eq_default new 0 {n = j} (omega (arith, same_length)))
  ]

  -- the head stays; so do the fields of an item that are no reductions, its id among them, and all of an item that is not picked
  pub kept-head : (j : ℕ) → j < length (head (at vs 0)) → at new j ≡ at vs j
  kept-head j l = kept_at j (λ r. omega (arith, behind-head r))

  module _ {i m g : ℕ} (t : Field (at vs 0) vs i m g) where
    pub kept_field : ((r : ℕ) → r < length (list_at (at vs 0) i).reductions → at (list_at (at vs 0) i).reductions r ≡ g → ⊥)
        → at new (item_at (at vs 0) vs i m + g) ≡ at vs (item_at (at vs 0) vs i m + g)
    kept_field h =
        kept_at (item_at (at vs 0) vs i m + g) (λ r.
        let e = same-field (at vs 0) vs t r.there r.place in
        h r.which (rw e.0 r.named) (rw e.0 (sym e.2)))

    pub kept-other : picked (at vs (item_at (at vs 0) vs i m)) ≡ false → at new (item_at (at vs 0) vs i m + g) ≡ at vs (item_at (at vs 0) vs i m + g)
    kept-other h =
        kept_at (item_at (at vs 0) vs i m + g) (λ r.
        let e = same-field (at vs 0) vs t r.there r.place in
        true≢false (sym r.picks ∙ rw (← e.0, ← e.1) h))

  pub kept-id : {i m : ℕ} → i < length (lists (at vs 0)) → m < items_in (at vs 0) vs i → at new (item_at (at vs 0) vs i m) ≡ at vs (item_at (at vs 0) vs i m)
  kept-id {i} {m} l h =
      let k = at vs 0 in
      rw add-zero at (kept_field {i = i} {m = m} {g = 0} (record { list = l; item = h; field = item-some k i l }) (λ r n e. omega (arith, (reduction-rule k i r l n).behind)))

  counts-kept : (i : ℕ) → items_in (at vs 0) new i ≡ items_in (at vs 0) vs i
  counts-kept = counts_same (at vs 0) new vs kept-head

  -- a record that writing accepts, it accepts with new reductions of 0 to 100,000
  module _ (small : (j : ℕ) → f j ≤ nominated_limit) {room : ℕ} (w : Writable vs room) where
    kept-kind : at new 0 ≡ at vs 0
    kept-kind = kept-head 0 (head-kind (at vs 0) w.kind).0

    rules-kept : rules_by new ≡ rules_by vs
    unfolding rules_by
    rules-kept = rw kept-kind (rules-same (at vs 0) new vs kept-head)

    rise-kept : ids_rise new ≡ ids_rise vs
    rise-kept =
        let k = at vs 0 in
        ids-rise k new kept-kind
        ∙ all_same (length (lists k)) (λ i l.
        let w = length (list_at k i).fields in
        rw (fields-same k new vs kept-head i, counts-kept i)
        (rises-same new vs w (place_of k vs i) (items_in k vs i) (λ m h. rw mul_comm (kept-id l h))))
        ∙ sym (ids-rise k vs refl)

    -- a new reduction is permitted
    permits-new : (j : ℕ) → is_reduction picked vs j ≡ true → permits (get_or (rules_by vs) j no_rule) (at new j) ≡ true
    unfolding rules_by
    permits-new j q =
        let r = rule-reduction (reduction-at q) in
        permits-yes (get_or (rules_for (at vs 0) vs) j no_rule) (at new j) (omega (arith, r.0)) (omega (arith, r.1, new-at small j q))

    permits-at : (j : ℕ) → j < length (rules_by vs) → permits (get_or (rules_by vs) j no_rule) (at new j) ≡ true
    unfolding permitted
    permits-at j l = go (is_reduction picked vs j) refl
      where
        go : (b : Bool) → is_reduction picked vs j ≡ b → permits (get_or (rules_by vs) j no_rule) (at new j) ≡ true
        go true q = permits-new j q
        go false q = rw (kept-not j q) (all-at (length (rules_by vs)) (λ i. permits (get_or (rules_by vs) i no_rule) (at vs i)) w.permits j l)

    permitted-new : permitted (rules_by vs) new ≡ true
    unfolding permitted
    permitted-new =
        all_same (length (rules_by vs)) (λ j l. permits-at j l ∙ sym (all-at (length (rules_by vs)) (λ i. permits (get_or (rules_by vs) i no_rule) (at vs i)) w.permits j l)) ∙ w.permits

    kept-writable : Writable new room
    kept-writable = record {
      kind = rw kept-kind w.kind;
      counted = rw rules-kept (same_length ∙ w.counted);
      permits = rw rules-kept permitted-new;
      rise = rise-kept ∙ w.rise;
      fits = rw rules-kept w.fits;
    }

  pub writes : ((j : ℕ) → f j ≤ nominated_limit) → (room : ℕ) → write_number vs room ≡ 0 → write_number new room ≡ 0
  writes small room e = not-refused new room (kept-writable small (writable vs room e))
