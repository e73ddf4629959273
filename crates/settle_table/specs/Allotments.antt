-- An amount a seller, allotted over its registrations: sixteen allotments side by side in five rows of the working table.
use Rattle.std.specs.Prelude.{ℕ, ◌+◌, ◌*◌, ◌/◌, ◌≤◌, ◌<◌, ◌^◌, ◌≡◌, refl, Bool, true, false, List, eqb, length}
use Rattle.std.proofs.Common.{sym, ◌∙◌, arith, mul-zero, lit<, eq-eqb, eqb-true}
use Rattle.std.proofs.Math.Nat.{zero-div}
use Rattle.std.proofs.lemmas.Bool.{eqb-false}
use Rattle.ids.specs.Ids.{at, keyed}
use Rattle.ids.specs.Tests.{and-false, cond-le}
use Rattle.limits.specs.Limits.{registrations, sellers}
use Rattle.settle_table.specs.Places.{amount_in, passed_in, quotient_in, divisions_in, allotment_width, carried_width}
use Rattle.allotment.specs.declared.Allotment.{Allotment}
use Rattle.allotment.specs.Stepper.{Asks, Gives, Before, before-first, share-asks, share-value, share-next, share-skip, divisions-made}
use Rattle.owed.specs.Facts.{Facts}
use Rattle.owed.specs.Divisions.{seller_entry, divisions_of}
use Rattle.owed.specs.Owed.{of_seller, share_of}
use Rattle.year_cells.specs.Rows.{Off}
use Rattle.settle_table.specs.Rows.{Stored, Aside, aside-of, Row, none}

-- seller s's allotment, in the rows from p on
abbrev pub stepper : ℕ → List ℕ → ℕ → Allotment
stepper p w s =
    record { amount = at w (p + amount_in + s); total = at w (p + s); passed = at w (p + passed_in + s); quotient = at w (p + quotient_in + s); divisions = at w (p + divisions_in + s) }

-- one share of seller s: what it gives, and that nothing else changes
pub record Shared (p s weight : ℕ) (w v : List ℕ) (r : ℕ) : Type 0 where
  pub long : length v ≡ length w
  pub others : (k : ℕ) → (k ≡ p + passed_in + s → ⊥) → (k ≡ p + quotient_in + s → ⊥) → (k ≡ p + divisions_in + s → ⊥) → at v k ≡ at w k
  pub gives : Gives (stepper p w s) weight (record { value = r; next = stepper p v s })

pub shared-aside : {p s weight r : ℕ} {w v : List ℕ} → s < sellers → Shared p s weight w v r → Aside (p + passed_in) carried_width w v
shared-aside l g =
    record { long = g.long; outside = λ k o. g.others k (λ e. o (omega arith) (omega arith)) (λ e. o (omega arith) (omega arith)) (λ e. o (omega arith) (omega arith)) }

-- each seller's amount, before share i
pub record SellerAllotments (F : Facts) (listed : ℕ → Bool) (weight amount : ℕ → ℕ) (p i : ℕ) (w : List ℕ) : Type 0 where
  pub before : (s : ℕ) → s < sellers → Before registrations (seller_entry F listed s) (keyed F.seller weight s) (amount s) i (stepper p w s)

-- weights summed up, amounts, and nothing passed
pub allotments-first : {F : Facts} {listed : ℕ → Bool} {weight amount : ℕ → ℕ} {p : ℕ} {w : List ℕ} → Row w p sellers (λ s. of_seller F s weight) → Row w (p + amount_in) sellers amount → Row w (p + passed_in) carried_width none → SellerAllotments F listed weight amount p 0 w
unfolding of_seller
allotments-first {amount = amount} {p} {w} t a z =
    record { before = λ s l. before-first {b = amount s} refl (t.is s l) (record { amount = a.is s l; total = refl; passed = z.is s (omega arith); quotient = last s l; divisions = made s l }) }
  where
    last : (s : ℕ) → s < sellers → at w (p + quotient_in + s) ≡ amount s * 0 / at w (p + s)
    last s l =
        let q : p + passed_in + (sellers + s) ≡ p + quotient_in + s = omega arith in
        rw q at (z.is (sellers + s) (omega arith)) ∙ sym (rw (mul-zero (amount s)) (zero-div (at w (p + s))))

    made : (s : ℕ) → s < sellers → at w (p + divisions_in + s) ≡ 0
    made s l =
        let q : p + passed_in + (sellers + sellers + s) ≡ p + divisions_in + s = omega arith in
        rw q at (z.is (sellers + sellers + s) (omega arith))

module _ {F : Facts} {listed : ℕ → Bool} {weight amount : ℕ → ℕ} {p i : ℕ} {w : List ℕ} (h : SellerAllotments F listed weight amount p i w) where
  -- what is stored elsewhere
  pub allotments-aside : {q m : ℕ} {v : List ℕ} → Aside q m w v → ((k : ℕ) → p ≤ k → k < p + allotment_width → Off q m k) → SellerAllotments F listed weight amount p i v
  allotments-aside {v = v} a o = record { before = λ s l. rw (same s l) (h.before s l) }
    where
      same : (s : ℕ) → s < sellers → stepper p v s ≡ stepper p w s
      same s l =
          let kept : (k : ℕ) → p ≤ k → k < p + allotment_width → at v k ≡ at w k = λ k x y. a.outside k (o k x y) in
          cc (kept (p + s) (omega arith) (omega arith), kept (p + amount_in + s) (omega arith) (omega arith), kept (p + passed_in + s) (omega arith) (omega arith), kept (p + quotient_in + s) (omega arith) (omega arith), kept (p + divisions_in + s) (omega arith) (omega arith))

  pub allotments-kept : {q x : ℕ} {v : List ℕ} → Stored q x w v → Off p allotment_width q → SellerAllotments F listed weight amount p i v
  allotments-kept s o = allotments-aside (aside-of s) (λ k a b c d. o (omega arith) (omega arith))

  -- past the last registration, each seller's divisions
  pub allotments-all : i ≡ registrations → Row w (p + divisions_in) sellers (divisions_of F listed weight)
  unfolding divisions_of of_seller
  allotments-all q = record { is = λ s l. divisions-made (h.before s l) q }

  -- a registration that is not listed, and has no weight
  pub allotments-none : listed i ≡ false → weight i ≡ 0 → SellerAllotments F listed weight amount p (i + 1) w
  allotments-none off z =
      record { before = λ s l. share-skip (h.before s l) (and-false (eqb (F.seller i) s) (listed i) off) (omega (arith, cond-le (eqb (F.seller i) s) {x = weight i} {b = 0} (omega arith))) }

  module _ {x : ℕ} (l : F.seller i < sellers) (e : x ≡ weight i) where
    own : x ≡ keyed F.seller weight (F.seller i) i
    own = rw (eq-eqb (F.seller i) (F.seller i) refl) e

    pub allotments-asks : i < registrations → amount (F.seller i) * of_seller F (F.seller i) weight < 2 ^ 64 → Asks (stepper p w (F.seller i)) x
    unfolding of_seller
    allotments-asks m f = share-asks (h.before (F.seller i) l) m (lit< tt) own f

    module _ {v : List ℕ} {r : ℕ} (g : Shared p (F.seller i) x w v r) where
      pub allotments-value : r ≡ share_of F weight amount i
      unfolding share_of
      allotments-value = share-value (h.before (F.seller i) l) own g.gives

      pub allotments-more : listed i ≡ true → SellerAllotments F listed weight amount p (i + 1) v
      allotments-more on = record { before = λ s m. go s m (eqb (F.seller i) s) refl }
        where
          go : (s : ℕ) → s < sellers → (b : Bool) → eqb (F.seller i) s ≡ b → Before registrations (seller_entry F listed s) (keyed F.seller weight s) (amount s) (i + 1) (stepper p v s)
          go s m true q = let z = eqb-true (F.seller i) s q in rw (← z) (share-next (h.before (F.seller i) l) own (rw (eq-eqb (F.seller i) (F.seller i) refl) on) g.gives)
          go s m false q =
              let o = eqb-false (F.seller i) s q in
              let kept : stepper p v s ≡ stepper p w s = cc (g.others (p + s) (λ a. omega arith) (λ a. omega arith) (λ a. omega arith), g.others (p + amount_in + s) (λ a. omega arith) (λ a. omega arith) (λ a. omega arith), g.others (p + passed_in + s) (λ a. o (omega arith)) (λ a. omega arith) (λ a. omega arith), g.others (p + quotient_in + s) (λ a. omega arith) (λ a. o (omega arith)) (λ a. omega arith), g.others (p + divisions_in + s) (λ a. omega arith) (λ a. omega arith) (λ a. o (omega arith))) in
              rw kept (share-skip (h.before s m) (rw q) (rw q))
