-- An allotment share by share: what the state carries, what a share asks and gives, and how that is the share by place, with the divisions of an allotment.
use Rattle.std.specs.Prelude.{ℕ, ◌+◌, ◌*◌, ◌-◌, ◌/◌, ◌^◌, ◌≤◌, ◌<◌, Bool, true, false, cond, ◌≡◌}
use Rattle.std.proofs.Common.{◌∙◌, arith, add-zero}
use Rattle.ids.specs.Ids.{sum_to, count_to}
use Rattle.ids.specs.Sums.{sum_step, sum_mono, count_most}
use Rattle.allotment.specs.Allot.{share}
use Rattle.allotment.specs.Divisions.{divisions, divisions-step, divisions-le}
use Rattle.allotment.specs.declared.Allotment.{Allotment}
use Rattle.allotment.specs.declared.Share.{Share}

-- a is allotted by weights of sum W, of which weights of sum S are passed, after d divisions
pub record Carried (a W S d : ℕ) (s : Allotment) : Type 0 where
  pub amount : s.amount ≡ a
  pub total : s.total ≡ W
  pub passed : s.passed ≡ S
  pub quotient : s.quotient ≡ a * S / W
  pub divisions : s.divisions ≡ d

-- a share asks that the quotient is carried, that the weight is one of those that add up to the total, and for room to count
pub record Asks (s : Allotment) (weight : ℕ) : Type 0 where
  pub carried : s.quotient ≡ s.amount * s.passed / s.total
  pub within : s.passed + weight ≤ s.total
  pub fits : s.amount * s.total < 2 ^ 64
  pub counted : s.divisions + 1 < 2 ^ 64

pub record Gives (s : Allotment) (weight : ℕ) (r : Share) : Type 0 where
  pub value : r.value ≡ s.amount * (s.passed + weight) / s.total - s.amount * s.passed / s.total
  pub next : Carried s.amount s.total (s.passed + weight) (s.divisions + divisions 1 s.total) r.next

-- s stands before share i of the allotment of a by the n weights w, to the parties among these n
pub record Before (n : ℕ) (party : ℕ → Bool) (w : ℕ → ℕ) (a i : ℕ) (s : Allotment) : Type 0 where
  pub carried : Carried a (sum_to n w) (sum_to i w) (divisions (count_to i party) (sum_to n w)) s

pub before-first : {n : ℕ} {party : ℕ → Bool} {w : ℕ → ℕ} {a b W : ℕ} {s : Allotment} → b ≡ a → W ≡ sum_to n w → Carried b W 0 0 s → Before n party w a 0 s
unfolding sum_to
before-first {n} {w = w} e f c =
    let none : divisions 0 (sum_to n w) ≡ 0 = omega (arith, divisions-le 0 (sum_to n w)) in record { carried = rw none (rw (e, f) at c) }

-- x is what a caller has for w i
module _ {n : ℕ} {party : ℕ → Bool} {w : ℕ → ℕ} {a i : ℕ} {s : Allotment} (b : Before n party w a i s) where
  pub share-asks : {x : ℕ} → i < n → n < 2 ^ 64 → x ≡ w i → a * sum_to n w < 2 ^ 64 → Asks s x
  share-asks {x} l m e f = let k = b.carried in record {
    carried = rw (k.amount, k.total, k.passed) k.quotient;
    within = rw (k.total, k.passed, e, ← (sum_step i w)) (sum_mono w (omega arith));
    fits = rw (k.amount, k.total) f;
    counted = omega (arith, k.divisions, divisions-le (count_to i party) (sum_to n w), count_most i party);
  }

  pub share-value : {x : ℕ} {r : Share} → x ≡ w i → Gives s x r → r.value ≡ share n w a i
  unfolding share sum_to
  share-value e g = let k = b.carried in g.value ∙ rw (k.amount, k.total, k.passed, e)

  -- a party's share is one division more
  pub share-next : {x : ℕ} {r : Share} → x ≡ w i → party i ≡ true → Gives s x r → Before n party w a (i + 1) r.next
  share-next e p g =
      let k = b.carried in
      record { carried = rw (sum_step i w, sum_step i (λ j. cond (party j) 1 0), p, divisions-step (count_to i party) (sum_to n w), ← e) (rw (k.amount, k.total, k.passed, k.divisions) at g.next) }

  -- an id that is no party has no weight: no share is made for it
  pub share-skip : party i ≡ false → w i ≡ 0 → Before n party w a (i + 1) s
  share-skip p e =
      record { carried = rw (sum_step i w, sum_step i (λ j. cond (party j) 1 0), p, e, add-zero (sum_to i w), add-zero (count_to i party)) b.carried }

  -- past the last: one division for each party, and none where all weights together are 0
  pub divisions-made : i ≡ n → s.divisions ≡ divisions (count_to n party) (sum_to n w)
  divisions-made q = rw q at b.carried.divisions
