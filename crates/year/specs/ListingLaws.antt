-- An entry, a second reduction or a deficit within its limits keeps a listing sound, and so it is without second reductions.
use Rattle.std.specs.Prelude.{ℕ, ◌≤◌, ◌<◌, ◌≡◌, refl, true, false}
use Rattle.std.proofs.Common.{sym, ◌∙◌, arith, lit≤, length-set, get_or-set_same, get_or-set_other}
use Rattle.std.proofs.Math.Decide.{ℕ_discrete}
use Rattle.ids.specs.Ids.{at, holds}
use Rattle.ids.specs.Each.{each_set, each-replicate}
use Rattle.limits.specs.Limits.{registrations, nominated_limit, obligation_limit}
use Rattle.year.specs.declared.Listing.{Listing}
use Rattle.year.specs.Year.{listed}
use Rattle.year.specs.Sound.{AtMost, SoundListing}
use Rattle.year.specs.Listing.{with_entry, with_second, with_deficit, single}

-- without second reductions the same registrations are listed
pub single-listed : (l : Listing) (i : ℕ) → listed (single l) i ≡ listed l i
unfolding listed
single-listed l i = refl

module _ {l : Listing} (s : SoundListing l) where
  -- where nothing is listed there is no reduction
  unlisted : (e kw i : ℕ) → i < registrations → holds (with_entry l e kw).listed i ≡ false → at (with_entry l e kw).reductions i ≡ 0
  unlisted e kw i m n = elim (ℕ_discrete i e) [
    | yes q ↦
        let t = get_or-set_same l.listed i true false (omega (arith, s.listed)) in
        absurd (let z : ◌≡◌ {A = ℕ} 0 1 = cc in omega arith)
    | no q ↦
        get_or-set_other l.reductions e i kw 0 q ∙ s.unlisted i m (sym (get_or-set_other l.listed e i true false q) ∙ n)
  ]

  pub sound-entry : (e kw : ℕ) → kw ≤ nominated_limit → SoundListing (with_entry l e kw)
  sound-entry e kw h =
      record { listed = length-set l.listed e true ∙ s.listed; reductions = each_set (AtMost nominated_limit) 0 s.reductions e h; second = s.second; deficits = s.deficits; unlisted = unlisted e kw }

  pub sound-second : (e kw : ℕ) → kw ≤ nominated_limit → SoundListing (with_second l e kw)
  sound-second e kw h =
      record { listed = s.listed; reductions = s.reductions; second = each_set (AtMost nominated_limit) 0 s.second e h; deficits = s.deficits; unlisted = s.unlisted }

  pub sound-deficit : (d kw : ℕ) → kw ≤ obligation_limit → SoundListing (with_deficit l d kw)
  sound-deficit d kw h =
      record { listed = s.listed; reductions = s.reductions; second = s.second; deficits = each_set (AtMost obligation_limit) 0 s.deficits d h; unlisted = s.unlisted }

  pub sound-single : SoundListing (single l)
  sound-single =
      record { listed = s.listed; reductions = s.reductions; second = each-replicate (AtMost nominated_limit) 0 registrations (lit≤ tt); deficits = s.deficits; unlisted = s.unlisted }
