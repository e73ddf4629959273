-- Laws of the walk: a file by its first record, and that no record is left out.
use Rattle.std.specs.Prelude.{ℕ, zero, suc, ◌≤◌, ◌<◌, Bool, ◌&&◌, List, [], ◌∷◌, length, drop}
use Rattle.std.proofs.Math.Bool.{true, false, cond}
use Rattle.std.proofs.Math.Path.{◌≡◌, refl}
use Rattle.std.proofs.Common.{ap, arith, length-drop}
use Rattle.bits.specs.TableLaws.{total-in}
use Rattle.record_layouts.specs.Layout.{head, widths, size_of}
use Rattle.record_layouts.specs.LayoutLaws.{length-widths, rules-long}
use Rattle.record_layouts.specs.Questions.{first_failed, kind_of, head_numbers, rules_of, is_kind, is_whole, record_questions, record_number, consumed}
use Rattle.record_layouts.specs.QuestionLaws.{head-kind}
use Rattle.record_file.specs.Walk.{ends, records_to, records_in}

-- a record that does not end the file takes a byte at least: every kind's head begins with four bits
module _ (file : List ℕ) where
  size-some : is_kind (kind_of file) ≡ true → 1 ≤ size_of (rules_of file)
  unfolding rules_of
  size-some e =
      let k = kind_of file in
      let h = head-kind k e in
      omega (arith, rules-long k (head_numbers file), total-in (widths (head k)) 0 (omega (arith, length-widths (head k))))

  consumed-some : ends (record_number file) ≡ false → 1 ≤ consumed file
  unfolding record_questions record_number first_failed consumed
  consumed-some e = go (is_kind (kind_of file)) size-some (is_whole file) _ e
    where
      go : (kind : Bool) → (kind ≡ true → 1 ≤ size_of (rules_of file)) → (whole : Bool) (n : ℕ) → ends (cond kind (cond whole n 2) 1) ≡ false
          → 1 ≤ cond (kind && whole) (size_of (rules_of file)) 0
      go true some true n e = some refl
      go true some false n e = absurd (let z : ◌≡◌ {A = ℕ} 0 1 = cc in omega arith)
      go false some whole n e = absurd (let z : ◌≡◌ {A = ℕ} 0 1 = cc in omega arith)

pub records-none : (n : ℕ) (file : List ℕ) → length file ≡ 0 → records_to n file ≡ []
unfolding records_to
records-none zero file e = refl
records-none (suc n) [] e = refl
records-none (suc n) (b ∷ bs) e = absurd (omega arith)

pub records-first : (n : ℕ) (file : List ℕ) → 0 < length file
    → records_to (suc n) file ≡ file ∷ cond (ends (record_number file)) [] (records_to n (drop (consumed file) file))
unfolding records_to
records-first n [] l = absurd (omega arith)
records-first n (b ∷ bs) l = refl

-- so as many turns as there are bytes are enough
unless : (b : Bool) {x z : List (List ℕ)} → (b ≡ false → x ≡ z) → cond b [] x ≡ cond b [] z
unless true h = refl
unless false h = h refl

less : (b : ℕ) (bs : List ℕ) → ends (record_number (b ∷ bs)) ≡ false → length (drop (consumed (b ∷ bs)) (b ∷ bs)) ≤ length bs
less b bs e = omega (arith, length-drop (consumed (b ∷ bs)) (b ∷ bs), consumed-some (b ∷ bs) e)

enough : (n m : ℕ) (file : List ℕ) → length file ≤ n → length file ≤ m → records_to n file ≡ records_to m file
unfolding records_to
enough zero m [] l k = rw (records-none m [] refl)
enough (suc n) m [] l k = rw (records-none m [] refl)
enough zero m (b ∷ bs) l k = absurd (omega arith)
enough (suc n) zero (b ∷ bs) l k = absurd (omega arith)
enough (suc n) (suc m) (b ∷ bs) l k =
    let file = b ∷ bs in
    ap (λ (rs : List (List ℕ)). file ∷ rs)
    (unless (ends (record_number file)) (λ e. enough n m (drop (consumed file) file) (omega (arith, less b bs e)) (omega (arith, less b bs e))))

-- a file's records: its first, and those of the bytes behind it unless it ends the file
pub records-in : (file : List ℕ) → 0 < length file
    → records_in file ≡ file ∷ cond (ends (record_number file)) [] (records_in (drop (consumed file) file))
unfolding records_to
records-in [] l = absurd (omega arith)
records-in (b ∷ bs) l =
    let file = b ∷ bs in
    let rest = drop (consumed file) file in
    ap (λ (rs : List (List ℕ)). file ∷ rs)
    (unless (ends (record_number file)) (λ e. enough (length bs) (length rest) rest (less b bs e) (omega arith)))
