-- Laws of tables of fields: two tables in a row, one more field read, and what the fields depend on.
use Rattle.std.specs.Prelude.{◌≡◌, refl, List, [], ◌∷◌, ◌++◌, Bool, true, false, ◌&&◌, ℕ, zero, suc, ◌+◌, ◌*◌, ◌^◌, ◌≤◌, ◌<◌, T, leb, length, get_or, take, drop, set}
use Rattle.std.proofs.Common.{sym, ap, ◌∙◌, append_assoc, append-nil, add-zero, add_assoc, add-one, arith, leb→le, length-append, length-drop, take-append-drop, take-suc, take_at, drop-cons, drop-drop, length-take-le}
use Rattle.std.proofs.Math.Seq.{drop-append-add}
use Rattle.std.proofs.lemmas.List.{set_at}
use Rattle.std.proofs.Math.Facts.{and_yes}
use Rattle.bits.specs.Bits.{field_at}
use Rattle.bits.specs.BitLaws.{Agree, agree-join, agree-field, agree-take, field_lt, field-bits}
use Rattle.bits.specs.Table.{total, fields_at, laid, Valid, narrow}

pub total-append : (ws vs : List ℕ) → total (ws ++ vs) ≡ total ws + total vs
total-append [] vs = omega arith
total-append (w ∷ ws) vs = rw (total-append ws vs, add_assoc)

pub fields-append : (xs : List ℕ) (p : ℕ) (ws vs : List ℕ) → fields_at xs p (ws ++ vs) ≡ fields_at xs p ws ++ fields_at xs (p + total ws) vs
fields-append xs p [] vs = rw add-zero
fields-append xs p (w ∷ ws) vs = rw (fields-append xs (p + w) ws vs, add_assoc)

pub length_fields : (xs : List ℕ) (p : ℕ) (ws : List ℕ) → length (fields_at xs p ws) ≡ length ws
length_fields xs p [] = refl
length_fields xs p (w ∷ ws) = ap suc (length_fields xs (p + w) ws)

-- the field at index i of the table
pub fields-at : (xs : List ℕ) (p : ℕ) (ws : List ℕ) (i : ℕ) → i < length ws → get_or (fields_at xs p ws) i 0 ≡ field_at xs (p + total (take i ws)) (get_or ws i 0)
fields-at xs p [] i h = absurd (omega arith)
fields-at xs p (w ∷ ws) zero h = rw add-zero
fields-at xs p (w ∷ ws) (suc i) h = fields-at xs (p + w) ws i (omega arith) ∙ rw add_assoc

-- what was read is valid
pub fields-valid : (xs : List ℕ) (p : ℕ) (ws : List ℕ) → Valid ws (fields_at xs p ws)
fields-valid xs p [] = tt
fields-valid xs p (w ∷ ws) = (field_lt xs p w, fields-valid xs (p + w) ws)

pub valid-in : (ws vs : List ℕ) (i : ℕ) → Valid ws vs → i < length ws → i < length vs → get_or vs i 0 < 2 ^ get_or ws i 0
valid-in [] vs i a h k = absurd (omega arith)
valid-in (w ∷ ws) [] i a h k = absurd (omega arith)
valid-in (w ∷ ws) (v ∷ vs) zero a h k = a.0
valid-in (w ∷ ws) (v ∷ vs) (suc i) a h k = valid-in ws vs i a.1 (omega arith) (omega arith)

-- values of two tables in a row are valid for each
pub valid-split : (ws us vs ts : List ℕ) → length vs ≡ length ws → Valid (ws ++ us) (vs ++ ts) → Valid ws vs × Valid us ts
valid-split [] us [] ts e a = (tt, a)
valid-split [] us (v ∷ vs) ts e a = absurd (omega arith)
valid-split (w ∷ ws) us [] ts e a = absurd (omega arith)
valid-split (w ∷ ws) us (v ∷ vs) ts e a =
    let r = valid-split ws us vs ts (omega arith) a.1 in
    ((a.0, r.0), r.1)

pub valid-join : (ws us vs ts : List ℕ) → length vs ≡ length ws → Valid ws vs → Valid us ts → Valid (ws ++ us) (vs ++ ts)
valid-join [] us [] ts e a b = b
valid-join [] us (v ∷ vs) ts e a b = absurd (omega arith)
valid-join (w ∷ ws) us [] ts e a b = absurd (omega arith)
valid-join (w ∷ ws) us (v ∷ vs) ts e a b = (a.0, valid-join ws us vs ts (omega arith) a.1 b)

-- a width of the table is from 1 to 42
pub width-in : (ws : List ℕ) (i : ℕ) → T (narrow ws) → i < length ws → (1 ≤ get_or ws i 0) × (get_or ws i 0 ≤ 42)
width-in [] i t h = absurd (omega arith)
width-in (w ∷ ws) zero t h =
    let a = and_yes (leb 1 w) (leb w 42) (and_yes (leb 1 w && leb w 42) (narrow ws) t).0 in
    (leb→le 1 w a.0, leb→le w 42 a.1)
width-in (w ∷ ws) (suc i) t h = width-in ws i (and_yes (leb 1 w && leb w 42) (narrow ws) t).1 (omega arith)

both_yes : (a b : Bool) → T a → T b → T (a && b)
both_yes true b t u = u
both_yes false b t u = absurd t

pub narrow-split : (ws us : List ℕ) → T (narrow (ws ++ us)) → T (narrow ws) × T (narrow us)
narrow-split [] us t = (tt, t)
narrow-split (w ∷ ws) us t =
    let a = and_yes (leb 1 w && leb w 42) (narrow (ws ++ us)) t in
    let r = narrow-split ws us a.1 in
    (both_yes (leb 1 w && leb w 42) (narrow ws) a.0 r.0, r.1)

-- the field at index i ends within the table's bits
pub total-in : (ws : List ℕ) (i : ℕ) → i < length ws → total (take i ws) + get_or ws i 0 ≤ total ws
total-in [] i h = absurd (omega arith)
total-in (w ∷ ws) zero h = omega arith
total-in (w ∷ ws) (suc i) h = omega (arith, total-in ws i (omega arith))

-- a table of which some bits are left has a field left, and one of which none are has none
pub fields-left : (ws : List ℕ) (i : ℕ) → i ≤ length ws → (total (take i ws) ≡ total ws → ⊥) → i < length ws
fields-left [] zero l h = absurd (h refl)
fields-left [] (suc i) l h = absurd (omega arith)
fields-left (w ∷ ws) zero l h = omega arith
fields-left (w ∷ ws) (suc i) l h = omega (arith, fields-left ws i (omega arith) (λ e. h (rw e)))

pub no-field-left : (ws : List ℕ) (i : ℕ) → T (narrow ws) → i ≤ length ws → total (take i ws) ≡ total ws → i ≡ length ws
no-field-left [] i t l e = omega arith
no-field-left (w ∷ ws) zero t l e = absurd (omega (arith, width-in (w ∷ ws) zero t (omega arith)))
no-field-left (w ∷ ws) (suc i) t l e = ap suc (no-field-left ws i (and_yes (leb 1 w && leb w 42) (narrow ws) t).1 (omega arith) (omega arith))

-- one more width
pub total-more : (ws : List ℕ) (i : ℕ) → i < length ws → total (take (i + 1) ws) ≡ total (take i ws) + get_or ws i 0
total-more ws i h = rw (add-one, take-suc ws i 0, total-append) (omega arith)

-- one more field
pub fields-more : (xs : List ℕ) (p : ℕ) (ws : List ℕ) (i : ℕ) → i < length ws
    → fields_at xs p (take (i + 1) ws) ≡ fields_at xs p (take i ws) ++ (field_at xs (p + total (take i ws)) (get_or ws i 0) ∷ [])
fields-more xs p ws i h = rw (add-one, take-suc ws i 0, fields-append)

-- values laid over a list: none, one more, and more behind them
pub laid_none : (to : ℕ) (old : List ℕ) → old ≡ laid to [] old
laid_none to old = rw (append-nil (take to old), add-zero to) (sym (take-append-drop to old))

module _ (to : ℕ) (vs old : List ℕ) where
  length_front : to + length vs ≤ length old → length (take to old ++ vs) ≡ to + length vs
  length_front h = omega (arith, length-append (take to old) vs, length-take-le to old (omega arith))

  pub length-laid : to + length vs ≤ length old → length (laid to vs old) ≡ length old
  length-laid h = omega (arith, length-append (take to old ++ vs) (drop (to + length vs) old), length_front h, length-drop (to + length vs) old)

  pub laid_more : (x : ℕ) → to + length vs < length old → set (laid to vs old) (to + length vs) x ≡ laid to (vs ++ (x ∷ [])) old
  laid_more x h =
      let d : drop (to + length vs) old ≡ get_or old (to + length vs) 0 ∷ drop (to + length vs + 1) old = rw add-one (drop-cons old (to + length vs) 0 h) in
      let next : to + length (vs ++ (x ∷ [])) ≡ to + length vs + 1 = omega (arith, length-append vs (x ∷ [])) in
      rw (d, set_at (take to old ++ vs) (get_or old (to + length vs) 0) (drop (to + length vs + 1) old) x (to + length vs) (length_front (omega arith)), next, append_assoc, append_assoc, append_assoc)

  pub laid-again : (us : List ℕ) → to + length vs ≤ length old → laid (to + length vs) us (laid to vs old) ≡ laid to (vs ++ us) old
  laid-again us h =
      let n = length_front h in
      let rest = drop (to + length vs) old in
      let front : take (to + length vs) (laid to vs old) ≡ take to old ++ vs = take_at (take to old ++ vs) rest (to + length vs) n in
      let at : to + length vs + length us ≡ length (take to old ++ vs) + length us = omega arith in
      let end : to + length vs + length us ≡ to + length (vs ++ us) = omega (arith, length-append vs us) in
      let back : drop (to + length vs + length us) (laid to vs old) ≡ drop (to + length (vs ++ us)) old =
      ap (λ (k : ℕ). drop k (laid to vs old)) at ∙ drop-append-add (take to old ++ vs) rest (length us) ∙ drop-drop (length us) (to + length vs) old ∙ ap (λ (k : ℕ). drop k old) end in
      rw (front, back, append_assoc (take to old) vs us)

-- one more field read into out from a place on, whose other elements are as in old
pub out-more : (xs : List ℕ) (p to : ℕ) (ws out old : List ℕ) (i : ℕ) → i < length ws → to + length ws ≤ length old
    → out ≡ laid to (fields_at xs p (take i ws)) old
    → set out (to + i) (field_at xs (p + total (take i ws)) (get_or ws i 0)) ≡ laid to (fields_at xs p (take (i + 1) ws)) old
out-more xs p to ws out old i h n e =
    let fs = fields_at xs p (take i ws) in
    let x = field_at xs (p + total (take i ws)) (get_or ws i 0) in
    let l : length fs ≡ i = length_fields xs p (take i ws) ∙ length-take-le i ws (omega arith) in
    ap (λ (l : List ℕ). set l (to + i) x) e ∙ ap (λ (k : ℕ). set (laid to fs old) (to + k) x) (sym l) ∙ laid_more to fs old x (omega arith)
    ∙ ap (λ (l : List ℕ). laid to l old) (sym (fields-more xs p ws i h))

-- a table's fields depend on their own bits alone
pub fields-cong : (xs ys : List ℕ) (p : ℕ) (ws : List ℕ) → Agree xs ys p (p + total ws) → fields_at xs p ws ≡ fields_at ys p ws
fields-cong xs ys p [] h = refl
fields-cong xs ys p (w ∷ ws) h =
    let a : field_at xs p w ≡ field_at ys p w = agree-field h p w (omega arith) (omega arith) in
    let b : fields_at xs (p + w) ws ≡ fields_at ys (p + w) ws =
    fields-cong xs ys (p + w) ws (record { same = λ q l m. h.same q (omega arith) (omega arith) }) in
    rw (a, b)

-- and so on the bytes that they lie in
pub fields-take : (xs ys : List ℕ) (n p : ℕ) (ws : List ℕ) → take n xs ≡ take n ys → p + total ws ≤ 8 * n → fields_at xs p ws ≡ fields_at ys p ws
fields-take xs ys n p ws e l =
    let a : Agree xs ys 0 (8 * n) = agree-take xs ys n e in
    fields-cong xs ys p ws (record { same = λ q k h. a.same q (omega arith) (omega arith) })

-- lists of bytes whose fields are the same have the same bits there
pub fields-agree : (xs ys : List ℕ) (p : ℕ) (ws : List ℕ) → fields_at xs p ws ≡ fields_at ys p ws → Agree xs ys p (p + total ws)
fields-agree xs ys p [] e = record { same = λ q l h. absurd (omega arith) }
fields-agree xs ys p (w ∷ ws) e =
    let a : field_at xs p w ≡ field_at ys p w = cc in
    let b : fields_at xs (p + w) ws ≡ fields_at ys (p + w) ws = cc in
    rw (← add_assoc p w (total ws)) (agree-join (field-bits xs ys p w a) (fields-agree xs ys (p + w) ws b))
