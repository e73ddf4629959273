-- Laws of lines: how a number's digits go on and how many they are, and numbers and bytes one after another.
use Rattle.std.specs.Prelude.{◌≡◌, refl, Bool, true, false, cond, List, [], ◌∷◌, ◌++◌, ℕ, zero, suc, ◌+◌, ◌/◌, ◌%◌, ◌^◌, ◌≤◌, ◌<◌, length, get_or, take, drop, ltb}
use Rattle.std.proofs.Common.{sym, ap, ◌∙◌, append_assoc, append-nil, pow-suc, add-one, arith, length-append, take-suc, lt-ltb, le-ltb}
use Rattle.text.specs.Lines.{digits_to, decimal, word, each, numbers_line, hex_of, hexadecimal}

-- one more digit at most changes nothing where the number has no more
digits_more : (m n : ℕ) → n < 10 ^ suc m → digits_to (suc m) n ≡ digits_to (suc (suc m)) n
unfolding digits_to
digits_more zero n h = rw (lt-ltb n 10 h)
digits_more (suc m) n h =
    let e = rw (pow-suc 10 (suc m)) at h in
    ap (λ t. cond (ltb n 10) [] t ++ ((48 + n % 10) ∷ [])) (digits_more m (n / 10) (omega arith))

-- a number below 10 is one digit
pub decimal-one : (n : ℕ) → n < 10 → decimal n ≡ (48 + n) ∷ []
unfolding decimal digits_to
decimal-one n h =
    let e : n % 10 ≡ n = omega arith in
    rw (lt-ltb n 10 h, e)

-- any other is the digits of its tenth, and then its last digit
digits_step : (m n : ℕ) → 10 ≤ n → digits_to (suc m) n ≡ digits_to m (n / 10) ++ ((48 + n % 10) ∷ [])
unfolding digits_to
digits_step m n h = rw (le-ltb n 10 h)

pub decimal-more : (n : ℕ) → 10 ≤ n → n < 2 ^ 64 → decimal n ≡ decimal (n / 10) ++ ((48 + n % 10) ∷ [])
unfolding decimal
decimal-more n h small = digits_step 19 n h ∙ rw (digits_more 18 (n / 10) (omega arith))

-- a number has at most 20 digits
cond-length : (b : Bool) (t : List ℕ) (m : ℕ) → length t ≤ m → length (cond b [] t) ≤ m
cond-length true t m h = omega arith
cond-length false t m h = h

digits-length : (m n : ℕ) → length (digits_to m n) ≤ m
unfolding digits_to
digits-length zero n = omega arith
digits-length (suc m) n =
    let h = cond-length (ltb n 10) (digits_to m (n / 10)) m (digits-length m (n / 10)) in
    rw length-append (omega arith)

pub decimal-length : (n : ℕ) → length (decimal n) ≤ 20
unfolding decimal
decimal-length n = digits-length 20 n

-- one more of the texts of some numbers
each_append : (text : ℕ → List ℕ) (ns : List ℕ) (n : ℕ) → each text (ns ++ (n ∷ [])) ≡ each text ns ++ text n
unfolding each
each_append text [] n = append-nil (text n)
each_append text (m ∷ ns) n = ap (λ (t : List ℕ). text m ++ t) (each_append text ns n) ∙ sym (append_assoc (text m) (each text ns) (text n))

pub each_step : (text : ℕ → List ℕ) (ns : List ℕ) (i : ℕ) → i < length ns → each text (take (i + 1) ns) ≡ each text (take i ns) ++ text (get_or ns i 0)
each_step text ns i l = rw (add-one, take-suc ns i 0 l, each_append text (take i ns) (get_or ns i 0))

-- the numbers' line: no number, or the first, the further ones, and the newline
pub no-numbers : (ns : List ℕ) → length ns ≡ 0 → numbers_line ns ≡ 10 ∷ []
unfolding numbers_line
no-numbers [] h = refl
no-numbers (n ∷ ns) h = absurd (omega arith)

-- bytes in hexadecimal: none, or the digits of each
pub no_bytes : (bs : List ℕ) → length bs ≡ 0 → hexadecimal bs ≡ 45 ∷ []
unfolding hexadecimal
no_bytes [] h = refl
no_bytes (b ∷ bs) h = absurd (omega arith)

pub some_bytes : (bs : List ℕ) → 0 < length bs → hexadecimal bs ≡ each hex_of bs
unfolding hexadecimal
some_bytes [] h = absurd (omega arith)
some_bytes (b ∷ bs) h = refl
