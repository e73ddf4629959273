-- A text put into a buffer from a place on, and how two such steps are one.
use Rattle.std.specs.Prelude.{◌≡◌, refl, List, [], ◌∷◌, ◌++◌, ℕ, ◌+◌, ◌≤◌, ◌<◌, length, take, drop, set}
use Rattle.std.proofs.Common.{ap, ◌∙◌, append_assoc, add-zero, add-one, arith, length-append, length-drop, take-append-drop, length-take-le, take_at, drop-drop}
use Rattle.std.proofs.Math.Seq.{drop-append-add}
use Rattle.std.proofs.lemmas.List.{set_split}

-- new is old with the text from place at on, within it; the next place is end
pub record Pasted (old new : List ℕ) (at : ℕ) (text : List ℕ) (end : ℕ) : Type 0 where
  pub bytes : new ≡ take at old ++ (text ++ drop (at + length text) old)
  pub next : end ≡ at + length text
  pub within : end ≤ length old

pub pasted_length : {old new : List ℕ} {at : ℕ} {text : List ℕ} {end : ℕ} → Pasted old new at text end → length new ≡ length old
pasted_length {old} {new} {at} {text} {end} p =
    let n = p.next in
    let w = p.within in
    let t = length-take-le at old (omega arith) in
    ap length p.bytes ∙ simp (length-append, length-drop) (omega arith)

pub none : (old : List ℕ) (at : ℕ) → at ≤ length old → Pasted old old at [] at
none old at h = record { bytes = rw (add-zero, take-append-drop); next = rw add-zero; within = h }

pub one : (old : List ℕ) (at byte : ℕ) → at < length old → Pasted old (set old at byte) at (byte ∷ []) (at + 1)
one old at byte h = record { bytes = rw (add-one, set_split); next = refl; within = omega arith }

-- a text and then another are the two joined
pub then : {old mid new : List ℕ} {at p end : ℕ} {a b : List ℕ} → Pasted old mid at a p → Pasted mid new p b end → Pasted old new at (a ++ b) end
then {old} {mid} {new} {at} {p} {end} {a} {b} f g =
    let fn = f.next in
    let fw = f.within in
    let gn = g.next in
    let gw = g.within in
    let same = pasted_length f in
    let head = take at old ++ a in
    let tail = drop (at + length a) old in
    let joined : mid ≡ head ++ tail = f.bytes ∙ simp append_assoc in
    let long : length head ≡ p = length-append (take at old) a ∙ rw (length-take-le at old (omega arith)) (omega arith) in
    let front : take p mid ≡ head = rw joined (take_at head tail p long) in
    let rest : drop (p + length b) mid ≡ drop (at + length a + length b) old =
    rw (joined, ← long) (drop-append-add head tail (length b) ∙ drop-drop (length b) (at + length a) old) in
    let sum : at + length (a ++ b) ≡ at + length a + length b = rw length-append (omega arith) in
    record {
      bytes = g.bytes ∙ rw (front, rest, sum) (simp append_assoc);
      next = omega arith;
      within = omega arith;
    }
