-- Laws of the bill: what a step prints is its record's text, and windows print what the whole file does.
use Rattle.std.specs.Prelude.{ℕ, ◌+◌, ◌/◌, ◌^◌, ◌≤◌, ◌<◌, Bool, true, false, cond, List, [], ◌++◌, ◌≡◌, refl, length, get_or, take, drop}
use Rattle.std.proofs.Common.{ap, ◌∙◌, arith}
use Rattle.bits.specs.BitLaws.{byte-field, field-mid}
use Rattle.record_layouts.specs.Questions.{kind_of, record_number, consumed}
use Rattle.record_layouts.specs.Layout.{longest_record}
use Rattle.year.specs.declared.Year.{Year}
use Rattle.book_outcome.specs.Outcome.{Posts}
use Rattle.record_file.specs.Walk.{ends, records_in}
use Rattle.record_file.specs.WalkLaws.{records-in}
use Rattle.record_file.specs.Window.{Alike, cut-alike, same_kind, same-consumed}
use Rattle.claim_history.specs.Runs.{Call}
use Rattle.claim_history.specs.Taking.{call_number, buffered, step}
use Rattle.claim_history.specs.Files.{calls_of}
use Rattle.claim_history.proofs.FileLaws.{same_post, same-year, same-buffer, ends-post}
use Rattle.text_bill.specs.Text.{answer_lines}
use Rattle.text.specs.Pasted.{Pasted}
use Rattle.bill_step.specs.Answer.{answer_text, text_of}

-- a record's kind is its first byte's high half
kind-first : (bytes : List ℕ) → get_or bytes 0 0 < 2 ^ 8 → get_or bytes 0 0 / 2 ^ 4 ≡ kind_of bytes
unfolding kind_of
kind-first bytes l = omega (arith, byte-field bytes 0 l, field-mid bytes 0 0 4 4)

pub printed : (position : ℕ) {y next : Year} {bytes before after old new : List ℕ} {number used written at end : ℕ}
    → get_or bytes 0 0 < 2 ^ 8 → Posts y bytes before number used written next after
    → Pasted old new at (answer_lines position (get_or bytes 0 0 / 2 ^ 4) number after) end
    → Pasted old new at (answer_text position y (record { bytes = bytes; buffer = before })) end
unfolding answer_text buffered
printed position {bytes = bytes} l p t = rw (← kind-first bytes l, ← p.numbers, ← p.leaves) t

-- the text of a file by its first record: that record's, and the text of the bytes behind it unless it ends the file
unless : (b : Bool) (position : ℕ) (y : Year) (records : List (List ℕ)) (buffer : List ℕ)
    → text_of position y (calls_of buffered y (cond b [] records) buffer) ≡ cond b [] (text_of position y (calls_of buffered y records buffer))
unfolding text_of calls_of
unless true position y records buffer = refl
unless false position y records buffer = refl

whole-first : (position : ℕ) (y : Year) (c : Call) → 0 < length c.bytes
    → text_of position y (calls_of buffered y (records_in c.bytes) c.buffer)
    ≡ answer_text position y c
    ++ cond (ends (record_number c.bytes)) [] (text_of (position + 1) (step y c) (calls_of buffered (step y c) (records_in (drop (consumed c.bytes) c.bytes)) (buffered y c)))
unfolding text_of calls_of
whole-first position y c l =
    let later = records_in (drop (consumed c.bytes) c.bytes) in
    ap (λ (rs : List (List ℕ)). text_of position y (calls_of buffered y rs c.buffer)) (records-in c.bytes l)
    ∙ ap (λ (t : List ℕ). answer_text position y c ++ t) (unless (ends (record_number c.bytes)) (position + 1) (step y c) later (buffered y c))

-- and so by what a step on a window of it answers: the bytes at hand, as many as the longest record has, or all
module _ (position : ℕ) (y : Year) (rest buffer : List ℕ) (n : ℕ) (enough : longest_record ≤ n) where
  abbrev call : Call
  call = record { bytes = take n rest; buffer = buffer }

  abbrev full : Call
  full = record { bytes = rest; buffer = buffer }

  alike : Alike (take n rest) rest
  alike = cut-alike n rest enough

  same_answer : answer_text position y call ≡ answer_text position y full
  unfolding answer_text buffered
  same_answer = rw (same_kind alike, same_post alike y (length buffer), same-buffer alike y buffer)

  same_step : step y call ≡ step y full
  unfolding step
  same_step = same-year alike y (length buffer)

  same-buffered : buffered y call ≡ buffered y full
  unfolding buffered
  same-buffered = same-buffer alike y buffer

  same_end : ends (call_number y call) ≡ ends (record_number rest)
  same_end = ap ends (same_post alike y (length buffer)) ∙ ends-post y rest (length buffer)

  pub text-first : 0 < length rest
      → text_of position y (calls_of buffered y (records_in rest) buffer)
      ≡ answer_text position y call
      ++ cond (ends (call_number y call)) [] (text_of (position + 1) (step y call) (calls_of buffered (step y call) (records_in (drop (consumed (take n rest)) rest)) (buffered y call)))
  text-first l = rw (same_answer, same_end, same_step, same-buffered, same-consumed alike) (whole-first position y full l)
