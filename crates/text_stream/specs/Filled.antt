-- A window of a lent buffer: filled, with a line at its start, and behind a record.
use Rattle.std.specs.Prelude.{ℕ, ◌+◌, ◌-◌, ◌≤◌, min, Bool, false, cond, ◌||◌, List, ◌≡◌, length, take, drop}
use Rattle.text_stream.specs.declared.Line.{Line}
use Rattle.text_stream.specs.declared.window.Window.{Window}

-- of a buffer that was old and is new: the window w with at least so many bytes is r
pub record Filled (old new : List ℕ) (w : Window) (least : ℕ) (r : Window) : Type 0 where
  pub within : r.end ≤ length old
  pub enough : r.ended ≡ false → least ≤ r.end - r.start
  pub longer : w.end - w.start ≤ r.end - r.start
  pub kept : take (w.end - w.start) (drop r.start new) ≡ take (w.end - w.start) (drop w.start old)

-- a line that ends in its window, which lies within the buffer, and the window behind it and its newline
abbrev pub LineWithin : List ℕ → Line → Type 0
LineWithin buffer r = (r.start ≤ r.end) × (r.end ≤ r.rest.end) × (r.rest.end ≤ length buffer) × (r.rest.start ≡ min (r.end + 1) r.rest.end)

-- the window w behind a record of so many bytes is r: behind the last, nothing is left and no more comes
abbrev pub Behind : Window → ℕ → Bool → Window → Type 0
Behind w used last r = (r.start ≡ cond last w.end (w.start + used)) × (r.ended ≡ last || w.ended)
