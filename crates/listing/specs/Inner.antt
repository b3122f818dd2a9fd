-- A text put into a buffer.
use Rattle.std.specs.Prelude.{◌≡◌, List, ℕ, ◌+◌, ◌≤◌, length}
use borrow.Rule.Slice.PartMut.{put_mid}

-- the text stands in the buffer from place `at` on, up to the place `end`; the rest of the buffer is as it was
pub record Put (before : List ℕ) (at : ℕ) (text after : List ℕ) (end : ℕ) : Type 0 where
  pub is : after ≡ put_mid at (length text) before text
  pub ends : end ≡ at + length text
  pub fits : end ≤ length before
