-- For inner functions: one read more of an input.
use Rattle.std.specs.Prelude.{ℕ, ◌≤◌, ◌≡◌, List, length, Result, IsErr}
use Rattle.stdio.specs.declared.ReadFailed.{ReadFailed}
use Rattle.stdio.specs.Reading.{count_read}

-- what holds after one read more into a buffer of which `count` bytes were read before
pub record ReadAfter (count : ℕ) (buf : List ℕ) (r : Result ℕ ReadFailed) : Type 0 where
  -- what was read before still counts
  pub grows : count ≤ count_read r
  -- the bytes read lie within the buffer
  pub within : count_read r ≤ length buf
  -- a read that failed adds none
  pub none : IsErr r → count_read r ≡ count
