-- What reading an input gives.
use Rattle.std.specs.Prelude.{ℕ, ◌+◌, ◌<◌, List, length, Result, Ok, Err, IsErr}
use Rattle.io.specs.Counts.{IsPrefixLen}
use Rattle.stdio.specs.declared.ReadFailed.{ReadFailed}

-- how many bytes were read, whether or not a read failed after them
abbrev pub count_read : Result ℕ ReadFailed → ℕ
count_read (Ok count) = count
count_read (Err failed) = failed.count

-- what was read once a read answered, `count` bytes having been read before it: an error says that the read failed, a number how
-- many bytes it added, 0 at the end of the input
abbrev pub after_read : {E : Type 0} → ℕ → Result ℕ E → Result ℕ ReadFailed
after_read count (Ok got) = Ok (count + got)
after_read count (Err e) = Err (record { count = count })

-- what holds of an input that was read into a buffer
pub record ReadInto (buf : List ℕ) (r : Result ℕ ReadFailed) : Type 0 where
  -- the bytes read lie within the buffer
  pub counts : IsPrefixLen (count_read r) buf
  -- no read is made of a buffer that is full
  pub short : IsErr r → count_read r < length buf
