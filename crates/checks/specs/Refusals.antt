-- The numbers of refusals, as document 01 and C have them.
use Rattle.std.specs.Prelude.{◌≡◌, ℕ, Result, Ok, Err}
use Rattle.families.specs.Families.{family_of}
use Rattle.families.specs.declared.Code.{Code}
use Rattle.checks.specs.declared.Refusal.{Refusal}
use Rattle.checks.specs.declared.Refusal.TheVariants.{UnknownFamily, BlockCount, BlockLength, UnknownNode, ListNotRising, BufferLength, BoxLength, NotZero, HeldCount, NotRelated, NodeLive, NodeMissing, UnsoundSession, BlockMissing}

-- the number of a refusal
abbrev pub number_of : Refusal → ℕ
number_of UnknownFamily = 1
number_of BlockCount = 2
number_of BlockLength = 3
number_of UnknownNode = 4
number_of ListNotRising = 5
number_of BufferLength = 6
number_of BoxLength = 7
number_of NotZero = 8
number_of HeldCount = 9
number_of NotRelated = 10
number_of NodeLive = 11
number_of NodeMissing = 12
number_of UnsoundSession = 13
number_of (BlockMissing block) = 14

-- the block that a refusal names; 0 where it names none
abbrev pub block_of : Refusal → ℕ
block_of (BlockMissing block) = block
block_of _ = 0

-- the number of what a call gives: 0 where it is served
abbrev pub number_in : {A : Type 0} → Result A Refusal → ℕ
number_in (Ok served) = 0
number_in (Err refusal) = number_of refusal

-- a code is that of a family's number and k
pub record IsCodeOf (family k : ℕ) (code : Code) : Type 0 where
  pub family_is : code.family ≡ family_of family
  pub k_is : code.k ≡ k
