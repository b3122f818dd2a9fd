-- The lines of the two programs (document 01, "Two programs"), as lists of bytes.
use Rattle.std.specs.Prelude.{ℕ, ◌^◌, List, [], ◌∷◌, ◌++◌, ltb}
use Prim.Native.Char.{code}
use Prim.Native.String.{String, [] as none, ◌∷◌ as ◌then◌}
use Rattle.base.specs.Ranges.{first_from}
use Rattle.io.specs.Digits.{last_digits}
use Rattle.planning.specs.Plan.{Step}

-- a text of letters, digits, spaces and line ends: a byte each
abbrev pub ascii : String → List ℕ
ascii none = []
ascii (letter then text) = code letter ∷ ascii text

-- a number in base ten, in the fewest digits that are enough for it, one at least; 20 are enough for every number of 64 bits
unfoldable pub decimal : ℕ → List ℕ
decimal n = last_digits 10 (first_from (λ count. ltb n (10 ^ count)) 1 20) n

-- a word and a number after it
unfoldable pub field : List ℕ → ℕ → List ℕ
field word n = word ++ decimal n

-- `family 1 k 3 length 1 live 3`
unfoldable pub first_line : ℕ → ℕ → ℕ → ℕ → List ℕ
first_line family k L live = field (ascii "family ") family ++ (field (ascii " k ") k ++ (field (ascii " length ") L ++ (field (ascii " live ") live ++ ascii "\n")))

-- `1 1 4 5`: round, node, smaller, larger
unfoldable pub step_line : Step → List ℕ
step_line step = field [] step.round ++ (field (ascii " ") step.node ++ (field (ascii " ") step.smaller ++ (field (ascii " ") step.larger ++ ascii "\n")))

-- `steps 4 rounds 4 left 0`
unfoldable pub last_line : ℕ → ℕ → ℕ → List ℕ
last_line steps rounds left = field (ascii "steps ") steps ++ (field (ascii " rounds ") rounds ++ (field (ascii " left ") left ++ ascii "\n"))

-- `refused 7`
unfoldable pub refusal_line : ℕ → List ℕ
refusal_line number = field (ascii "refused ") number ++ ascii "\n"

-- `too long`
abbrev pub too_long_line : List ℕ
too_long_line = ascii "too long\n"
