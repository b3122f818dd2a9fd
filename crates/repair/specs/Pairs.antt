-- The pairs of a node (document 02, K4): the search for a pair, by itself, for any node, live or missing.
use Rattle.std.specs.Prelude.{ℕ, List, [], ◌∷◌}
use Rattle.base.specs.Ranges.{outside}
use Rattle.families.specs.Families.{family_of}
use Rattle.checks.specs.Checks.{Check, ◌gives◌, answer}
use Rattle.pairing.specs.declared.Pairs.{Pairs}
use Rattle.pairing.specs.Pairs.{pairs_of}
use Rattle.repair.specs.declared.Session.{Session}
use Rattle.repair.specs.Answers.{PairsFound}
use Rattle.repair.specs.Session.{node_count_of, unsound}

-- Pairs: 13, then 4 for a node that is 0 or above n
unfoldable pub pairs_checks : Session → ℕ → List Check
pairs_checks s j = (unsound s gives 13) ∷ (outside 1 (node_count_of s) j gives 4) ∷ []

-- the pairs of a session's node
abbrev pub pairs_in : Session → ℕ → Pairs
pairs_in s j = pairs_of (family_of s.family) s.k s.live j

-- a refusal: its number and zeros, the session as handed in
abbrev pub refused_pairs : Session → ℕ → PairsFound
refused_pairs s number = record { refusal = number; smaller = 0; larger = 0; count = 0; session = s }

-- an accepted search: the pair and the count, zeros where there is no pair; the session stays
abbrev pub served_pairs : Session → ℕ → PairsFound
served_pairs s j =
    let pairs = pairs_in s j in record { refusal = 0; smaller = pairs.smaller; larger = pairs.larger; count = pairs.count; session = s }

-- what the search gives
unfoldable pub pairs_found : Session → ℕ → PairsFound
pairs_found s j = answer (pairs_checks s j) (served_pairs s j) (refused_pairs s)
