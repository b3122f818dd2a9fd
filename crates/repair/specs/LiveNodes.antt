-- The live nodes of a session, listed: a list for whoever must name every live node to write (document 02, K7).
use Rattle.std.specs.Prelude.{ℕ, List, [], ◌∷◌, ◌++◌, length, drop, ltb}
use Rattle.checks.specs.Checks.{Check, ◌gives◌, answer, afterwards}
use Rattle.lists.specs.Lists.{live_nodes}
use Rattle.repair.specs.declared.Session.{Session}
use Rattle.repair.specs.Answers.{Written}
use Rattle.repair.specs.Session.{node_count_of, unsound}
use Rattle.repair.specs.Boxed.{refused_write}

-- the live nodes of a session, rising
abbrev pub live_nodes_of : Session → List ℕ
live_nodes_of s = live_nodes s.live (node_count_of s)

-- Live nodes: 13, then 6 for a buffer that is shorter than needed
unfoldable pub live_checks : Session → List ℕ → List Check
live_checks s out = (unsound s gives 13) ∷ (ltb (length out) (length (live_nodes_of s)) gives 6) ∷ []

-- what listing them gives: their number. The session stays
unfoldable pub live_listed : Session → List ℕ → Written
live_listed s out = answer (live_checks s out) (record { refusal = 0; length = length (live_nodes_of s); session = s }) (refused_write s)

-- the buffer afterwards: the live nodes, a byte each; beyond them it is not written
unfoldable pub out_listed : Session → List ℕ → List ℕ
out_listed s out = afterwards (live_checks s out) (live_nodes_of s ++ drop (length (live_nodes_of s)) out) out
