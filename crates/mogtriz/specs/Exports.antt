-- What the C functions on families give for any numbers: 0 where the family or k is out of range, or a number is no node's.
use Rattle.std.specs.Prelude.{ℕ, Bool, cond, ◌&&◌, leb}
use Rattle.families.specs.Families.{family_of, node_count, column_of, node_of, are_related}
use Rattle.checks.specs.Checks.{answer}
use Rattle.checks.specs.Parameters.{parameter_checks}

-- the version of the C interface, raised when a layout or an answer changes
abbrev pub interface_version : ℕ
interface_version = 6

-- n; 0 where refusal 1 or 2 is due, whatever L is
unfoldable pub node_count_or0 : ℕ → ℕ → ℕ
node_count_or0 family k = answer (parameter_checks family k 1) (node_count (family_of family) k) (λ number. 0)

-- j is a node's number
unfoldable pub is_node : ℕ → ℕ → ℕ → Bool
is_node family k j = leb 1 j && leb j (node_count_or0 family k)

-- node j's column; 0 where there is no node j
unfoldable pub column_or0 : ℕ → ℕ → ℕ → ℕ
column_or0 family k j = cond (is_node family k j) (column_of (family_of family) k j) 0

-- the node with a column; 0 where there is none
unfoldable pub node_or0 : ℕ → ℕ → ℕ → ℕ
node_or0 family k column = answer (parameter_checks family k 1) (node_of (family_of family) k column) (λ number. 0)

-- 1 where the three are nodes and related, else 0
unfoldable pub related_or0 : ℕ → ℕ → ℕ → ℕ → ℕ → ℕ
related_or0 family k a b c = cond (is_node family k a && (is_node family k b && (is_node family k c && are_related (family_of family) k a b c))) 1 0
