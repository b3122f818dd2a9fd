-- What listing the live nodes answers, check by check, the list that it leaves, and what a start by it gives.
-- Assumes nothing.
use mathlib.Core.Path.{◌≡◌, refl, ap}
use mathlib.Core.Bool.{Bool, true, false}
use mathlib.Core.List.{List, ◌++◌}
use Prim.Native.Nat.{ℕ, ◌≤◌, ◌<◌}
use native.Mathlib.Omega.{arith}
use borrow.Author.Tests.{lt-ltb, le-ltb, ltb-false}
use lib.ListN.{length, drop}
use lib.Seq.{take_at}
use Rattle.families.specs.Families.{family_of, node_count}
use Rattle.families.proofs.Laws.{few}
use Rattle.checks.specs.Checks.{first_met}
use Rattle.checks.proofs.Laws.{accepted, parameters_in}
use Rattle.checks.proofs.AnswerLaws.{Gives, serves, refuses}
use Rattle.lists.proofs.Laws.{live_nodes_inside, live_nodes_rise, live_nodes_of_list, marks_of_live_nodes}
use Rattle.repair.specs.declared.Session.{Session}
use Rattle.repair.specs.Answers.{Written}
use Rattle.repair.specs.Session.{session_with, afresh, session_of, accepted_start, start_checks, started, node_count_of, unsound}
use Rattle.repair.specs.Boxed.{refused_write}
use Rattle.repair.specs.LiveNodes.{live_nodes_of, live_checks, live_listed, out_listed}
use Rattle.repair.specs.Claims.{list_left}
use Rattle.repair.proofs.StartLaws.{known, start_0, accepted_start_lem}

module _ (s : Session) (out : List ℕ) where
  -- an answer and the buffer afterwards
  abbrev pub Lists : Written → List ℕ → Type 0
  Lists = Gives (live_listed s out) (out_listed s out)

  refused : (number : ℕ) → number ≡ first_met (live_checks s out) → (number ≡ 0 → ⊥) → Lists (refused_write s number) out
  unfolding live_listed out_listed
  refused = refuses (live_checks s out) _ (refused_write s) _ out

  pub live_13 : unsound s ≡ true → Lists (refused_write s 13) out
  unfolding live_checks first_met
  live_13 e = refused 13 (rw e) (λ z. omega arith)

  module _ (e : unsound s ≡ false) where
    pub live_6 : length out < length (live_nodes_of s) → Lists (refused_write s 6) out
    unfolding live_checks first_met
    live_6 h = refused 6 (rw (e, lt-ltb (length out) (length (live_nodes_of s)) h)) (λ z. omega arith)

    pub live_0 : length (live_nodes_of s) ≤ length out → first_met (live_checks s out) ≡ 0
    unfolding live_checks first_met
    live_0 h = rw (e, le-ltb (length out) (length (live_nodes_of s)) h)

    pub live_listed_lem : length (live_nodes_of s) ≤ length out
        → Lists (record { refusal = 0; length = length (live_nodes_of s); session = s }) (live_nodes_of s ++ drop (length (live_nodes_of s)) out)
    unfolding live_listed out_listed
    live_listed_lem h = serves (live_checks s out) _ (refused_write s) _ out (live_0 h)

  -- ---- where it is accepted

  pub record AcceptedList : Type 0 where
    pub sound : unsound s ≡ false
    pub room : length (live_nodes_of s) ≤ length out

  pub accepted_list : first_met (live_checks s out) ≡ 0 → AcceptedList
  unfolding live_checks
  accepted_list e = let n = accepted (live_checks s out) refl e in record { sound = n.0; room = ltb-false _ _ n.1.0 }

  module _ (e : first_met (live_checks s out) ≡ 0) where
    -- the list that is left is the live nodes
    pub list_is : list_left s out ≡ live_nodes_of s
    unfolding live_listed out_listed
    list_is = rw e (take_at (live_nodes_of s) (drop (length (live_nodes_of s)) out) (length (live_nodes_of s)) refl)

    pub list_answer : live_listed s out ≡ record { refusal = 0; length = length (list_left s out); session = s }
    unfolding live_listed
    list_answer = rw (list_is, e)

    pub list_rest : out_listed s out ≡ list_left s out ++ drop (length (list_left s out)) out
    unfolding out_listed
    list_rest = rw (list_is, e)

-- ---- a start by the live nodes, and the live nodes of a start

-- it gives the session with zeros in its counts
pub live_starts : (s : Session) → length s.live ≡ 256 → unsound s ≡ false → started s.family s.k s.len (live_nodes_of s) ≡ accepted_start (afresh s)
unfolding started
live_starts s size e =
    let g = known s e in
    rw (start_0 s.family s.k s.len (live_nodes_of s) (parameters_in s.family s.k s.len g.range) (live_nodes_inside s.live (node_count_of s)) (live_nodes_rise s.live (node_count_of s)))
    (ap (λ (live : List Bool). accepted_start (session_with s.family s.k s.len live))
    (marks_of_live_nodes (node_count_of s) s.live size (few (family_of s.family) s.k g.range.blocks) g.inside))

-- they are its list
pub start_lists : (family k L : ℕ) (list : List ℕ) → first_met (start_checks family k L list) ≡ 0 → live_nodes_of (session_of family k L list) ≡ list
start_lists family k L list e =
    let a = accepted_start_lem family k L list e in
    live_nodes_of_list (node_count (family_of family) k) list (few (family_of family) k a.range.blocks) a.outside a.rising
