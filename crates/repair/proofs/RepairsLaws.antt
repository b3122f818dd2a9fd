-- What the checks of a plan and of a run say, and what they give.
-- Assumes nothing.
use mathlib.Core.Path.{◌≡◌, sym, ap, subst}
use mathlib.Core.Bool.{Bool, true, false}
use mathlib.Core.List.{List, [], ◌++◌, append-nil}
use Prim.Native.Nat.{ℕ, ◌+◌, ◌*◌, ◌/◌, ◌≤◌, ◌<◌}
use native.Mathlib.Omega.{arith}
use borrow.Author.Tests.{lt-ltb, le-ltb}
use lib.ListN.{length, take, drop}
use lib.Seq.{take_at}
use Rattle.std.specs.Prelude.{Ok}
use Rattle.families.specs.declared.Family.{Family}
use Rattle.families.specs.Families.{family_of, KInRange, node_count}
use Rattle.families.proofs.Laws.{few}
use Rattle.checks.specs.Checks.{first_met}
use Rattle.checks.proofs.AnswerLaws.{Gives, serves, refuses}
use Rattle.counts.specs.Counts.{count_all}
use Rattle.planning.specs.Claims.{CanMakeAll}
use Rattle.planning.specs.Plan.{plan_of, sources_of, marks_after, step_bytes}
use Rattle.planning.specs.Inner.{planned_of, AllIn}
use Rattle.planning.specs.Made.{nodes_made, steps_in}
use Rattle.planning.specs.declared.Planned.{Planned}
use Rattle.planning.proofs.RoundLaws.{length_bytes}
use Rattle.planning.proofs.CarryLaws.{length_steps, steps_back, all_in}
use Rattle.planning.proofs.MakeLaws.{left_few, make_counts}
use Rattle.planning.proofs.Proved.{plan_claim}
use Rattle.repair.specs.declared.Session.{Session}
use Rattle.repair.specs.Answers.{Repairs, repairs_as}
use Rattle.repair.specs.Session.{node_count_of, unsound, nodes_checks}
use Rattle.repair.specs.Step.{after_steps}
use Rattle.repair.specs.Inner.{totals_of}
use Rattle.repair.specs.Repairs.{plan_in, repairs_of, refused_repairs, plan_checks, planned, out_planned, ran, nodes_ran}
use Rattle.repair.proofs.StartLaws.{known}

-- a plan has at most a step for each node
pub plan_few : (f : Family) (k : ℕ) → KInRange f k → (marks : List Bool) → length marks ≡ 256 → length (plan_of f k marks) ≤ node_count f k
plan_few f k range marks size = omega (arith, (plan_claim f k range marks size).counts, left_few marks (node_count f k))

module _ (s : Session) where
  -- ---- plan

  module _ (out : List ℕ) where
    -- an answer and the destination afterwards
    abbrev pub Plans : Repairs → List ℕ → Type 0
    Plans = Gives (planned s out) (out_planned s out)

    plan_refused : (number : ℕ) → number ≡ first_met (plan_checks s out) → (number ≡ 0 → ⊥) → Plans (refused_repairs s number) out
    unfolding planned out_planned
    plan_refused = refuses (plan_checks s out) _ (refused_repairs s) _ out

    pub plan_13 : unsound s ≡ true → Plans (refused_repairs s 13) out
    unfolding plan_checks first_met
    plan_13 e = plan_refused 13 (rw e) (λ z. omega arith)

    module _ (e : unsound s ≡ false) where
      pub plan_6 : length out < 4 * length (plan_in s) → Plans (refused_repairs s 6) out
      unfolding plan_checks first_met
      plan_6 h = plan_refused 6 (rw (e, lt-ltb (length out) (4 * length (plan_in s)) h)) (λ z. omega arith)

      pub plan_made : 4 * length (plan_in s) ≤ length out → Plans (repairs_of s s) (step_bytes (plan_in s) ++ drop (4 * length (plan_in s)) out)
      unfolding plan_checks first_met planned out_planned
      plan_made h = serves (plan_checks s out) _ (refused_repairs s) _ out (rw (e, le-ltb (length out) (4 * length (plan_in s)) h))

  -- ---- run

  module _ (nodes : List ℕ) where
    -- an answer and the nodes buffer afterwards
    abbrev pub Runs : Repairs → List ℕ → Type 0
    Runs = Gives (ran s nodes) (nodes_ran s nodes)

    pub run_refused : (number : ℕ) → number ≡ first_met (nodes_checks s (length nodes)) → (number ≡ 0 → ⊥) → Runs (refused_repairs s number) nodes
    unfolding ran nodes_ran
    run_refused = refuses (nodes_checks s (length nodes)) _ (refused_repairs s) _ nodes

    pub run_made : first_met (nodes_checks s (length nodes)) ≡ 0 → Runs (repairs_of s (after_steps s (plan_in s))) (nodes_made s.len nodes (plan_in s))
    unfolding ran nodes_ran
    run_made = serves (nodes_checks s (length nodes)) _ (refused_repairs s) _ nodes

-- ---- the plan that was made aside: its counts, and its steps in a list of bytes

module _ (s : Session) (made : Planned) (is : made ≡ planned_of (family_of s.family) s.k s.live) where
  pub made_steps : made.steps ≡ length (plan_in s)
  made_steps = ap (λ (p : Planned). p.steps) is

  pub made_answer : (next : Session) → repairs_as (record { result = Ok (totals_of made); session = next }) ≡ repairs_of s next
  made_answer next = rw is

  pub made_few : KInRange (family_of s.family) s.k → length s.live ≡ 256 → made.steps ≤ 255
  made_few range size = omega (arith, made_steps, plan_few (family_of s.family) s.k range s.live size, few (family_of s.family) s.k range)

  module _ (bytes after : List ℕ) (holds : bytes ≡ step_bytes (plan_in s) ++ after) where
    -- the bytes of its steps alone
    pub made_bytes : take (4 * made.steps) bytes ≡ step_bytes (plan_in s)
    made_bytes = rw (holds, made_steps) (take_at (step_bytes (plan_in s)) after (4 * length (plan_in s)) (length_bytes (plan_in s)))

    -- are four a step
    pub made_count : length (take (4 * made.steps) bytes) / 4 ≡ made.steps
    made_count = rw (made_bytes, length_bytes (plan_in s), made_steps) (omega arith)

    -- its steps, read back from them
    pub made_back : steps_in (take (4 * made.steps) bytes) (length (take (4 * made.steps) bytes) / 4) ≡ plan_in s
    made_back = rw (made_count, made_bytes, made_steps, ← append-nil (step_bytes (plan_in s))) (steps_back (plan_in s) [])

    -- what comes to it, with the session that a run hands back
    pub made_ran : (reads : List ℕ) → reads ≡ count_all s.reads (sources_of (steps_in (take (4 * made.steps) bytes) (length (take (4 * made.steps) bytes) / 4)))
        → repairs_as (record {
          result = Ok (totals_of made);
          session = record { family = s.family; k = s.k; len = s.len; steps = s.steps + made.steps; live = made.live; reads = reads };
        })
        ≡ repairs_of s (after_steps s (plan_in s))
    made_ran reads e = rw (e, made_back, is)

    pub made_in : KInRange (family_of s.family) s.k → length s.live ≡ 256 → (nodes : List ℕ) → length nodes ≡ node_count_of s * s.len
        → AllIn s.len nodes (steps_in (take (4 * made.steps) bytes) (length (take (4 * made.steps) bytes) / 4))
    made_in range size nodes e =
        subst (AllIn s.len nodes) (sym made_back)
        (all_in (family_of s.family) s.k range s.len nodes e s.live (plan_in s) (plan_claim (family_of s.family) s.k range s.live size).makes)

-- ---- steps that can be made, from their bytes

module _ (s : Session) (sound : unsound s ≡ false) (marks : length s.live ≡ 256) (bytes : List ℕ) (count : ℕ) (makes : CanMakeAll (family_of s.family) s.k s.live (steps_in bytes count)) where
  abbrev range : KInRange (family_of s.family) s.k
  range = (known s sound).range.blocks

  -- there is one at most for each node
  pub bytes_few : count ≤ 255
  bytes_few =
      let f = family_of s.family in
      omega (arith, length_steps bytes count, make_counts f s.k range s.live marks (steps_in bytes count) makes, left_few s.live (node_count_of s), few f s.k range)

  pub bytes_in : (nodes : List ℕ) → length nodes ≡ node_count_of s * s.len → AllIn s.len nodes (steps_in bytes count)
  bytes_in nodes size = all_in (family_of s.family) s.k range s.len nodes size s.live (steps_in bytes count) makes

  -- the session once they are made
  pub bytes_made : (live : List Bool) (reads : List ℕ) → live ≡ marks_after s.live (steps_in bytes count) → reads ≡ count_all s.reads (sources_of (steps_in bytes count))
      → record { family = s.family; k = s.k; len = s.len; steps = s.steps + count; live = live; reads = reads } ≡ after_steps s (steps_in bytes count)
  bytes_made live reads l r = rw (l, r, length_steps bytes count)
