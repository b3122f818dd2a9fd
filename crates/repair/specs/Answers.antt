-- What the operations of a session give, as document 01 says it: a number, 0 where the call is served, values with it, zeros where it is
-- refused, and the session that is handed back; and what of these each answer of the code is.
use Rattle.std.specs.Prelude.{ℕ, Result, Ok, Err, Option, None, Some}
use Rattle.counts.specs.Counts.{no_counts}
use Rattle.lists.specs.Lists.{none_live}
use Rattle.checks.specs.Refusals.{number_of, number_in, block_of}
use Rattle.checks.specs.declared.Refusal.{Refusal}
use Rattle.pairing.specs.declared.Pairs.{Pairs}
use Rattle.repair.specs.declared.Session.{Session}
use Rattle.repair.specs.declared.Answer.{Answer}
use Rattle.repair.specs.declared.Totals.{Totals}

-- what a start or a box gives: 0 and the session, or the refusal's number and a session of zeros
pub record Started : Type 0 where
  pub refusal : ℕ
  pub session : Session

abbrev pub started_as : Result Session Refusal → Started
started_as (Ok s) = record { refusal = 0; session = s }
started_as (Err e) = record { refusal = number_of e; session = record { family = 0; k = 0; len = 0; steps = 0; live = none_live; reads = no_counts } }

-- what writing a box or listing the live nodes gives: how many bytes are written, or the refusal's number and 0
pub record Written : Type 0 where
  pub refusal : ℕ
  pub length : ℕ
  pub session : Session

-- a number that comes with an answer; 0 with a refusal
abbrev pub count_in : Result ℕ Refusal → ℕ
count_in (Ok n) = n
count_in (Err e) = 0

abbrev pub written_as : Answer ℕ → Written
written_as a = record { refusal = number_in a.result; length = count_in a.result; session = a.session }

-- what reading out gives: 0, or the refusal's number, and with 14 the lowest data block whose node is missing
pub record ReadOut : Type 0 where
  pub refusal : ℕ
  pub block : ℕ
  pub session : Session

-- the block that comes with a refusal
abbrev pub block_in : {A : Type 0} → Result A Refusal → ℕ
block_in (Ok served) = 0
block_in (Err e) = block_of e

abbrev pub read_out_as : Answer (Unit {0}) → ReadOut
read_out_as a = record { refusal = number_in a.result; block = block_in a.result; session = a.session }

-- what a step gives: 0 and the next session, or the refusal's number and the session as it was handed in
pub record Stepped : Type 0 where
  pub refusal : ℕ
  pub session : Session

abbrev pub stepped_as : Answer (Unit {0}) → Stepped
stepped_as a = record { refusal = number_in a.result; session = a.session }

-- what a plan or a run gives: its steps, its rounds and the nodes left, or the refusal's number and zeros
pub record Repairs : Type 0 where
  pub refusal : ℕ
  pub steps : ℕ
  pub rounds : ℕ
  pub left : ℕ
  pub session : Session

-- the totals that come with an answer; zeros with a refusal
abbrev pub totals_in : Result Totals Refusal → Totals
totals_in (Ok totals) = totals
totals_in (Err e) = record { steps = 0; rounds = 0; left = 0 }

abbrev pub repairs_as : Answer Totals → Repairs
repairs_as a =
    let t = totals_in a.result in record { refusal = number_in a.result; steps = t.steps; rounds = t.rounds; left = t.left; session = a.session }

-- what a search for a pair gives: the pair, smaller node first, and how many pairs the node has, zeros where it has none; or the
-- refusal's number and zeros
pub record PairsFound : Type 0 where
  pub refusal : ℕ
  pub smaller : ℕ
  pub larger : ℕ
  pub count : ℕ
  pub session : Session

-- the pairs that come with an answer; zeros with a refusal
abbrev pub pairs_with : Result Pairs Refusal → Pairs
pairs_with (Ok pairs) = pairs
pairs_with (Err e) = record { smaller = 0; larger = 0; count = 0 }

abbrev pub pairs_as : Answer Pairs → PairsFound
pairs_as a =
    let p = pairs_with a.result in record { refusal = number_in a.result; smaller = p.smaller; larger = p.larger; count = p.count; session = a.session }

-- what the check of a plan gives, and the plan carried out: the number of its first bad step, from 1, 0 where it is accepted; or the refusal's
-- number and 0
pub record PlanChecked : Type 0 where
  pub refusal : ℕ
  pub bad : ℕ
  pub session : Session

-- the number of the bad step that comes with an answer; 0 where there is none, and with a refusal
abbrev pub bad_with : Result (Option ℕ) Refusal → ℕ
bad_with (Ok (Some step)) = step
bad_with (Ok None) = 0
bad_with (Err e) = 0

abbrev pub plan_checked_as : Answer (Option ℕ) → PlanChecked
plan_checked_as a = record { refusal = number_in a.result; bad = bad_with a.result; session = a.session }
