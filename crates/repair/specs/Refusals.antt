-- A call that is turned away (demand 1): it gives its number and zeros, the session as handed in, and no byte is written;
-- proofs/RefusalsProved.antt has the proofs.
use Rattle.std.specs.Prelude.{◌≡◌, true, false, cond, List, [], ℕ, eqb, replicate}
use Rattle.checks.specs.Checks.{first_met}
use Rattle.encoding.specs.Encode.{encode_answer, encoded}
use Rattle.boxes.specs.Box.{body_checks, body_of}
use Rattle.repair.specs.declared.Session.{Session}
use Rattle.repair.specs.Answers.{Started, Repairs}
use Rattle.repair.specs.Session.{started, unsound}
use Rattle.repair.specs.Boxed.{checked_box, read_box, nodes_read, written, out_written}
use Rattle.repair.specs.LiveNodes.{live_listed, out_listed}
use Rattle.repair.specs.ReadOut.{missing_in, read_out_of, object_out}
use Rattle.repair.specs.Step.{stepped, nodes_stepped}
use Rattle.repair.specs.Pairs.{pairs_found}
use Rattle.repair.specs.Repairs.{planned, out_planned, ran, nodes_ran}
use Rattle.repair.specs.Carry.{plan_checked, carried, nodes_carried}

-- the number is a refusal's
abbrev pub Refused : ℕ → Type 0
Refused number = number ≡ 0 → ⊥

-- what a refused start, check or read gives: its number, and a session of zeros with every mark missing
abbrev pub no_session : ℕ → Started
no_session number = record { refusal = number; session = record { family = 0; k = 0; len = 0; steps = 0; live = replicate 256 false; reads = replicate 256 0 } }

-- what a refused plan or run gives: its number and zeros, and the session as handed in
abbrev pub no_steps : Session → ℕ → Repairs
no_steps s number = record { refusal = number; steps = 0; rounds = 0; left = 0; session = s }

-- of every operation
pub record RefusalClaim : Type 0 where
  -- encode leaves the nodes buffer
  pub encode : (family k L : ℕ) (object nodes : List ℕ) → Refused (encode_answer family k L object nodes) → encoded family k L object nodes ≡ nodes
  -- a start, a check and a read give a session of zeros with every mark missing, and a read leaves the nodes buffer
  pub start : (family k L : ℕ) (list : List ℕ) → Refused (started family k L list).refusal → started family k L list ≡ no_session (started family k L list).refusal
  pub check : (bytes : List ℕ) → Refused (checked_box bytes).refusal → checked_box bytes ≡ no_session (checked_box bytes).refusal
  pub read : (bytes nodes : List ℕ) → Refused (read_box bytes nodes).refusal
      → (read_box bytes nodes ≡ no_session (read_box bytes nodes).refusal) × (nodes_read bytes nodes ≡ nodes)
  -- a body is an empty part
  pub body : (bytes : List ℕ) (j : ℕ) → Refused (first_met (body_checks bytes j)) → body_of bytes j ≡ []
  -- write gives length 0 and leaves its destination
  pub write : (s : Session) (nodes list out : List ℕ) → Refused (written s nodes list out).refusal
      → (written s nodes list out ≡ record { refusal = (written s nodes list out).refusal; length = 0; session = s }) × (out_written s nodes list out ≡ out)
  -- a list of the live nodes likewise
  pub live : (s : Session) (out : List ℕ) → Refused (live_listed s out).refusal
      → (live_listed s out ≡ record { refusal = (live_listed s out).refusal; length = 0; session = s }) × (out_listed s out ≡ out)
  -- read out leaves the object; 14 comes with its block, any other with block 0
  pub read_out : (s : Session) (nodes object : List ℕ) → Refused (read_out_of s nodes object).refusal
      → (read_out_of s nodes object ≡ record { refusal = (read_out_of s nodes object).refusal; block = cond (eqb (read_out_of s nodes object).refusal 14) (missing_in s) 0; session = s })
      × (object_out s nodes object ≡ object)
  -- a search for a pair gives zeros
  pub pairs : (s : Session) (j : ℕ) → Refused (pairs_found s j).refusal
      → pairs_found s j ≡ record { refusal = (pairs_found s j).refusal; smaller = 0; larger = 0; count = 0; session = s }
  -- a step leaves the nodes buffer, and so does a run; a plan leaves its destination
  pub step : (s : Session) (nodes : List ℕ) (j a b : ℕ) → Refused (stepped s nodes j a b).refusal
      → (stepped s nodes j a b ≡ record { refusal = (stepped s nodes j a b).refusal; session = s }) × (nodes_stepped s nodes j a b ≡ nodes)
  pub plan : (s : Session) (out : List ℕ) → Refused (planned s out).refusal
      → (planned s out ≡ no_steps s (planned s out).refusal) × (out_planned s out ≡ out)
  pub run : (s : Session) (nodes : List ℕ) → Refused (ran s nodes).refusal
      → (ran s nodes ≡ no_steps s (ran s nodes).refusal) × (nodes_ran s nodes ≡ nodes)
  -- a check of a plan gives step 0, and so does a plan to be carried out, which leaves the nodes buffer
  pub check_plan : (s : Session) (plan : List ℕ) → Refused (plan_checked s plan).refusal → plan_checked s plan ≡ record { refusal = (plan_checked s plan).refusal; bad = 0; session = s }
  pub carry : (s : Session) (plan nodes : List ℕ) → Refused (carried s plan nodes).refusal
      → (carried s plan nodes ≡ record { refusal = (carried s plan nodes).refusal; bad = 0; session = s }) × (nodes_carried s plan nodes ≡ nodes)

-- this is so of the number that each operation of a session gives, whatever is asked for
pub record Numbers (s : Session) (So : ℕ → Type 0) : Type 0 where
  pub write : (nodes list out : List ℕ) → So (written s nodes list out).refusal
  pub live : (out : List ℕ) → So (live_listed s out).refusal
  pub read_out : (nodes object : List ℕ) → So (read_out_of s nodes object).refusal
  pub pairs : (j : ℕ) → So (pairs_found s j).refusal
  pub step : (nodes : List ℕ) (j a b : ℕ) → So (stepped s nodes j a b).refusal
  pub plan : (out : List ℕ) → So (planned s out).refusal
  pub run : (nodes : List ℕ) → So (ran s nodes).refusal
  pub check_plan : (plan : List ℕ) → So (plan_checked s plan).refusal
  pub carry : (plan nodes : List ℕ) → So (carried s plan nodes).refusal

-- every operation gives 13
abbrev pub Thirteen : Session → Type 0
Thirteen s = Numbers s (λ number. number ≡ 13)

-- where the session is unsound
abbrev pub ThirteenClaim : Type 0
ThirteenClaim = (s : Session) → unsound s ≡ true → Thirteen s

-- no operation gives 13
abbrev pub NotThirteen : Session → Type 0
NotThirteen s = Numbers s (λ number. number ≡ 13 → ⊥)

-- where it is sound
abbrev pub NotThirteenClaim : Type 0
NotThirteenClaim = (s : Session) → unsound s ≡ false → NotThirteen s
