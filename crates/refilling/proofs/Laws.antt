-- An accepted box, read, run and written: no call on the way is refused, and there is room for what is written. What is cited of
-- boxes and sessions is claims alone.
-- Assumes nothing.
use mathlib.Core.Path.{◌≡◌, refl, ap, ◌∙◌}
use mathlib.Core.List.{List, ◌∷◌}
use Prim.Native.Nat.{ℕ, zero, suc, ◌*◌, ◌≤◌, ◌<◌}
use native.Mathlib.Omega.{arith}
use borrow.Author.Tests.{lt-ltb, le-ltb}
use lib.ListN.{length, take, replicate, length-replicate}
use Rattle.families.specs.Families.{family_of}
use Rattle.families.proofs.Proved.{family_claims}
use Rattle.checks.specs.Parameters.{most_l}
use Rattle.checks.proofs.Laws.{bytes_most}
use Rattle.boxes.specs.Box.{family_in, k_in, block_length_in, node_count_in, box_length}
use Rattle.boxes.specs.Claims.{AcceptedBox}
use Rattle.repair.specs.declared.Session.{Session}
use Rattle.repair.specs.Answers.{Started}
use Rattle.repair.specs.Session.{node_count_of}
use Rattle.repair.specs.Boxed.{session_in, checked_box, read_box, nodes_read}
use Rattle.repair.specs.LiveNodes.{live_listed}
use Rattle.repair.specs.Repairs.{ran, nodes_ran}
use Rattle.repair.specs.Calls.{run}
use Rattle.repair.specs.Claims.{WriteReadClaims, list_left, LiveListClaims}
use Rattle.repair.specs.WholeWay.{Fits, SameCode}
use Rattle.repair.proofs.Proved.{box_start_claim, write_read_claim, live_list_claim}
use Rattle.repair.proofs.WholeWayProved.{fits_claim}
use Rattle.listing.specs.Text.{too_long_line}
use Rattle.listing.proofs.ListingLaws.{Accepted, answered}
use Rattle.refilling.specs.Refilled.{after_run, box_after_run, nodes_given, refilled_of}

-- ---- zeros

pub zeros_part : (all : List ℕ) (m size : ℕ) → all ≡ replicate m 0 → size ≤ m → take size all ≡ replicate size 0
zeros_part all m size e h = ap (take {A = ℕ} size) e ∙ go m size h
  where
    go : (m size : ℕ) → size ≤ m → take {A = ℕ} size (replicate m 0) ≡ replicate size 0
    go m zero h = refl
    go zero (suc size) h = absurd (omega arith)
    go (suc m) (suc size) h = ap (λ (l : List ℕ). 0 ∷ l) (go m size (omega arith))

pub zeros_size : (all : List ℕ) (m size : ℕ) → all ≡ replicate m 0 → size ≤ m → length (take size all) ≡ size
zeros_size all m size e h = ap length (zeros_part all m size e h) ∙ length-replicate size 0

-- ---- an accepted box, read, run and written

module _ (input : List ℕ) (passes : (checked_box input).refusal ≡ 0) where
  pub box : AcceptedBox input
  box = (box_start_claim input passes).form

  pub nodes_most : (node_count_in input ≤ 255) × (node_count_in input * block_length_in input ≤ 255 * most_l)
  nodes_most =
      let n = (family_claims (family_of (family_in input)) (k_in input) box.range.blocks).few in
      (n, bytes_most (node_count_in input) 255 n box.range)

  pub session_is : (checked_box input).session ≡ session_in input
  session_is = ap (λ (r : Started). r.session) (box_start_claim input passes).is

  module _ (nodes : List ℕ) (size : length nodes ≡ node_count_in input * block_length_in input) where
    abbrev given : Session
    given = (checked_box input).session

    abbrev buffer : List ℕ
    buffer = nodes_read input nodes

    pub read_is : read_box input nodes ≡ checked_box input
    read_is = fits_claim.read input nodes passes size

    pub reads : (read_box input nodes).refusal ≡ 0
    reads = ap (λ (r : Started). r.refusal) read_is ∙ passes

    pub buffer_fits : Fits given buffer
    buffer_fits = rw read_is at (fits_claim.read_fits input nodes reads)

    pub runs : (ran given buffer).refusal ≡ 0
    runs = fits_claim.run given buffer buffer_fits

    -- the session that is written from has the box's family, k and L, and fits the nodes buffer
    pub same : SameCode given (after_run given buffer)
    same = fits_claim.same given buffer run

    pub after_fits : Fits (after_run given buffer) (nodes_ran given buffer)
    after_fits = fits_claim.call given buffer buffer_fits run

    abbrev next : Session
    next = after_run given buffer

    -- a buffer of 255 bytes has room for the live nodes
    module _ (lent : List ℕ) (long : length lent ≡ 255) where
      pub lists : (live_listed next lent).refusal ≡ 0
      lists =
          let few : node_count_of next ≤ 255 = rw (same.family, same.k, session_is) nodes_most.0 in
          fits_claim.list next (nodes_ran given buffer) lent after_fits (omega (arith, long))

      pub listed_claims : LiveListClaims next lent
      listed_claims = live_list_claim next lent lists

      module _ (out : List ℕ) (room : box_length (node_count_in input) (block_length_in input) ≤ length out) where
        enough : box_length (node_count_of next) next.len ≤ length out
        enough = rw (same.family, same.k, same.len, session_is) room

        pub written_claims : WriteReadClaims next (nodes_ran given buffer) (list_left next lent) out
        written_claims =
            write_read_claim next (nodes_ran given buffer) (list_left next lent) out (fits_claim.write next (nodes_ran given buffer) lent out after_fits lists enough)

-- ---- what the refiller writes

-- the box as it is read into a part of a buffer of zeros
pub read_given : (input all : List ℕ) (m size : ℕ) → all ≡ replicate m 0 → size ≤ m → size ≡ node_count_in input * block_length_in input → nodes_read input (take size all) ≡ nodes_given input
unfolding nodes_given
read_given input all m size e h f = ap (nodes_read input) (zeros_part all m size e h ∙ ap (λ (n : ℕ). replicate n 0) f)

module _ (input : List ℕ) (a : Accepted input) where
  pub refilled_long : 65536 < box_length (node_count_in input) (block_length_in input) → refilled_of input ≡ too_long_line
  unfolding refilled_of
  refilled_long h = answered input _ a.fits a.passes ∙ rw (lt-ltb 65536 (box_length (node_count_in input) (block_length_in input)) h)

  pub refilled_is : box_length (node_count_in input) (block_length_in input) ≤ 65536 → refilled_of input ≡ box_after_run (checked_box input).session (nodes_given input)
  unfolding refilled_of
  refilled_is h = answered input _ a.fits a.passes ∙ rw (le-ltb 65536 (box_length (node_count_in input) (block_length_in input)) h)
