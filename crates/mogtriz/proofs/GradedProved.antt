-- The claims of specs/Claims.antt about boxes in graded order: what a conversion promises meets the whole way of an object.
-- Assumes nothing.
use mathlib.Core.Path.{◌≡◌, sym, ap, ap₂, subst, ◌∙◌}
use mathlib.Core.List.{List, []}
use Prim.Native.Nat.{ℕ, ◌+◌, ◌*◌, ◌<◌}
use native.Mathlib.Omega.{arith}
use lib.ListN.{length, get_or}
use lib.Seq.{get_or-take}
use Rattle.families.specs.Families.{family_of, column_of}
use Rattle.families.specs.declared.Family.TheVariants.{Simplex}
use Rattle.encoding.specs.Matrix.{node_block}
use Rattle.boxes.specs.Box.{family_in, k_in, block_length_in, names_in}
use Rattle.graded.specs.Order.{column_at}
use Rattle.conversion.specs.Converted.{from_graded, converted}
use Rattle.conversion.specs.Claims.{box_left, BodiesBy}
use Rattle.conversion.proofs.Proved.{accepted_claim, converted_claim, object_claim}
use Rattle.repair.specs.declared.Session.{Session}
use Rattle.repair.specs.Boxed.{read_box, nodes_read}
use Rattle.repair.specs.Calls.{Move}
use Rattle.repair.specs.WholeWay.{BodiesAreOwn, start_of, nodes_encoded}
use Rattle.repair.proofs.Accepted.{read_accepted}
use Rattle.repair.proofs.RoundTripLaws.{session_read}
use Rattle.repair.proofs.RepairsProved.{own_claim}
use Rattle.repair.proofs.WholeWayProved.{own_box_claim, fits_claim}
use Rattle.mogtriz.specs.Sessions.{session_for_c}
use Rattle.mogtriz.specs.Claims.{OwnC, box_away_c, GradedWayCClaim, GradedBoxCClaim}
use Rattle.mogtriz.proofs.CallsProved.{own_agrees, same, writes}

-- an object's bodies in a simplex box, by the family's own columns
module _ (object bytes : List ℕ) (f : family_in bytes ≡ 1) where
  by_family : (j : ℕ) → node_block (k_in bytes) (block_length_in bytes) object (column_of (family_of (family_in bytes)) (k_in bytes) j) ≡ node_block (k_in bytes) (block_length_in bytes) object (column_of Simplex (k_in bytes) j)
  by_family j = ap (λ (number : ℕ). node_block (k_in bytes) (block_length_in bytes) object (column_of (family_of number) (k_in bytes) j)) f

  simplex_own : BodiesBy (column_of Simplex (k_in bytes)) object bytes → BodiesAreOwn object bytes
  simplex_own h i l = h i l ∙ sym (by_family (get_or (names_in bytes) i 0))

  own_simplex : BodiesAreOwn object bytes → BodiesBy (column_of Simplex (k_in bytes)) object bytes
  own_simplex h i l = h i l ∙ by_family (get_or (names_in bytes) i 0)

module _ (object bytes out nodes : List ℕ) (size : length object ≡ k_in bytes * block_length_in bytes) (bodies : BodiesBy (column_at (k_in bytes)) object bytes)
    (h : (converted bytes out).refusal ≡ 0) (g : (read_box (box_left from_graded bytes out) nodes).refusal ≡ 0)
  where
    abbrev box : List ℕ
    box = box_left from_graded bytes out

    -- the first 8 bytes are those of the box that came
    field : (i : ℕ) → i < 8 → get_or box i 0 ≡ get_or bytes i 0
    field i l = sym (get_or-take 8 box i 0 l) ∙ ap (λ (s : List ℕ). get_or s i 0) (converted_claim.ours bytes out h).head ∙ get_or-take 8 bytes i 0 l

    bodies_own : BodiesAreOwn object box
    bodies_own =
        simplex_own object box (field 0 (omega arith) ∙ ((accepted_claim bytes out).0 h).simplex)
        (subst (λ (k : ℕ). BodiesBy (column_of Simplex k) object box) (sym (field 1 (omega arith))) (object_claim.ours object bytes out h bodies))

    object_size : length object ≡ (read_box box nodes).session.k * (read_box box nodes).session.len
    object_size =
        size ∙ sym (ap₂ (λ (k : ℕ) (L : ℕ). k * L) (field 1 (omega arith)) (ap₂ (λ (x : ℕ) (y : ℕ). x + y * 256) (field 2 (omega arith)) (field 3 (omega arith))))
        ∙ sym (ap (λ (s : Session). s.k * s.len) (session_read box nodes (read_accepted box nodes g)))

    pub graded_way : (moves : List Move) → OwnC object (session_for_c (read_box box nodes).session) (nodes_read box nodes) moves
    graded_way moves =
        own_agrees object (read_box box nodes).session (nodes_read box nodes) moves
        (own_claim object (read_box box nodes).session (nodes_read box nodes) (fits_claim.read_fits box nodes g).arrays object_size (own_box_claim.read object box nodes bodies_own g) moves)

pub graded_way_c_claim : GradedWayCClaim
graded_way_c_claim = graded_way

pub graded_box_c_claim : GradedBoxCClaim
graded_box_c_claim way on out h =
    let is = same way on [] in
    let own = own_box_claim.encode way.family way.k way.len way.object way.nodes way.live on.encode on.start in
    let away = own_box_claim.write way.object (start_of way).session (nodes_encoded way) way.list way.out own (writes way on []) in
    object_claim.theirs way.object (box_away_c way) out h
    (own_simplex way.object (box_away_c way) ((accepted_claim (box_away_c way) out).0 h).simplex (subst (BodiesAreOwn way.object) (sym is) away))
