-- The claims of specs/Claims.antt about interleaved objects: what interleaving promises meets the whole way of an object.
-- Assumes nothing.
use mathlib.Core.Path.{◌∙◌}
use Rattle.encoding.proofs.Proved.{encode_claim}
use Rattle.interleaving.specs.Interleaved.{interleaved, out_moved}
use Rattle.interleaving.proofs.Proved.{rule_claim, accepted_claim, served_claim, undone_claim}
use Rattle.mogtriz.specs.Claims.{InterleavedObjectCClaim, InterleavedWayCClaim}
use Rattle.mogtriz.proofs.CallsProved.{whole_way_c_claim}

pub interleaved_object_c_claim : InterleavedObjectCClaim
interleaved_object_c_claim family k L object out nodes e n =
    let a = (accepted_claim family k L object out).0 e in
    (encode_claim family k L (out_moved interleaved family k L object out) nodes).1
    (a.0, rw (served_claim interleaved family k L object out e) (rule_claim k L object a.1).there_size, n)

pub interleaved_way_c_claim : InterleavedWayCClaim
interleaved_way_c_claim way object out by on moves result again e size =
    let left = (whole_way_c_claim way on moves).own.out result e ∙ by.handed_on in
    let back = undone_claim.there_and_back way.family way.k way.len object out again by.interleave size in
    record { accepted = rw left back.accepted; same = rw left back.same }
