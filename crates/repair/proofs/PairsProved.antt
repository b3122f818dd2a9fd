-- The claims of specs/PairClaims.antt.
-- Assumes nothing.
use mathlib.Core.Path.{◌≡◌, sym, ap, ap₂, ◌∙◌}
use mathlib.Core.Bool.{false}
use Prim.Native.Nat.{ℕ, ◌≤◌}
use native.Mathlib.Omega.{arith}
use lib.ListN.{length}
use Rattle.families.specs.Families.{family_of, KInRange, IsNode}
use Rattle.blocks.specs.Blocks.{xor_bytes}
use Rattle.encoding.proofs.Nodes.{related_block}
use Rattle.pairing.specs.declared.Pairs.{Pairs}
use Rattle.pairing.specs.Pairs.{pair_count}
use Rattle.pairing.specs.Claims.{SearchClaims, IsPair}
use Rattle.pairing.proofs.Proved.{search_claim}
use Rattle.planning.proofs.Proved.{first_round_claim}
use Rattle.waves.specs.Waves.{FirstWaveClaims}
use Rattle.waves.proofs.Proved.{first_wave_claim}
use Rattle.repair.specs.declared.Session.{Session}
use Rattle.repair.specs.Answers.{PairsFound}
use Rattle.repair.specs.Session.{unsound}
use Rattle.repair.specs.Pairs.{served_pairs, pairs_found}
use Rattle.repair.specs.Step.{after_steps}
use Rattle.repair.specs.Repairs.{plan_in, ran}
use Rattle.repair.specs.Calls.{run}
use Rattle.repair.specs.PairClaims.{PairsClaims, PairsClaim, RunPairsClaim}
use Rattle.repair.proofs.StartLaws.{known}
use Rattle.repair.proofs.PairsLaws.{pairs_accepted, pairs_given}
use Rattle.repair.proofs.Accepted.{run_accepted}
use Rattle.repair.proofs.OwnLaws.{session_ran}
use Rattle.repair.proofs.AcceptsProved.{accepts_claim}
use Rattle.repair.proofs.RepairsProved.{step_claim, stays_claim, run_claim}

search_count : (s : Session) → unsound s ≡ false → (i : ℕ) → IsNode (family_of s.family) s.k i → (pairs_found s i).count ≡ pair_count (family_of s.family) s.k s.live i
search_count s sound i n =
    ap (λ (r : PairsFound). r.count) (pairs_given s i sound n) ∙ (search_claim (family_of s.family) s.k (known s sound).range.blocks s.live i n).count

-- a sound session and one of its nodes
module _ (s : Session) (sound : unsound s ≡ false) (j : ℕ) (node : IsNode (family_of s.family) s.k j) where
  range : KInRange (family_of s.family) s.k
  range = (known s sound).range.blocks

  own : SearchClaims (family_of s.family) s.k s.live j
  own = search_claim (family_of s.family) s.k range s.live j node

  is : pairs_found s j ≡ served_pairs s j
  is = pairs_given s j sound node

  count_is : (pairs_found s j).count ≡ pair_count (family_of s.family) s.k s.live j
  count_is = search_count s sound j node

  some : 1 ≤ (pairs_found s j).count → 1 ≤ pair_count (family_of s.family) s.k s.live j
  some h = omega (arith, count_is)

  given : 1 ≤ (pairs_found s j).count → IsPair (family_of s.family) s.k s.live j (pairs_found s j).smaller (pairs_found s j).larger
  given h = rw is (own.given (some h))

  claims : length s.live ≡ 256 → PairsClaims s j
  claims size =
      record {
        count = count_is;
        none = ((λ e. own.none.0 (sym count_is ∙ e)), (λ none. count_is ∙ own.none.1 none));
        zeros = (
          (λ e. ap (λ (r : PairsFound). r.count) e),
          (λ e. is ∙ ap (λ (p : Pairs). record { refusal = 0; smaller = p.smaller; larger = p.larger; count = p.count; session = s }) (own.zeros.1 (sym count_is ∙ e))),
        );
        all = λ every. count_is ∙ own.all every;
        most = omega (arith, count_is, own.most);
        given = given;
        least = λ a b p. rw is (own.least a b p);
        read = λ h object nodes fits live.
            let p = given h in
            ap₂ xor_bytes (live (pairs_found s j).smaller p.smaller.node p.smaller.live) (live (pairs_found s j).larger p.larger.node p.larger.live)
            ∙ sym (related_block (family_of s.family) s.k s.len object fits (pairs_found s j).smaller (pairs_found s j).larger j p.related);
        round_1 = λ t. omega (arith, count_is, ((first_round_claim (family_of s.family) s.k range s.live).repaired j t).2);
        first = λ missing h none.
            rw is
            ((first_round_claim (family_of s.family) s.k range s.live).first j node missing (some h)
            (λ i n gone l. sym (search_count s sound i n) ∙ none i n gone l));
        wave_1 = λ missing. (
          (λ t. omega (arith, count_is, ((first.repaired j).0 t).2)),
          (λ h. (first.repaired j).1 (node, missing, some h)),
        );
        step = λ missing h nodes fits.
            let p = given h in
            (step_claim s nodes j (pairs_found s j).smaller (pairs_found s j).larger).1
            (sound, fits, record { node = node; smaller = p.smaller.node; larger = p.larger.node; related = p.related; missing = missing; smaller_live = p.smaller.live; larger_live = p.larger.live });
      }
    where
      first : FirstWaveClaims (family_of s.family) s.k s.live
      first = first_wave_claim (family_of s.family) s.k range s.live size

pub pairs_claim : PairsClaim
pairs_claim s size j h = let a = pairs_accepted s j h in claims s a.sound j a.node size

pub run_pairs_claim : RunPairsClaim
run_pairs_claim s arrays nodes h j node missing =
    let e = run_accepted s nodes h in
    let is = session_ran s nodes e in
    let sound : unsound (ran s nodes).session ≡ false = stays_claim s arrays (((accepts_claim s).run nodes).0 h).0 nodes run in
    let ends = (run_claim s arrays nodes h).ends in
    rw is
    (count_is (after_steps s (plan_in s)) (rw is at sound) j node
    ∙ (own (after_steps s (plan_in s)) (rw is at sound) j node).none.1
    (λ a b la lb r. (rw is at ends) j a b node la.node lb.node (rw is at missing) la.live lb.live r))
