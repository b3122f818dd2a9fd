-- The claims of specs/Claims.antt.
-- Assumes nothing.
use mathlib.Core.Path.{◌≡◌, sym, ap, ◌∙◌}
use mathlib.Core.Bool.{Bool, true}
use mathlib.Core.List.{List}
use mathlib.Core.Logic.{◌⊎◌, inl, inr}
use Prim.Native.Nat.{ℕ, ◌≤◌, ◌<◌}
use native.Mathlib.Nat.{eq-zero-or-pos}
use native.Mathlib.Omega.{arith}
use Rattle.families.specs.declared.Family.{Family}
use Rattle.families.specs.Families.{KInRange, are_related}
use Rattle.lists.specs.Lists.{is_live}
use Rattle.pairing.specs.declared.Pairs.{Pairs}
use Rattle.pairing.specs.Pairs.{smaller_node, pair_count, pairs_among, pairs_of, LiveNode}
use Rattle.pairing.specs.Claims.{IsPair, SearchClaim}
use Rattle.pairing.proofs.PairLaws.{pair_of, pairs_are, among_smaller, smaller_least, smaller_some}
use Rattle.pairing.proofs.CountLaws.{count_is, count_most, pairs_all}
use Rattle.pairing.proofs.NoneLaws.{count_none, some_count, none_count}

module _ (f : Family) (k : ℕ) (r : KInRange f k) (marks : List Bool) (j : ℕ) where
  -- the pair that the search gives, where there is a smaller node
  found : 1 ≤ smaller_node f k marks j → IsPair f k marks j (pairs_of f k marks j).smaller (pairs_of f k marks j).larger
  found h =
      let p = pair_of f k r marks j h in
      rw (pairs_are f k r marks j marks h)
      (record { order = p.order; smaller = record { node = p.smaller; live = p.smaller_live }; larger = record { node = p.larger; live = p.larger_live }; related = p.related })

  none_given : smaller_node f k marks j ≡ 0 → pairs_of f k marks j ≡ record { smaller = 0; larger = 0; count = 0 }
  unfolding pairs_among
  none_given e = rw e

  -- the count that it gives, in any case
  count_given : (pairs_of f k marks j).count ≡ pair_count f k marks j
  count_given = go (eq-zero-or-pos (smaller_node f k marks j))
    where
      go : (smaller_node f k marks j ≡ 0) ⊎ (0 < smaller_node f k marks j) → (pairs_of f k marks j).count ≡ pair_count f k marks j
      go (inl e) = ap (λ (p : Pairs). p.count) (none_given e) ∙ sym (count_none f k marks j e)
      go (inr h) = ap (λ (p : Pairs). p.count) (pairs_are f k r marks j marks h)

pub search_claim : SearchClaim
search_claim f k r marks j n =
    record {
      none = (
        (λ e a b la lb h. omega (arith, none_count f k marks j e, smaller_some f k marks j r n a b la lb h)),
        (λ none. go none (eq-zero-or-pos (pair_count f k marks j))),
      );
      most = count_most f k r marks j n;
      all = λ every. count_is f k r marks j n ∙ pairs_all f k r j n (is_live marks) every;
      count = count_given f k r marks j;
      zeros = ((λ e. sym (count_given f k r marks j) ∙ ap (λ (p : Pairs). p.count) e), (λ e. none_given f k r marks j (none_count f k marks j e)));
      given = λ h. found f k r marks j (some_count f k marks j h);
      least = λ a b p. omega (arith, among_smaller f k marks marks j, smaller_least f k marks j a b p.smaller p.larger p.order p.related);
    }
  where
    go : ((a b : ℕ) → LiveNode f k marks a → LiveNode f k marks b → are_related f k a b j ≡ true → ⊥)
        → (pair_count f k marks j ≡ 0) ⊎ (0 < pair_count f k marks j) → pair_count f k marks j ≡ 0
    go none (inl e) = e
    go none (inr h) = let p = found f k r marks j (some_count f k marks j h) in absurd (none _ _ p.smaller p.larger p.related)
