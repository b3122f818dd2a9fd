-- Weight-two: a node has a third node with node j exactly where it has one of j's two numbers and not the other. There are 2k − 2
-- such nodes.
-- Assumes nothing.
use mathlib.Core.Path.{◌≡◌, refl, sym, ap, ap₂, ◌∙◌}
use mathlib.Core.Bool.{false}
use mathlib.Core.Logic.{inl, inr}
use Prim.Native.Nat.{ℕ, suc, ◌+◌, ◌≤◌}
use native.Mathlib.Omega.{arith}
use borrow.Author.Tests.{ltb-true}
use lib.Bits.{bit_xor, xor_comm}
use Rattle.base.proofs.Sums.{sum_same, sum_add}
use Rattle.base.proofs.Tests.{is_false}
use Rattle.families.specs.declared.Family.TheVariants.{WeightTwo}
use Rattle.families.specs.Families.{KInRange, IsNode, node_count, column_of, node_of}
use Rattle.families.specs.Inner.{unit}
use Rattle.families.proofs.Laws.{ZeroOrNode, NodeOf, node_of_lem}
use Rattle.families.proofs.EdgeLaws.{both, both_through, joined, smaller_within, column_both}
use Rattle.families.proofs.PairLaws.{PairOf, pair_of, place_of}
use Rattle.encoding.proofs.EndLaws.{ends, ends_xor, ends_yes, ends_no, Has, has, has_of, has_two, has_only, other_end}
use Rattle.pairing.proofs.Thirds.{has_third, third_count, counted, counted_sum, counted_itself, counted_other, counted_none}
use Rattle.pairing.proofs.Degrees.{degree}

module _ (k : ℕ) (r : KInRange WeightTwo k) (j : ℕ) (n : IsNode WeightTwo k j) where
  abbrev col : ℕ → ℕ
  col = column_of WeightTwo k

  abbrev pair : (a : ℕ) → IsNode WeightTwo k a → PairOf k a
  pair a m = pair_of k a m.first m.last

  abbrev p : PairOf k j
  p = pair j n

  module _ (a : ℕ) (m : IsNode WeightTwo k a) where
    abbrev q : PairOf k a
    q = pair a m

    -- j joins y to x: with a node at x it leads from y to that node's other number
    meets : (x y : ℕ) → y ≤ k → col j ≡ both y x → Has q x → ZeroOrNode WeightTwo k (bit_xor (col j) (col a))
    meets x y h e g =
        let o = other_end q x g in
        rw (ap₂ bit_xor e o.joins ∙ both_through y x o.end) (joined k r y o.end h o.within)

    -- where no number is in both, one that is in either is in the third node: too many for one
    apart : (Has q p.smaller → ⊥) → (Has q p.larger → ⊥) → has_third WeightTwo k j a ≡ false
    apart s l = is_false _ (λ t. shut (node_of_lem WeightTwo k r (bit_xor (col j) (col a)) (ltb-true 0 _ t)))
      where
        unshared : Has p q.smaller → ⊥
        unshared (inl e) = s (inl (sym e))
        unshared (inr e) = l (inl (sym e))

        shut : NodeOf WeightTwo k r (bit_xor (col j) (col a)) → ⊥
        shut c =
            let o = pair (node_of WeightTwo k (bit_xor (col j) (col a))) c.is_node in
            let in_it : (x : ℕ) → bit_xor (ends k x (col j)) (ends k x (col a)) ≡ 1 → Has o x =
            λ x e. has_of o x (ap (ends k x) c.has ∙ ends_xor k x (col j) (col a) ∙ e) in
            unshared (has_only o p.smaller p.larger q.smaller p.order
            (in_it p.smaller (ap₂ bit_xor (ends_yes p p.smaller (inl refl)) (ends_no q p.smaller s)))
            (in_it p.larger (ap₂ bit_xor (ends_yes p p.larger (inr refl)) (ends_no q p.larger l)))
            (in_it q.smaller (ap₂ bit_xor (ends_no p q.smaller unshared) (ends_yes q q.smaller (inl refl)))))

    -- a number that j has and it has not tells it from j
    differs : (x : ℕ) → Has p x → (Has q x → ⊥) → a ≡ j → ⊥
    differs x h lacks e = lacks (has_of q x (ap (λ (y : ℕ). ends k x (col y)) e ∙ ends_yes p x h))

    -- of j's two numbers x and y it has x alone
    one_shared : (x y : ℕ) → y ≤ k → col j ≡ both y x → Has p y → Has q x → (Has q y → ⊥) → counted WeightTwo k j 2 a ≡ 1
    one_shared x y w e h s l = counted_other WeightTwo k r j n 2 a m (differs y h l) (meets x y w e s)

    -- it counts for as many as it has of j's two numbers
    pub shared : counted WeightTwo k j 2 a ≡ ends k p.smaller (col a) + ends k p.larger (col a)
    shared = go (has q p.smaller) (has q p.larger)
      where
        go : Dec (Has q p.smaller) → Dec (Has q p.larger) → counted WeightTwo k j 2 a ≡ ends k p.smaller (col a) + ends k p.larger (col a)
        go (yes s) (yes l) =
            let two = has_two q p.smaller p.larger p.order s l in
            let e : a ≡ j = q.node ∙ ap suc (ap₂ (place_of k) two.0 two.1) ∙ sym p.node in
            counted_itself WeightTwo k r j n 2 a e ∙ omega (arith, ends_yes q p.smaller s, ends_yes q p.larger l)
        go (yes s) (no l) =
            one_shared p.smaller p.larger p.within (column_both p ∙ xor_comm (unit p.smaller) (unit p.larger)) (inr refl) s l
            ∙ omega (arith, ends_yes q p.smaller s, ends_no q p.larger l)
        go (no s) (yes l) =
            one_shared p.larger p.smaller (smaller_within p) (column_both p) (inl refl) l s
            ∙ omega (arith, ends_no q p.smaller s, ends_yes q p.larger l)
        go (no s) (no l) =
            counted_none WeightTwo k r j n 2 a (differs p.smaller (inl refl) s) (apart s l)
            ∙ omega (arith, ends_no q p.smaller s, ends_no q p.larger l)

  -- each of the two numbers is in k nodes, and j has both
  pub pair_thirds : third_count WeightTwo k j + 2 ≡ k + k
  pair_thirds =
      counted_sum WeightTwo k r j n 2
      ∙ sum_same (counted WeightTwo k j 2) (λ a. ends k p.smaller (col a) + ends k p.larger (col a)) 1 (node_count WeightTwo k)
      (λ a l h. shared a (record { first = l; last = omega arith }))
      ∙ sum_add (λ a. ends k p.smaller (col a)) (λ a. ends k p.larger (col a)) 1 (node_count WeightTwo k)
      ∙ ap₂ ◌+◌ (degree k p.smaller (smaller_within p)) (degree k p.larger p.within)
