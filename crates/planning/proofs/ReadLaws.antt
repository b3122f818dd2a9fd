-- Nodes that are read: the list of the free ones without one node, and without two.
-- Assumes nothing.
use mathlib.Core.Path.{◌≡◌, sym, ap, ◌∙◌}
use mathlib.Core.Bool.{Bool, true, false}
use mathlib.Core.List.{List, ◌++◌}
use Prim.Native.Nat.{ℕ, suc, ◌-◌, ◌≤◌, ◌<◌}
use native.Mathlib.Omega.{arith}
use lib.ListN.{length, set, take, drop, length-append}
use lib.Seq.{take_at, take-append-le, get_or-set_other}
use Rattle.lists.specs.Lists.{is_live, live_nodes}
use Rattle.lists.specs.Inner.{without_place}
use Rattle.lists.proofs.WithoutLaws.{without_live, fewer_live}

-- one node, which may be read
module _ (list : List ℕ) (free : List Bool) (n node : ℕ) (nodes : list ≡ live_nodes free n) (first : 1 ≤ node) (last : node ≤ n) (live : is_live free node ≡ true) where
  abbrev place : ℕ
  place = length (live_nodes free (node - 1))

  pub place_inside : place < length list
  place_inside = rw nodes (without_live free n node first last live).1

  pub one_fewer : suc (length (live_nodes (set free node false) n)) ≡ length list
  one_fewer = fewer_live free n node first last live ∙ ap length (sym nodes)

  pub read_one : {at : ℕ} {left : List ℕ} (tail : List ℕ) → at ≡ place → left ≡ without_place at list ++ tail → left ≡ live_nodes (set free node false) n ++ tail
  read_one tail e h =
      h ∙ ap (λ (s : List ℕ). s ++ tail) (ap (λ (i : ℕ). without_place i list) e ∙ ap (without_place place) nodes ∙ sym (without_live free n node first last live).0)

-- a pair of them: the first is left out of the list, and then the second of what is left
module _ (list : List ℕ) (free : List Bool) (n smaller larger : ℕ) (nodes : list ≡ live_nodes free n) (first : 1 ≤ smaller) (order : smaller < larger) (last : larger ≤ n)
    (one : is_live free smaller ≡ true) (other : is_live free larger ≡ true) where
  abbrev once_read : List Bool
  once_read = set free smaller false

  pub still_free : is_live once_read larger ≡ true
  still_free = get_or-set_other free smaller larger false false (λ e. omega arith) ∙ other

  few : suc (length (live_nodes once_read n)) ≡ length list
  few = one_fewer list free n smaller nodes first (omega arith) one

  pub rest_some : 1 ≤ length list
  rest_some = omega (arith, few)

  -- the first part after the first node
  pub read_first : {after : List ℕ} → after ≡ live_nodes once_read n ++ drop (length list - 1) list → take (length list - 1) after ≡ live_nodes once_read n
  read_first e = ap (take (length list - 1)) e ∙ take_at (live_nodes once_read n) (drop (length list - 1) list) (length list - 1) (omega (arith, few))

  -- and after the second
  pub read_both : (part tail rest : List ℕ) → rest ≡ live_nodes once_read n → part ≡ live_nodes (set once_read larger false) n ++ drop (length rest - 1) rest
      → take (length list - 2) (part ++ tail) ≡ live_nodes (set once_read larger false) n
  read_both part tail rest er ep =
      let last-nodes = live_nodes (set once_read larger false) n in
      let fewer = one_fewer rest once_read n larger er (omega arith) last still_free in
      let size : length last-nodes ≡ length list - 2 = omega (arith, fewer, ap length er, few) in
      ap (λ (l : List ℕ). take (length list - 2) (l ++ tail)) ep
      ∙ take-append-le (length list - 2) (last-nodes ++ drop (length rest - 1) rest) tail (omega (arith, size, length-append last-nodes (drop (length rest - 1) rest)))
      ∙ take_at last-nodes (drop (length rest - 1) rest) (length list - 2) size
