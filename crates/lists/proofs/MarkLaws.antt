-- Marks set live: they stay so, lists may be set one after the other, and nothing else becomes live; marks turned round.
-- Assumes nothing.
use mathlib.Core.Path.{◌≡◌, refl, sym, ◌∙◌}
use mathlib.Core.Bool.{Bool, true, false, not}
use mathlib.Core.List.{List, Memᴰ, [], ◌∷◌, ◌++◌}
use Prim.Native.Nat.{ℕ, zero, suc, ◌≤◌, ◌<◌}
use native.Mathlib.Decide.{ℕ_discrete}
use native.Mathlib.Omega.{arith}
use lib.ListN.{length, set, length-set}
use lib.Seq.{get_or-set_same, get_or-set_other}
use Rattle.base.proofs.RangeLaws.{same_from, get_or-list_from}
use Rattle.base.proofs.Tests.{not_both}
use Rattle.lists.specs.Lists.{is_live, set_live, live_nodes, missing_nodes}
use Rattle.lists.specs.Inner.{turned_round}

-- a live mark stays live
pub set_keeps : (marks : List Bool) (i j : ℕ) → is_live marks j ≡ true → is_live (set marks i true) j ≡ true
set_keeps [] i j h = h
set_keeps (x ∷ marks) zero zero h = refl
set_keeps (x ∷ marks) zero (suc j) h = h
set_keeps (x ∷ marks) (suc i) zero h = h
set_keeps (x ∷ marks) (suc i) (suc j) h = set_keeps marks i j h

pub live_keeps : (marks : List Bool) (list : List ℕ) (j : ℕ) → is_live marks j ≡ true → is_live (set_live marks list) j ≡ true
unfolding set_live
live_keeps marks [] j h = h
live_keeps marks (x ∷ list) j h = live_keeps (set marks x true) list j (set_keeps marks x j h)

pub live_append : (marks : List Bool) (a b : List ℕ) → set_live marks (a ++ b) ≡ set_live (set_live marks a) b
unfolding set_live
live_append marks [] b = refl
live_append marks (x ∷ a) b = live_append (set marks x true) a b

-- a number of the list is live
pub live_listed_lem : {j : ℕ} {list : List ℕ} (marks : List Bool) → j < length marks → Memᴰ j list → is_live (set_live marks list) j ≡ true
unfolding set_live
live_listed_lem {j = j} marks h (Memᴰ.head {x} {xs} e) = live_keeps (set marks x true) xs j (rw (sym e) (get_or-set_same marks j true false h))
live_listed_lem marks h (Memᴰ.tail {x} m) = live_listed_lem (set marks x true) (omega (arith, length-set marks x true)) m

-- one that becomes live is a number of the list
pub listed_live : (marks : List Bool) (list : List ℕ) (j : ℕ) → is_live marks j ≡ false → is_live (set_live marks list) j ≡ true → Memᴰ j list
unfolding set_live
listed_live marks [] j e h = absurd (not_both (is_live marks j) h e)
listed_live marks (x ∷ list) j e h = go (ℕ_discrete j x) (λ g. listed_live (set marks x true) list j g h)
  where
    go : Dec (j ≡ x) → (is_live (set marks x true) j ≡ false → Memᴰ j list) → Memᴰ j (x ∷ list)
    go (yes q) later = Memᴰ.head q
    go (no n) later = Memᴰ.tail (later (get_or-set_other marks x j true false n ∙ e))

-- the nodes that are live in marks turned round are the missing ones
pub turned_nodes : (marks : List Bool) (n : ℕ) → n ≤ 255 → live_nodes (turned_round marks) n ≡ missing_nodes marks n
unfolding turned_round
turned_nodes marks n h = same_from _ _ 1 n (λ i l u. get_or-list_from (λ j. not (is_live marks j)) 256 i false (omega arith))
