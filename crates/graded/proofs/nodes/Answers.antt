-- `graded::nodes` meets its contract: for k = 8 nothing is left out, and for a smaller k what is not below 2^k.
use mathlib.Core.Path.{◌≡◌, sym, ap, ◌∙◌}
use mathlib.Core.List.{List, ◌∷◌, ◌++◌, append-nil}
use Prim.Native.Nat.{ℕ, ◌-◌, ◌^◌}
use native.Mathlib.Omega.{arith}
use lib.ListN.{length, replicate}
use lib.Pow.{pow_pos}
use Rattle.graded.specs.Order.{graded_table, below, columns_left}
use Rattle.graded.proofs.TableLaws.{all_left}
use Rattle.graded.proofs.NumberLaws.{left_size}
use Rattle.graded.proofs.nodes.Goals as goal

-- no column is left out
all : 0 ∷ graded_table ≡ 0 ∷ columns_left 8 ++ replicate (256 - 2 ^ 8) 0
all = ap (λ (s : List ℕ). 0 ∷ s) (sym all_left ∙ sym (append-nil (columns_left 8)))

pub returns-then-k-eq8 : goal.returns-then-k-eq8
returns-then-k-eq8 c =
    c.all_nodes.ensures ∙ ap (λ (s : List ℕ). 0 ∷ s) c.table.ensures ∙ all
    ∙ ap (λ (k : ℕ). 0 ∷ columns_left k ++ replicate (256 - 2 ^ k) 0) (sym c.if-k-eq8.true)

pub returns : goal.returns
returns c =
    let k = c.args.k in
    let e : 255 - length (columns_left k) ≡ 256 - 2 ^ k = omega (arith, left_size k c.requires, pow_pos k) in
    c.nodes_below.ensures
    ∙ ap (λ (b : ℕ). 0 ∷ below b graded_table ++ replicate (255 - length (below b graded_table)) 0) c.power.ensures
    ∙ ap (λ (m : ℕ). 0 ∷ columns_left k ++ replicate m 0) e
