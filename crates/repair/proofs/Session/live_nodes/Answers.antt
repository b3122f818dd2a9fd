-- `repair::Session::live_nodes` meets its contract: the list is made aside, and copied where the buffer is long enough.
use mathlib.Core.Path.{◌≡◌, refl}
use mathlib.Core.List.{List, ◌++◌}
use Prim.Native.Nat.{ℕ}
use native.Mathlib.Nat.{sub-zero}
use native.Mathlib.Omega.{arith}
use lib.ListN.{length, take}
use lib.Seq.{take_at}
use Rattle.repair.specs.LiveNodes.{live_nodes_of}
use Rattle.repair.proofs.CodeLaws.{code_sound, code_unsound, code_13, nodes_of_code, nodes_few}
use Rattle.repair.proofs.LiveListLaws.{live_13, live_6, live_listed_lem}
use Rattle.repair.proofs.Session.live_nodes.Goals as goal

-- a list with more after it, up to the list's length
up_to : (list rest all : List ℕ) (count : ℕ) → all ≡ list ++ rest → count ≡ length list → take count all ≡ list
up_to list rest all count is counts = rw (is, counts) (take_at list rest _ refl)

pub returns-in-Err : goal.returns-in-Err
returns-in-Err c =
    let g = c.args in
    let e = c.in-Err.ensures.number in
    let r = live_13 g.self g.out.now (code_unsound _ _ e) in
    record { value = rw (c.refused.ensures, code_13 _ _ e) r.answer_is; out_after = r.buffer_is }

pub count_live-count-requires : goal.count_live-count-requires
count_live-count-requires c = nodes_few c.in-Ok.code _ c.node_count-n.ensures

pub list_live-all-requires : goal.list_live-all-requires
list_live-all-requires c = nodes_few c.in-Ok.code _ c.node_count-n.ensures

pub returns-then-out-count : goal.returns-then-out-count
returns-then-out-count c =
    let g = c.args in
    let n = nodes_of_code g.self _ _ c.in-Ok.ensures.code c.node_count-n.ensures in
    let m : c.count_live-count.result ≡ length (live_nodes_of g.self) = (rw n at c.count_live-count.ensures) in
    let r = live_6 g.self g.out.now (code_sound _ c.in-Ok.ensures.number) (omega (arith, m, c.if-out-count.true)) in
    record { value = rw c.refused-then-out-count.ensures r.answer_is; out_after = r.buffer_is }

pub returns : goal.returns
returns c =
    let g = c.args in
    let n = nodes_of_code g.self _ _ c.in-Ok.ensures.code c.node_count-n.ensures in
    let m : c.count_live-count.result ≡ length (live_nodes_of g.self) = (rw n at c.count_live-count.ensures) in
    let first : take c.count_live-count.result c.list_live-all.result ≡ live_nodes_of g.self = up_to _ _ _ _ (rw n at c.list_live-all.ensures) m in
    let r = live_listed_lem g.self g.out.now (code_sound _ c.in-Ok.ensures.number) (omega (arith, m, c.if-out-count.false)) in
    record {
      value = rw c.served.ensures (rw (← m) at r.answer_is);
      out_after = rw (c.copy_block.ensures, sub-zero c.count_live-count.result, first) (rw (← m) at r.buffer_is);
    }
