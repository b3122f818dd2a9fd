-- `repair::Session::write` meets its contract: a refusal leaves the destination alone, and what is checked of a session and a list is
-- what writing a box asks.
use mathlib.Core.Path.{◌≡◌, sym, ◌∙◌}
use mathlib.Core.List.{List}
use Prim.Native.Nat.{ℕ, ◌*◌, ◌≤◌}
use native.Mathlib.Nat.{le_trans}
use native.Mathlib.Omega.{arith}
use lib.ListN.{length}
use Rattle.checks.specs.Checks.{first_met}
use Rattle.checks.specs.Parameters.{most_l}
use Rattle.checks.proofs.Laws.{bytes_most}
use Rattle.checks.proofs.RefusalLaws.{refused}
use Rattle.families.proofs.Laws.{few, short}
use Rattle.lists.proofs.Laws.{rising_few}
use Rattle.boxes.proofs.Laws.{list_in}
use Rattle.repair.specs.declared.Session.{Session}
use Rattle.repair.specs.Session.{node_count_of}
use Rattle.repair.proofs.StartLaws.{Known, known, Sized, sized}
use Rattle.repair.proofs.BoxedLaws.{earlier, Listed, list_passed, write_by_list, write_6, write_made}
use Rattle.repair.proofs.Session.write.Goals as goal

-- ---- what is known once the list is checked
module _ (s : Session) (nodes list out : List ℕ) (e : first_met (earlier s nodes list out) ≡ 0) where
  passed : Listed s nodes list out
  passed = list_passed s nodes list out e

  sizes : Sized s (length nodes)
  sizes = sized s (length nodes) passed.sizes

  session : Known s
  session = known s sizes.sound

  -- a list of nodes is short, and so is its box
  small : (length list ≤ 255) × (length list * s.len ≤ 255 * most_l)
  small =
      let l = le_trans (rising_few (node_count_of s) list passed.inside passed.rising) (few _ _ session.range.blocks) in
      (l, bytes_most _ 255 l session.range)

pub overflow_mul-needed : goal.overflow_mul-needed
overflow_mul-needed c = let g = c.args in omega (arith, small g.self g.nodes.now g.list.now g.out.now (sym c.in_default.ensures))

pub overflow_add-needed-2 : goal.overflow_add-needed-2
overflow_add-needed-2 c = let g = c.args in omega (arith, small g.self g.nodes.now g.list.now g.out.now (sym c.in_default.ensures))

pub returns-in-Err : goal.returns-in-Err
returns-in-Err c =
    let g = c.args in
    let r = write_by_list g.self g.nodes.now g.list.now g.out.now _ c.in-Err.ensures (refused _) in
    record { value = rw c.refused.ensures r.answer_is; out_after = r.buffer_is }

pub returns-then-out-needed : goal.returns-then-out-needed
returns-then-out-needed c =
    let g = c.args in
    let r = write_6 g.self g.nodes.now g.list.now g.out.now (sym c.in_default.ensures) c.if-out-needed.true in
    record { value = rw c.refused-then-out-needed.ensures r.answer_is; out_after = r.buffer_is }

pub write_box-requires : goal.write_box-requires
write_box-requires c =
    let g = c.args in
    let e = sym c.in_default.ensures in
    let range = (session g.self g.nodes.now g.list.now g.out.now e).range in
    record {
      family_bound = (omega (arith, range.last), omega (arith, short _ _ range.blocks), omega (arith, range.most), omega (arith, (small g.self g.nodes.now g.list.now g.out.now e).0));
      list_in = list_in g.self.len (node_count_of g.self) g.nodes.now g.list.now (sizes g.self g.nodes.now g.list.now g.out.now e).size (passed g.self g.nodes.now g.list.now g.out.now e).inside;
      len_in_bounds = c.if-out-needed.false;
    }

pub returns : goal.returns
returns c =
    let g = c.args in
    let r = write_made g.self g.nodes.now g.list.now g.out.now (sym c.in_default.ensures) c.if-out-needed.false in
    record { value = rw c.served.ensures r.answer_is; out_after = c.write_box.ensures ∙ r.buffer_is }
