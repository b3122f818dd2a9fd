-- `repair::Session::read_out` meets its contract: a refusal leaves the object alone, and an accepted call fills all of it.
use mathlib.Core.Path.{sym, ◌∙◌}
use native.Mathlib.Omega.{arith}
use Rattle.base.proofs.NumberLaws.{numbered_is, numbered_not}
use Rattle.repair.specs.ReadOut.{missing_in}
use Rattle.repair.proofs.StartLaws.{known, object_small, sized}
use Rattle.repair.proofs.ReadOutLaws.{by_nodes, by_object, by_block, accepted_out, read}
use Rattle.repair.proofs.Session.read_out.Goals as goal

pub returns-in-Err : goal.returns-in-Err
returns-in-Err c =
    let g = c.args in
    let r = by_nodes g.self g.nodes.now g.object.now _ c.in-Err.ensures.number in
    record { value = rw c.refused.ensures r.answer_is; object_after = r.buffer_is }

pub overflow_mul-self : goal.overflow_mul-self
overflow_mul-self c = omega (arith, object_small _ (known _ (sized _ _ (sym c.in-Ok.ensures.number)).sound))

pub returns-then-object-self : goal.returns-then-object-self
returns-then-object-self c =
    let g = c.args in
    let r = by_object g.self g.nodes.now g.object.now (sym c.in-Ok.ensures.number) c.if-object-self.true in
    record { value = rw c.refused-then-object-self.ensures r.answer_is; object_after = r.buffer_is }

pub returns-in-Some : goal.returns-in-Some
returns-in-Some c =
    let g = c.args in
    let p = c.in-Ok.ensures.code in
    let b = numbered_is (missing_in g.self) (rw (p.family_is, p.k_is) at c.in-Some.ensures) in
    let r = by_block g.self g.nodes.now g.object.now (sym c.in-Ok.ensures.number) c.if-object-self.false _ b.0 b.1 in
    record { value = rw c.refused-in-Some.ensures r.answer_is; object_after = r.buffer_is }

pub copy_data_blocks-requires : goal.copy_data_blocks-requires
copy_data_blocks-requires c =
    let p = c.in-Ok.ensures.code in
    rw (p.family_is, p.k_is) ((sized _ _ (sym c.in-Ok.ensures.number)).size, c.if-object-self.false)

pub returns : goal.returns
returns c =
    let g = c.args in
    let p = c.in-Ok.ensures.code in
    let e = sym c.in-Ok.ensures.number in
    let b = numbered_not (missing_in g.self) (rw (p.family_is, p.k_is) at c.in_default.ensures) in
    let r = read g.self g.nodes.now g.object.now (accepted_out g.self g.nodes.now g.object.now e c.if-object-self.false b) in
    record {
      value = rw c.served.ensures r.answer_is;
      object_after = (rw (p.family_is, p.k_is) at c.copy_data_blocks.ensures) ∙ r.buffer_is;
    }
