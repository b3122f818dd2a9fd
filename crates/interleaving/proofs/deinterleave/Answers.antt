-- `interleaving::deinterleave` meets its contract: the blocks are k rows of L bytes, and the object is their columns.
use mathlib.Core.Path.{sym, ◌∙◌}
use native.Mathlib.Nat.{mul_comm}
use native.Mathlib.Omega.{arith}
use Rattle.checks.proofs.RefusalLaws.{refused, passed_on}
use Rattle.interleaving.specs.Interleaved.{deinterleaved, interleave_answer}
use Rattle.interleaving.proofs.Laws.{deinterleaved_is}
use Rattle.interleaving.proofs.Answers.{same_size, kept, written}
use Rattle.interleaving.proofs.deinterleave.Goals as goal

pub returns-in_err-check : goal.returns-in_err-check
unfolding interleave_answer
returns-in_err-check c =
    let g = c.args in
    record {
      value = passed_on _ _ c.from_residual.ensures.1 ∙ c.in_err-check.ensures;
      out_after = sym (kept g.family g.k g.len g.object.now g.out.now deinterleaved (λ z. refused _ (c.in_err-check.ensures ∙ z)));
    }

pub transpose-requires : goal.transpose-requires
unfolding interleave_answer
transpose-requires c = let g = c.args in same_size g.family g.k g.len g.object.now g.out.now (sym c.in_ok-check.ensures) _ (omega (arith, mul_comm g.k g.len))

pub returns : goal.returns
unfolding interleave_answer
returns c =
    let g = c.args in
    record {
      value = c.in_ok-check.ensures;
      out_after = c.transpose.ensures ∙ sym (written g.family g.k g.len g.object.now g.out.now deinterleaved (sym c.in_ok-check.ensures) ∙ deinterleaved_is g.k g.len g.object.now);
    }
