-- `encoding::encode` meets its contract: a refusal leaves the nodes buffer alone, and an accepted call fills all of it.
use mathlib.Core.Path.{sym, ◌∙◌}
use Rattle.checks.proofs.RefusalLaws.{refused, passed_on}
use Rattle.encoding.specs.Encode.{encode_answer}
use Rattle.encoding.proofs.Answers.{kept, written, accepted_call}
use Rattle.encoding.proofs.encode.Goals as goal

pub returns-in_err-code-clause-value : goal.returns-in_err-code-clause-value
unfolding encode_answer
returns-in_err-code-clause-value c =
    passed_on _ _ c.from_residual.ensures.1 ∙ c.in_err-code.ensures.number

pub returns-in_err-code-clause-nodes_after : goal.returns-in_err-code-clause-nodes_after
unfolding encode_answer
returns-in_err-code-clause-nodes_after c =
    let g = c.args in
    kept g.family g.k g.len g.object.now g.nodes.now (λ z. refused _ (c.in_err-code.ensures.number ∙ z))

pub encode_nodes-requires : goal.encode_nodes-requires
unfolding encode_answer
encode_nodes-requires c =
    let g = c.args in
    let p = c.in_ok-code.ensures.code in
    let a = accepted_call g.family g.k g.len g.object.now g.nodes.now (sym c.in_ok-code.ensures.number) in
    rw (p.family_is, p.k_is) (a.first, a.second)

pub returns : goal.returns
unfolding encode_answer
returns c =
    let g = c.args in
    let p = c.in_ok-code.ensures.code in
    record {
      value = c.in_ok-code.ensures.number;
      nodes_after = c.encode_nodes.ensures ∙ rw (p.family_is, p.k_is) (written g.family g.k g.len g.object.now g.nodes.now (sym c.in_ok-code.ensures.number));
    }
