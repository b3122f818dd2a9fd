-- `repair::Session::read` meets its contract: a refusal leaves the nodes buffer alone, and an accepted box puts its bodies there.
use mathlib.Core.Path.{◌≡◌, sym, ◌∙◌, ap₂}
use mathlib.Core.List.{List}
use Prim.Native.Nat.{ℕ, ◌*◌}
use native.Mathlib.Omega.{arith}
use Rattle.families.proofs.Laws.{few}
use Rattle.checks.proofs.Laws.{bytes_most}
use Rattle.checks.proofs.RefusalLaws.{refused}
use Rattle.boxes.specs.Box.{block_length_in, names_in, node_count_in}
use Rattle.boxes.specs.Bodies.{with_bodies}
use Rattle.boxes.proofs.Answers.{n_is}
use Rattle.boxes.proofs.Laws.{accepted_box, has_names, list_in}
use Rattle.repair.proofs.CodeLaws.{start_refused}
use Rattle.repair.proofs.BoxedLaws.{read_by_box, read_by_nodes, read_done}
use Rattle.repair.proofs.Session.read.Goals as goal
use Rattle.repair.proofs.Session.read.Goals.{After-node_count-n}

-- the length of the nodes buffer that is asked for
size : (c : After-node_count-n) → let b = c.args.bytes.now in c.node_count-n.result * c.block_length-len.result ≡ node_count_in b * block_length_in b
size c = ap₂ ◌*◌ (n_is c.args.bytes.now c.in_ok-code.ensures.code c.node_count-n.ensures) c.block_length-len.ensures

same_bodies : {L M : ℕ} (nodes : List ℕ) {list names bodies rest : List ℕ} → L ≡ M → list ≡ names → bodies ≡ rest → with_bodies L nodes list bodies ≡ with_bodies M nodes names rest
same_bodies nodes l n b = rw (l, n, b)

pub returns-in_err-code : goal.returns-in_err-code
returns-in_err-code c =
    let g = c.args in
    let e = c.in_err-code.ensures.number in
    let r = read_by_box g.bytes.now g.nodes.now _ e (refused _) in
    record { value = start_refused _ _ c.from_residual.ensures.1 ∙ r.answer_is; nodes_after = r.buffer_is }

pub block_length-len-requires : goal.block_length-len-requires
block_length-len-requires c = (has_names _ (sym c.in_ok-code.ensures.number)).0

pub overflow_mul-n : goal.overflow_mul-n
overflow_mul-n c =
    let b = accepted_box _ (sym c.in_ok-code.ensures.number) in
    let p = bytes_most _ 255 (few _ _ b.range.blocks) b.range in
    rw (size (goal.at.overflow_mul-n c).After-node_count-n) (omega (arith, p))

pub returns-then-nodes-n : goal.returns-then-nodes-n
returns-then-nodes-n c =
    let g = c.args in
    let r = read_by_nodes g.bytes.now g.nodes.now (sym c.in_ok-code.ensures.number) (λ e. c.if-nodes-n.true (e ∙ sym (size (goal.at.returns-then-nodes-n c).After-node_count-n))) in
    record { value = r.answer_is; nodes_after = r.buffer_is }

pub names-requires : goal.names-requires
names-requires c = has_names _ (sym c.in_ok-code.ensures.number)

pub bodies-requires : goal.bodies-requires
bodies-requires c = has_names _ (sym c.in_ok-code.ensures.number)

pub read_bodies-requires : goal.read_bodies-requires
read_bodies-requires c =
    let g = c.args in
    let b = accepted_box _ (sym c.in_ok-code.ensures.number) in
    let long = c.if-nodes-n.false ∙ size (goal.at.read_bodies-requires c).After-node_count-n in
    let l = list_in (block_length_in g.bytes.now) (node_count_in g.bytes.now) g.nodes.now (names_in g.bytes.now) long b.nodes in
    rw (c.names.ensures, c.bodies.ensures, c.block_length-len.ensures) (record { list_in = l; bodies_len = rw b.names_size b.bodies_size })

pub returns : goal.returns
returns c =
    let g = c.args in
    let long = c.if-nodes-n.false ∙ size (goal.at.returns c).After-node_count-n in
    let r = read_done g.bytes.now g.nodes.now (sym c.in_ok-code.ensures.number) long in
    record { value = rw c.box_session.ensures r.answer_is; nodes_after = c.read_bodies.ensures ∙ same_bodies g.nodes.now c.block_length-len.ensures c.names.ensures c.bodies.ensures ∙ r.buffer_is }
