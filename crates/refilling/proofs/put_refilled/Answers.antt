-- `refilling::put_refilled` meets its contract: reading, the run, the list of the live nodes and writing are accepted, each on what
-- the one before left.
use mathlib.Core.Path.{◌≡◌, refl, sym, ap, ap₂, ◌∙◌}
use mathlib.Core.List.{List}
use Prim.Native.Nat.{ℕ}
use native.Mathlib.Omega.{arith}
use lib.ListN.{length, take, replicate, length-take}
use Rattle.std.specs.Prelude.{Ok}
use Rattle.boxes.specs.Bodies.{box_of}
use Rattle.repair.specs.declared.Session.{Session}
use Rattle.repair.specs.declared.Answer.{Answer}
use Rattle.repair.specs.Answers.{Started, Written, Repairs, started_as, written_as, count_in}
use Rattle.repair.specs.Boxed.{checked_box, nodes_read, written, out_written}
use Rattle.repair.specs.LiveNodes.{live_listed, out_listed}
use Rattle.repair.specs.Repairs.{ran, nodes_ran}
use Rattle.repair.specs.Claims.{list_left, LiveListClaims}
use Rattle.refilling.specs.Refilled.{after_run, box_after_run}
use Rattle.listing.proofs.ListingLaws.{served, started}
use Rattle.refilling.proofs.Laws.{read_is, reads, lists, listed_claims, written_claims}
use Rattle.refilling.proofs.put_refilled.Goals as goal
use Rattle.refilling.proofs.put_refilled.Goals.{After-live_nodes}

-- the session that is read, and the nodes buffer then
abbrev given : List ℕ → Session
given input = (checked_box input).session

-- the session and the buffer after the run
abbrev next : List ℕ → List ℕ → Session
next input nodes = after_run (given input) (nodes_read input nodes)

abbrev after : List ℕ → List ℕ → List ℕ
after input nodes = nodes_ran (given input) (nodes_read input nodes)

-- the bytes lent for the list
abbrev lent : List ℕ
lent = replicate 255 0

-- ---- what is known there

read_gives : (c : After-live_nodes) → c.unwrap-session.result ≡ given c.args.input.now
read_gives c =
    let p = c.requires in
    ap (λ (r : Started). r.session) (ap started_as (sym c.unwrap-session.ensures) ∙ c.read.ensures.value ∙ read_is c.args.input.now p.input_value c.args.nodes.now p.nodes_len)

run_gives : (c : After-live_nodes) → (c.run.result.session ≡ next c.args.input.now c.args.nodes.now) × (c.run.new.nodes ≡ after c.args.input.now c.args.nodes.now)
run_gives c =
    let e = c.run.ensures in
    let s = read_gives c in
    let n = c.read.ensures.nodes_after in
    (ap (λ (r : Repairs). r.session) (e.value ∙ ap₂ ran s n), e.nodes_after ∙ ap₂ nodes_ran s n)

list_gives : (c : After-live_nodes) → (written_as c.live_nodes.result ≡ live_listed (next c.args.input.now c.args.nodes.now) lent) × (c.live_nodes.new.out ≡ out_listed (next c.args.input.now c.args.nodes.now) lent)
list_gives c =
    let e = c.live_nodes.ensures in
    let ran_is = (run_gives c).0 in
    (e.value ∙ cc, e.out_after ∙ cc)

listed : (c : After-live_nodes) → LiveListClaims (next c.args.input.now c.args.nodes.now) lent
listed c = listed_claims c.args.input.now c.requires.input_value c.args.nodes.now c.requires.nodes_len lent refl

module _ (s : Session) {bytes : List ℕ} {listing : Answer ℕ} (gives : (written_as listing ≡ live_listed s lent) × (bytes ≡ out_listed s lent)) {count : ℕ} (h : listing.result ≡ Ok count) where
  count_is : count ≡ (live_listed s lent).length
  count_is = ap count_in (sym h) ∙ ap (λ (r : Written). r.length) gives.0

  -- the names that are lent to write are the list
  names : take count bytes ≡ list_left s lent
  names = ap₂ (λ (n : ℕ) (b : List ℕ). take n b) count_is gives.1

  names_count : LiveListClaims s lent → count ≡ length (take count bytes)
  names_count claims = count_is ∙ ap (λ (r : Written). r.length) claims.answer ∙ ap length (sym names)

-- what write is handed: the next session, the buffer after the run, and the list
handed : (l : After-live_nodes) {count : ℕ} → l.live_nodes.result.result ≡ Ok count → {A : Type 0} (f : Session → List ℕ → List ℕ → A)
    → let s = next l.args.input.now l.args.nodes.now in
    f l.run.result.session l.run.new.nodes (take count l.live_nodes.new.out) ≡ f s (after l.args.input.now l.args.nodes.now) (list_left s lent)
handed l h f =
    let ran_is = (run_gives l).0 in
    let nodes_are = (run_gives l).1 in
    let names_are = names _ (list_gives l) h in
    cc

pub unwrap-session-requires : goal.unwrap-session-requires
unwrap-session-requires c =
    let p = c.requires in
    started c.read.result (ap (λ (r : Started). r.refusal) c.read.ensures.value ∙ reads c.args.input.now p.input_value c.args.nodes.now p.nodes_len)

pub unwrap-count-requires : goal.unwrap-count-requires
unwrap-count-requires c =
    let p = c.requires in
    let l = list_gives (goal.at.unwrap-count-requires c).After-live_nodes in
    served c.live_nodes.result.result (ap (λ (r : Written). r.refusal) l.0 ∙ lists c.args.input.now p.input_value c.args.nodes.now p.nodes_len lent refl)

pub slice_bounds-list-end : goal.slice_bounds-list-end
slice_bounds-list-end c =
    let l = (goal.at.slice_bounds-list-end c).After-live_nodes in
    omega (arith, names_count _ (list_gives l) c.unwrap-count.ensures (listed l), length-take c.unwrap-count.result c.live_nodes.new.out)

pub slice_bounds-write-end : goal.slice_bounds-write-end
slice_bounds-write-end c =
    let l = (goal.at.slice_bounds-write-end c).After-live_nodes in
    names_count _ (list_gives l) c.unwrap-count.ensures (listed l)

pub unwrap-requires : goal.unwrap-requires
unwrap-requires c =
    let l = (goal.at.unwrap-requires c).After-live_nodes in
    let out = c.args.out.now in
    let claims = written_claims c.args.input.now c.requires.input_value c.args.nodes.now c.requires.nodes_len lent refl out c.requires.input_in_bounds in
    let wrote = c.write.ensures.value ∙ handed l c.unwrap-count.ensures (λ s nodes list. written s nodes list out) in
    served c.write.result.result (ap (λ (r : Written). r.refusal) (wrote ∙ claims.answer))

pub returns : goal.returns
unfolding box_after_run
returns c =
    let l = (goal.at.returns c).After-live_nodes in
    let input = c.args.input.now in
    let nodes = c.args.nodes.now in
    let out = c.args.out.now in
    let claims = written_claims input c.requires.input_value nodes c.requires.nodes_len lent refl out c.requires.input_in_bounds in
    let wrote = c.write.ensures.value ∙ handed l c.unwrap-count.ensures (λ s nodes list. written s nodes list out) in
    let left = c.write.ensures.out_after ∙ handed l c.unwrap-count.ensures (λ s nodes list. out_written s nodes list out) in
    let e = ap count_in (sym c.unwrap.ensures) ∙ ap (λ (x : Written). x.length) (wrote ∙ claims.answer) in
    let box = ap (λ (list : List ℕ). box_of (next input nodes).family (next input nodes).k (next input nodes).len list (after input nodes)) (sym (listed l).is) ∙ sym claims.box in
    rw box (record { value = e; upper_bound = omega (arith, e, claims.room); out_after = left ∙ claims.rest })
