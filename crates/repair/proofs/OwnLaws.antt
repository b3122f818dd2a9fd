-- Calls on a session and a nodes buffer: each makes steps or is turned away, a run its plan's steps, and all keep the object's own blocks.
-- Assumes nothing.
use mathlib.Core.Path.{◌≡◌, refl, sym, ap, ap₂, ◌∙◌, subst}
use mathlib.Core.Bool.{Bool, true, false, false≢true}
use mathlib.Core.List.{List, Memᴰ, [], ◌∷◌, map, flat_map, get_last_d}
use mathlib.Core.Logic.{◌⊎◌, inl, inr}
use Prim.Native.Nat.{ℕ, ◌*◌, ◌≤◌}
use native.Mathlib.Decide.{ℕ_discrete}
use native.Mathlib.Omega.{arith}
use borrow.Author.Tests.{eqb-true, not-false}
use lib.Dec.{eqb}
use lib.ListN.{length, set, length-set}
use lib.Seq.{get_or-set_same, get_or-set_other}
use Rattle.base.proofs.First.{first_zero}
use Rattle.families.specs.declared.Family.{Family}
use Rattle.families.specs.Families.{family_of, KInRange, IsNode, column_of}
use Rattle.families.proofs.Laws.{few}
use Rattle.blocks.specs.Blocks.{xor_bytes, block_of}
use Rattle.blocks.specs.Inner.{InBuffer}
use Rattle.blocks.proofs.BlockLaws.{in_buffer, block_of_same, block_of_other}
use Rattle.blocks.proofs.PartLaws.{length-block_of}
use Rattle.blocks.proofs.XorBytes.{length-xor_bytes}
use Rattle.blocks.proofs.JoinedLaws.{same_joined}
use Rattle.checks.specs.Checks.{first_met}
use Rattle.checks.proofs.Laws.{accepted}
use Rattle.encoding.specs.Matrix.{node_block, nodes_buffer}
use Rattle.encoding.proofs.Nodes.{related_block, buffer_block}
use Rattle.lists.specs.Lists.{is_live, set_live}
use Rattle.lists.proofs.MarkLaws.{set_keeps, live_keeps}
use Rattle.planning.specs.Claims.{CanMakeAll}
use Rattle.planning.specs.Made.{mended, nodes_made}
use Rattle.pairing.specs.Pairs.{NoPairLeft}
use Rattle.planning.specs.Plan.{Step, repaired_nodes, sources_of, last_round, nodes_left}
use Rattle.planning.proofs.CarryLaws.{length-mended}
use Rattle.planning.proofs.Proved.{plan_claim}
use Rattle.validation.proofs.AcceptedLaws.{accepted_make}
use Rattle.readout.specs.DataBlocks.{data_node, missing_block}
use Rattle.readout.proofs.Laws.{data_node_lem, blocks_of_encoded}
use Rattle.repair.specs.declared.Session.{Session}
use Rattle.repair.specs.Answers.{Stepped}
use Rattle.repair.specs.Session.{Arrays, node_count_of, unsound, nodes_checks}
use Rattle.repair.specs.ReadOut.{missing_in, read_out_checks, object_out}
use Rattle.repair.specs.Step.{step_checks, after_steps, named_step, stepped, nodes_stepped}
use Rattle.repair.specs.Repairs.{plan_in, ran, nodes_ran}
use Rattle.repair.specs.Carry.{plan_steps, carry_checks, steps_carried, carried, nodes_carried}
use Rattle.repair.specs.Calls.{Move, step, run, carry, as_move, State, called, state_after}
use Rattle.repair.specs.RepairClaims.{LiveAreOwn}
use Rattle.repair.specs.CarryClaims.{AllAccepted}
use Rattle.repair.proofs.StartLaws.{Known, known, Sized, sized}
use Rattle.repair.proofs.AfterLaws.{none_made, after_append, after_arrays, after_sound}
use Rattle.repair.proofs.StepLaws.{step_made, AcceptedStep, accepted_step, step_accepted}
use Rattle.repair.proofs.ReadOutLaws.{read}

-- ---- a step, accepted

-- what it gives
abbrev pub session_made : Session → Step → Session
session_made s made = after_steps s (made ∷ [])

abbrev pub nodes_with : Session → List ℕ → Step → List ℕ
nodes_with s nodes made = mended s.len nodes made.node made.smaller made.larger

module _ (s : Session) (nodes : List ℕ) (made : Step) (w : AcceptedStep s nodes made) where
  pub session_stepped : (stepped s nodes made.node made.smaller made.larger).session ≡ session_made s made
  unfolding stepped sources_of flat_map
  session_stepped = rw (step_accepted s nodes made w)

  pub nodes_stepped_lem : nodes_stepped s nodes made.node made.smaller made.larger ≡ nodes_with s nodes made
  unfolding nodes_stepped
  nodes_stepped_lem = rw (step_accepted s nodes made w)

  -- its blocks
  in_nodes : (i : ℕ) → IsNode (family_of s.family) s.k i → InBuffer s.len nodes i
  in_nodes i n = in_buffer s.len nodes (node_count_of s) i w.buffer.size n.first n.last

  abbrev block : List ℕ
  block = xor_bytes (block_of s.len nodes made.smaller) (block_of s.len nodes made.larger)

  full : length block ≡ s.len
  full =
      let a = length-block_of (in_nodes made.smaller w.makes.smaller) in
      let b = length-block_of (in_nodes made.larger w.makes.larger) in
      length-xor_bytes (block_of s.len nodes made.smaller) (block_of s.len nodes made.larger) (a ∙ sym b) ∙ a

  -- the block of its node is the XOR of the two, and any other is as it was
  block_made : block_of s.len (nodes_with s nodes made) made.node ≡ block
  block_made = block_of_same s.len nodes made.node block (in_nodes made.node w.makes.node) full

  block_kept : (i : ℕ) → IsNode (family_of s.family) s.k i → (i ≡ made.node → ⊥) → block_of s.len (nodes_with s nodes made) i ≡ block_of s.len nodes i
  block_kept i n d = block_of_other s.len nodes made.node block (in_nodes made.node w.makes.node) full i n.first d

  pub sized_stepped : Arrays s → Sized (session_made s made) (length (nodes_with s nodes made))
  sized_stepped arrays =
      let m = w.makes in
      record {
        sound = after_sound s arrays (made ∷ []) w.buffer.sound (m, tt);
        size = length-mended (in_nodes made.node m.node) (in_nodes made.smaller m.smaller) (in_nodes made.larger m.larger) ∙ w.buffer.size;
      }

-- ---- steps that can be made, one after the other

-- a session that they can be made from, and a nodes buffer of its size
pub record Makes (s : Session) (nodes : List ℕ) (steps : List Step) : Type 0 where
  pub arrays : Arrays s
  pub buffer : Sized s (length nodes)
  pub all : CanMakeAll (family_of s.family) s.k s.live steps

module _ (s : Session) (nodes : List ℕ) (x : Step) (steps : List Step) (m : Makes s nodes (x ∷ steps)) where
  -- the first
  now_made : AcceptedStep s nodes x
  now_made = record { buffer = m.buffer; makes = m.all.0 }

  -- and then the others
  then_makes : Makes (session_made s x) (nodes_with s nodes x) steps
  unfolding set_live
  then_makes = record { arrays = after_arrays s m.arrays (x ∷ []); buffer = sized_stepped s nodes x now_made m.arrays; all = m.all.1 }

pub steps_state : (s : Session) (nodes : List ℕ) (steps : List Step) → Makes s nodes steps
    → state_after called s nodes (map as_move steps) ≡ record { session = after_steps s steps; nodes = nodes_made s.len nodes steps }
unfolding state_after nodes_made
steps_state s nodes [] m = ap (λ (t : Session). record { session = t; nodes = nodes }) (none_made s)
steps_state s nodes (x ∷ steps) m =
    let w = now_made s nodes x steps m in
    ap₂ (λ (t : Session) (b : List ℕ). state_after called t b (map as_move steps)) (session_stepped s nodes x w) (nodes_stepped_lem s nodes x w)
    ∙ steps_state (session_made s x) (nodes_with s nodes x) steps (then_makes s nodes x steps m)
    ∙ ap (λ (t : Session). record { session = t; nodes = nodes_made s.len (nodes_with s nodes x) steps }) (after_append s (x ∷ []) steps)

-- each of these calls is accepted
pub steps_accepted : (s : Session) (nodes : List ℕ) (steps : List Step) → Makes s nodes steps → AllAccepted s nodes steps
steps_accepted s nodes [] m = tt
steps_accepted s nodes (x ∷ steps) m =
    let w = now_made s nodes x steps m in (
      step_answer w,
      subst (λ (t : Session). AllAccepted t (nodes_stepped s nodes x.node x.smaller x.larger) steps) (sym (session_stepped s nodes x w))
          (subst (λ (b : List ℕ). AllAccepted (session_made s x) b steps) (sym (nodes_stepped_lem s nodes x w)) (steps_accepted (session_made s x) (nodes_with s nodes x) steps (then_makes s nodes x steps m))),
    )
  where
    step_answer : AcceptedStep s nodes x → (stepped s nodes x.node x.smaller x.larger).refusal ≡ 0
    step_answer w = ap (λ (r : Stepped). r.refusal) (sym (step_made s nodes x.node x.smaller x.larger (step_accepted s nodes x w)).answer_is)

-- the buffer after them has its size
pub steps_size : (s : Session) (nodes : List ℕ) (steps : List Step) → Makes s nodes steps → length (nodes_made s.len nodes steps) ≡ node_count_of s * s.len
unfolding nodes_made
steps_size s nodes [] m = m.buffer.size
steps_size s nodes (x ∷ steps) m = steps_size (session_made s x) (nodes_with s nodes x) steps (then_makes s nodes x steps m)

-- no step of them repairs node j
abbrev pub Apart : ℕ → List Step → Type 0
Apart j [] = Unit {0}
Apart j (x ∷ steps) = (j ≡ x.node → ⊥) × Apart j steps

-- the blocks of nodes that none of them repairs are as they were
pub steps_keep : (s : Session) (nodes : List ℕ) (steps : List Step) → Makes s nodes steps
    → (j : ℕ) → IsNode (family_of s.family) s.k j → Apart j steps
    → block_of s.len (nodes_made s.len nodes steps) j ≡ block_of s.len nodes j
unfolding nodes_made
steps_keep s nodes [] m j n d = refl
steps_keep s nodes (x ∷ steps) m j n d =
    steps_keep (session_made s x) (nodes_with s nodes x) steps (then_makes s nodes x steps m) j n d.1
    ∙ block_kept s nodes x (now_made s nodes x steps m) j n d.0

-- such is a node that is not one of theirs
pub unlisted_apart : (steps : List Step) (j : ℕ) → (Memᴰ j (repaired_nodes steps) → ⊥) → Apart j steps
unlisted_apart [] j h = tt
unlisted_apart (x ∷ steps) j h = ((λ e. h (Memᴰ.head e)), unlisted_apart steps j (λ m. h (Memᴰ.tail m)))

-- such are the nodes that are missing after them
left_apart : (f : Family) (k : ℕ) → KInRange f k → (marks : List Bool) (steps : List Step) → length marks ≡ 256 → CanMakeAll f k marks steps
    → (j : ℕ) → is_live (set_live marks (repaired_nodes steps)) j ≡ false → Apart j steps
unfolding set_live
left_apart f k r marks [] size a j m = tt
left_apart f k r marks (x ∷ steps) size a j m =
    let here = get_or-set_same marks x.node true false (omega (arith, size, a.0.node.last, few f k r)) in (
      (λ e. false≢true (sym m ∙ live_keeps (set marks x.node true) (repaired_nodes steps) j (rw e here))),
      left_apart f k r (set marks x.node true) steps (length-set marks x.node true ∙ size) a.1 j m,
    )

-- and those that are live before them
live_apart : (f : Family) (k : ℕ) (marks : List Bool) (steps : List Step) → CanMakeAll f k marks steps → (j : ℕ) → is_live marks j ≡ true → Apart j steps
live_apart f k marks [] a j l = tt
live_apart f k marks (x ∷ steps) a j l = (
  (λ e. false≢true (sym a.0.missing ∙ rw (sym e) l)),
  live_apart f k (set marks x.node true) steps a.1 j (set_keeps marks x.node j l),
)

module _ (s : Session) (nodes : List ℕ) (e : first_met (nodes_checks s (length nodes)) ≡ 0) where
  -- what an accepted run says
  run_sized : Sized s (length nodes)
  run_sized = sized s (length nodes) e

  pub run_known : Known s
  run_known = known s run_sized.sound

  pub session_ran : (ran s nodes).session ≡ after_steps s (plan_in s)
  unfolding ran
  session_ran = rw e

  -- the plan's steps can be made
  pub plan_makes : length s.live ≡ 256 → CanMakeAll (family_of s.family) s.k s.live (plan_in s)
  plan_makes size = (plan_claim (family_of s.family) s.k run_known.range.blocks s.live size).makes

  run_makes : Arrays s → Makes s nodes (plan_in s)
  run_makes arrays = record { arrays = arrays; buffer = run_sized; all = plan_makes arrays.marks }

  pub ran_sized : Arrays s → Sized (ran s nodes).session (length (nodes_ran s nodes))
  unfolding ran nodes_ran
  ran_sized arrays =
      rw e (record { sound = after_sound s arrays (plan_in s) run_sized.sound (plan_makes arrays.marks); size = steps_size s nodes (plan_in s) (run_makes arrays) })

  pub nodes_ran_lem : nodes_ran s nodes ≡ nodes_made s.len nodes (plan_in s)
  unfolding nodes_ran
  nodes_ran_lem = rw e

  -- a node that the plan does not repair keeps its block
  module _ (arrays : Arrays s) where
    run_keeps : (j : ℕ) → IsNode (family_of s.family) s.k j → Apart j (plan_in s) → block_of s.len (nodes_ran s nodes) j ≡ block_of s.len nodes j
    run_keeps j n d = rw nodes_ran_lem (steps_keep s nodes (plan_in s) (run_makes arrays) j n d)

    pub run_keeps_left : (j : ℕ) → IsNode (family_of s.family) s.k j → is_live (ran s nodes).session.live j ≡ false
        → block_of s.len (nodes_ran s nodes) j ≡ block_of s.len nodes j
    run_keeps_left j n m =
        run_keeps j n (left_apart (family_of s.family) s.k run_known.range.blocks s.live (plan_in s) arrays.marks (plan_makes arrays.marks) j (rw session_ran at m))

    pub run_keeps_live : (j : ℕ) → IsNode (family_of s.family) s.k j → is_live s.live j ≡ true
        → block_of s.len (nodes_ran s nodes) j ≡ block_of s.len nodes j
    run_keeps_live j n l = run_keeps j n (live_apart (family_of s.family) s.k s.live (plan_in s) (plan_makes arrays.marks) j l)

  pub run_steps : Arrays s → state_after called s nodes (map as_move (plan_in s)) ≡ record { session = (ran s nodes).session; nodes = nodes_ran s nodes }
  run_steps arrays =
      steps_state s nodes (plan_in s) (run_makes arrays)
      ∙ rw (session_ran, nodes_ran_lem)

-- ---- a run where no pair is left

no_steps : (f : Family) (k : ℕ) (marks : List Bool) (steps : List Step) → CanMakeAll f k marks steps → NoPairLeft f k (is_live marks) → steps ≡ []
no_steps f k marks [] a done = refl
no_steps f k marks (x ∷ steps) a done =
    let m = a.0 in
    absurd (done x.node x.smaller x.larger m.node m.smaller m.larger m.missing m.smaller_live m.larger_live m.related)

module _ (s : Session) (nodes : List ℕ) (e : first_met (nodes_checks s (length nodes)) ≡ 0) (size : length s.live ≡ 256) (done : NoPairLeft (family_of s.family) s.k (is_live s.live)) where
  no_plan : plan_in s ≡ []
  no_plan = no_steps (family_of s.family) s.k s.live (plan_in s) (plan_makes s nodes e size) done

  pub quiet_answer : ran s nodes ≡ record { refusal = 0; steps = 0; rounds = 0; left = nodes_left s.live (node_count_of s); session = s }
  unfolding ran set_live last_round get_last_d
  quiet_answer = rw (e, no_plan, ← none_made s)

  pub quiet_nodes : nodes_ran s nodes ≡ nodes
  unfolding nodes_ran nodes_made
  quiet_nodes = rw (e, no_plan)

-- ---- a plan carried out

module _ (s : Session) (plan nodes : List ℕ) (e : first_met (carry_checks s plan nodes) ≡ 0) where
  -- what an accepted one says
  pub carry_sized : Sized s (length nodes)
  unfolding carry_checks nodes_checks
  carry_sized = let n = accepted (carry_checks s plan nodes) refl e in record { sound = n.0; size = eqb-true _ _ (not-false _ n.1.0) }

  pub session_carried : (carried s plan nodes).session ≡ after_steps s (steps_carried s plan)
  unfolding carried
  session_carried = rw e

  pub nodes_carried_lem : nodes_carried s plan nodes ≡ nodes_made s.len nodes (steps_carried s plan)
  unfolding nodes_carried
  nodes_carried_lem = rw e

  pub carry_makes : Arrays s → Makes s nodes (steps_carried s plan)
  carry_makes arrays =
      record { arrays = arrays; buffer = carry_sized; all = accepted_make (family_of s.family) s.k s.live (plan_steps plan) }

-- ---- what a call comes to

module _ (s : Session) (nodes : List ℕ) where
  -- it is turned away, and session and buffer are as they were
  pub record Kept (move : Move) : Type 0 where
    pub session_is : (called s nodes move).session ≡ s
    pub nodes_is : (called s nodes move).nodes ≡ nodes

  -- or it makes steps, which can be made
  pub record Made (move : Move) : Type 0 where
    pub steps : List Step
    pub session_is : (called s nodes move).session ≡ after_steps s steps
    pub nodes_is : (called s nodes move).nodes ≡ nodes_made s.len nodes steps
    pub makes : Arrays s → Makes s nodes steps

  pub outcome : (move : Move) → Kept move ⊎ Made move
  unfolding stepped nodes_stepped ran nodes_ran carried nodes_carried nodes_made
  outcome (step j a b) = go (eqb (first_met (step_checks s nodes j a b)) 0) refl
    where
      made : Step
      made = named_step j a b

      go : (met : Bool) → eqb (first_met (step_checks s nodes j a b)) 0 ≡ met → Kept (step j a b) ⊎ Made (step j a b)
      go true e =
          let w = accepted_step s nodes made (eqb-true _ 0 e) in
          inr
          (record {
            steps = made ∷ [];
            session_is = session_stepped s nodes made w;
            nodes_is = nodes_stepped_lem s nodes made w;
            makes = λ arrays. record { arrays = arrays; buffer = w.buffer; all = (w.makes, tt) };
          })
      go false e = inl (record { session_is = rw e; nodes_is = rw e })
  outcome run = go (eqb (first_met (nodes_checks s (length nodes))) 0) refl
    where
      go : (met : Bool) → eqb (first_met (nodes_checks s (length nodes))) 0 ≡ met → Kept run ⊎ Made run
      go true e =
          let z = eqb-true _ 0 e in
          inr (record { steps = plan_in s; session_is = session_ran s nodes z; nodes_is = nodes_ran_lem s nodes z; makes = run_makes s nodes z })
      go false e = inl (record { session_is = rw e; nodes_is = rw e })
  outcome (carry plan) = go (eqb (first_met (carry_checks s plan nodes)) 0) refl
    where
      go : (met : Bool) → eqb (first_met (carry_checks s plan nodes)) 0 ≡ met → Kept (carry plan) ⊎ Made (carry plan)
      go true e =
          let z = eqb-true _ 0 e in
          inr (record { steps = steps_carried s plan; session_is = session_carried s plan nodes z; nodes_is = nodes_carried_lem s plan nodes z; makes = carry_makes s plan nodes z })
      go false e = inl (record { session_is = rw e; nodes_is = rw e })

  module _ (move : Move) where
    -- a sound session is handed back as one
    pub stays : Arrays s → unsound s ≡ false → unsound (called s nodes move).session ≡ false
    stays arrays sound = go (outcome move)
      where
        go : Kept move ⊎ Made move → unsound (called s nodes move).session ≡ false
        go (inl k) = rw k.session_is sound
        go (inr m) = rw m.session_is (after_sound s arrays m.steps sound (m.makes arrays).all)

    -- a live node stays live
    pub keeps : (i : ℕ) → is_live s.live i ≡ true → is_live (called s nodes move).session.live i ≡ true
    keeps i l = go (outcome move)
      where
        go : Kept move ⊎ Made move → is_live (called s nodes move).session.live i ≡ true
        go (inl k) = rw k.session_is l
        go (inr m) = rw m.session_is (live_keeps s.live (repaired_nodes m.steps) i l)

-- ---- the object's own blocks

module _ (object : List ℕ) where
  -- the arrays have their length, the object has the session's, and every live block is its own
  pub record Own (s : Session) (nodes : List ℕ) : Type 0 where
    pub arrays : Arrays s
    pub size : length object ≡ s.k * s.len
    pub live : LiveAreOwn object s nodes

  abbrev pub OwnState : State Session → Type 0
  OwnState state = Own state.session state.nodes

  own_made : (s : Session) (nodes : List ℕ) (made : Step) → AcceptedStep s nodes made → Own s nodes
      → Own (session_made s made) (nodes_with s nodes made)
  unfolding set_live
  own_made s nodes made w o = record { arrays = after_arrays s o.arrays (made ∷ []); size = o.size; live = λ i n v. go i n v (ℕ_discrete i made.node) }
    where
      own : ℕ → List ℕ
      own i = node_block s.k s.len object (column_of (family_of s.family) s.k i)

      -- the block that is made is the node's own
      is_own : block s nodes made w ≡ own made.node
      is_own =
          let m = w.makes in
          ap₂ xor_bytes (o.live made.smaller m.smaller m.smaller_live) (o.live made.larger m.larger m.larger_live)
          ∙ sym (related_block (family_of s.family) s.k s.len object o.size made.smaller made.larger made.node m.related)

      go : (i : ℕ) → IsNode (family_of s.family) s.k i → is_live (set s.live made.node true) i ≡ true → Dec (i ≡ made.node)
          → block_of s.len (nodes_with s nodes made) i ≡ own i
      go i n v (yes e) = rw e (block_made s nodes made w ∙ is_own)
      go i n v (no d) =
          block_kept s nodes made w i n d
          ∙ o.live i n (sym (get_or-set_other s.live made.node i true false d) ∙ v)

  -- so are those that steps leave
  own_all : (s : Session) (nodes : List ℕ) (steps : List Step) → Makes s nodes steps → Own s nodes → Own (after_steps s steps) (nodes_made s.len nodes steps)
  unfolding nodes_made
  own_all s nodes [] m o = rw (← none_made s) o
  own_all s nodes (x ∷ steps) m o =
      subst (λ (t : Session). Own t (nodes_made s.len (nodes_with s nodes x) steps)) (after_append s (x ∷ []) steps)
      (own_all (session_made s x) (nodes_with s nodes x) steps (then_makes s nodes x steps m) (own_made s nodes x (now_made s nodes x steps m) o))

  own_call : (s : Session) (nodes : List ℕ) (move : Move) → Own s nodes → OwnState (called s nodes move)
  own_call s nodes move o = go (outcome s nodes move)
    where
      go : Kept s nodes move ⊎ Made s nodes move → OwnState (called s nodes move)
      go (inl k) = rw (k.session_is, k.nodes_is) o
      go (inr m) = rw (m.session_is, m.nodes_is) (own_all s nodes m.steps (m.makes o.arrays) o)

  pub own_moves : (s : Session) (nodes : List ℕ) (moves : List Move) → Own s nodes → OwnState (state_after called s nodes moves)
  unfolding state_after
  own_moves s nodes [] o = o
  own_moves s nodes (move ∷ moves) o = own_moves (called s nodes move).session (called s nodes move).nodes moves (own_call s nodes move o)

  -- where read out is accepted, every data block's node is live, so the buffer's data blocks are those of the encoded object
  pub own_out : (s : Session) (nodes result : List ℕ) → Own s nodes → first_met (read_out_checks s nodes result) ≡ 0 → object_out s nodes result ≡ object
  unfolding read_out_checks nodes_checks missing_block
  own_out s nodes result o e =
      let f = family_of s.family in
      let n = accepted (read_out_checks s nodes result) refl e in
      let range = (known s n.0).range.blocks in
      let whole : missing_in s ≡ 0 = eqb-true (missing_in s) 0 (not-false _ n.1.1.1.0) in
      let at : (i : ℕ) → 1 ≤ i → i ≤ s.k → block_of s.len nodes (data_node f s.k i) ≡ block_of s.len (nodes_buffer f s.k s.len object) (data_node f s.k i)
      = λ i l h.
      let d = data_node_lem f s.k i range l h in
      o.live (data_node f s.k i) d.is_node (not-false _ (first_zero _ 1 s.k (omega arith) whole i l (omega arith)))
      ∙ sym (buffer_block f s.k s.len object o.size (data_node f s.k i) d.is_node) in
      sym (read s nodes result e).buffer_is
      ∙ same_joined (λ i. block_of s.len nodes (data_node f s.k i)) _ s.k at
      ∙ blocks_of_encoded f s.k s.len object range o.size
