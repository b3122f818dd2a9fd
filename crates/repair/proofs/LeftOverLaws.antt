-- The nodes that are live after calls: each is a node reached from the start's list, and what a plan leaves missing is open.
-- Assumes nothing.
use mathlib.Core.Path.{◌≡◌, refl, sym, subst, ◌∙◌}
use mathlib.Core.Bool.{Bool, true, false, false≢true}
use mathlib.Core.List.{List, [], ◌∷◌, ◌++◌}
use Prim.Native.Nat.{ℕ, zero, suc, ◌≤◌, ◌<◌}
use native.Mathlib.Decide.{ℕ_discrete}
use native.Mathlib.Omega.{arith}
use lib.ListN.{length, get_or, set, length-set, replicate}
use lib.Seq.{get_or-set_same, get_or-set_other}
use Rattle.base.specs.Numbers.{Each}
use Rattle.base.proofs.EachLaws.{each_append}
use Rattle.families.specs.declared.Family.{Family}
use Rattle.families.specs.Families.{KInRange, IsNode, node_count}
use Rattle.families.proofs.Laws.{few}
use Rattle.base.proofs.RangeLaws.{outside_no}
use Rattle.lists.specs.Lists.{some_outside, none_live, is_live, set_live, is_in}
use Rattle.lists.proofs.Laws.{length-set_live, live_of_list}
use Rattle.lists.proofs.MarkLaws.{live_keeps, live_append}
use Rattle.planning.specs.Claims.{CanMake, CanMakeAll, PlanClaims}
use Rattle.pairing.specs.Pairs.{NoPairLeft}
use Rattle.planning.specs.Plan.{Step, plan_of, repaired_nodes, marks_after, nodes_left}
use Rattle.planning.proofs.Proved.{plan_claim}
use Rattle.leftover.specs.Open.{OpenCount}
use Rattle.leftover.proofs.Reached.{Reached, given, repaired, Ended}
use Rattle.leftover.proofs.Missing.{missing_count}
use Rattle.leftover.proofs.Count.{one_count}

-- ---- the marks of lists

-- of each number that is marked live
abbrev Marked : (ℕ → Type 0) → List Bool → Type 0
Marked P marks = (j : ℕ) → is_live marks j ≡ true → P j

each_outside : (n : ℕ) (list : List ℕ) → Each (λ j. (1 ≤ j) × (j ≤ n)) list → some_outside n list ≡ false
unfolding some_outside
each_outside n [] p = refl
each_outside n (x ∷ list) p = simp (outside_no 1 n x (p 0 (omega arith)).0 (p 0 (omega arith)).1, each_outside n list (λ i h. p (suc i) (omega arith)))

-- each number of the list is live
live_each : (marks : List Bool) (list : List ℕ) → Each (λ j. j < length marks) list → Each (λ j. is_live (set_live marks list) j ≡ true) list
unfolding set_live
live_each marks [] p i h = absurd (omega arith)
live_each marks (x ∷ list) p zero h = live_keeps (set marks x true) list x (get_or-set_same marks x true false (p 0 h))
live_each marks (x ∷ list) p (suc i) h =
    live_each (set marks x true) list (λ n l. omega (arith, p (suc n) (omega arith), length-set marks x true)) i (omega arith)

none_marked : (m j : ℕ) → is_live (replicate m false) j ≡ true → ⊥
none_marked zero j h = false≢true h
none_marked (suc m) zero h = false≢true h
none_marked (suc m) (suc j) h = none_marked m j h

module _ (P : ℕ → Type 0) where
  marked_set : (marks : List Bool) (x : ℕ) → Marked P marks → P x → Marked P (set marks x true)
  marked_set marks x p q j h = go (ℕ_discrete j x)
    where
      go : Dec (j ≡ x) → P j
      go (yes e) = subst P (sym e) q
      go (no n) = p j (sym (get_or-set_other marks x j true false n) ∙ h)

  marked_live : (marks : List Bool) (list : List ℕ) → Marked P marks → Each P list → Marked P (set_live marks list)
  unfolding set_live
  marked_live marks [] p q = p
  marked_live marks (x ∷ list) p q = marked_live (set marks x true) list (marked_set marks x p (q 0 (omega arith))) (λ i h. q (suc i) (omega arith))

-- ---- the plan from a list of live nodes

module _ (f : Family) (k : ℕ) (now : List ℕ) where
  -- the nodes that it repairs
  abbrev pub plan_adds : List ℕ
  plan_adds = repaired_nodes (plan_of f k (set_live none_live now))

  -- how many nodes are left
  abbrev pub left_of : ℕ
  left_of = nodes_left (marks_after (set_live none_live now) (plan_of f k (set_live none_live now))) (node_count f k)

-- ---- what calls add to a start's list

module _ (f : Family) (k : ℕ) (list : List ℕ) where
  -- a node that calls can make live
  pub record Reach (j : ℕ) : Type 0 where
    pub node : IsNode f k j
    pub reached : Reached f k list j

  -- the numbers of a list are of such nodes
  abbrev pub AllReached : List ℕ → Type 0
  AllReached added = Each Reach added

  -- the nodes live at some time: those of the start's list and others that were reached
  pub record Grown (now : List ℕ) : Type 0 where
    pub all : AllReached now
    pub keeps : Each (λ j. is_live (set_live none_live now) j ≡ true) list

  pub grown_marked : (now : List ℕ) → Grown now → Marked (Reached f k list) (set_live none_live now)
  grown_marked now g = marked_live (Reached f k list) none_live now (λ j h. absurd (none_marked 256 j h)) (λ i h. (g.all i h).reached)

  pub grown_more : (now added : List ℕ) → Grown now → AllReached added → Grown (now ++ added)
  grown_more now added g a =
      record {
        all = each_append Reach now added g.all a;
        keeps = λ i h. rw (live_append none_live now added) (live_keeps (set_live none_live now) added (get_or list i 0) (g.keeps i h));
      }

  -- steps that can be made repair nodes that were reached
  step_reach : (x : Step) (marks : List Bool) → Marked (Reached f k list) marks → CanMake f k marks x → Reached f k list x.node
  step_reach x marks p c = repaired c.related (p x.smaller c.smaller_live) (p x.larger c.larger_live)

  pub steps_reach : (steps : List Step) (marks : List Bool) → Marked (Reached f k list) marks → CanMakeAll f k marks steps → AllReached (repaired_nodes steps)
  steps_reach [] marks p c i h = absurd (omega arith)
  steps_reach (x ∷ steps) marks p c zero h = record { node = c.0.node; reached = step_reach x marks p c.0 }
  steps_reach (x ∷ steps) marks p c (suc i) h =
      steps_reach steps (set marks x.node true) (marked_set (Reached f k list) marks x.node p (step_reach x marks p c.0)) c.1 i (omega arith)

  module _ (range : KInRange f k) where
    plan_of_lem : (now : List ℕ) → PlanClaims f k (set_live none_live now)
    plan_of_lem now = plan_claim f k range (set_live none_live now) (length-set_live none_live now)

    pub plan_reach : (now : List ℕ) → Grown now → AllReached (plan_adds f k now)
    plan_reach now g = steps_reach (plan_of f k (set_live none_live now)) (set_live none_live now) (grown_marked now g) (plan_of_lem now).makes

    -- at each node the marks say whether it is in the list
    pub is_in_lem : (now : List ℕ) → Grown now → (j : ℕ) → j < 256 → is_live (set_live none_live now) j ≡ is_in now j
    is_in_lem now g j h =
        live_of_list now j h
        (each_outside 255 now (λ i l. let n : IsNode f k (get_or now i 0) = (g.all i l).node in (n.first, omega (arith, n.last, few f k range))))

    module _ (nodes : Each (IsNode f k) list) where
      pub grown_start : Grown list
      grown_start =
          record {
            all = λ i h. record { node = nodes i h; reached = given i h };
            keeps = live_each none_live list (λ i h. omega (arith, (nodes i h).last, few f k range));
          }

      -- by the marks, or by any test that says the same of nodes
      pub grown_ended : (now : List ℕ) → Grown now → (live : ℕ → Bool) → ((j : ℕ) → IsNode f k j → is_live (set_live none_live now) j ≡ live j)
          → NoPairLeft f k live → Ended f k list live
      grown_ended now g live same done =
          record {
            keeps = λ i h. sym (same (get_or list i 0) (nodes i h)) ∙ g.keeps i h;
            reached = λ j n h. grown_marked now g j (same j n ∙ h);
            done = done;
          }

      -- the nodes left are the open ones in number
      pub left_open : (now : List ℕ) → Grown now → (M : ℕ) → 1 ≤ M → OpenCount f k M list (left_of f k now)
      unfolding nodes_left
      left_open now g M h =
          rw (sym (live_append none_live now (plan_adds f k now)))
          (missing_count f k range list nodes (is_live (set_live none_live (now ++ plan_adds f k now)))
          (grown_ended (now ++ plan_adds f k now) (grown_more now (plan_adds f k now) g (plan_reach now g)) (is_live (set_live none_live (now ++ plan_adds f k now))) (λ j n. refl)
          (rw (live_append none_live now (plan_adds f k now)) (plan_of_lem now).ends))
          M h)

      -- so they are the same at any time
      pub left_same : (now : List ℕ) → Grown now → left_of f k now ≡ left_of f k list
      left_same now g = one_count f k 1 list (left_of f k now) (left_of f k list) (left_open now g 1 (omega arith)) (left_open list grown_start 1 (omega arith))
