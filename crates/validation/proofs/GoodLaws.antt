-- A good step, condition by condition; steps that are good one after the other, and the first that is not.
-- Assumes nothing.
use mathlib.Core.Path.{◌≡◌, refl, sym, ap, ◌∙◌, subst}
use mathlib.Core.Bool.{Bool, true, false, cond, not}
use mathlib.Core.List.{List, [], ◌∷◌, ◌++◌, append_assoc, append-nil, cons≢nil}
use mathlib.Core.Logic.{◌⊎◌, inl, inr}
use Prim.Native.Nat.{ℕ, suc, ◌+◌, ◌≤◌, ◌<◌}
use native.Mathlib.Omega.{arith}
use borrow.Author.Tests.{leb-true, le-leb, ltb-true, lt-ltb, eqb-true, eq-eqb, not-true}
use lib.Dec.{leb, ltb}
use lib.ListN.{length, length-append}
use Rattle.base.proofs.Tests.{and_left, and_right, and_both, not_both}
use Rattle.families.specs.declared.Family.{Family}
use Rattle.families.specs.Families.{IsNode, node_count, are_related}
use Rattle.lists.specs.Lists.{some_outside, is_live}
use Rattle.lists.proofs.Laws.{outside_both, outside_cons}
use Rattle.planning.specs.Plan.{Step, times_read, marks_after, in_round, before_round, last_round}
use Rattle.validation.specs.Good.{follows, may_serve, is_good, bad_after}
use Rattle.validation.specs.Inner.{good_steps}
use Rattle.validation.specs.Claims.{Good, FirstBad}

-- ---- rounds

-- a round that may follow
pub record Follows (last r : ℕ) : Type 0 where
  pub begins : 1 ≤ r
  pub falls_not : last ≤ r
  pub rises : r ≤ suc last

pub follows_is : (last r : ℕ) → follows last r ≡ true → Follows last r
unfolding follows
follows_is last r e =
    let more = and_right (leb 1 r) _ e in
    record {
      begins = leb-true 1 r (and_left (leb 1 r) _ e);
      falls_not = leb-true last r (and_left (leb last r) _ more);
      rises = leb-true r (suc last) (and_right (leb last r) _ more);
    }

pub is_follows : (last r : ℕ) → Follows last r → follows last r ≡ true
unfolding follows
is_follows last r h = and_both (leb 1 r) _ (le-leb 1 r h.begins) (and_both (leb last r) _ (le-leb last r h.falls_not) (le-leb r (suc last) h.rises))

-- ---- the three numbers of a step

module _ (f : Family) (k : ℕ) (step : Step) where
  abbrev pub numbers : List ℕ
  numbers = step.node ∷ step.smaller ∷ step.larger ∷ []

  pub record AreNodes : Type 0 where
    pub node : IsNode f k step.node
    pub smaller : IsNode f k step.smaller
    pub larger : IsNode f k step.larger

  pub nodes_are : some_outside (node_count f k) numbers ≡ false → AreNodes
  nodes_are e =
      let x = outside_both (node_count f k) step.node _ e in
      let y = outside_both (node_count f k) step.smaller _ x.1 in
      let z = outside_both (node_count f k) step.larger _ y.1 in
      record { node = record { first = x.0.0; last = x.0.1 }; smaller = record { first = y.0.0; last = y.0.1 }; larger = record { first = z.0.0; last = z.0.1 } }

  pub are_nodes : AreNodes → some_outside (node_count f k) numbers ≡ false
  unfolding some_outside
  are_nodes h =
      outside_cons (node_count f k) step.node (step.smaller ∷ step.larger ∷ []) h.node.first h.node.last
      (outside_cons (node_count f k) step.smaller (step.larger ∷ []) h.smaller.first h.smaller.last (outside_cons (node_count f k) step.larger [] h.larger.first h.larger.last refl))

-- ---- a good step

module _ (f : Family) (k : ℕ) (marks : List Bool) (earlier : List Step) (step : Step) where
  -- a node that may be read
  record Serves (i : ℕ) : Type 0 where
    live : is_live (marks_after marks (before_round step.round earlier)) i ≡ true
    unread : times_read i (in_round step.round earlier) ≡ 0

  serves_is : (i : ℕ) → may_serve marks earlier step.round i ≡ true → Serves i
  unfolding may_serve
  serves_is i e =
      let was = is_live (marks_after marks (before_round step.round earlier)) i in
      record { live = and_left was _ e; unread = eqb-true (times_read i (in_round step.round earlier)) 0 (and_right was _ e) }

  is_serves : (i : ℕ) → Serves i → may_serve marks earlier step.round i ≡ true
  unfolding may_serve
  is_serves i h = and_both (is_live (marks_after marks (before_round step.round earlier)) i) _ h.live (eq-eqb (times_read i (in_round step.round earlier)) 0 h.unread)

  pub good_is : is_good f k marks earlier step ≡ true → Good f k marks earlier step
  unfolding is_good
  good_is e =
      let round = follows_is (last_round earlier) step.round (and_left (follows (last_round earlier) step.round) _ e) in
      let e1 = and_right (follows (last_round earlier) step.round) _ e in
      let outside = some_outside (node_count f k) (numbers f k step) in
      let nodes = nodes_are f k step (not-true outside (and_left (not outside) _ e1)) in
      let e2 = and_right (not outside) _ e1 in
      let e3 = and_right (ltb step.smaller step.larger) _ e2 in
      let live = is_live (marks_after marks earlier) step.node in
      let e4 = and_right (not live) _ e3 in
      let related = are_related f k step.smaller step.larger step.node in
      let e5 = and_right related _ e4 in
      let small = serves_is step.smaller (and_left (may_serve marks earlier step.round step.smaller) _ e5) in
      let large = serves_is step.larger (and_right (may_serve marks earlier step.round step.smaller) _ e5) in
      record {
        begins = round.begins;
        falls_not = round.falls_not;
        rises = round.rises;
        node = nodes.node;
        smaller = nodes.smaller;
        larger = nodes.larger;
        order = ltb-true step.smaller step.larger (and_left (ltb step.smaller step.larger) _ e2);
        missing = not-true live (and_left (not live) _ e3);
        related = and_left related _ e4;
        smaller_live = small.live;
        larger_live = large.live;
        smaller_unread = small.unread;
        larger_unread = large.unread;
      }

  pub is_good_lem : Good f k marks earlier step → is_good f k marks earlier step ≡ true
  unfolding is_good
  is_good_lem g =
      and_both (follows (last_round earlier) step.round) _ (is_follows (last_round earlier) step.round (record { begins = g.begins; falls_not = g.falls_not; rises = g.rises }))
      (and_both (not (some_outside (node_count f k) (numbers f k step))) _ (ap not (are_nodes f k step (record { node = g.node; smaller = g.smaller; larger = g.larger })))
      (and_both (ltb step.smaller step.larger) _ (lt-ltb step.smaller step.larger g.order)
      (and_both (not (is_live (marks_after marks earlier) step.node)) _ (ap not g.missing)
      (and_both (are_related f k step.smaller step.larger step.node) _ g.related
      (and_both (may_serve marks earlier step.round step.smaller) _ (is_serves step.smaller (record { live = g.smaller_live; unread = g.smaller_unread }))
      (is_serves step.larger (record { live = g.larger_live; unread = g.larger_unread })))))))

-- ---- steps one after the other

module _ (f : Family) (k : ℕ) (marks : List Bool) where
  -- the first of some steps is good, or bad
  pub after_good : (earlier : List Step) (step : Step) (steps : List Step) → is_good f k marks earlier step ≡ true
      → bad_after f k marks earlier (step ∷ steps) ≡ bad_after f k marks (earlier ++ step ∷ []) steps
  unfolding bad_after
  after_good earlier step steps e = rw e

  pub after_bad : (earlier : List Step) (step : Step) (steps : List Step) → is_good f k marks earlier step ≡ false → bad_after f k marks earlier (step ∷ steps) ≡ suc (length earlier)
  unfolding bad_after
  after_bad earlier step steps e = rw e

  longer : (earlier : List Step) (step : Step) → length (earlier ++ step ∷ []) ≡ suc (length earlier)
  longer earlier step = omega (arith, length-append earlier (step ∷ []))

  -- the number is 0, or that of one of the steps
  pub number_of : (earlier steps : List Step) → (bad_after f k marks earlier steps ≡ 0) ⊎ (length earlier < bad_after f k marks earlier steps)
  unfolding bad_after
  number_of earlier [] = inl refl
  number_of earlier (step ∷ steps) = go (is_good f k marks earlier step) (number_of (earlier ++ step ∷ []) steps)
    where
      go : (b : Bool) → (bad_after f k marks (earlier ++ step ∷ []) steps ≡ 0) ⊎ (length (earlier ++ step ∷ []) < bad_after f k marks (earlier ++ step ∷ []) steps)
          → (cond b (bad_after f k marks (earlier ++ step ∷ []) steps) (suc (length earlier)) ≡ 0) ⊎ (length earlier < cond b (bad_after f k marks (earlier ++ step ∷ []) steps) (suc (length earlier)))
      go true (inl z) = inl z
      go true (inr h) = inr (omega (arith, longer earlier step))
      go false h = inr (omega arith)

  pub number_most : (earlier steps : List Step) → bad_after f k marks earlier steps ≤ length earlier + length steps
  unfolding bad_after
  number_most earlier [] = omega arith
  number_most earlier (step ∷ steps) = go (is_good f k marks earlier step) (number_most (earlier ++ step ∷ []) steps)
    where
      go : (b : Bool) → bad_after f k marks (earlier ++ step ∷ []) steps ≤ length (earlier ++ step ∷ []) + length steps
          → cond b (bad_after f k marks (earlier ++ step ∷ []) steps) (suc (length earlier)) ≤ length earlier + suc (length steps)
      go true h = omega (arith, longer earlier step)
      go false h = omega arith

  -- where no step is bad, the first is good and no other is bad
  pub record GoodFirst (earlier : List Step) (step : Step) (steps : List Step) : Type 0 where
    pub first : is_good f k marks earlier step ≡ true
    pub rest : bad_after f k marks (earlier ++ step ∷ []) steps ≡ 0

  pub good_first : (earlier : List Step) (step : Step) (steps : List Step) → bad_after f k marks earlier (step ∷ steps) ≡ 0 → GoodFirst earlier step steps
  unfolding bad_after
  good_first earlier step steps e = go (is_good f k marks earlier step) refl e
    where
      go : (b : Bool) → is_good f k marks earlier step ≡ b → cond b (bad_after f k marks (earlier ++ step ∷ []) steps) (suc (length earlier)) ≡ 0 → GoodFirst earlier step steps
      go true g z = record { first = g; rest = z }
      go false g z = absurd (omega arith)

  -- a plan without a bad step is all good steps
  pub all_good_steps : (earlier steps : List Step) → bad_after f k marks earlier steps ≡ 0 → good_steps f k marks earlier steps ≡ steps
  unfolding good_steps
  all_good_steps earlier [] e = refl
  all_good_steps earlier (step ∷ steps) e =
      let g = good_first earlier step steps e in
      rw g.first (ap (λ (l : List Step). step ∷ l) (all_good_steps (earlier ++ step ∷ []) steps g.rest))

  -- ---- as the claims have it

  -- each of some steps is good after others and those before it
  abbrev GoodFrom : List Step → List Step → Type 0
  GoodFrom earlier steps = (more : List Step) (step : Step) (later : List Step) → steps ≡ more ++ step ∷ later → Good f k marks (earlier ++ more) step

  head_is : {x y : Step} {s t : List Step} → ◌≡◌ {A = List Step} (x ∷ s) (y ∷ t) → x ≡ y
  head_is {x = x} e = ap (λ (l : List Step). head_or x l) e
    where
      head_or : Step → List Step → Step
      head_or d [] = d
      head_or d (z ∷ l) = z

  tail_is : {x y : Step} {s t : List Step} → ◌≡◌ {A = List Step} (x ∷ s) (y ∷ t) → s ≡ t
  tail_is e = ap tail_of e
    where
      tail_of : List Step → List Step
      tail_of [] = []
      tail_of (z ∷ l) = l

  one_more : (earlier : List Step) (x : Step) (more : List Step) → (earlier ++ x ∷ []) ++ more ≡ earlier ++ x ∷ more
  one_more earlier x more = append_assoc earlier (x ∷ []) more

  pub none_bad : (earlier steps : List Step) → bad_after f k marks earlier steps ≡ 0 → GoodFrom earlier steps
  none_bad earlier [] e [] step later is = absurd (cons≢nil (sym is))
  none_bad earlier [] e (x ∷ more) step later is = absurd (cons≢nil (sym is))
  none_bad earlier (x ∷ steps) e [] step later is =
      rw (append-nil earlier, ← head_is is) (good_is f k marks earlier x (good_first earlier x steps e).first)
  none_bad earlier (x ∷ steps) e (y ∷ more) step later is =
      rw (← head_is is) (subst (λ (l : List Step). Good f k marks l step) (one_more earlier x more) (none_bad (earlier ++ x ∷ []) steps (good_first earlier x steps e).rest more step later (tail_is is)))

  pub bad_none : (earlier steps : List Step) → GoodFrom earlier steps → bad_after f k marks earlier steps ≡ 0
  unfolding bad_after
  bad_none earlier [] g = refl
  bad_none earlier (x ∷ steps) g =
      let here : Good f k marks earlier x = rw (append-nil earlier) at (g [] x steps refl) in
      after_good earlier x steps (is_good_lem f k marks earlier x here)
      ∙ bad_none (earlier ++ x ∷ []) steps (λ more step later is. rw (one_more earlier x more) (g (x ∷ more) step later (ap (λ (l : List Step). x ∷ l) is)))

  -- the first bad one of some steps
  record BadIn (earlier steps : List Step) (i : ℕ) : Type 0 where
    more : List Step
    step : Step
    later : List Step
    is : steps ≡ more ++ step ∷ later
    number_is : i ≡ suc (length earlier + length more)
    good : GoodFrom earlier more
    bad : Good f k marks (earlier ++ more) step → ⊥

  bad_in : (earlier steps : List Step) (i : ℕ) → 1 ≤ i → bad_after f k marks earlier steps ≡ i → BadIn earlier steps i
  unfolding bad_after
  bad_in earlier [] i l e = absurd (omega arith)
  bad_in earlier (x ∷ steps) i l e = go (is_good f k marks earlier x) refl e (λ h. bad_in (earlier ++ x ∷ []) steps i l h)
    where
      go : (b : Bool) → is_good f k marks earlier x ≡ b → cond b (bad_after f k marks (earlier ++ x ∷ []) steps) (suc (length earlier)) ≡ i
          → (bad_after f k marks (earlier ++ x ∷ []) steps ≡ i → BadIn (earlier ++ x ∷ []) steps i) → BadIn earlier (x ∷ steps) i
      go false g h next =
          record {
            more = [];
            step = x;
            later = steps;
            is = refl;
            number_is = omega arith;
            good = λ more step later is. absurd (nothing more step later is);
            bad = λ s. not_both (is_good f k marks earlier x) (is_good_lem f k marks earlier x (rw (append-nil earlier) at s)) g;
          }
        where
          nothing : (more : List Step) (step : Step) (later : List Step) → [] ≡ more ++ step ∷ later → ⊥
          nothing [] step later q = cons≢nil (sym q)
          nothing (y ∷ more) step later q = cons≢nil (sym q)
      go true g h next =
          let b = next h in
          record {
            more = x ∷ b.more;
            step = b.step;
            later = b.later;
            is = ap (λ (l : List Step). x ∷ l) b.is;
            number_is = omega (arith, b.number_is, longer earlier x);
            good = each b.more b.good;
            bad = λ s. b.bad (subst (λ (l : List Step). Good f k marks l b.step) (sym (one_more earlier x b.more)) s);
          }
        where
          each : (s : List Step) → GoodFrom (earlier ++ x ∷ []) s → GoodFrom earlier (x ∷ s)
          each s q [] step later is = rw (append-nil earlier, ← head_is is) (good_is f k marks earlier x g)
          each s q (y ∷ more) step later is = rw (← head_is is) (subst (λ (l : List Step). Good f k marks l step) (one_more earlier x more) (q more step later (tail_is is)))

  in_bad : (earlier more : List Step) (step : Step) (later : List Step) → GoodFrom earlier more → (Good f k marks (earlier ++ more) step → ⊥)
      → bad_after f k marks earlier (more ++ step ∷ later) ≡ suc (length earlier + length more)
  in_bad earlier [] step later g bad = go (is_good f k marks earlier step) refl
    where
      go : (b : Bool) → is_good f k marks earlier step ≡ b → bad_after f k marks earlier (step ∷ later) ≡ suc (length earlier + 0)
      go true e = absurd (bad (rw (append-nil earlier) (good_is f k marks earlier step e)))
      go false e = after_bad earlier step later e ∙ omega arith
  in_bad earlier (x ∷ more) step later g bad =
      let here : Good f k marks earlier x = rw (append-nil earlier) at (g [] x more refl) in
      after_good earlier x (more ++ step ∷ later) (is_good_lem f k marks earlier x here)
      ∙ in_bad (earlier ++ x ∷ []) more step later (λ m y l is. rw (one_more earlier x m) (g (x ∷ m) y l (ap (λ (t : List Step). x ∷ t) is)))
      (λ s. bad (subst (λ (l : List Step). Good f k marks l step) (one_more earlier x more) s))
      ∙ omega (arith, longer earlier x)

  pub first_bad : (plan : List Step) (i : ℕ) → 1 ≤ i → bad_after f k marks [] plan ≡ i → FirstBad f k marks plan i
  first_bad plan i l e =
      let b = bad_in [] plan i l e in
      record { earlier = b.more; step = b.step; later = b.later; is = b.is; number_is = omega (arith, b.number_is); good = b.good; bad = b.bad }

  pub bad_first : (plan : List Step) (i : ℕ) → FirstBad f k marks plan i → bad_after f k marks [] plan ≡ i
  bad_first plan i b = ap (bad_after f k marks []) b.is ∙ in_bad [] b.earlier b.step b.later b.good b.bad ∙ omega (arith, b.number_is)
