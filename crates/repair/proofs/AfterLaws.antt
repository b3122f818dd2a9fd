-- A session once steps are made: one list of steps after another, and that it is sound where the session before them is.
-- Assumes nothing.
use mathlib.Core.Path.{◌≡◌, sym, ap, ◌∙◌}
use mathlib.Core.Bool.{Bool, false}
use mathlib.Core.List.{List, [], ◌++◌, flat_map}
use Prim.Native.Nat.{ℕ}
use native.Mathlib.Nat.{add-zero}
use native.Mathlib.Omega.{arith}
use lib.ListN.{length-append}
use Rattle.families.specs.Families.{family_of}
use Rattle.lists.specs.Lists.{set_live}
use Rattle.lists.proofs.Laws.{length-set_live, live_outside_none}
use Rattle.counts.specs.Counts.{count_all}
use Rattle.counts.proofs.Laws.{length-count_all, count_append, all_outside}
use Rattle.planning.specs.Claims.{CanMakeAll}
use Rattle.planning.specs.Plan.{Step, repaired_nodes, sources_of}
use Rattle.planning.proofs.RoundLaws.{marks_append}
use Rattle.planning.proofs.MakeLaws.{make_counts}
use Rattle.planning.proofs.SourceLaws.{sources_append, sources_inside, repaired_inside}
use Rattle.planning.proofs.Proved.{reads_claim}
use Rattle.repair.specs.declared.Session.{Session}
use Rattle.repair.specs.Session.{Arrays, node_count_of, unsound}
use Rattle.repair.specs.Step.{after_steps}
use Rattle.repair.proofs.StartLaws.{Known, known, sound}

-- sessions of one family, k and L are the same where their steps, marks and reads are
same_parts : (s : Session) {m n : ℕ} {p q : List Bool} {c d : List ℕ} → m ≡ n → p ≡ q → c ≡ d
    → ◌≡◌ {A = Session} (record { family = s.family; k = s.k; len = s.len; steps = m; live = p; reads = c })
    (record { family = s.family; k = s.k; len = s.len; steps = n; live = q; reads = d })
same_parts s e f g = rw (e, f, g)

-- before any step
pub none_made : (s : Session) → s ≡ after_steps s []
unfolding set_live count_all sources_of flat_map
none_made s = ap (λ (n : ℕ). record { family = s.family; k = s.k; len = s.len; steps = n; live = s.live; reads = s.reads }) (sym (add-zero s.steps))

module _ (s : Session) where
  -- one list of steps after another
  pub after_append : (a b : List Step) → after_steps (after_steps s a) b ≡ after_steps s (a ++ b)
  after_append a b =
      same_parts s
      (omega (arith, length-append a b))
      (sym (marks_append s.live a b))
      (sym (ap (count_all s.reads) (sources_append a b) ∙ count_append s.reads (sources_of a) (sources_of b)))

  module _ (arrays : Arrays s) where
    pub after_arrays : (steps : List Step) → Arrays (after_steps s steps)
    after_arrays steps =
        record {
          marks = length-set_live s.live (repaired_nodes steps) ∙ arrays.marks;
          counts = length-count_all s.reads (sources_of steps) ∙ arrays.counts;
        }

    -- each step repairs a missing node, and reads two nodes
    after_known : (steps : List Step) → Known s → CanMakeAll (family_of s.family) s.k s.live steps → Known (after_steps s steps)
    after_known steps g a =
        let f = family_of s.family in
        let n = node_count_of s in
        let range = g.range.blocks in
        let read = sources_inside f s.k s.live steps a in
        record {
          range = g.range;
          inside = live_outside_none n s.live (repaired_nodes steps) (repaired_inside f s.k s.live steps a) g.inside;
          sum = omega (arith, (reads_claim f s.k range s.live s.reads steps arrays.counts a).sum, g.sum);
          reads_inside = all_outside n s.reads (sources_of steps) read g.reads_inside;
          few = omega (arith, make_counts f s.k range s.live arrays.marks steps a, g.few);
        }

    pub after_sound : (steps : List Step) → unsound s ≡ false → CanMakeAll (family_of s.family) s.k s.live steps → unsound (after_steps s steps) ≡ false
    after_sound steps e a = sound (after_steps s steps) (after_known steps (known s e) a)
