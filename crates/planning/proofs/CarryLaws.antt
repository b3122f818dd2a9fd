-- Steps made one after the other on a nodes buffer, as far as they have come.
-- Assumes nothing.
use mathlib.Core.Path.{◌≡◌, refl, sym, ap, ◌∙◌, subst}
use mathlib.Core.Bool.{Bool, true}
use mathlib.Core.List.{List, [], ◌∷◌, ◌++◌, flat_map}
use Prim.Native.Nat.{ℕ, zero, suc, ◌+◌, ◌-◌, ◌*◌, ◌≤◌, ◌<◌}
use native.Mathlib.Omega.{arith}
use lib.ListN.{length, get_or, drop, set}
use lib.Seq.{drop-drop, get_or-drop}
use Rattle.blocks.specs.Blocks.{xor_bytes, block_of}
use Rattle.blocks.specs.Inner.{InBuffer}
use Rattle.families.specs.declared.Family.{Family}
use Rattle.families.specs.Families.{KInRange, IsNode, node_count}
use Rattle.families.proofs.Laws.{related_differ, related_turn}
use Rattle.blocks.proofs.BlockLaws.{in_buffer, length-with_block}
use Rattle.blocks.proofs.PartLaws.{length-block_of}
use Rattle.blocks.proofs.XorBytes.{length-xor_bytes}
use Rattle.counts.specs.Counts.{count_of, one_more, count_all, sum_of}
use Rattle.counts.proofs.Laws.{count_most, sum_one_most}
use Rattle.planning.specs.Plan.{Step, sources_of, step_bytes}
use Rattle.planning.specs.Claims.{CanMake, CanMakeAll}
use Rattle.planning.specs.Made.{mended, nodes_made, steps_in}
use Rattle.planning.specs.Inner.{StepIn, AllIn}

in_kept : {L j : ℕ} {nodes : List ℕ} (other : List ℕ) → length other ≡ length nodes → InBuffer L nodes j → InBuffer L other j
in_kept other e h = record { first = h.first; last = omega (arith, h.last) }

-- what lies in a buffer lies in every other one of its length
pub all_kept : (L : ℕ) (nodes : List ℕ) (steps : List Step) (other : List ℕ) → length other ≡ length nodes → AllIn L nodes steps → AllIn L other steps
all_kept L nodes [] other e h = tt
all_kept L nodes (step ∷ steps) other e (h, t) = (
  record {
    node = in_kept other e h.node;
    smaller = in_kept other e h.smaller;
    larger = in_kept other e h.larger;
    not_smaller = h.not_smaller;
    not_larger = h.not_larger;
  },
  all_kept L nodes steps other e t,
)

pub length-mended : {L j a b : ℕ} {nodes : List ℕ} → InBuffer L nodes j → InBuffer L nodes a → InBuffer L nodes b → length (mended L nodes j a b) ≡ length nodes
length-mended {L} {j} {a} {b} {nodes} hj ha hb =
    length-with_block L nodes j (xor_bytes (block_of L nodes a) (block_of L nodes b)) hj
    (length-xor_bytes (block_of L nodes a) (block_of L nodes b) (length-block_of ha ∙ sym (length-block_of hb)) ∙ length-block_of ha)

-- ---- steps taken one by one from their bytes

-- those from step i on, from 0
abbrev pub steps_from : List ℕ → ℕ → ℕ → List Step
steps_from bytes count i = steps_in (drop (4 * i) bytes) (count - i)

-- step i
abbrev pub step_at : List ℕ → ℕ → Step
step_at bytes i = record { round = get_or bytes (4 * i) 0; node = get_or bytes (4 * i + 1) 0; smaller = get_or bytes (4 * i + 2) 0; larger = get_or bytes (4 * i + 3) 0 }

pub from_first : (bytes : List ℕ) (count : ℕ) → steps_from bytes count 0 ≡ steps_in bytes count
from_first bytes count = let e : count - 0 ≡ count = omega arith in rw e

pub from_next : (bytes : List ℕ) (count i : ℕ) → i < count → steps_from bytes count i ≡ step_at bytes i ∷ steps_from bytes count (i + 1)
unfolding steps_in
from_next bytes count i h =
    let e : count - i ≡ suc (count - (i + 1)) = omega arith in
    let f : 4 * i + 0 ≡ 4 * i = omega arith in
    let d : 4 * (i + 1) ≡ 4 * i + 4 = omega arith in
    let g : (p : ℕ) → get_or (drop (4 * i) bytes) p 0 ≡ get_or bytes (4 * i + p) 0 = λ p. rw get_or-drop in
    ap (steps_in (drop (4 * i) bytes)) e ∙ rw (g 0, g 1, g 2, g 3, f, drop-drop 4 (4 * i) bytes, d)

pub from_last : (bytes : List ℕ) (count i : ℕ) → count ≤ i → steps_from bytes count i ≡ []
unfolding steps_in
from_last bytes count i h = let e : count - i ≡ 0 = omega arith in ap (steps_in (drop (4 * i) bytes)) e

pub length_steps : (bytes : List ℕ) (m : ℕ) → length (steps_in bytes m) ≡ m
unfolding steps_in
length_steps bytes zero = refl
length_steps bytes (suc m) = ap suc (length_steps (drop 4 bytes) m)

-- ---- steps carried out

-- the first i of the steps are made
pub record Carried (L : ℕ) (bytes : List ℕ) (count : ℕ) (start nodes : List ℕ) (i : ℕ) : Type 0 where
  pub room : 4 * count ≤ length bytes
  pub within : i ≤ count
  pub kept : length nodes ≡ length start
  pub inside : AllIn L nodes (steps_from bytes count i)
  pub rest : nodes_made L start (steps_in bytes count) ≡ nodes_made L nodes (steps_from bytes count i)

pub carry_none : {L count : ℕ} {bytes nodes : List ℕ} → 4 * count ≤ length bytes → AllIn L nodes (steps_in bytes count) → Carried L bytes count nodes nodes 0
carry_none {count = count} {bytes = bytes} h a =
    let e = from_first bytes count in record { room = h; within = omega arith; kept = refl; inside = rw e a; rest = rw e }

module _ {L : ℕ} {bytes : List ℕ} {count : ℕ} {start nodes : List ℕ} {i : ℕ} (w : Carried L bytes count start nodes i) where
  module _ (h : i < count) where
    both : StepIn L nodes (step_at bytes i) × AllIn L nodes (steps_from bytes count (i + 1))
    both = subst (AllIn L nodes) (from_next bytes count i h) w.inside

    pub carry_step : StepIn L nodes (step_at bytes i)
    carry_step = both.0

    pub carry_more : Carried L bytes count start (mended L nodes (get_or bytes (4 * i + 1) 0) (get_or bytes (4 * i + 2) 0) (get_or bytes (4 * i + 3) 0)) (i + 1)
    unfolding nodes_made
    carry_more =
        let e = length-mended carry_step.node carry_step.smaller carry_step.larger in
        record {
          room = w.room;
          within = omega arith;
          kept = e ∙ w.kept;
          inside = all_kept L nodes (steps_from bytes count (i + 1)) _ e both.1;
          rest = w.rest ∙ rw (from_next bytes count i h);
        }

  pub carry_done : count ≤ i → nodes ≡ nodes_made L start (steps_in bytes count)
  unfolding nodes_made
  carry_done h = sym (w.rest ∙ ap (nodes_made L nodes) (from_last bytes count i h))

-- ---- their reads counted

-- the reads of the first i steps are counted, and there is room for the others
pub record CountedSoFar (bytes : List ℕ) (count : ℕ) (start reads : List ℕ) (i : ℕ) : Type 0 where
  pub room : 4 * count ≤ length bytes
  pub within : i ≤ count
  pub few : sum_of reads + 2 * (count - i) ≤ 65535
  pub rest : count_all start (sources_of (steps_in bytes count)) ≡ count_all reads (sources_of (steps_from bytes count i))

pub count_none : {bytes : List ℕ} {count : ℕ} {reads : List ℕ} → 4 * count ≤ length bytes → sum_of reads + 2 * count ≤ 65535 → CountedSoFar bytes count reads reads 0
count_none {bytes = bytes} {count = count} h f =
    let e = from_first bytes count in record { room = h; within = omega arith; few = omega arith; rest = rw e }

module _ {bytes : List ℕ} {count : ℕ} {start reads : List ℕ} {i : ℕ} (w : CountedSoFar bytes count start reads i) where
  module _ (h : i < count) where
    abbrev first : List ℕ
    first = one_more reads (step_at bytes i).smaller

    abbrev both_read : List ℕ
    both_read = one_more first (step_at bytes i).larger

    -- no count is at its most
    pub first_low : count_of reads (step_at bytes i).smaller < 65535
    first_low = omega (arith, count_most reads (step_at bytes i).smaller, w.few)

    pub second_low : count_of first (step_at bytes i).larger < 65535
    second_low = omega (arith, count_most first (step_at bytes i).larger, sum_one_most reads (step_at bytes i).smaller, w.few)

    pub count_more : CountedSoFar bytes count start both_read (i + 1)
    unfolding sources_of count_all flat_map
    count_more =
        record {
          room = w.room;
          within = omega arith;
          few = omega (arith, sum_one_most first (step_at bytes i).larger, sum_one_most reads (step_at bytes i).smaller, w.few);
          rest = w.rest ∙ ap (λ (steps : List Step). count_all reads (sources_of steps)) (from_next bytes count i h);
        }

  pub count_done : count ≤ i → reads ≡ count_all start (sources_of (steps_in bytes count))
  unfolding sources_of count_all flat_map
  count_done h = sym (w.rest ∙ ap (λ (steps : List Step). count_all reads (sources_of steps)) (from_last bytes count i h))

-- ---- the steps of a plan as they are carried out

-- the steps are read back from their bytes
pub steps_back : (steps : List Step) (t : List ℕ) → steps_in (step_bytes steps ++ t) (length steps) ≡ steps
unfolding steps_in step_bytes flat_map
steps_back [] t = refl
steps_back (x ∷ steps) t = ap (λ (l : List Step). x ∷ l) (steps_back steps t)

module _ (f : Family) (k : ℕ) (range : KInRange f k) (L : ℕ) (nodes : List ℕ) (size : length nodes ≡ node_count f k * L) where
  node_in : {j : ℕ} → IsNode f k j → InBuffer L nodes j
  node_in {j} n = in_buffer L nodes (node_count f k) j size n.first n.last

  -- the blocks of a step that can be made lie in a nodes buffer
  pub step_in : (marks : List Bool) (step : Step) → CanMake f k marks step → StepIn L nodes step
  step_in marks step c =
      let turned = related_turn f k step.smaller step.larger step.node c.related in
      record {
        node = node_in c.node;
        smaller = node_in c.smaller;
        larger = node_in c.larger;
        not_smaller = related_differ f k range step.node step.smaller step.larger c.larger (related_turn f k step.larger step.node step.smaller turned);
        not_larger = λ e. related_differ f k range step.larger step.node step.smaller c.smaller turned (sym e);
      }

  pub all_in : (marks : List Bool) (steps : List Step) → CanMakeAll f k marks steps → AllIn L nodes steps
  all_in marks [] c = tt
  all_in marks (step ∷ steps) (c, d) = (step_in marks step c, all_in (set marks step.node true) steps d)
