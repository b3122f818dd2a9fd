-- The lines of a plan's steps.
-- Assumes nothing.
use mathlib.Core.Path.{◌≡◌, refl}
use mathlib.Core.List.{List, [], ◌∷◌, ◌++◌, flat_map}
use Prim.Native.Nat.{ℕ, zero, suc, ◌+◌, ◌*◌, ◌≤◌, ◌<◌}
use native.Mathlib.Numerals.{add-one}
use native.Mathlib.Omega.{arith}
use lib.ListN.{length, get_or, drop}
use lib.Seq.{get_or-drop}
use mir.Syntax.{w8}
use mir.Val.{Fits}
use Rattle.planning.specs.Plan.{Step}
use Rattle.planning.specs.Made.{steps_in}
use Rattle.listing.specs.Text.{step_line}
use Rattle.listing.proofs.TextLaws.{step_line_most}
use Rattle.listing.proofs.LineLaws.{line_more}

-- step i, from 0, in a list of bytes
abbrev pub step_at : List ℕ → ℕ → Step
step_at bytes i = record { round = get_or bytes (4 * i) 0; node = get_or bytes (4 * i + 1) 0; smaller = get_or bytes (4 * i + 2) 0; larger = get_or bytes (4 * i + 3) 0 }

one_more : (bytes : List ℕ) (i : ℕ) → steps_in bytes (suc i) ≡ steps_in bytes i ++ (step_at bytes i ∷ [])
unfolding steps_in
one_more bytes zero = refl
one_more bytes (suc i) =
    let g : (p : ℕ) → get_or (drop 4 bytes) (4 * i + p) 0 ≡ get_or bytes (4 * suc i + p) 0 = λ p. let e : 4 + (4 * i + p) ≡ 4 * suc i + p = omega arith in rw (get_or-drop, e) in
    let f : get_or (drop 4 bytes) (4 * i) 0 ≡ get_or bytes (4 * suc i) 0 = let e : 4 + 4 * i ≡ 4 * suc i = omega arith in rw (get_or-drop, e) in
    rw (one_more (drop 4 bytes) i, f, g 1, g 2, g 3)

pub lines_more : (bytes : List ℕ) (i : ℕ) → flat_map step_line (steps_in bytes i) ++ step_line (step_at bytes i) ≡ flat_map step_line (steps_in bytes (i + 1))
lines_more bytes i = rw (add-one i, one_more bytes i) (line_more step_line (steps_in bytes i) (step_at bytes i))

-- a step of bytes has a line of at most 16 bytes
pub step_short : (bytes : List ℕ) (i : ℕ) → ((j : ℕ) → Fits w8 (get_or bytes j 0)) → length (step_line (step_at bytes i)) ≤ 16
step_short bytes i h =
    let g : (j : ℕ) → get_or bytes j 0 < 256 = λ j. omega (arith, h j) in
    step_line_most (step_at bytes i) (g _) (g _) (g _) (g _)
