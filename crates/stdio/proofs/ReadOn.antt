-- What several reads give, one after the other.
use Rattle.std.proofs.Common.{◌≡◌, ℕ, ◌+◌, ◌-◌, ◌≤◌, List, ◌++◌, Option, None, Some, sym, ap, ◌∙◌, append_assoc, take, drop, arith}
use Rattle.std.proofs.Math.Seq.{take-add}
use Rattle.std.specs.Io.KnownBytes.{Consumes}

-- the first n bytes, where the first f stayed
front_and_more : (xs ys : List ℕ) (f n : ℕ) → f ≤ n → take f ys ≡ take f xs → take n ys ≡ take f xs ++ take (n - f) (drop f ys)
front_and_more xs ys f n within front =
    let whole : n ≡ f + (n - f) = omega arith in
    ap (λ k. take k ys) whole ∙ take-add f (n - f) ys ∙ ap (λ l. l ++ take (n - f) (drop f ys)) front

-- a reader gave the first f bytes, and then those up to n
pub consumes_on : (a b c : Option (List ℕ)) (xs ys : List ℕ) (f n : ℕ) → f ≤ n → take f ys ≡ take f xs
    → Consumes a b (take f xs) → Consumes b c (take (n - f) (drop f ys)) → Consumes a c (take n ys)
consumes_on None b c xs ys f n within front p q = tt
consumes_on (Some x) None c xs ys f n within front p q = absurd p
consumes_on (Some x) (Some y) None xs ys f n within front p q = absurd q
consumes_on (Some x) (Some y) (Some z) xs ys f n within front p q =
    let rest : List ℕ = take (n - f) (drop f ys) in
    p ∙ ap (λ l. take f xs ++ l) q ∙ sym (append_assoc (take f xs) rest z) ∙ ap (λ l. l ++ z) (sym (front_and_more xs ys f n within front))
