-- What exceeds a limit, counted one part after another.
use Rattle.std.proofs.Common.{◌≡◌, ℕ, zero, suc, ◌+◌, ◌<◌, List, [], ◌∷◌, ◌++◌, length, refl, sym, ap, ◌∙◌, arith}
use Rattle.std.proofs.Common.{length-append}
use Rattle.std.specs.Prelude.{Option, None, slice_get}
use Rattle.std.proofs.lemmas.Option.{slice_get_past}
use Rattle.ilsyms.specs.FunctionSteps.{IsPast}
use Rattle.ilsyms.specs.declared.past.Past.{Past}
use Rattle.ilsyms.specs.declared.past.Past.TheVariants.{At, Left}
use Rattle.ilsyms.proofs.Lists.{below_end}

-- an element of the first of two lists, and of the second
pub first_of : {X : Type 0} (xs ys : List X) (n : ℕ) → n < length xs → slice_get (xs ++ ys) n ≡ slice_get xs n
first_of [] ys n below = absurd (omega (arith, below))
first_of (x ∷ xs) ys zero below = refl
first_of (x ∷ xs) ys (suc n) below = first_of xs ys n (omega (arith, below))

pub second_of : {X : Type 0} (xs ys : List X) (n : ℕ) → slice_get (xs ++ ys) (length xs + n) ≡ slice_get ys n
second_of [] ys n = let e : 0 + n ≡ n = omega arith in ap (slice_get ys) e
second_of (x ∷ xs) ys n =
    let e : suc (length xs) + n ≡ suc (length xs + n) = omega arith in
    ap (slice_get (x ∷ (xs ++ ys))) e ∙ second_of xs ys n

-- with more places
pub still_at : (before places : List ℕ) (limit place : ℕ) → IsPast before limit (At place)
    → IsPast (before ++ places) limit (At place)
still_at before places limit place h = first_of before places limit (below_end before limit place h) ∙ h

-- with more places, of which so many may be
pub further_past : (before places : List ℕ) (limit left : ℕ) (past : Past) → IsPast before limit (Left left)
    → IsPast places left past → IsPast (before ++ places) limit past
further_past before places limit left (At place) h k =
    ap (slice_get (before ++ places)) (sym h) ∙ second_of before places left ∙ k
further_past before places limit left (Left rest) h k =
    let both = length-append before places in
    omega (arith, both, h, k)

-- so the place is known
pub place_known : (before places : List ℕ) (limit left : ℕ) (place : Option ℕ) → IsPast before limit (Left left)
    → place ≡ slice_get places left → place ≡ slice_get (before ++ places) limit
place_known before places limit left place h e =
    sym (ap (slice_get (before ++ places)) (sym h) ∙ second_of before places left ∙ sym e)

-- none is past where some are left
pub none_past : (places : List ℕ) (limit left : ℕ) → IsPast places limit (Left left) → None ≡ slice_get places limit
none_past places limit left h = sym (slice_get_past places limit (omega (arith, h)))
