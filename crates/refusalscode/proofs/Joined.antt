-- What is known where two worked ways meet.
use Rattle.std.proofs.Common.{◌≡◌, ◌⊎◌, List, [], ◌∷◌, Option, Some, None, Result, Ok, Err, IfOk, IfSome, MatchOption}
use Rattle.std.specs.List.{AllZip}
use Rattle.std.proofs.Common.{ℤ, pos, ◌≤ℤ◌, refl, ap, inl, inr, slice_get, arith}
use Rattle.iltypes.specs.declared.range.Range.{Range}
use Rattle.iltypes.specs.declared.value.Value.TheVariants.{Int}
use Rattle.iltypes.specs.Ranges.{Holds}
use Rattle.ilverify.specs.declared.known.Known.{Known}
use Rattle.ilverify.specs.declared.known.Known.TheVariants as knowns
use Rattle.ilverify.specs.Joins.{AreJoins, IsHeld, IsJoin}
use Rattle.ilverify.specs.Knowns.{IsKnown}
use Rattle.std.proofs.lemmas.Int.{ints}
use Rattle.refusalscode.specs.Codes.{few, many}

-- the first slot may have the greatest number of the wider range
pub holds_the_wider : {E : Type 0} (one other : List Known) (given : Result (Option (List Known)) E)
    → one ≡ few ∷ [] → other ≡ many ∷ []
    → IfOk given (λ made. MatchOption made (¬ AllZip IsHeld one other) (λ slots. AreJoins one other slots))
    → IfOk given (λ made. IfSome made (λ slots. IfSome (slice_get slots 0) (IsKnown (Int (pos 5)))))
holds_the_wider one other (Ok (Some (known ∷ more))) e f joins =
    let join =
    joins.each 0 few many known (ap (λ (xs : List Known). slice_get xs 0) e)
    (ap (λ (xs : List Known). slice_get xs 0) f) refl in
    join.each (Int (pos 5)) (inr (record { low = record { le = tt }; high = record { le = tt } }))
holds_the_wider one other (Ok (Some [])) e f joins = tt
holds_the_wider one other (Ok None) e f joins = tt
holds_the_wider one other (Err error) e f joins = tt

ends_below : (one other range : Range) → ¬ (pos 0 ≤ℤ one.hi) → ¬ (pos 0 ≤ℤ other.hi)
    → Holds one range.hi ⊎ Holds other range.hi → ¬ Holds range (pos 0)
ends_below one other range low lower (inl reached) held =
    let above = held.high in let end = reached.high in low (omega (arith, ints))
ends_below one other range low lower (inr reached) held =
    let above = held.high in let end = reached.high in lower (omega (arith, ints))

-- where both ways end below 0, so does what is known where they meet
pub join_ends_below : (one other : Range) (given : Option Known) → ¬ (pos 0 ≤ℤ one.hi) → ¬ (pos 0 ≤ℤ other.hi)
    → IfSome given (IsJoin (knowns.Int one) (knowns.Int other))
    → IfSome given (λ known. ¬ IsKnown (Int (pos 0)) known)
join_ends_below one other None low lower join = tt
join_ends_below one other (Some knowns.Bool) low lower join = λ known. known
join_ends_below one other (Some (knowns.Int range)) low lower join =
    ends_below one other range low lower join.closest.1
