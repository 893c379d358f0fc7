-- A place more that holds nothing.
use Rattle.std.proofs.Common.{◌≡◌, ℕ, ◌+◌, ◌<◌, List, [], ◌∷◌, ◌++◌, length, Option, None, ◌∙◌, subst, arith}
use Rattle.std.proofs.Common.{below_more, length-append}
use Rattle.std.proofs.lemmas.List.{get_or_append_left}
use Rattle.std.proofs.Math.Seq.{get_or-append_seam}
use Rattle.std.specs.Prelude.{slice_index_or}
use Rattle.plantscript.specs.DeskSteps.{AreEmpty}

pub empty_more : {X : Type 0} → (places : List (Option X)) (n : ℕ) → AreEmpty n places
    → AreEmpty (n + 1) (places ++ None ∷ [])
empty_more places n before = (
  (let e = before.0 in omega (arith, length-append places (None ∷ []))),
  below_more (λ k. slice_index_or (places ++ None ∷ []) k None ≡ None) n
      (λ k lt. let inside : k < length places = let e = before.0 in omega arith in
      get_or_append_left places (None ∷ []) None k inside ∙ before.1 k lt)
      (subst (λ (m : ℕ). slice_index_or (places ++ None ∷ []) m None ≡ None) before.0
      (get_or-append_seam places None [] None)),
)
