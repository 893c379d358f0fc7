-- Functions give the same under new names.
use Rattle.std.proofs.Common.{◌≡◌, refl, sym, ap, ◌∙◌, ℕ, zero, suc, List, [], ◌∷◌, ◌++◌, Bool, Option, Some, None}
use Rattle.std.specs.Prelude.{slice_get}
use Rattle.std.specs.Option.{option_map, option_and_then}
use Rattle.std.specs.List.{AllZip}
use Rattle.iltypes.specs.declared.value.Value.{Value}
use Rattle.ilblocks.specs.Stores.{Store}
use Rattle.ilsource.specs.Meaning.{Access, On}
use Rattle.ilsource.specs.Passes.{passes}
use Rattle.ilsource.specs.Functions.{FunctionMeaning, Body, begun, body_value, functions_from, given_by}
use Rattle.ilsource.specs.Renaming.{NewNames, IsSeen, IsRenamedBody, GiveAlike}
use Rattle.ilsource.proofs.KeptMeaning.{renamed_same}

unchanged : (o : Option Store) → option_map (λ store. store) o ≡ o
unchanged None = refl
unchanged (Some store) = refl

module _ {N M L K : Type 0} (a : Access N Store) (b : Access M Store) (new : NewNames N M)
    (h : IsSeen a b new (λ store. store)) (same : L → L → Bool) (same' : K → K → Bool)
    (body : Body N L) (other : Body M K) (k : IsRenamedBody same same' new body other) where
  begun_same : (vs : List Value) → begun other vs ≡ begun body vs
  begun_same vs = let e = k.types in let g = k.initials in rw (e, g) refl

  run_same : (o : Option Store)
      → option_and_then (passes same' b other.lines On None) o ≡ option_and_then (passes same a body.lines On None) o
  run_same None = refl
  run_same (Some s) =
      renamed_same a b new (λ store. store) h same same' body.lines other.lines k.lines None s ∙ unchanged _

  pub body_same : (vs : List Value) → body_value same' b other vs ≡ body_value same a body vs
  body_same vs =
      ap
      (λ o. option_and_then (λ (s : Store). slice_get s.slots other.inputs)
      (option_and_then (passes same' b other.lines On None) o))
      (begun_same vs)
      ∙ ap (option_and_then (λ (s : Store). slice_get s.slots other.inputs)) (run_same (begun body vs))
      ∙ ap
      (λ (n : ℕ). option_and_then (λ (s : Store). slice_get s.slots n)
      (option_and_then (passes same a body.lines On None) (begun body vs)))
      k.inputs

-- one more at the end of each
one_more_alike : (ms ks : List FunctionMeaning) (m k : FunctionMeaning) → AllZip GiveAlike ms ks → GiveAlike m k
    → AllZip GiveAlike (ms ++ m ∷ []) (ks ++ k ∷ [])
one_more_alike [] [] m k h e = (e, tt)
one_more_alike [] (y ∷ ks) m k h e = absurd h
one_more_alike (x ∷ ms) [] m k h e = absurd h
one_more_alike (x ∷ ms) (y ∷ ks) m k h e = (h.0, one_more_alike ms ks m k h.1 e)

module _ {F G : Type 0} (meaning : List FunctionMeaning → F → FunctionMeaning)
    (meaning' : List FunctionMeaning → G → FunctionMeaning) where
  -- the second function gives what the first one gives, where those before do
  abbrev pub Follows : F → G → Type 0
  Follows f g =
      (known others : List FunctionMeaning) → AllZip GiveAlike known others
      → GiveAlike (meaning known f) (meaning' others g)

  pub functions_same : (fs : List F) (gs : List G) → AllZip Follows fs gs → (known others : List FunctionMeaning)
      → AllZip GiveAlike known others
      → AllZip GiveAlike (functions_from meaning known fs) (functions_from meaning' others gs)
  functions_same [] [] k known others h = h
  functions_same [] (g ∷ gs) k known others h = absurd k
  functions_same (f ∷ fs) [] k known others h = absurd k
  functions_same (f ∷ fs) (g ∷ gs) k known others h =
      functions_same fs gs k.1 (known ++ meaning known f ∷ []) (others ++ meaning' others g ∷ [])
      (one_more_alike known others (meaning known f) (meaning' others g) h (k.0 known others h))

pub number_same : (known others : List FunctionMeaning) → AllZip GiveAlike known others
    → (number : ℕ) (vs : List Value) → given_by others number vs ≡ given_by known number vs
number_same [] [] h number vs = refl
number_same [] (y ∷ ks) h number vs = absurd h
number_same (x ∷ ms) [] h number vs = absurd h
number_same (x ∷ ms) (y ∷ ks) h zero vs = h.0 vs
number_same (x ∷ ms) (y ∷ ks) h (suc number) vs = number_same ms ks h.1 number vs
