-- What is found under a name in a table whose keys are vectors of bytes.
use Rattle.std.proofs.Common.{◌≡◌, ◌∙◌, ℕ, List, [], ◌∷◌, map, Bool, true, false, refl, ap, sym, subst}
use Rattle.std.specs.Prelude.{Option, Some, None, bytes_eq, is_some, if◌then◌else◌}
use Rattle.std.specs.Map.{lookup, KeepsOthers}
use Rattle.std.specs.Option.{option_or}
use Rattle.std.proofs.lemmas.Slice.Eq.{bytes_eq-Decides}
use Rattle.ildeclared.specs.Kept.{Kept, KeepsToo}

either : (b : Bool) {P : Type 0} → (b ≡ true → P) → (b ≡ false → P) → P
either true t f = t refl
either false t f = f refl

or_none : {X : Type 0} (o : Option X) → o ≡ option_or o None
or_none None = refl
or_none (Some x) = refl

-- where a name is known, nothing is new
pub known_before : {X : Type 0} (kept : Kept X) (name : List ℕ) (value : X) → is_some (lookup (bytes_eq name) kept) ≡ true
    → KeepsToo name value kept kept
known_before {X} kept name value e key = cases (lookup (bytes_eq key) kept) (bytes_eq key name) refl refl
  where
    cases : (o : Option X) (b : Bool) → lookup (bytes_eq key) kept ≡ o → bytes_eq key name ≡ b
        → o ≡ option_or o (if b then Some value else None)
    cases (Some x) b f g = refl
    cases None false f g = refl
    cases None true f g =
        let same : key ≡ name = (bytes_eq-Decides key name).0 g in
        let none : lookup (bytes_eq name) kept ≡ None = subst (λ (w : List ℕ). lookup (bytes_eq w) kept ≡ None) same f in
        absurd cc

module _ {K V : Type 0} (items : K → List ℕ) where
  abbrev pub kept : List (K × V) → List (List ℕ × V)
  kept entries = map (λ entry. (items entry.0, entry.1)) entries

  pub lookup-kept : (key : List ℕ) (entries : List (K × V))
      → lookup (λ k. bytes_eq key (items k)) entries ≡ lookup (bytes_eq key) (kept entries)
  lookup-kept key [] = refl
  lookup-kept key (e ∷ es) = rw (lookup-kept key es) refl

  -- a name that no key spells is kept too, where a map has its value and keeps the others
  pub keeps_too : (before after : List (K × V)) (name : K) (value : V)
      → lookup (bytes_eq (items name)) (kept before) ≡ None
      → lookup (λ k. bytes_eq (items name) (items k)) after ≡ Some value
      → KeepsOthers (λ a b. bytes_eq (items a) (items b)) (λ k. bytes_eq (items name) (items k)) before after
      → KeepsToo (items name) value (kept before) (kept after)
  unfolding KeepsOthers
  keeps_too before after name value new its others key =
      sym (lookup-kept key after) ∙ either (bytes_eq key (items name)) named other
    where
      named : bytes_eq key (items name) ≡ true
          → lookup (λ k. bytes_eq key (items k)) after
          ≡ option_or (lookup (bytes_eq key) (kept before)) (if bytes_eq key (items name) then Some value else None)
      named t =
          let same : items name ≡ key = sym ((bytes_eq-Decides key (items name)).0 t) in
          let here : lookup (λ k. bytes_eq key (items k)) after ≡ Some value =
          subst (λ (k : List ℕ). lookup (λ l. bytes_eq k (items l)) after ≡ Some value) same its in
          let none : lookup (bytes_eq key) (kept before) ≡ None =
          subst (λ (k : List ℕ). lookup (bytes_eq k) (kept before) ≡ None) same new in
          rw (t, none, here) refl

      apart : bytes_eq key (items name) ≡ false → (k : K) → bytes_eq (items name) (items k) ≡ true
          → bytes_eq key (items k) ≡ false
      apart f k t = ap (λ (l : List ℕ). bytes_eq key l) (sym ((bytes_eq-Decides (items name) (items k)).0 t)) ∙ f

      of_key : (x y : K) → bytes_eq key (items x) ≡ true → bytes_eq key (items y) ≡ bytes_eq (items x) (items y)
      of_key x y t = ap (λ (l : List ℕ). bytes_eq l (items y)) ((bytes_eq-Decides key (items x)).0 t)

      other : bytes_eq key (items name) ≡ false
          → lookup (λ k. bytes_eq key (items k)) after
          ≡ option_or (lookup (bytes_eq key) (kept before)) (if bytes_eq key (items name) then Some value else None)
      other f =
          rw f (others (λ k. bytes_eq key (items k)) of_key (apart f) ∙ lookup-kept key before
          ∙ or_none (lookup (bytes_eq key) (kept before)))
