-- Words that stand in a code.
use Rattle.std.proofs.Common.{◌≡◌, ℕ, ◌+◌, ◌<◌, List, [], ◌∷◌, ◌++◌, length, map, Some, ap, ◌∙◌, subst, arith}
use Rattle.std.proofs.Common.{append_assoc, length-append}
use Rattle.std.specs.Prelude.{slice_get, ⊤}
use Rattle.std.proofs.Math.Seq.{get_or-append_seam}
use Rattle.std.proofs.lemmas.Option.{slice_get-get_or}
use Rattle.ilcode.specs.declared.word.Word.{Word}

module _ {X : Type 0} where
  -- each has what is said
  abbrev pub Each : (X → Type 0) → List X → Type 0
  Each K [] = ⊤
  Each K (x ∷ xs) = K x × Each K xs

  -- the words of these stand in the code from this place on, and each has what is said
  abbrev pub HasAt : (X → Word) → (X → Type 0) → List Word → ℕ → List X → Type 0
  HasAt f K code p [] = ⊤
  HasAt f K code p (x ∷ xs) = (slice_get code p ≡ Some (f x)) × K x × HasAt f K code (p + 1) xs

  module _ (f : X → Word) (K : X → Type 0) (code : List Word) where
    pub has_front : (p : ℕ) (a b : List X) → HasAt f K code p (a ++ b) → HasAt f K code p a
    has_front p [] b h = tt
    has_front p (x ∷ a) b h = (h.0, h.1, has_front (p + 1) a b h.2)

    pub has_back : (p : ℕ) (a b : List X) → HasAt f K code p (a ++ b) → HasAt f K code (p + length a) b
    has_back p [] b h = let e : p ≡ p + 0 = omega arith in subst (λ n. HasAt f K code n b) e h
    has_back p (x ∷ a) b h =
        let e : p + 1 + length a ≡ p + length (x ∷ a) = omega arith in
        subst (λ n. HasAt f K code n b) e (has_back (p + 1) a b h.2)

-- words by themselves, of which nothing more is said
abbrev pub HasWords : List Word → ℕ → List Word → Type 0
HasWords code p ws = HasAt (λ w. w) (λ w. ⊤) code p ws

pub words_front : (code : List Word) (p : ℕ) (a b : List Word) → HasWords code p (a ++ b)
    → HasWords code p a
words_front code p a b h = has_front (λ w. w) (λ w. ⊤) code p a b h

pub words_back : (code : List Word) (p : ℕ) (a b : List Word) → HasWords code p (a ++ b)
    → HasWords code (p + length a) b
words_back code p a b h = has_back (λ w. w) (λ w. ⊤) code p a b h

pub has_mapped : {X : Type 0} (f : X → Word) (K : X → Type 0) (code : List Word) (p : ℕ) (xs : List X)
    → Each K xs → HasWords code p (map f xs) → HasAt f K code p xs
has_mapped f K code p [] k h = tt
has_mapped f K code p (x ∷ xs) k h = (h.0, k.0, has_mapped f K code (p + 1) xs k.1 h.2)

-- words that come after others stand behind them
pub has_rest : (ws front : List Word) → HasWords (front ++ ws) (length front) ws
has_rest [] front = tt
has_rest (w ∷ ws) front =
    let within : length front < length (front ++ w ∷ ws) = omega (arith, length-append front (w ∷ ws)) in
    let here = slice_get-get_or (front ++ w ∷ ws) (length front) w within ∙ ap Some (get_or-append_seam front w ws w) in
    let n : length (front ++ w ∷ []) ≡ length front + 1 = omega (arith, length-append front (w ∷ [])) in
    let rest = subst (λ l. HasWords l (length (front ++ w ∷ [])) ws) (append_assoc front (w ∷ []) ws)
    (has_rest ws (front ++ w ∷ [])) in
    (here, tt, subst (λ m. HasWords (front ++ w ∷ ws) m ws) n rest)
