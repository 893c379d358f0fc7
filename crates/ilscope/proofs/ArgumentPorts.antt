-- The ports that a call gives again are those under whose names something is kept when they are given.
use Rattle.std.proofs.Common.{◌≡◌, ℕ, ◌+◌, ◌<◌, List, [], ◌∷◌, ◌++◌, map, length, take, get_or, Bool, true, false, refl}
use Rattle.std.proofs.Common.{sym, ap, ◌∙◌, subst, append-nil}
use Rattle.std.specs.Prelude.{Option, Some, None, is_some, bytes_eq, filter_map, if◌then◌else◌}
use Rattle.std.specs.Map.{lookup}
use Rattle.std.specs.List.{cons_option}
use Rattle.std.specs.Option.{option_or}
use Rattle.std.proofs.lemmas.List.{get_or_default}
use Rattle.std.proofs.lemmas.List.Elements.{filter_map-append}
use Rattle.ilsource.specs.declared.arguments.Argument.{Argument}
use Rattle.ilsource.specs.declared.name.Name.{Name}
use Rattle.ilsource.specs.declared.symbol.Symbol.{Symbol}
use Rattle.ilsource.specs.Names.{folded}
use Rattle.ildeclared.specs.Faults.{IsNextOf, OfCause}
use Rattle.ildeclared.specs.Kept.{Kept}
use Rattle.ildeclared.specs.Order.{lesser_of_two}
use Rattle.ildeclared.specs.declared.fault.NameCause.TheVariants.{Twice}
use Rattle.ildeclared.specs.declared.found.Found.{Found}
use Rattle.ildeclared.proofs.Least.{take_more}
use Rattle.ilscope.specs.Faults.{IsTwiceIn}
use Rattle.ilscope.specs.Tables.{first_at}
use Rattle.ilscope.proofs.Numbered.{first_at-last, map_last}
use Rattle.ilscope.specs.UseFaults.{port_in}
use Rattle.ilscope.specs.LabelSteps.{IsKeptLabel, KeepsLabel}
use Rattle.ilscope.specs.SameNames.{same_name}
use Rattle.ilscope.proofs.LabelNumbers.{looked_up, again}

-- the words of the ports that arguments give
abbrev pub given : List (Argument Symbol) → List Name
given xs = filter_map (λ (x : Argument Symbol). port_in x.port) xs

-- something is kept under the names that stand there, and under no other
abbrev pub AreKnown : List ℕ → List Name → Kept ℕ → Type 0
AreKnown text names kept =
    (x : Name)
    → is_some (lookup (bytes_eq (folded text x)) kept)
    ≡ is_some (first_at (bytes_eq (folded text x)) (map (folded text) names))

some_or : (a b c d : Option ℕ) → is_some a ≡ is_some c → is_some b ≡ is_some d
    → is_some (option_or a b) ≡ is_some (option_or c d)
some_or None b None d e g = g
some_or None b (Some k) d e g = absurd cc
some_or (Some k) b None d e g = absurd cc
some_or (Some k) b (Some j) d e g = refl

same_some : (b : Bool) (n m : ℕ) → is_some (if b then Some n else None) ≡ is_some (if b then Some m else None)
same_some true n m = refl
same_some false n m = refl

module _ (text : List ℕ) where
  known_more : (front : List Name) (kept new : Kept ℕ) (o : Option Name) (number : ℕ)
      → KeepsLabel text o number kept new → AreKnown text front kept → AreKnown text (front ++ cons_option o []) new
  known_more front kept new None number e h x =
      ap (λ (k : Kept ℕ). is_some (lookup (bytes_eq (folded text x)) k)) e
      ∙ h x
      ∙ ap (λ (ns : List Name). is_some (first_at (bytes_eq (folded text x)) (map (folded text) ns)))
      (sym (append-nil front))
  known_more front kept new (Some m) number e h x =
      let key = bytes_eq (folded text x) in
      ap (λ (o : Option ℕ). is_some o) (looked_up text kept new (Some m) number e x)
      ∙ some_or _ _ _ _ (h x) (same_some (same_name text x m) number (length (map (folded text) front)))
      ∙ ap (λ (o : Option ℕ). is_some o)
      (sym (first_at-last key (map (folded text) front) (folded text m))
      ∙ ap (λ (ks : List (List ℕ)). first_at key ks) (sym (map_last (folded text) front m)))

  -- with the argument at the next place, whose port has this word
  module _ (xs : List (Argument Symbol)) (i : ℕ) (d : Argument Symbol) (below : i < length xs) (port : Option Name)
      (is : port ≡ port_in (get_or xs i d).port) where
    one_more : given (take (i + 1) xs) ≡ given (take i xs) ++ cons_option port []
    one_more =
        ap given (take_more xs i (get_or xs i d) below (get_or_default xs i d (get_or xs i d) below))
        ∙ filter_map-append (λ (y : Argument Symbol). port_in y.port) (take i xs) (get_or xs i d ∷ [])
        ∙ ap (λ (o : Option Name). given (take i xs) ++ cons_option o []) (sym is)

    pub given_more : (kept new : Kept ℕ) → KeepsLabel text port i kept new
        → AreKnown text (given (take i xs)) kept → AreKnown text (given (take (i + 1) xs)) new
    given_more kept new e h =
        subst (λ (ns : List Name). AreKnown text ns new) (sym one_more)
        (known_more (given (take i xs)) kept new port i e h)

    pub given_twice_more : (after : Option Found) (kept : Kept ℕ) (a b : Option Found) → AreKnown text
        (given (take i xs)) kept
        → IsNextOf after (OfCause Twice (IsTwiceIn (folded text) (given (take i xs)))) a
        → IsNextOf after (OfCause Twice (IsKeptLabel text kept port)) b
        → IsNextOf after (OfCause Twice (IsTwiceIn (folded text) (given (take (i + 1) xs)))) (lesser_of_two a b)
    given_twice_more after kept a b known h k =
        subst (λ (ns : List Name). IsNextOf after (OfCause Twice (IsTwiceIn (folded text) ns)) (lesser_of_two a b))
        (sym one_more)
        (again text after (given (take i xs)) kept a b known port h k)
