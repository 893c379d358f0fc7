-- What is kept of each program of a text.
use Rattle.std.proofs.Common.{◌≡◌, ℕ, zero, suc, List, [], ◌∷◌, map, length, get_or, refl, sym, ap, ◌∙◌, subst}
use Rattle.std.proofs.Common.{◌<◌, Bool, true, false, arith}
use Rattle.std.specs.Prelude.{Option, Some, None, IsNone, bytes_eq, option_map, slice_get, ◌↔◌, if◌then◌else◌}
use Rattle.std.specs.Map.{lookup}
use Rattle.std.proofs.lemmas.Option.{get_or_from_slice_get}
use Rattle.ilsource.specs.Names.{folded, text_of}
use Rattle.ilsource.specs.SourceTrees.{Tree}
use Rattle.ilsource.specs.declared.name.Name.{Name}
use Rattle.ildeclared.specs.Faults.{SomeOf}
use Rattle.ildeclared.specs.Kept.{Kept}
use Rattle.ilscope.specs.Declarations.{DeclaredProgram, declared_programs}
use Rattle.ilscope.specs.ScopeSteps.{AreAllNumbers, AreNumbersOf}
use Rattle.ilscope.specs.Tables.{first_at, lowered}
use Rattle.ilscope.proofs.LeastOfDeclarations.{some_of}
use Rattle.ilscope.proofs.Numbered.{found_some, some_found}
use Rattle.ilscope.proofs.FilledTables.{spelled_is}

module _ {X : Type 0} (spelled : Name → List ℕ) (names : X → List Name) where
  -- there is a table for each program or function
  pub as_many : (programs : List X) (numbers : List (Kept ℕ))
      → AreAllNumbers spelled names programs numbers → length programs ≡ length numbers
  as_many [] [] h = refl
  as_many [] (n ∷ ns) h = absurd h
  as_many (p ∷ ps) [] h = absurd h
  as_many (p ∷ ps) (n ∷ ns) h = ap suc (as_many ps ns h.1)

  pub numbers_at : (programs : List X) (numbers : List (Kept ℕ)) (i : ℕ) (program : X)
      (d : Kept ℕ) →
      AreAllNumbers spelled names programs numbers → slice_get programs i ≡ Some program
      → AreNumbersOf spelled (names program) (get_or numbers i d)
  numbers_at [] numbers i program d h e = absurd cc
  numbers_at (p ∷ ps) [] i program d h e = absurd h
  numbers_at (p ∷ ps) (n ∷ ns) zero program d h e = let same : p ≡ program =
      cc in subst (λ (q : X). AreNumbersOf spelled (names q) n) same h.0
  numbers_at (p ∷ ps) (n ∷ ns) (suc i) program d h e = numbers_at ps ns i program d h.1 e

first_at-map : {X Y : Type 0} (test : Y → Bool) (f : X → Y) (xs : List X)
    → first_at (λ x. test (f x)) xs ≡ first_at test (map f xs)
first_at-map test f [] = refl
first_at-map test f (x ∷ xs) = rw (first_at-map test f xs) refl

-- what is kept under a name is the number of the first element with the name
pub number_is : {X : Type 0} (name_of : X → Name) (xs : List X) (text lower : List ℕ) (numbers : Kept ℕ) (name : Name)
    → lower ≡ lowered text →
    AreNumbersOf (folded text) (map name_of xs) numbers
    → lookup (bytes_eq (text_of lower name)) numbers
    ≡ first_at (λ x. bytes_eq (folded text name) (folded text (name_of x))) xs
number_is name_of xs text lower numbers name e h =
    let key : List ℕ = folded text name in
    ap (λ (s : Name → List ℕ). lookup (bytes_eq (s name)) numbers) (spelled_is lower text e)
    ∙ h key
    ∙ sym (first_at-map (bytes_eq key) (folded text) (map name_of xs))
    ∙ sym (first_at-map (λ n. bytes_eq key (folded text n)) name_of xs)

-- the same in the table of a program or a function
module _ {P X : Type 0} (elements : P → List X) (name_of : X → Name) where
  abbrev names_of : P → List Name
  names_of program = map name_of (elements program)

  pub number_at : (text lower : List ℕ) (programs : List P) (tables : List (Kept ℕ)) (table : Kept ℕ)
      (i : ℕ) (program : P) (name : Name)
      → lower ≡ lowered text → AreAllNumbers (folded text) names_of programs tables
      → slice_get programs i ≡ Some program → table ≡ get_or tables i table →
      lookup (bytes_eq (text_of lower name)) table
      ≡ first_at (λ x. bytes_eq (folded text name) (folded text (name_of x))) (elements program)
  number_at text lower programs tables table i program name e h at is =
      number_is name_of (elements program) text lower table name e
      (subst (λ (t : Kept ℕ). AreNumbersOf (folded text) (names_of program) t) (sym is)
      (numbers_at (folded text) names_of programs tables i program table h at))

-- there is no such number exactly where no element is spelled so
pub none_is : {X : Type 0} (spelled : X → List ℕ) (xs : List X) (key : List ℕ) (o : Option ℕ)
    → o ≡ first_at (λ x. bytes_eq key (spelled x)) xs →
    IsNone o ↔ ¬ SomeOf (λ x. key ≡ spelled x) xs
none_is spelled xs key None e = (
  (λ n s.
      let found = some_found spelled xs key (some_of (λ x k. sym k) xs s) in
      let none : None ≡ first_at (bytes_eq key) (map spelled xs) = e ∙ first_at-map (bytes_eq key) spelled xs in
      absurd cc),
  (λ no. refl),
)
none_is spelled xs key (Some number) e = (
  (λ n. absurd cc),
  (λ no.
      let is : Some number ≡ first_at (bytes_eq key) (map spelled xs) = e ∙ first_at-map (bytes_eq key) spelled xs in
      absurd (no (some_of (λ x k. sym k) xs (found_some spelled xs key (rw (← is) refl))))),
)

-- the number of the first that passes is below their number
pub first_below : {X : Type 0} (test : X → Bool) (xs : List X) (number : ℕ)
    → first_at test xs ≡ Some number → number < length xs
first_below test [] number e = absurd cc
first_below test (x ∷ xs) number e = below (first_below test xs) (test x) (first_at test xs) refl e
  where
    below : ((n : ℕ) → first_at test xs ≡ Some n → n < length xs) → (b : Bool) (o : Option ℕ) → first_at test xs ≡ o
        → (if b then Some 0 else option_map suc o) ≡ Some number → number < suc (length xs)
    below later true o f g = let zero_is : 0 ≡ number = cc in omega (arith, zero_is)
    below later false None f g = absurd cc
    below later false (Some n) f g =
        let next : suc n ≡ number = cc in
        let more : n < length xs = later n f in
        omega (arith, next, more)

-- the program that is read from those of a tree is the one that has its number
pub program_is : (tree seen : Tree) (programs : List DeclaredProgram) (i : ℕ) (program read : DeclaredProgram)
    → programs ≡ declared_programs tree → tree ≡ seen → slice_get (declared_programs seen) i ≡ Some program
    → read ≡ get_or programs i read → read ≡ program
program_is tree seen programs i program read declared view e is =
    is
    ∙ get_or_from_slice_get programs i program read
    (ap (λ (ps : List DeclaredProgram). slice_get ps i) declared
    ∙ ap (λ (t : Tree). slice_get (declared_programs t) i) view
    ∙ e)
