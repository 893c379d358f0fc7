-- Look-ups in a table to which each name is added where it is new, and names that are given again.
use Rattle.std.proofs.Common.{◌≡◌, ℕ, suc, ◌+◌, ◌<◌, List, [], ◌∷◌, ◌++◌, map, length, take, get_or, Bool, true}
use Rattle.std.proofs.Common.{false, refl, ap, sym, ◌∙◌, subst, ◌⊎◌, inl, inr, arith}
use Rattle.std.specs.Prelude.{Option, Some, None, option_map, is_some, bytes_eq, IsSome, if◌then◌else◌}
use Rattle.std.specs.Map.{lookup}
use Rattle.std.specs.Option.{option_or}
use Rattle.std.proofs.lemmas.List.{get_or_default, length-map, length-take-le}
use Rattle.std.proofs.lemmas.Slice.Eq.{bytes_eq-Decides}
use Rattle.ilsource.specs.declared.name.Name.{Name}
use Rattle.ildeclared.specs.Faults.{IsNextOf, OfCause, SomeOf}
use Rattle.ildeclared.specs.Kept.{Kept, KeepsToo}
use Rattle.ildeclared.specs.Order.{lesser_of_two}
use Rattle.ildeclared.specs.declared.fault.NameCause.TheVariants.{Twice}
use Rattle.ildeclared.specs.declared.found.Found.{Found}
use Rattle.ildeclared.proofs.FoundOrder.{or_else}
use Rattle.ildeclared.proofs.Least.{take_more}
use Rattle.ildeclared.proofs.TwiceLast.{twice_last}
use Rattle.ilscope.specs.Faults.{IsTwiceIn}
use Rattle.ilscope.specs.Tables.{first_at}

-- ---- one key more

later_place : (is : Bool) (o : Option ℕ) (c : Bool) (n : ℕ) →
    (if is then Some 0 else option_map suc (option_or o (if c then Some n else None))) ≡
    option_or (if is then Some 0 else option_map suc o) (if c then Some (suc n) else None)
later_place true o c n = refl
later_place false (Some m) c n = refl
later_place false None true n = refl
later_place false None false n = refl

pub first_at-last : {X : Type 0} (test : X → Bool) (xs : List X) (x : X) →
    first_at test (xs ++ x ∷ []) ≡ option_or (first_at test xs) (if test x then Some (length xs) else None)
first_at-last test [] x = refl
first_at-last test (y ∷ ys) x =
    rw (first_at-last test ys x) (later_place (test y) (first_at test ys) (test x) (length ys))

-- ---- what is found

test_more : (b : Bool) (o : Option ℕ) → is_some (if b then Some 0 else option_map suc o) ≡ true
    → (b ≡ true) ⊎ (is_some o ≡ true)
test_more true o h = inl refl
test_more false None h = absurd cc
test_more false (Some n) h = inr refl

test_first : (b : Bool) (o : Option ℕ) → b ≡ true → is_some (if b then Some 0 else option_map suc o) ≡ true
test_first true o h = refl
test_first false o h = absurd cc

test_later : (b : Bool) (o : Option ℕ) → is_some o ≡ true → is_some (if b then Some 0 else option_map suc o) ≡ true
test_later true o h = refl
test_later false None h = h
test_later false (Some n) h = refl

-- a key is found exactly where it is that of some element
module _ {X : Type 0} (spelled : X → List ℕ) where
  pub found_some : (xs : List X) (key : List ℕ) → is_some (first_at (bytes_eq key) (map spelled xs)) ≡ true
      → SomeOf (λ x. spelled x ≡ key) xs
  found_some [] key h = absurd cc
  found_some (x ∷ xs) key h =
      or_else (λ e. inl (sym ((bytes_eq-Decides key (spelled x)).0 e))) (λ r. inr (found_some xs key r))
      (test_more (bytes_eq key (spelled x)) (first_at (bytes_eq key) (map spelled xs)) h)

  pub some_found : (xs : List X) (key : List ℕ) → SomeOf (λ x. spelled x ≡ key) xs
      → is_some (first_at (bytes_eq key) (map spelled xs)) ≡ true
  some_found [] key s = absurd s
  some_found (x ∷ xs) key (inl e) =
      test_first (bytes_eq key (spelled x)) _ ((bytes_eq-Decides key (spelled x)).1 (sym e))
  some_found (x ∷ xs) key (inr s) = test_later (bytes_eq key (spelled x)) _ (some_found xs key s)

pub map_last : {X Y : Type 0} (f : X → Y) (xs : List X) (x : X) → map f (xs ++ x ∷ []) ≡ map f xs ++ f x ∷ []
map_last f [] x = refl
map_last f (y ∷ ys) x = rw (map_last f ys x) refl

-- ---- one name more

module _ (spelled : Name → List ℕ) (ns : List Name) (i : ℕ) (d : Name) (below : i < length ns) where
  pub numbers_more : (table new : Kept ℕ) → KeepsToo (spelled (get_or ns i d)) i table new →
      ((key : List ℕ) → lookup (bytes_eq key) table ≡ first_at (bytes_eq key) (map spelled (take i ns))) →
      (key : List ℕ) → lookup (bytes_eq key) new ≡ first_at (bytes_eq key) (map spelled (take (i + 1) ns))
  numbers_more table new e h key =
      let next : Name = get_or ns i d in
      let front_next : take (i + 1) ns ≡ take i ns ++ next ∷ [] =
      take_more ns i next below (get_or_default ns i d next below) in
      let short : length (map spelled (take i ns)) ≡ i =
      length-map (take i ns) spelled ∙ length-take-le i ns (omega arith) in
      e key
      ∙ ap (λ (o : Option ℕ). option_or o (if bytes_eq key (spelled next) then Some i else None)) (h key)
      ∙ ap (λ (n : ℕ). option_or (first_at (bytes_eq key) (map spelled (take i ns)))
      (if bytes_eq key (spelled next) then Some n else None)) (sym short)
      ∙ sym (first_at-last (bytes_eq key) (map spelled (take i ns)) (spelled next))
      ∙ ap (λ (ks : List (List ℕ)). first_at (bytes_eq key) ks) (sym (map_last spelled (take i ns) next))
      ∙ ap (λ (ms : List Name). first_at (bytes_eq key) (map spelled ms)) (sym front_next)

-- ---- names that are given again

module _ (spelled : Name → List ℕ) (ns : List Name) (i : ℕ) (d : Name) (below : i < length ns) where
  -- the faults of names that are given again, with one name more
  pub twice_more : (after : Option Found) (table : Kept ℕ) (a b : Option Found) →
      ((key : List ℕ) → lookup (bytes_eq key) table ≡ first_at (bytes_eq key) (map spelled (take i ns))) →
      IsNextOf after (OfCause Twice (IsTwiceIn spelled (take i ns))) a →
      IsNextOf after (OfCause Twice
      (λ place. IsSome (lookup (bytes_eq (spelled (get_or ns i d))) table) × (place ≡ (get_or ns i d).from))) b →
      IsNextOf after (OfCause Twice (IsTwiceIn spelled (take (i + 1) ns))) (lesser_of_two a b)
  twice_more after table a b t h k =
      let x : Name = get_or ns i d in
      let front : List Name = take i ns in
      let to : IsSome (lookup (bytes_eq (spelled x)) table) → SomeOf (λ m. spelled m ≡ spelled x) front =
      λ s. found_some spelled front (spelled x) (rw (t (spelled x)) at s)
      in
      let from : SomeOf (λ m. spelled m ≡ spelled x) front → IsSome (lookup (bytes_eq (spelled x)) table) =
      λ s. rw (t (spelled x)) (some_found spelled front (spelled x) s)
      in
      subst (λ (ms : List Name). IsNextOf after (OfCause Twice (IsTwiceIn spelled ms)) (lesser_of_two a b))
      (sym (take_more ns i x below (get_or_default ns i d x below)))
      (twice_last after (λ m n. spelled m ≡ spelled n) (λ n. n.from) front x
      (IsSome (lookup (bytes_eq (spelled x)) table))
      a b to from h k)
