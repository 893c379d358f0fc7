-- Of lists that stand one after another, what is made of one has its own number, after those of the lists before.
use Rattle.std.proofs.Common.{◌≡◌, ℕ, zero, suc, ◌+◌, ◌<◌, ◌≤◌, List, [], ◌∷◌, ◌++◌, map, take, drop, get_or, length}
use Rattle.std.proofs.Common.{Bool, true, false, refl}
use Rattle.std.proofs.Common.{ap, sym, ◌∙◌, arith, length-append}
use Rattle.std.specs.Prelude.{Option, Some, None, option_map, option_and_then, slice_get, flat_map, ⊤}
use Rattle.std.specs.Option.{option_map_or}
use Rattle.std.specs.List.{list_any, position_or_len}
use Rattle.std.proofs.Math.Seq.{drop-cons}
use Rattle.std.proofs.lemmas.List.{length-take, take-append-drop, take_more}
use Rattle.std.proofs.Math.ListN.{length-map}
use Rattle.std.proofs.lemmas.Grind.{flat_map-append}
use Rattle.ilscope.specs.Tables.{first_at}
use Rattle.ilsyms.proofs.Lists.{first_there}
use Rattle.ilsyms.proofs.Lists.{either}

-- past elements that fail
pub passed_over : {X : Type 0} (test : X → Bool) (xs ys : List X) → list_any test xs ≡ false
    → position_or_len test (xs ++ ys) ≡ length xs + position_or_len test ys
passed_over test [] ys e = omega arith
passed_over test (x ∷ xs) ys e =
    either (test x)
    (λ t. absurd (let g : true ≡ false = rw t at e in cc))
    (λ f. rw f (let more = passed_over test xs ys (rw f at e) in omega (arith, more)))

pub none_passes : {X : Type 0} (test : X → Bool) (xs : List X) → list_any test xs ≡ false
    → position_or_len test xs ≡ length xs
none_passes test [] e = refl
none_passes test (x ∷ xs) e =
    either (test x)
    (λ t. absurd (let g : true ≡ false = rw t at e in cc))
    (λ f. rw f (let more = none_passes test xs (rw f at e) in omega (arith, more)))

any_append : {X : Type 0} (test : X → Bool) (xs ys : List X) → list_any test xs ≡ false → list_any test ys ≡ false
    → list_any test (xs ++ ys) ≡ false
any_append test [] ys e g = g
any_append test (x ∷ xs) ys e g =
    either (test x)
    (λ t. absurd (let h : true ≡ false = rw t at e in cc))
    (λ f. rw f (any_append test xs ys (rw f at e) g))

-- the number of the first is not past the last
pub within : {X : Type 0} (test : X → Bool) (xs : List X) → position_or_len test xs ≤ length xs
within test [] = omega arith
within test (x ∷ xs) =
    let more = within test xs in
    either (test x) (λ t. rw t (omega arith)) (λ f. rw f (omega (arith, more)))

-- one element after another
module _ {X : Type 0} (test : X → Bool) (xs : List X) (n : ℕ) (d : X) (below : n < length xs)
    (before : list_any test (take n xs) ≡ false) where
  pub none_more : test (get_or xs n d) ≡ false → list_any test (take (n + 1) xs) ≡ false
  none_more e =
      ap (λ ys. list_any test ys) (take_more xs n d below)
      ∙ any_append test (take n xs) (get_or xs n d ∷ []) before (rw e refl)

  pub found_at : test (get_or xs n d) ≡ true → position_or_len test xs ≡ n
  found_at e =
      let parts : xs ≡ take n xs ++ get_or xs n d ∷ drop (suc n) xs =
      sym (take-append-drop n xs) ∙ ap (λ ys. take n xs ++ ys) (drop-cons xs n d below)
      in
      let first : position_or_len test (get_or xs n d ∷ drop (suc n) xs) ≡ 0 = rw e refl in
      let long = length-take n xs in
      let over = passed_over test (take n xs) (get_or xs n d ∷ drop (suc n) xs) before in
      ap (λ ys. position_or_len test ys) parts ∙ over ∙ omega (arith, first, long, below)

shifted : (first end all : ℕ) (o : Option ℕ) → first + end ≡ all
    → first + option_map_or (λ k. k) o end ≡ option_map_or (λ k. first + k) o all
shifted first end all None e = e
shifted first end all (Some k) e = refl

-- ---- what stands at a number

pub past : {X : Type 0} (xs ys : List X) (k : ℕ) → slice_get (xs ++ ys) (length xs + k) ≡ slice_get ys k
past [] ys k = let e : 0 + k ≡ k = omega arith in ap (λ n. slice_get ys n) e
past (x ∷ xs) ys k =
    let e : suc (length xs) + k ≡ suc (length xs + k) = omega arith in
    ap (λ n. slice_get (x ∷ (xs ++ ys)) n) e ∙ past xs ys k

pub in_front : {X : Type 0} (xs ys : List X) (k : ℕ) (x : X) → slice_get xs k ≡ Some x → slice_get (xs ++ ys) k ≡ Some x
in_front [] ys k x e = absurd cc
in_front (y ∷ xs) ys zero x e = e
in_front (y ∷ xs) ys (suc k) x e = in_front xs ys k x e

made_at : {X E : Type 0} (f : X → E) (xs : List X) (k : ℕ) → slice_get (map f xs) k ≡ option_map f (slice_get xs k)
made_at f [] k = refl
made_at f (x ∷ xs) zero = refl
made_at f (x ∷ xs) (suc k) = made_at f xs k

none_at_end : {X : Type 0} (xs : List X) → slice_get xs (length xs) ≡ None
none_at_end [] = refl
none_at_end (x ∷ xs) = none_at_end xs

-- ---- parts of one list among others

module _ {P X E : Type 0} (parts : P → List X) (made : P → X → E) (test : E → Bool) where
  abbrev own_of : P → List E
  own_of p = map (made p) (parts p)

  abbrev pub all_of : List P → List E
  all_of ps = flat_map own_of ps

  -- none of theirs passes
  abbrev pub NonePass : List P → Type 0
  NonePass [] = ⊤
  NonePass (p ∷ ps) = ((x : X) → test (made p x) ≡ false) × NonePass ps

  none_own : (p : P) (xs : List X) → ((x : X) → test (made p x) ≡ false) → list_any test (map (made p) xs) ≡ false
  none_own p [] h = refl
  none_own p (x ∷ xs) h = let e = h x in rw e (none_own p xs h)

  none_of_all : (ps : List P) → NonePass ps → list_any test (all_of ps) ≡ false
  none_of_all [] o = refl
  none_of_all (p ∷ ps) o = any_append test (own_of p) (all_of ps) (none_own p (parts p) o.0) (none_of_all ps o.1)

  module _ (p : P) (own : X → Bool) (same : (x : X) → test (made p x) ≡ own x) where
    own_place : (xs : List X) (rest : List E)
        → position_or_len test (map (made p) xs ++ rest)
        ≡ option_map_or (λ k. k) (first_at own xs) (length xs + position_or_len test rest)
    own_place [] rest = omega arith
    own_place (x ∷ xs) rest =
        let e = same x in
        either (own x)
        (λ t. rw (e, t) refl)
        (λ f. rw (e, f) (next (first_at own xs) _ (own_place xs rest)))
      where
        next : (o : Option ℕ) (place : ℕ)
            → place ≡ option_map_or (λ k. k) o (length xs + position_or_len test rest)
            → 1 + place ≡ option_map_or (λ k. k) (option_map suc o) (suc (length xs) + position_or_len test rest)
        next None place e = omega arith
        next (Some k) place e = omega arith

    module _ (front back : List P) (before : NonePass front) (after : NonePass back) where
      abbrev all : List E
      all = all_of (front ++ p ∷ back)

      split : all ≡ all_of front ++ (own_of p ++ all_of back)
      split = flat_map-append own_of front (p ∷ back)

      -- the part's number, after those before
      pub number_among : position_or_len test all
          ≡ option_map_or (λ k. length (all_of front) + k) (first_at own (parts p)) (length all)
      number_among =
          let skip = passed_over test (all_of front) (all_of (p ∷ back)) (none_of_all front before) in
          let rest = none_passes test (all_of back) (none_of_all back after) in
          let all_many = ap (λ (es : List E). length es) split in
          let back_many = length-append (own_of p) (all_of back) in
          let own_many = length-map (parts p) (made p) in
          let many = length-append (all_of front) (all_of (p ∷ back)) in
          ap (λ (es : List E). position_or_len test es) split
          ∙ skip
          ∙ ap (λ n. length (all_of front) + n) (own_place (parts p) (all_of back))
          ∙ shifted (length (all_of front)) (length (parts p) + position_or_len test (all_of back)) (length all)
          (first_at own (parts p)) (omega (arith, all_many, back_many, own_many, many, rest))

      -- and what stands there
      pub found_among : slice_get all (position_or_len test all)
          ≡ option_map (made p) (option_and_then (slice_get (parts p)) (first_at own (parts p)))
      found_among = ap (λ n. slice_get all n) number_among ∙ by (first_at own (parts p)) refl
        where
          by : (o : Option ℕ) → first_at own (parts p) ≡ o
              → slice_get all (option_map_or (λ k. length (all_of front) + k) o (length all))
              ≡ option_map (made p) (option_and_then (slice_get (parts p)) o)
          by None e = none_at_end all
          by (Some k) e =
              let there = first_there own (parts p) k e in
              let mine : slice_get (own_of p) k ≡ Some (made p there.0) =
              made_at (made p) (parts p) k ∙ ap (option_map (made p)) there.1
              in
              ap (λ (es : List E). slice_get es (length (all_of front) + k)) split
              ∙ past (all_of front) (own_of p ++ all_of back) k
              ∙ in_front (own_of p) (all_of back) k (made p there.0) mine
              ∙ ap (option_map (made p)) (sym there.1)
