-- The longest ways from a place have as many words as are kept.
use Rattle.std.proofs.Common.{◌≡◌, ℕ, zero, suc, ◌+◌, ◌<◌, ◌≤◌, List, [], ◌∷◌, length, Option, Some, None, refl, sym, ap}
use Rattle.std.proofs.Common.{◌∙◌, subst, arith}
use Rattle.std.specs.Prelude.{min, max}
use Rattle.std.specs.Option.{unwrap_or}
use Rattle.std.proofs.Math.Nat.{le_refl}
use Rattle.limits.specs.Limits.{most_steps}
use Rattle.ilcode.specs.Listings.{Listing, end_of}
use Rattle.ilcode.specs.Paths.{PathCall, path_call, Standing, standing, land, IsWord, AreNext, IsPath, IsBound, IsTooLong}
use Rattle.ilverify.specs.Tables.{cap}
use Rattle.ilverify.specs.Through.{through_at}
use Rattle.ilverify.specs.BoundSteps.{longest_at, AreRight}
use Rattle.ilverify.specs.LongestWays.{IsWayFrom, IsLongest, IsPlaced, alone, then_more, IsThrough}
use Rattle.ilverify.proofs.Bounds.{reach, land_reach, land_word, few_words, has_path}
use Rattle.ilverify.proofs.Fills.{at_end_is}
use Rattle.ilverify.proofs.Placed.{land_placed}

-- ---- ways from a place, where calls are open

record HasWay (code : Listing) (place : ℕ) (calls : List PathCall) (n : ℕ) : Type 0 where
  way : List Standing
  is : IsWayFrom code (land code place calls) way
  long : length way ≡ n

has_way : (code : Listing) (through : List (Option ℕ)) (longest : List ℕ) → AreRight code through longest
    → (place : ℕ) (calls : List PathCall) → IsPlaced code calls place → (n : ℕ)
    → n ≤ reach code through longest calls place → HasWay code place calls n
has_way code through longest h place calls placed zero le = record { way = []; is = tt; long = refl }
has_way code through longest h place calls placed (suc n) le =
    let s = land code place calls in
    let e = land_reach code through longest calls place in
    let w = land_word code through longest calls place placed (omega (arith, le)) in
    let p = has_path code through longest h n s (land_placed code calls place placed) w (omega (arith, le, e)) in
    record { way = s ∷ p.more; is = (refl, w, p.are); long = let q = p.long in omega (arith, q) }

ways_few : (code : Listing) (through : List (Option ℕ)) (longest : List ℕ) → AreRight code through longest
    → (place : ℕ) (calls : List PathCall) → IsPlaced code calls place → (way : List Standing)
    → IsWayFrom code (land code place calls) way → min (length way) cap ≤ reach code through longest calls place
ways_few code through longest h place calls placed [] is = omega arith
ways_few code through longest h place calls placed (s ∷ more) is =
    let e = is.0 in
    let w = subst (IsWord code) e is.1 in
    let are = subst (λ (u : Standing). AreNext code u more) e is.2 in
    let r = land_reach code through longest calls place in
    let f = few_words code through longest h (land code place calls) more (land_placed code calls place placed) w are in
    omega (arith, f, r)

-- a number that is kept up to the limit is the greatest
longest_of : (code : Listing) (through : List (Option ℕ)) (longest : List ℕ) → AreRight code through longest
    → (place : ℕ) (calls : List PathCall) → IsPlaced code calls place → (n : ℕ)
    → n ≤ reach code through longest calls place → min (reach code through longest calls place) cap ≤ n
    → IsLongest code place calls n
longest_of code through longest h place calls placed n le few =
    let w = has_way code through longest h place calls placed n le in
    record {
      way = w.way;
      is = w.is;
      long = w.long;
      greatest = λ other is.
          let f = ways_few code through longest h place calls placed other is in omega (arith, f, few);
    }

-- and the greatest is kept up to the limit
record IsKept (n kept : ℕ) : Type 0 where
  above : min n cap ≤ kept
  below : min kept cap ≤ n

kept_of : (code : Listing) (through : List (Option ℕ)) (longest : List ℕ) → AreRight code through longest
    → (place : ℕ) (calls : List PathCall) → IsPlaced code calls place → (n : ℕ) → IsLongest code place calls n
    → IsKept n (reach code through longest calls place)
kept_of code through longest h place calls placed n l =
    let few = ways_few code through longest h place calls placed l.way l.is in
    let long = l.long in
    let w = has_way code through longest h place calls placed (reach code through longest calls place) (le_refl _) in
    let most = l.greatest w.way w.is in
    let same = w.long in
    record { above = omega (arith, few, long); below = omega (arith, most, same) }

-- ---- a body by itself

pub alone_placed : (code : Listing) (function place : ℕ) → end_of code function ≤ place
    → place ≤ end_of code (function + 1) → IsPlaced code (alone code (suc function)) place
alone_placed code function place from to = (from, to, le_refl (end_of code 0))

-- behind the programs nothing follows
reach_alone : (code : Listing) (through : List (Option ℕ)) (longest : List ℕ) (function place : ℕ)
    → reach code through longest (alone code (suc function)) place
    ≡ max (longest_at longest (end_of code (function + 1)) place)
    (then_more (through_at through (end_of code (function + 1)) place) 0)
reach_alone code through longest function place =
    let end = end_of code (function + 1) in
    let none : reach code through longest [] (end_of code 0) ≡ 0 =
    at_end_is 0 0 longest (end_of code 0) (end_of code 0) refl in
    ap (λ (n : ℕ). max (longest_at longest end place) (then_more (through_at through end place) n)) none

-- what is kept for a place of a body by itself
abbrev pub words_of : List (Option ℕ) → List ℕ → Listing → ℕ → ℕ → ℕ
words_of through longest code zero place = longest_at longest (end_of code 0) place
words_of through longest code (suc function) place =
    max (longest_at longest (end_of code (function + 1)) place)
    (unwrap_or (through_at through (end_of code (function + 1)) place) 0)

unwrapped : (t : Option ℕ) → then_more t 0 ≡ unwrap_or t 0
unwrapped None = refl
unwrapped (Some n) = omega arith

words_reach : (code : Listing) (through : List (Option ℕ)) (longest : List ℕ) (body place : ℕ)
    → reach code through longest (alone code body) place ≡ words_of through longest code body place
words_reach code through longest zero place = refl
words_reach code through longest (suc function) place =
    let end = end_of code (function + 1) in
    reach_alone code through longest function place
    ∙ ap (λ (n : ℕ). max (longest_at longest end place) n) (unwrapped (through_at through end place))

words_are : (code : Listing) (through : List (Option ℕ)) (longest : List ℕ) → AreRight code through longest
    → (body place : ℕ) → IsPlaced code (alone code body) place
    → IsLongest code place (alone code body) (words_of through longest code body place)
words_are code through longest h body place placed =
    let e = words_reach code through longest body place in
    longest_of code through longest h place (alone code body) placed (words_of through longest code body place)
    (omega (arith, e)) (omega (arith, e))

-- for the programs and for a function
pub words_first : (code : Listing) (through : List (Option ℕ)) (longest : List ℕ) → AreRight code through longest
    → (body place words : ℕ) → body ≡ 0 → words ≡ longest_at longest (end_of code body) place
    → IsPlaced code (alone code body) place → IsLongest code place (alone code body) words
words_first code through longest h zero place words z e placed =
    subst (IsLongest code place []) (sym e) (words_are code through longest h zero place placed)
words_first code through longest h (suc function) place words z e placed = absurd (omega (arith, z))

pub words_other : (code : Listing) (through : List (Option ℕ)) (longest : List ℕ) → AreRight code through longest
    → (body place words : ℕ) → (body ≡ 0 → ⊥)
    → words ≡ max (longest_at longest (end_of code body) place) (unwrap_or (through_at through (end_of code body) place) 0)
    → IsPlaced code (alone code body) place → IsLongest code place (alone code body) words
words_other code through longest h zero place words d e placed = absurd (d refl)
words_other code through longest h (suc function) place words d e placed =
    let n : suc function ≡ function + 1 = omega arith in
    let same = ap (λ (b : ℕ). max (longest_at longest (end_of code b) place)
    (unwrap_or (through_at through (end_of code b) place) 0)) n in
    subst (IsLongest code place (alone code (suc function))) (sym (e ∙ same))
    (words_are code through longest h (suc function) place placed)

-- ---- through a function

joined : (t : Option ℕ) (l r within behind : ℕ) → IsKept within (max l (then_more t 0)) → IsKept behind r
    → IsKept (min (max within (then_more t behind)) cap) (max l (then_more t r))
    × (min (max within (then_more t behind)) cap ≤ max l (then_more t r))
joined None l r within behind h k =
    let a = h.above in
    let b = h.below in
    (record { above = omega (arith, a); below = omega (arith, b) }, omega (arith, a))
joined (Some t) l r within behind h k =
    let a = h.above in
    let b = h.below in
    let c = k.above in
    let d = k.below in
    (record { above = omega (arith, a, c); below = omega (arith, b, d) }, omega (arith, a, c))

pub through_is_kept : (code : Listing) (through : List (Option ℕ)) (longest : List ℕ) → AreRight code through longest
    → (function place : ℕ)
    → IsThrough code function place (through_at through (end_of code (function + 1)) place)
through_is_kept code through longest h function place calls back within behind placed w b =
    let end = end_of code (function + 1) in
    let t = through_at through end place in
    let r = reach code through longest calls back in
    let at = kept_of code through longest h place (alone code (suc function))
    (alone_placed code function place placed.0 placed.1) within w in
    let here = subst (IsKept within) (reach_alone code through longest function place) at in
    let there = kept_of code through longest h back calls placed.2 behind b in
    let j = joined t (longest_at longest end place) r within behind here there in
    longest_of code through longest h place (path_call function back ∷ calls) placed
    (min (max within (then_more t behind)) cap) j.1 j.0.below

-- ---- from the first word of the programs

first_path : (code : Listing) (way : List Standing) → IsWayFrom code (standing 0 []) way → IsPath code way
first_path code [] is = tt
first_path code (s ∷ more) is = is

first_way : (code : Listing) (path : List Standing) → IsPath code path → IsWayFrom code (standing 0 []) path
first_way code [] is = tt
first_way code (s ∷ more) is = is

pub bound_is : (code : Listing) (words : ℕ) → IsLongest code 0 [] words → words ≤ most_steps → IsBound code words
bound_is code words h le = record {
  path = h.way;
  is = first_path code h.way h.is;
  long = h.long;
  greatest = λ path is. let f = h.greatest path (first_way code path is) in omega (arith, f, le);
}

pub too_long : (code : Listing) (words : ℕ) → IsLongest code 0 [] words → most_steps < words → IsTooLong code
too_long code words h gt = record {
  path = h.way;
  is = first_path code h.way h.is;
  long = let e = h.long in omega (arith, e, gt);
}
