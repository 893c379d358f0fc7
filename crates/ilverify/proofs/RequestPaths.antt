-- Paths that hold so many requests at least, by one standing more.
use Rattle.std.proofs.Common.{◌≡◌, ℕ, ◌+◌, ◌≤◌, List, [], ◌∷◌, ◌++◌, length, false, cond, Option, Some, refl, ap}
use Rattle.std.proofs.Common.{arith}
use Rattle.std.specs.Prelude.{slice_get, ◌<◌}
use Rattle.std.specs.Option.{option_map_or}
use Rattle.std.proofs.lemmas.List.Sums.{sum_by-cons, sum_by_push}
use Rattle.ilcode.specs.declared.word.Word.{Word}
use Rattle.ilcode.specs.Listings.{Listing, IsLawful}
use Rattle.ilcode.specs.Paths.{Standing, body_on, IsWord, IsNext, AreNext, IsPath, may_request, requests_on}
use Rattle.ilcode.proofs.Bodies.{within}
use Rattle.ilverify.specs.declared.through.Counted.TheVariants.{Requests}
use Rattle.ilverify.specs.Through.{weight}
use Rattle.ilverify.specs.RequestSteps.{HasBefore}

-- ---- one standing more

-- how many requests the word at a standing may make
abbrev pub requests_of : Listing → Standing → ℕ
requests_of code s = cond (option_map_or (may_request code) (slice_get code.instructions s.place) false) 1 0

pub requests_first : (code : Listing) (s : Standing) (path : List Standing)
    → requests_on code (s ∷ path) ≡ requests_of code s + requests_on code path
requests_first code s path = sum_by-cons (λ (t : Standing). requests_of code t) s path

pub requests_last : (code : Listing) (path : List Standing) (s : Standing)
    → requests_on code (path ++ s ∷ []) ≡ requests_on code path + requests_of code s
requests_last code path s = sum_by_push (λ (t : Standing). requests_of code t) path s

pub weight_is : (code : Listing) (s : Standing) (word : Word) → slice_get code.instructions s.place ≡ Some word
    → requests_of code s ≡ weight code Requests word
weight_is code s word is = ap (λ (o : Option Word). cond (option_map_or (may_request code) o false) 1 0) is

next_added : (code : Listing) (s : Standing) (more : List Standing) (from to : Standing)
    → AreNext code s (more ++ from ∷ []) → IsNext code from to → AreNext code s ((more ++ from ∷ []) ++ to ∷ [])
next_added code s [] from to are n = (are.0, (n, tt))
next_added code s (next ∷ more) from to are n = (are.0, next_added code next more from to are.1 n)

path_added : (code : Listing) (path : List Standing) (from to : Standing) → IsPath code (path ++ from ∷ [])
    → IsNext code from to → IsPath code ((path ++ from ∷ []) ++ to ∷ [])
path_added code [] from to is n = (is.0, is.1, (n, tt))
path_added code (first ∷ path) from to is n = (is.0, is.1, next_added code first path from to is.2 n)

pub before_more : (code : Listing) (s t : Standing) (requests : ℕ) (word : Word) → HasBefore code s requests
    → slice_get code.instructions s.place ≡ Some word → IsNext code s t
    → HasBefore code t (requests + weight code Requests word)
before_more code s t requests word h is next = record {
  before = h.before ++ s ∷ [];
  path = path_added code h.before s t h.path next;
  many = let last = requests_last code h.before s in
      let same = weight_is code s word is in
      let many = h.many in
      omega (arith, last, same, many);
}

pub before_less : (code : Listing) (s : Standing) (requests fewer : ℕ) → HasBefore code s requests
    → fewer ≤ requests → HasBefore code s fewer
before_less code s requests fewer h le = record {
  before = h.before;
  path = h.path;
  many = let many = h.many in omega (arith, many, le);
}

-- ---- the last standing of a path

last_is : (code : Listing) (s : Standing) (more : List Standing) (last : Standing)
    → AreNext code s (more ++ last ∷ []) → IsWord code last
last_is code s [] last are = are.0.within
last_is code s (t ∷ more) last are = last_is code t more last are.1

-- it stands at a word
pub path_word : (code : Listing) (before : List Standing) (last : Standing) → IsPath code (before ++ last ∷ [])
    → IsWord code last
path_word code [] last is = is.1
path_word code (s ∷ more) last is = last_is code s more last is.2

-- a path has a last standing, or none
pub record HasLast (path : List Standing) : Type 0 where
  pub before : List Standing
  pub last : Standing
  pub is : before ++ last ∷ [] ≡ path

pub last_of : (first : Standing) (more : List Standing) → HasLast (first ∷ more)
last_of first [] = record { before = []; last = first; is = refl }
last_of first (next ∷ more) =
    let l = last_of next more in
    record { before = first ∷ l.before; last = l.last; is = ap (λ (p : List Standing). first ∷ p) l.is }

-- a path ends with a word of the code
pub path_within : (code : Listing) (before : List Standing) (last : Standing) → IsLawful code
    → IsPath code (before ++ last ∷ []) → last.place < length code.instructions
path_within code before last lawful is =
    let w = path_word code before last is in
    let l = within code lawful (body_on last.calls) in
    omega (arith, w, l)
