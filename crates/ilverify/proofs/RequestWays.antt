-- Through functions lead paths that hold as many requests as are kept.
use Rattle.std.proofs.Common.{◌≡◌, ℕ, zero, suc, ◌+◌, ◌<◌, ◌≤◌, ◌⊎◌, inl, inr, Bool, true, false, List, ◌∷◌}
use Rattle.std.proofs.Common.{Option, Some, None, refl, sym, ap, ◌∙◌, subst, arith}
use Rattle.std.specs.Prelude.{IsTrue, slice_get, max, if◌then◌else◌}
use Rattle.std.proofs.lemmas.Bool.{cases_eq}
use Rattle.iltypes.specs.declared.condition.Condition.TheVariants.{Always, IfTrue, IfFalse}
use Rattle.ilcode.specs.declared.word.Word.{Word}
use Rattle.ilcode.specs.declared.word.Word.TheVariants as words
use Rattle.ilcode.specs.Listings.{Listing, IsLawful, IsIn, end_of}
use Rattle.ilcode.specs.Paths.{PathCall, path_call, Standing, standing, land, IsWord, LeadsTo}
use Rattle.ilcode.specs.Steps.{is_target, is_callable}
use Rattle.ilcode.proofs.Bodies.{start_suc, rising, within}
use Rattle.ilcode.proofs.Lists.{get}
use Rattle.ilverify.specs.declared.through.Counted.TheVariants.{Requests}
use Rattle.ilverify.specs.Calls.{HasGoodCalls}
use Rattle.ilverify.specs.Tables.{plus}
use Rattle.ilverify.specs.Through.{plus_if, max_if, weight, through_at, through_to, through_in, through_after}
use Rattle.ilverify.specs.Through.{AreThrough}
use Rattle.ilverify.specs.RequestSteps.{HasBefore}
use Rattle.ilverify.proofs.CalledBodies.{good_call, callable_earlier}
use Rattle.ilverify.proofs.Fills.{at_end_is, target_in}
use Rattle.ilverify.proofs.Placed.{land_end, land_in}
use Rattle.ilverify.proofs.Throughs.{through_is}
use Rattle.ilverify.proofs.RequestPaths.{before_more, before_less}

pub record AreWays (code : Listing) (through : List (Option ℕ)) : Type 0 where
  pub good : HasGoodCalls code
  pub lawful : IsLawful code
  pub ways : AreThrough code Requests through

-- ---- sums and choices

pub record IsSum (a b : Option ℕ) (sum : ℕ) : Type 0 where
  pub first : ℕ
  pub first_is : a ≡ Some first
  pub second : ℕ
  pub second_is : b ≡ Some second
  pub sum_is : sum ≡ plus first second

pub sum_of : (a b : Option ℕ) (sum : ℕ) → plus_if a b ≡ Some sum → IsSum a b sum
sum_of (Some x) (Some y) sum e =
    record { first = x; first_is = refl; second = y; second_is = refl; sum_is = let q : plus x y ≡ sum = cc in sym q }
sum_of None b sum e = absurd (cc)
sum_of (Some x) None sum e = absurd (cc)

pub either_of : (a b : Option ℕ) (n : ℕ) → max_if a b ≡ Some n → (a ≡ Some n) ⊎ (b ≡ Some n)
either_of (Some x) (Some y) n e = let q : max x y ≡ n = cc in by q
  where
    by : max x y ≡ n → (Some x ≡ Some n) ⊎ (Some y ≡ Some n)
    by q = elim (cases_eq x n) [
      | inl same ↦ inl (ap Some same)
      | inr other ↦ let same : y ≡ n = omega (arith, q, other) in inr (ap Some same)
    ]
either_of None b n e = inr e
either_of (Some x) None n e = inl e

pub record IsLawfulAt (code : Listing) (through : List (Option ℕ)) (end place target n : ℕ) : Type 0 where
  pub lawful : IsTrue (is_target code place target)
  pub is : through_at through end target ≡ Some n

lawful_by : (through : List (Option ℕ)) (end target n : ℕ) (lawful : Bool)
    → (if lawful then through_at through end target else None) ≡ Some n
    → IsTrue lawful × (through_at through end target ≡ Some n)
lawful_by through end target n true e = (refl, e)
lawful_by through end target n false e = absurd (cc)

pub lawful_at : (code : Listing) (through : List (Option ℕ)) (end place target n : ℕ)
    → through_to code through end place target ≡ Some n → IsLawfulAt code through end place target n
lawful_at code through end place target n e =
    let l = lawful_by through end target n (is_target code place target) e in
    record { lawful = l.0; is = l.1 }

-- ---- a path comes to where it lands, if that is a word

abbrev pub Comes : Listing → List PathCall → ℕ → ℕ → Type 0
Comes code calls place requests =
    IsWord code (land code place calls) → HasBefore code (land code place calls) requests

pub comes_less : (code : Listing) (calls : List PathCall) (place requests fewer : ℕ)
    → Comes code calls place requests → fewer ≤ requests → Comes code calls place fewer
comes_less code calls place requests fewer h le w =
    before_less code (land code place calls) requests fewer (h w) le

pub comes_to : (code : Listing) (calls raw : List PathCall) (place to requests : ℕ) (word : Word)
    → HasBefore code (standing place calls) requests → slice_get code.instructions place ≡ Some word
    → LeadsTo code word (standing place calls) (land code to raw)
    → Comes code raw to (requests + weight code Requests word)
comes_to code calls raw place to requests word h is leads w =
    before_more code (standing place calls) (land code to raw) requests word h is
    (record { word = word; is = is; leads = leads; within = w })

-- ---- through a function

-- from the place of the function to where its caller goes on
abbrev pub LeadsThrough : Listing → List (Option ℕ) → ℕ → Type 0
LeadsThrough code through function =
    (place inside back requests : ℕ) (calls : List PathCall) → end_of code function ≤ place
    → place ≤ end_of code (function + 1)
    → through_at through (end_of code (function + 1)) place ≡ Some inside
    → Comes code (path_call function back ∷ calls) place requests → Comes code calls back (requests + inside)

at_last : (code : Listing) (through : List (Option ℕ)) (function place inside back requests : ℕ)
    (calls : List PathCall) → place ≡ end_of code (function + 1)
    → through_at through (end_of code (function + 1)) place ≡ Some inside
    → Comes code (path_call function back ∷ calls) place requests → Comes code calls back (requests + inside)
at_last code through function place inside back requests calls e t h =
    let z = at_end_is (Some 0) None through (end_of code (function + 1)) place e in
    let none : inside ≡ 0 = (let q : Some 0 ≡ Some inside = sym z ∙ t in cc) in
    let l = land_end code (path_call function back) calls place e in
    comes_less code calls back requests (requests + inside)
    (subst (λ (s : Standing). IsWord code s → HasBefore code s requests) l h) (omega (arith, none))

-- a word of the function, and the rest of the way
record IsOnWay (code : Listing) (through : List (Option ℕ)) (function place back requests : ℕ) (calls : List PathCall)
    (word : Word) : Type 0 where
  right : AreWays code through
  in_body : IsIn code (function + 1) place
  is : slice_get code.instructions place ≡ Some word
  before : HasBefore code (standing place (path_call function back ∷ calls)) requests
  on : (to inside requests : ℕ) → place < to → to ≤ end_of code (function + 1)
      → through_at through (end_of code (function + 1)) to ≡ Some inside
      → Comes code (path_call function back ∷ calls) to requests → Comes code calls back (requests + inside)
  in_others : (other : ℕ) → other < function → LeadsThrough code through other

way_to : (code : Listing) (through : List (Option ℕ)) (function place back requests : ℕ) (calls : List PathCall)
    (word : Word) → IsOnWay code through function place back requests calls word → (to inside : ℕ) → place < to
    → to ≤ end_of code (function + 1) → through_at through (end_of code (function + 1)) to ≡ Some inside
    → LeadsTo code word (standing place (path_call function back ∷ calls))
    (land code to (path_call function back ∷ calls))
    → Comes code calls back (requests + weight code Requests word + inside)
way_to code through function place back requests calls word h to inside lt le t leads =
    h.on to inside (requests + weight code Requests word) lt le t
    (comes_to code (path_call function back ∷ calls) (path_call function back ∷ calls) place to requests word
    h.before h.is leads)

way_next : (code : Listing) (through : List (Option ℕ)) (function place back requests : ℕ) (calls : List PathCall)
    (word : Word) → IsOnWay code through function place back requests calls word → (inside : ℕ)
    → through_at through (end_of code (function + 1)) (place + 1) ≡ Some inside
    → LeadsTo code word (standing place (path_call function back ∷ calls))
    (land code (place + 1) (path_call function back ∷ calls))
    → Comes code calls back (requests + weight code Requests word + inside)
way_next code through function place back requests calls word h inside t leads =
    way_to code through function place back requests calls word h (place + 1) inside (omega arith)
    (let lt = h.in_body.to in omega (arith, lt)) t leads

way_target : (code : Listing) (through : List (Option ℕ)) (function place back requests : ℕ) (calls : List PathCall)
    (word : Word) (target : ℕ) → IsOnWay code through function place back requests calls word → (inside : ℕ)
    → through_to code through (end_of code (function + 1)) place target ≡ Some inside
    → (IsTrue (is_target code place target)
    → LeadsTo code word (standing place (path_call function back ∷ calls))
    (land code target (path_call function back ∷ calls)))
    → Comes code calls back (requests + weight code Requests word + inside)
way_target code through function place back requests calls word target h inside t leads =
    let l = lawful_at code through (end_of code (function + 1)) place target inside t in
    let ahead = target_in code (function + 1) place target h.in_body l.lawful in
    way_to code through function place back requests calls word h target inside ahead.0 ahead.1 l.is (leads l.lawful)

inner_before : (function inner : ℕ) → IsTrue (is_callable (function + 1) inner) → inner < function
inner_before function inner t =
    let e = callable_earlier (function + 1) inner t in
    elim e.earlier [ inl z ↦ absurd (omega (arith, z)) | inr lt ↦ omega (arith, lt) ]

way_called : (code : Listing) (through : List (Option ℕ)) (function place back requests : ℕ) (calls : List PathCall)
    (inner : ℕ) → IsOnWay code through function place back requests calls (words.Invoke inner) → (inside : ℕ)
    → plus_if (through_in code through inner) (through_at through (end_of code (function + 1)) (place + 1))
    ≡ Some inside
    → Comes code calls back (requests + weight code Requests (words.Invoke inner) + inside)
way_called code through function place back requests calls inner h inside t =
    let good = good_call code h.right.good (function + 1) place inner h.in_body h.is in
    let earlier : inner < function = inner_before function inner good.callable in
    let s = sum_of (through_in code through inner)
    (through_at through (end_of code (function + 1)) (place + 1)) inside t in
    let own = path_call function back ∷ calls in
    let n = requests + weight code Requests (words.Invoke inner) in
    let at : Comes code (path_call inner (place + 1) ∷ own) (end_of code inner) n =
    comes_to code own (path_call inner (place + 1) ∷ own) place (end_of code inner) requests
    (words.Invoke inner) h.before
    h.is (record { lawful = good.callable; within = good.within; is = refl }) in
    let behind : Comes code own (place + 1) (n + s.first) =
    h.in_others inner earlier (end_of code inner) s.first (place + 1) n own (omega arith)
    (rising code h.right.lawful inner) s.first_is at in
    let lt = h.in_body.to in
    let last : Comes code calls back (n + s.first + s.second) =
    h.on (place + 1) s.second (n + s.first) (omega arith) (omega (arith, lt)) s.second_is behind in
    let sum = s.sum_is in
    comes_less code calls back (n + s.first + s.second) (n + inside) last (omega (arith, sum))

way_after : (code : Listing) (through : List (Option ℕ)) (function place back requests : ℕ) (calls : List PathCall)
    (word : Word) → IsOnWay code through function place back requests calls word → (inside : ℕ)
    → through_after code through (end_of code (function + 1)) place word ≡ Some inside
    → Comes code calls back (requests + weight code Requests word + inside)
way_after code through function place back requests calls (words.Jump Always target) h inside t =
    way_target code through function place back requests calls (words.Jump Always target) target h inside t
    (λ l. record { lawful = l; is = refl })
way_after code through function place back requests calls (words.Jump IfTrue target) h inside t =
    elim (either_of _ _ inside t) [
      | inl e ↦
          way_next code through function place back requests calls (words.Jump IfTrue target) h inside e (inl refl)
      | inr e ↦
          way_target code through function place back requests calls (words.Jump IfTrue target) target h inside e
          (λ l. inr (record { lawful = l; is = refl }))
    ]
way_after code through function place back requests calls (words.Jump IfFalse target) h inside t =
    elim (either_of _ _ inside t) [
      | inl e ↦
          way_next code through function place back requests calls (words.Jump IfFalse target) h inside e (inl refl)
      | inr e ↦
          way_target code through function place back requests calls (words.Jump IfFalse target) target h inside e
          (λ l. inr (record { lawful = l; is = refl }))
    ]
way_after code through function place back requests calls (words.Invoke inner) h inside t =
    way_called code through function place back requests calls inner h inside t
way_after code through function place back requests calls word h inside t =
    way_next code through function place back requests calls word h inside t refl

way_from : (code : Listing) (through : List (Option ℕ)) (function place back requests : ℕ) (calls : List PathCall)
    (word : Word) → IsOnWay code through function place back requests calls word → (inside : ℕ)
    → through_at through (end_of code (function + 1)) place ≡ Some inside
    → Comes code calls back (requests + inside)
way_from code through function place back requests calls word h inside t =
    let is = sym (through_is code Requests through h.right.ways function place word h.in_body h.is) ∙ t in
    let s = sum_of (Some (weight code Requests word))
    (through_after code through (end_of code (function + 1)) place word) inside is in
    let first : weight code Requests word ≡ s.first = (let q = s.first_is in cc) in
    let sum = s.sum_is in
    let last = way_after code through function place back requests calls word h s.second s.second_is in
    comes_less code calls back (requests + weight code Requests word + s.second) (requests + inside) last
    (omega (arith, sum, first))

-- from word to word
by_left : (code : Listing) (through : List (Option ℕ)) → AreWays code through → (function : ℕ)
    → ((other : ℕ) → other < function → LeadsThrough code through other)
    → (left place inside back requests : ℕ) (calls : List PathCall) → end_of code (function + 1) ≤ place + left
    → end_of code function ≤ place → place ≤ end_of code (function + 1)
    → through_at through (end_of code (function + 1)) place ≡ Some inside
    → Comes code (path_call function back ∷ calls) place requests → Comes code calls back (requests + inside)
by_left code through right function others zero place inside back requests calls few from to t h =
    at_last code through function place inside back requests calls (omega arith) t h
by_left code through right function others (suc left) place inside back requests calls few from to t h =
    elim (cases_eq place (end_of code (function + 1))) as (λ _. Comes code calls back (requests + inside)) [
      | inl e ↦ at_last code through function place inside back requests calls e t h
      | inr d ↦
          let lt : place < end_of code (function + 1) = omega (arith, d, to) in
          let l = within code right.lawful (function + 1) in
          let g = get code.instructions place (omega (arith, lt, l)) in
          let start = start_suc code function in
          let own = path_call function back ∷ calls in
          let here = land_in code own place lt in
          way_from code through function place back requests calls g.0 (record {
            right = right;
            in_body = record { from = omega (arith, start, from); to = lt };
            is = g.1;
            before = subst (λ (s : Standing). HasBefore code s requests) here (h (subst (IsWord code) (sym here) lt));
            on = λ to inside more past le u k.
                by_left code through right function others left to inside back more calls (omega (arith, few, past))
                (omega (arith, past, from)) le u k;
            in_others = others;
          }) inside t
    ]

by_functions : (code : Listing) (through : List (Option ℕ)) → AreWays code through → (n function : ℕ) → function < n
    → LeadsThrough code through function
by_functions code through right zero function lt = absurd (omega (arith, lt))
by_functions code through right (suc n) function lt = λ place inside back requests calls from to t h.
    by_left code through right function
    (λ other less. by_functions code through right n other (omega (arith, lt, less)))
    (end_of code (function + 1)) place inside back requests calls (omega arith) from to t h

pub leads_through : (code : Listing) (through : List (Option ℕ)) → AreWays code through → (function : ℕ)
    → LeadsThrough code through function
leads_through code through right function =
    by_functions code through right (function + 1) function (omega arith)
