-- No path holds more requests before a word than are kept for it, and none is kept for more, as far as they are told
-- apart.
use Rattle.std.proofs.Common.{◌≡◌, ℕ, ◌+◌, ◌<◌, ◌≤◌, inl, inr, Bool, true, false, List, [], ◌∷◌, ◌++◌}
use Rattle.std.proofs.Common.{Option, Some, None, refl, sym, ap, ◌∙◌, subst, arith}
use Rattle.std.specs.Prelude.{IsTrue, slice_get, min, max, if◌then◌else◌, ⊤}
use Rattle.iltypes.specs.declared.condition.Condition.TheVariants.{Always, IfTrue, IfFalse}
use Rattle.ilcode.specs.declared.word.Word.{Word}
use Rattle.ilcode.specs.declared.word.Word.TheVariants as words
use Rattle.ilcode.specs.Listings.{Listing, IsIn, end_of}
use Rattle.ilcode.specs.Paths.{PathCall, path_call, Standing, standing, body_on, land, IsWord, IsJumpTo, LeadsTo}
use Rattle.ilcode.specs.Paths.{AreNext, IsPath, requests_on}
use Rattle.ilcode.specs.Steps.{is_target}
use Rattle.ilverify.specs.declared.through.Counted.TheVariants.{Requests}
use Rattle.ilverify.specs.Tables.{cap, plus}
use Rattle.ilverify.specs.Through.{plus_if, max_if, weight, through_at, through_to, through_in, through_after}
use Rattle.ilverify.specs.Through.{through_from}
use Rattle.ilverify.specs.RequestSteps.{Holds, IsBehind, LeadsWith, IsPassedOn, AreMost, AreAllMost}
use Rattle.ilverify.proofs.Fills.{at_end_is, target_in}
use Rattle.ilverify.specs.LongestWays.{IsPlaced}
use Rattle.ilverify.proofs.Placed.{placed_within, placed_on, next_placed, call_placed, land_keeps}
use Rattle.ilverify.proofs.Placed.{land_placed}
use Rattle.ilverify.proofs.Throughs.{through_is}
use Rattle.ilverify.proofs.RequestPaths.{requests_first, weight_is}
use Rattle.ilverify.proofs.RequestMoves.{nothing_ahead}
use Rattle.ilverify.proofs.RequestWays.{AreWays}

-- ---- what is kept holds so many, here and where each caller goes on

abbrev Fits : Listing → List (Option ℕ) → ℕ → ℕ → ℕ → Type 0
Fits code most end place n = place < end → Holds (slice_get most place) (min n cap)

abbrev Stands : Listing → List (Option ℕ) → List (Option ℕ) → List PathCall → ℕ → ℕ → Type 0
Stands code through most [] place n = Fits code most (end_of code 0) place n × ⊤
Stands code through most (c ∷ cs) place n =
    Fits code most (end_of code (c.function + 1)) place n
    × ((inside : ℕ) → through_at through (end_of code (c.function + 1)) place ≡ Some inside
    → Stands code through most cs c.back (n + inside))

-- where the callers go on, with so many through the rest of the body
abbrev Rests : Listing → List (Option ℕ) → List (Option ℕ) → List PathCall → Option ℕ → ℕ → Type 0
Rests code through most [] o n = ⊤
Rests code through most (c ∷ cs) o n =
    (inside : ℕ) → o ≡ Some inside → Stands code through most cs c.back (n + inside)

fits_of : (code : Listing) (through most : List (Option ℕ)) (calls : List PathCall) (place n : ℕ)
    → Stands code through most calls place n → Fits code most (end_of code (body_on calls)) place n
fits_of code through most [] place n h = h.0
fits_of code through most (c ∷ cs) place n h = h.0

rests_of : (code : Listing) (through most : List (Option ℕ)) (calls : List PathCall) (place n : ℕ)
    → Stands code through most calls place n
    → Rests code through most calls (through_at through (end_of code (body_on calls)) place) n
rests_of code through most [] place n h = tt
rests_of code through most (c ∷ cs) place n h = h.1

stands_by : (code : Listing) (through most : List (Option ℕ)) (calls : List PathCall) (place n : ℕ)
    → Fits code most (end_of code (body_on calls)) place n
    → Rests code through most calls (through_at through (end_of code (body_on calls)) place) n
    → Stands code through most calls place n
stands_by code through most [] place n f r = (f, r)
stands_by code through most (c ∷ cs) place n f r = (f, r)

-- ---- fewer

holds_less : (o : Option (Option ℕ)) (n k : ℕ) → k ≤ n → Holds o n → Holds o k
holds_less None n k le h = absurd h
holds_less (Some None) n k le h = absurd h
holds_less (Some (Some x)) n k le h = omega (arith, le, h)

stands_less : (code : Listing) (through most : List (Option ℕ)) (calls : List PathCall) (place n m : ℕ)
    → min m cap ≤ min n cap → Stands code through most calls place n → Stands code through most calls place m
stands_less code through most [] place n m le h =
    (λ lt. holds_less (slice_get most place) (min n cap) (min m cap) le (h.0 lt), tt)
stands_less code through most (c ∷ cs) place n m le h = (
  λ lt. holds_less (slice_get most place) (min n cap) (min m cap) le (h.0 lt),
  λ inside e. stands_less code through most cs c.back (n + inside) (m + inside) (omega (arith, le)) (h.1 inside e),
)

-- through the rest of the body lead no more than through what it follows
abbrev Follows : Option ℕ → ℕ → Option ℕ → ℕ → Type 0
Follows before n after m =
    (inside : ℕ) → after ≡ Some inside
    → (whole : ℕ) × (before ≡ Some whole) × (min (m + inside) cap ≤ min (n + whole) cap)

rests_on : (code : Listing) (through most : List (Option ℕ)) (calls : List PathCall) (before after : Option ℕ)
    (n m : ℕ) → Follows before n after m → Rests code through most calls before n
    → Rests code through most calls after m
rests_on code through most [] before after n m f r = tt
rests_on code through most (c ∷ cs) before after n m f r = λ inside e.
    let w = f inside e in
    stands_less code through most cs c.back (n + w.0) (m + inside) w.2 (r w.0 w.1)

-- ---- from a word to its successors

record AtWord (code : Listing) (through most : List (Option ℕ)) (calls : List PathCall) (place n : ℕ) (word : Word)
    : Type 0 where
  right : AreWays code through
  in_body : IsIn code (body_on calls) place
  is : slice_get code.instructions place ≡ Some word
  before : ℕ
  kept : slice_get most place ≡ Some (Some before)
  many : min n cap ≤ before
  passed : (at kept : ℕ)
      → LeadsWith code through (end_of code (body_on calls)) place word
      (plus before (weight code Requests word)) at kept
      → Holds (slice_get most at) kept
  rests : Rests code through most calls
      (through_from code Requests through (end_of code (body_on calls)) place word) n

-- to a place of the same body
to_stands : (code : Listing) (through most : List (Option ℕ)) (calls : List PathCall) (place n : ℕ) (word : Word)
    → (h : AtWord code through most calls place n word) → (to : ℕ)
    → (to < end_of code (body_on calls) → (requests : ℕ)
    → LeadsWith code through (end_of code (body_on calls)) place word requests to requests)
    → ((inside : ℕ) → through_at through (end_of code (body_on calls)) to ≡ Some inside
    → (whole : ℕ) × (through_after code through (end_of code (body_on calls)) place word ≡ Some whole)
    × (inside ≤ whole))
    → Stands code through most calls to (n + weight code Requests word)
to_stands code through most calls place n word h to leads follows =
    let end = end_of code (body_on calls) in
    let w = weight code Requests word in
    let many = h.many in
    stands_by code through most calls to (n + w)
    (λ lt. holds_less (slice_get most to) (plus h.before w) (min (n + w) cap) (omega (arith, many))
    (h.passed to (plus h.before w) (leads lt (plus h.before w))))
    (rests_on code through most calls (through_from code Requests through end place word) (through_at through end to) n
    (n + w) (λ inside e.
    let f = follows inside e in
    let le = f.2 in
    (plus w f.0, ap (plus_if (Some w)) f.1, omega (arith, le))) h.rests)

max_left : (a b : Option ℕ) (inside : ℕ) → a ≡ Some inside
    → (whole : ℕ) × (max_if a b ≡ Some whole) × (inside ≤ whole)
max_left a (Some y) inside e = (max inside y, ap (λ (o : Option ℕ). max_if o (Some y)) e, omega arith)
max_left a None inside e = (inside, ap (λ (o : Option ℕ). max_if o None) e, omega arith)

max_right : (a b : Option ℕ) (inside : ℕ) → b ≡ Some inside
    → (whole : ℕ) × (max_if a b ≡ Some whole) × (inside ≤ whole)
max_right (Some x) b inside e = (max x inside, ap (max_if (Some x)) e, omega arith)
max_right None b inside e = (inside, ap (max_if None) e, omega arith)

through_to_is : (code : Listing) (through : List (Option ℕ)) (end place target : ℕ)
    → IsTrue (is_target code place target) → through_to code through end place target ≡ through_at through end target
through_to_is code through end place target t = by (is_target code place target) t
  where
    by : (lawful : Bool) → IsTrue lawful
        → (if lawful then through_at through end target else None) ≡ through_at through end target
    by true t = refl
    by false t = absurd (cc)

-- the place behind a call, and the function's own
called_stands : (code : Listing) (through most : List (Option ℕ)) (calls : List PathCall) (place n function : ℕ)
    → AtWord code through most calls place n (words.Invoke function)
    → Stands code through most (path_call function (place + 1) ∷ calls) (end_of code function)
    (n + weight code Requests (words.Invoke function))
called_stands code through most calls place n function h = (inner, behind)
  where
    inner : Fits code most (end_of code (function + 1)) (end_of code function)
        (n + weight code Requests (words.Invoke function))
    inner lt =
        let many = h.many in
        holds_less (slice_get most (end_of code function))
        (plus h.before (weight code Requests (words.Invoke function)))
        (min (n + weight code Requests (words.Invoke function)) cap) (omega (arith, many))
        (h.passed (end_of code function) (plus h.before (weight code Requests (words.Invoke function)))
        (inr (record { is = refl; within = lt; many = refl })))

    behind : (inside : ℕ) → through_in code through function ≡ Some inside
        → Stands code through most calls (place + 1) (n + weight code Requests (words.Invoke function) + inside)
    behind inside e =
        let end = end_of code (body_on calls) in
        let k = weight code Requests (words.Invoke function) in
        let many = h.many in
        stands_by code through most calls (place + 1) (n + k + inside)
        (λ lt. holds_less (slice_get most (place + 1)) (plus (plus h.before k) inside) (min (n + k + inside) cap)
        (omega (arith, many))
        (h.passed (place + 1) (plus (plus h.before k) inside)
        (inl
        (subst
        (λ (o : Option ℕ). IsBehind o end (place + 1) (place + 1) (plus h.before k) (plus (plus h.before k) inside))
        (sym e) (record { is = refl; within = lt; many = refl })))))
        (rests_on code through most calls (through_from code Requests through end place (words.Invoke function))
        (through_at through end (place + 1)) n (n + k + inside) (λ more f. (
          plus k (plus inside more),
          ap (λ (o : Option ℕ). plus_if (Some k) (plus_if o (through_at through end (place + 1)))) e
              ∙ ap (λ (o : Option ℕ). plus_if (Some k) (plus_if (Some inside) o)) f,
          omega arith,
        )) h.rests)

-- where a body ends
land_stands : (code : Listing) (through most : List (Option ℕ)) (calls : List PathCall) (place n : ℕ)
    → Stands code through most calls place n
    → Stands code through most (land code place calls).calls (land code place calls).place n
land_stands code through most calls place n h =
    land_keeps code (λ cs p. Stands code through most cs p n) (λ c cs k.
    let end = end_of code (c.function + 1) in
    stands_less code through most cs c.back (n + 0) n (omega arith)
    (k.1 0 (at_end_is (Some 0) None through end end refl))) calls place h

-- ---- a step along a path

record IsStood (code : Listing) (through most : List (Option ℕ)) (t : Standing) (n : ℕ) : Type 0 where
  stands : Stands code through most t.calls t.place n
  placed : IsPlaced code t.calls t.place

stood : (code : Listing) (through most : List (Option ℕ)) (raw : List PathCall) (to n : ℕ) (t : Standing)
    → Stands code through most raw to n → IsPlaced code raw to → t ≡ land code to raw → IsStood code through most t n
stood code through most raw to n t h placed e =
    subst (λ (s : Standing). IsStood code through most s n) (sym e)
    (record { stands = land_stands code through most raw to n h; placed = land_placed code raw to placed })

step_target : (code : Listing) (through most : List (Option ℕ)) (calls : List PathCall) (place n target : ℕ)
    (word : Word)
    (t : Standing) → AtWord code through most calls place n word → IsPlaced code calls place
    → (IsTrue (is_target code place target) → target < end_of code (body_on calls) → (requests : ℕ)
    → LeadsWith code through (end_of code (body_on calls)) place word requests target requests)
    → ((inside : ℕ) → through_to code through (end_of code (body_on calls)) place target ≡ Some inside
    → (whole : ℕ) × (through_after code through (end_of code (body_on calls)) place word ≡ Some whole)
    × (inside ≤ whole))
    → IsJumpTo code (standing place calls) target t
    → IsStood code through most t (n + weight code Requests word)
step_target code through most calls place n target word t h placed leads follows j =
    let end = end_of code (body_on calls) in
    let a = target_in code (body_on calls) place target h.in_body j.lawful in
    let is = through_to_is code through end place target j.lawful in
    stood code through most calls target (n + weight code Requests word) t
    (to_stands code through most calls place n word h target (leads j.lawful) (λ inside e. follows inside (is ∙ e)))
    (placed_on code calls place target placed (let lt = a.0 in omega (arith, lt)) a.1) j.is

step_next : (code : Listing) (through most : List (Option ℕ)) (calls : List PathCall) (place n : ℕ) (word : Word)
    (t : Standing) → AtWord code through most calls place n word → IsPlaced code calls place
    → (place + 1 < end_of code (body_on calls) → (requests : ℕ)
    → LeadsWith code through (end_of code (body_on calls)) place word requests (place + 1) requests)
    → ((inside : ℕ) → through_at through (end_of code (body_on calls)) (place + 1) ≡ Some inside
    → (whole : ℕ) × (through_after code through (end_of code (body_on calls)) place word ≡ Some whole)
    × (inside ≤ whole))
    → t ≡ land code (place + 1) calls
    → IsStood code through most t (n + weight code Requests word)
step_next code through most calls place n word t h placed leads follows e =
    stood code through most calls (place + 1) (n + weight code Requests word) t
    (to_stands code through most calls place n word h (place + 1) leads follows)
    (next_placed code calls place h.in_body placed) e

step_stands : (code : Listing) (through most : List (Option ℕ)) (calls : List PathCall) (place n : ℕ) (word : Word)
    (t : Standing) → AtWord code through most calls place n word → IsPlaced code calls place
    → LeadsTo code word (standing place calls) t → IsStood code through most t (n + weight code Requests word)
step_stands code through most calls place n (words.Jump Always target) t h placed l =
    step_target code through most calls place n target (words.Jump Always target) t h placed
    (λ lawful lt requests. (lawful, record { is = refl; within = lt; many = refl }))
    (λ inside e. (inside, e, omega arith)) l
step_stands code through most calls place n (words.Jump IfTrue target) t h placed (inl e) =
    step_next code through most calls place n (words.Jump IfTrue target) t h placed
    (λ lt requests. inl (record { is = refl; within = lt; many = refl })) (λ inside f. max_left _ _ inside f) e
step_stands code through most calls place n (words.Jump IfTrue target) t h placed (inr l) =
    step_target code through most calls place n target (words.Jump IfTrue target) t h placed
    (λ lawful lt requests. inr (lawful, record { is = refl; within = lt; many = refl }))
    (λ inside f. max_right _ _ inside f) l
step_stands code through most calls place n (words.Jump IfFalse target) t h placed (inl e) =
    step_next code through most calls place n (words.Jump IfFalse target) t h placed
    (λ lt requests. inl (record { is = refl; within = lt; many = refl })) (λ inside f. max_left _ _ inside f) e
step_stands code through most calls place n (words.Jump IfFalse target) t h placed (inr l) =
    step_target code through most calls place n target (words.Jump IfFalse target) t h placed
    (λ lawful lt requests. inr (lawful, record { is = refl; within = lt; many = refl }))
    (λ inside f. max_right _ _ inside f) l
step_stands code through most calls place n (words.Invoke function) t h placed l =
    stood code through most (path_call function (place + 1) ∷ calls) (end_of code function)
    (n + weight code Requests (words.Invoke function)) t (called_stands code through most calls place n function h)
    (call_placed code calls place function h.right.lawful h.in_body placed) l.is
step_stands code through most calls place n word t h placed l =
    step_next code through most calls place n word t h placed
    (λ lt requests. record { is = refl; within = lt; many = refl }) (λ inside e. (inside, e, omega arith)) l

-- ---- along paths

-- what is kept is passed on everywhere
record IsPassed (code : Listing) (through most : List (Option ℕ)) : Type 0 where
  right : AreWays code through
  first : 0 < end_of code 0 → Holds (slice_get most 0) 0
  passed : (from : ℕ) → IsPassedOn code through most from

holds_some : (o : Option (Option ℕ)) (n : ℕ) → Holds o n → (kept : ℕ) × (o ≡ Some (Some kept)) × (n ≤ kept)
holds_some None n h = absurd h
holds_some (Some None) n h = absurd h
holds_some (Some (Some x)) n h = (x, refl, h)

rests_at : (code : Listing) (through most : List (Option ℕ)) → AreWays code through → (calls : List PathCall)
    (place n : ℕ) (word : Word) → IsIn code (body_on calls) place → slice_get code.instructions place ≡ Some word
    → Stands code through most calls place n
    → Rests code through most calls (through_from code Requests through (end_of code (body_on calls)) place word) n
rests_at code through most right [] place n word i is h = tt
rests_at code through most right (c ∷ cs) place n word i is h = λ inside e.
    h.1 inside (through_is code Requests through right.ways c.function place word i is ∙ e)

at_word : (code : Listing) (through most : List (Option ℕ)) → IsPassed code through most → (s : Standing) (n : ℕ)
    (word : Word) → IsStood code through most s n → IsWord code s → slice_get code.instructions s.place ≡ Some word
    → AtWord code through most s.calls s.place n word
at_word code through most p s n word h w is =
    let i = placed_within code s.calls s.place h.placed w in
    let k = holds_some (slice_get most s.place) (min n cap) (fits_of code through most s.calls s.place n h.stands w) in
    record {
      right = p.right;
      in_body = i;
      is = is;
      before = k.0;
      kept = k.1;
      many = k.2;
      passed = p.passed s.place (body_on s.calls) k.0 word i is k.1;
      rests = rests_at code through most p.right s.calls s.place n word i is h.stands;
    }

along : (code : Listing) (through most : List (Option ℕ)) → IsPassed code through most → (s : Standing)
    (more : List Standing) (last : Standing) (n : ℕ) → IsStood code through most s n → IsWord code s
    → AreNext code s (more ++ last ∷ [])
    → Holds (slice_get most last.place) (min (n + requests_on code (s ∷ more)) cap)
along code through most p s [] last n h w are =
    let next = are.0 in
    let t = step_stands code through most s.calls s.place n next.word last
    (at_word code through most p s n next.word h w next.is) h.placed next.leads in
    let f = fits_of code through most last.calls last.place (n + weight code Requests next.word) t.stands next.within in
    let first = requests_first code s [] in
    let same = weight_is code s next.word next.is in
    holds_less (slice_get most last.place) (min (n + weight code Requests next.word) cap)
    (min (n + requests_on code (s ∷ [])) cap) (omega (arith, first, same)) f
along code through most p s (t ∷ more) last n h w are =
    let next = are.0 in
    let k = step_stands code through most s.calls s.place n next.word t
    (at_word code through most p s n next.word h w next.is) h.placed next.leads in
    let r = along code through most p t more last (n + weight code Requests next.word) k next.within are.1 in
    let first = requests_first code s (t ∷ more) in
    let same = weight_is code s next.word next.is in
    holds_less (slice_get most last.place)
    (min (n + weight code Requests next.word + requests_on code (t ∷ more)) cap)
    (min (n + requests_on code (s ∷ t ∷ more)) cap) (omega (arith, first, same)) r

first_stood : (code : Listing) (through most : List (Option ℕ)) → IsPassed code through most
    → IsStood code through most (standing 0 []) 0
first_stood code through most p = record {
  stands = (λ lt. holds_less (slice_get most 0) 0 (min 0 cap) (omega arith) (p.first lt), tt);
  placed = omega arith;
}

greatest : (code : Listing) (through most : List (Option ℕ)) → IsPassed code through most → (before : List Standing)
    (last : Standing) → IsPath code (before ++ last ∷ [])
    → Holds (slice_get most last.place) (min (requests_on code before) cap)
greatest code through most p [] last is =
    let w = subst (IsWord code) is.0 is.1 in
    subst (λ (s : Standing). Holds (slice_get most s.place) (min (requests_on code []) cap)) (sym is.0)
    (holds_less (slice_get most 0) 0 (min (requests_on code []) cap) (omega arith) (p.first w))
greatest code through most p (s ∷ more) last is =
    let stood = subst (λ (t : Standing). IsStood code through most t 0) (sym is.0) (first_stood code through most p) in
    let a = along code through most p s more last 0 stood is.1 is.2 in
    holds_less (slice_get most last.place) (min (0 + requests_on code (s ∷ more)) cap)
    (min (requests_on code (s ∷ more)) cap) (omega arith) a

-- ---- behind the last body

pub all_most : (code : Listing) (through most : List (Option ℕ)) → AreWays code through
    → AreMost code through most 1 (end_of code 1) → AreAllMost code most
all_most code through most right m = record {
  long = m.long;
  each = m.each;
  greatest = greatest code through most (record {
    right = right;
    first = m.first;
    passed = λ from. m.passed from (nothing_ahead code from);
  });
}
