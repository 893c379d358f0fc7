-- What is handed out first: of the least class that has anything, the oldest request, or the owed level of the least
-- address.
use Rattle.std.proofs.Common.{◌≡◌, ◌≢◌, ⊎_elim, inl, inr, ℕ, zero, suc, ◌<◌, ◌≤◌, true, false, eqb, leb, List, []}
use Rattle.std.proofs.Common.{◌∷◌, ◌++◌, map, Option, Some, None}
use Rattle.std.proofs.Common.{refl, sym, ap, ◌∙◌, subst, arith}
use Rattle.std.proofs.lemmas.Bool.Decides.{eqb_tells, leb_tells}
use Rattle.std.specs.Prelude.{⊤, slice_get, filter_map, flat_map}
use Rattle.std.specs.List.{cons_option}
use Rattle.gearcmd.specs.declared.requests.Request.{Request}
use Rattle.plantevents.specs.declared.event.Event.{Event}
use Rattle.plantevents.specs.Plants.{Plant}
use Rattle.plantevents.specs.Waiting.{OwedLevel, Handout, owed_at, numbers_below, owed, waiting}
use Rattle.plantevents.specs.Waiting.{request_handout, level_handout, class_handouts, classes, handouts}
use Rattle.plantevents.specs.Members.{Has, IsFirstOwed, HasNothing, IsFirstOfClass, IsNextHandout}
use Rattle.plantevents.proofs.Having.{has_cases, has_later, has_none, given_has, below_has}
use Rattle.plantevents.proofs.Owing.{has_owed, at_address, owes_at, owes_address}

-- ---- the first that a function gives of the numbers below n

given_append : {X Y : Type 0} (f : X → Option Y) (xs ys : List X)
    → filter_map f (xs ++ ys) ≡ filter_map f xs ++ filter_map f ys
given_append f [] ys = refl
given_append f (x ∷ xs) ys =
    elim (f x) as (λ (o : Option _). cons_option o (filter_map f (xs ++ ys))
    ≡ cons_option o (filter_map f xs) ++ filter_map f ys) [
      | None ↦ given_append f xs ys
      | Some y ↦ ap (λ l. y ∷ l) (given_append f xs ys)
    ]

first_append : {X : Type 0} (xs ys : List X) (x : X) → slice_get xs 0 ≡ Some x → slice_get (xs ++ ys) 0 ≡ Some x
first_append [] ys x is = absurd (cc)
first_append (y ∷ xs) ys x is = is

none_given : {Y : Type 0} (f : ℕ → Option Y) (n : ℕ) → ((m : ℕ) → m < n → f m ≡ None)
    → filter_map f (numbers_below n) ≡ []
none_given f zero none = refl
none_given f (suc n) none =
    given_append f (numbers_below n) (n ∷ [])
    ∙ (ap (λ l. l ++ filter_map f (n ∷ [])) (none_given f n (λ m lt. none m (omega arith)))
    ∙ ap (λ o. cons_option o []) (none n (omega arith)))

pub first_given : {Y : Type 0} (f : ℕ → Option Y) (n a : ℕ) (y : Y) → a < n → f a ≡ Some y
    → ((m : ℕ) → m < a → f m ≡ None)
    → slice_get (filter_map f (numbers_below n)) 0 ≡ Some y
first_given f zero a y lt is none = absurd (omega arith)
first_given f (suc n) a y lt is none =
    ap (λ l. slice_get l 0) (given_append f (numbers_below n) (n ∷ []))
    ∙ ⊎_elim
    (λ (k : (eqb a n ≡ true) × (a ≡ n)).
    ap (λ l. slice_get (l ++ filter_map f (n ∷ [])) 0) (none_given f n (λ m lt. none m (let e = k.1 in omega arith)))
    ∙ ap (λ o. slice_get (cons_option o []) 0) (ap f (sym k.1) ∙ is))
    (λ (k : (eqb a n ≡ false) × (a ≢ n)).
    first_append (filter_map f (numbers_below n)) (filter_map f (n ∷ [])) y
    (first_given f n a y (let ne = k.1 in grind arith) is none))
    (eqb_tells a n)

first_has : {X : Type 0} (xs : List X) (x : X) → slice_get xs 0 ≡ Some x → Has xs x
first_has xs x is = (zero, is)

-- the least number of which it gives anything, and none of the lesser ones
record IsLeast {Y : Type 0} (f : ℕ → Option Y) (n : ℕ) (y : Y) : Type 0 where
  number : ℕ
  below : number < n
  gives : f number ≡ Some y
  none : (m : ℕ) → m < number → f m ≡ None

none_below : {Y : Type 0} (f : ℕ → Option Y) (n m : ℕ) → filter_map f (numbers_below n) ≡ [] → m < n → f m ≡ None
none_below f n m empty lt =
    elim (f m) as (λ (o : Option _). f m ≡ o → o ≡ None) [
      | None ↦ λ is. refl
      | Some z ↦ λ is. absurd (has_none z (subst (λ l.
          Has l z) empty (given_has f (numbers_below n) m z (below_has n m lt) is)))
    ] refl

last_given : {Y : Type 0} (f : ℕ → Option Y) (n : ℕ) (y : Y) (o : Option Y) → f n ≡ o
    → slice_get (cons_option o []) 0 ≡ Some y → f n ≡ Some y
last_given f n y None is first = absurd (cc)
last_given f n y (Some z) is first = is ∙ first

least_of : {Y : Type 0} (f : ℕ → Option Y) (n : ℕ) (y : Y) (l : List Y) → filter_map f (numbers_below n) ≡ l
    → (slice_get l 0 ≡ Some y → IsLeast f n y) → slice_get (l ++ filter_map f (n ∷ [])) 0 ≡ Some y → IsLeast f (suc n) y
least_of f n y [] empty before first =
    record {
      number = n;
      below = omega arith;
      gives = last_given f n y (f n) refl first;
      none = λ m lt. none_below f n m empty lt;
    }
least_of f n y (z ∷ l) some before first =
    let b = before first in
    record { number = b.number; below = (let lt = b.below in omega arith); gives = b.gives; none = b.none }

least_given : {Y : Type 0} (f : ℕ → Option Y) (n : ℕ) (y : Y) → slice_get (filter_map f (numbers_below n)) 0 ≡ Some y
    → IsLeast f n y
least_given f zero y is = absurd (cc)
least_given f (suc n) y is =
    least_of f n y (filter_map f (numbers_below n)) refl (least_given f n y)
    (sym (ap (λ l. slice_get l 0) (given_append f (numbers_below n) (n ∷ []))) ∙ is)

-- ---- owed levels

none_before : (p : Plant) (b c : ℕ) (h : List Event) (o : OwedLevel) → IsFirstOwed p b c h o → (m : ℕ) → m < o.address
    → owed_at p b c h m ≡ None
none_before p b c h o first m lt =
    elim (owed_at p b c h m) as (λ (x : Option OwedLevel). owed_at p b c h m ≡ x → x ≡ None) [
      | None ↦ λ is. refl
      | Some other ↦ λ is.
          let le = first.owes.address in
          let owes = at_address p b c m h other (omega arith) is in
          let same = owes_address p b c m h other is in
          let least = first.first other owes in absurd (omega arith)
    ] refl

pub owed_first : (p : Plant) (b c : ℕ) (h : List Event) (o : OwedLevel) → IsFirstOwed p b c h o
    → slice_get (owed p b c h) 0 ≡ Some o
owed_first p b c h o first =
    first_given (owed_at p b c h) 81 o.address o (let le = first.owes.address in
    omega arith) (owes_at p b c h o first.owes)
    (none_before p b c h o first)

pub first_owed : (p : Plant) (b c : ℕ) (h : List Event) (o : OwedLevel) → slice_get (owed p b c h) 0 ≡ Some o
    → IsFirstOwed p b c h o
first_owed p b c h o is =
    let l = least_given (owed_at p b c h) 81 o is in
    let same = owes_address p b c l.number h o l.gives in
    record {
      owes = has_owed p b c h o (zero, is);
      first = λ other owes.
          ⊎_elim (λ (k : (leb o.address other.address ≡ true) × (o.address ≤ other.address)). k.1)
          (λ (k : (leb o.address other.address ≡ false) × (other.address < o.address)).
          let none = l.none other.address (let lt = k.1 in omega arith) in let some = owes_at p b c h other owes in
          absurd (cc))
          (leb_tells o.address other.address);
    }

-- ---- what is handed out

-- the first of one class
class_first : (p : Plant) (b c : ℕ) (h : List Event) (q : List Request) (levels : List OwedLevel) (x : Handout)
    → waiting p b c h ≡ q
    → owed p b c h ≡ levels → slice_get (map (request_handout c) q ++ map (level_handout c) levels) 0 ≡ Some x
    → IsFirstOfClass p b h c x
class_first p b c h [] [] x w l is = absurd (cc)
class_first p b c h [] (o ∷ levels) x w l is = inr (
  o,
  w,
  ap (λ k. slice_get k 0) l,
  (let e : x ≡ level_handout c o =
      cc in e),
)
class_first p b c h (r ∷ q) levels x w l is = inl (
  r,
  ap (λ k. slice_get k 0) w,
  (let e : x ≡ request_handout c r =
      cc in e),
)

request_first : (c : ℕ) (q : List Request) (levels : List OwedLevel) (r : Request) → slice_get q 0 ≡ Some r
    → slice_get (map (request_handout c) q ++ map (level_handout c) levels) 0 ≡ Some (request_handout c r)
request_first c [] levels r is = absurd (cc)
request_first c (s ∷ q) levels r is = let e : s ≡ r = cc in ap (λ x. Some (request_handout c x)) e

level_first : (c : ℕ) (q : List Request) (levels : List OwedLevel) (o : OwedLevel) → q ≡ []
    → slice_get levels 0 ≡ Some o
    → slice_get (map (request_handout c) q ++ map (level_handout c) levels) 0 ≡ Some (level_handout c o)
level_first c (s ∷ q) levels o none is = absurd (cc)
level_first c [] [] o none is = absurd (cc)
level_first c [] (other ∷ levels) o none is = let e : other ≡ o = cc in ap (λ x. Some (level_handout c x)) e

first_of_class : (p : Plant) (b c : ℕ) (h : List Event) (x : Handout) → IsFirstOfClass p b h c x
    → slice_get (class_handouts p b h c) 0 ≡ Some x
first_of_class p b c h x first =
    ⊎_elim
    (λ (k : (r : Request) × (slice_get (waiting p b c h) 0 ≡ Some r) × (x ≡ request_handout c r)).
    request_first c (waiting p b c h) (owed p b c h) k.0 k.1 ∙ ap (λ y. Some y) (sym k.2))
    (λ (k : (o : OwedLevel) × (waiting p b c h ≡ []) × (slice_get (owed p b c h) 0 ≡ Some o) × (x ≡ level_handout c o)).
    level_first c (waiting p b c h) (owed p b c h) k.0 k.1 k.2 ∙ ap (λ y. Some y) (sym k.3))
    first

no_handouts : (c : ℕ) (q : List Request) (levels : List OwedLevel)
    → map (request_handout c) q ++ map (level_handout c) levels ≡ []
    → (q ≡ []) × (levels ≡ [])
no_handouts c [] [] none = (refl, refl)
no_handouts c [] (o ∷ levels) none = absurd (cc)
no_handouts c (r ∷ q) levels none = absurd (cc)

handouts_none : (p : Plant) (b c : ℕ) (h : List Event) → HasNothing p b h c → class_handouts p b h c ≡ []
handouts_none p b c h none =
    ap (λ q. map (request_handout c) q ++ map (level_handout c) (owed p b c h)) none.0
    ∙ ap (λ l. map (level_handout c) l) none.1

-- ---- of several classes

-- each is less than all after it
abbrev AreRising : List ℕ → Type 0
AreRising [] = ⊤
AreRising (c ∷ cs) = ((d : ℕ) → Has cs d → c < d) × AreRising cs

-- the first of these of which anything is there
record IsFirstIn (f : ℕ → List Handout) (cs : List ℕ) (x : Handout) : Type 0 where
  class : ℕ
  is_class : Has cs class
  before : (d : ℕ) → Has cs d → d < class → f d ≡ []
  first : slice_get (f class) 0 ≡ Some x

here_first : (f : ℕ → List Handout) (c : ℕ) (cs : List ℕ) (x : Handout) → AreRising (c ∷ cs)
    → slice_get (f c) 0 ≡ Some x → IsFirstIn f (c ∷ cs) x
here_first f c cs x rising is =
    record {
      class = c;
      is_class = (zero, refl);
      before = λ d has lt.
          ⊎_elim (λ (e : c ≡ d). absurd (omega arith)) (λ (more : Has cs d). let over = rising.0 d more in
          absurd (omega arith)) (has_cases c cs d has);
      first = is;
    }

later_first : (f : ℕ → List Handout) (c : ℕ) (cs : List ℕ) (x : Handout) → f c ≡ [] → IsFirstIn f cs x
    → IsFirstIn f (c ∷ cs) x
later_first f c cs x none l =
    record {
      class = l.class;
      is_class = has_later c cs l.class l.is_class;
      before = λ d has lt.
          ⊎_elim (λ (e : c ≡ d). ap f (sym e) ∙ none) (λ (more : Has cs d). l.before d more lt) (has_cases c cs d has);
      first = l.first;
    }

first_in : (f : ℕ → List Handout) (cs : List ℕ) (x : Handout) → AreRising cs → slice_get (flat_map f cs) 0 ≡ Some x
    → IsFirstIn f cs x
first_in f [] x rising is = absurd (cc)
first_in f (c ∷ cs) x rising is =
    elim (f c) as (λ (l : List Handout). f c ≡ l → slice_get (l ++ flat_map f cs) 0 ≡ Some x → IsFirstIn f (c ∷ cs) x) [
      | [] ↦ λ none first. later_first f c cs x none (first_in f cs x rising.1 first)
      | y ∷ ys ↦ λ some first. here_first f c cs x rising (ap (λ l. slice_get l 0) some ∙ first)
    ] refl is

in_first : (f : ℕ → List Handout) (cs : List ℕ) (x : Handout) → AreRising cs → IsFirstIn f cs x
    → slice_get (flat_map f cs) 0 ≡ Some x
in_first f [] x rising i = absurd (has_none i.class i.is_class)
in_first f (c ∷ cs) x rising i =
    ⊎_elim
    (λ (e : c ≡ i.class). first_append (f c) (flat_map f cs) x (ap (λ d. slice_get (f d) 0) e ∙ i.first))
    (λ (more : Has cs i.class).
    ap (λ l. slice_get (l ++ flat_map f cs) 0) (i.before c (zero, refl) (rising.0 i.class more))
    ∙ in_first f cs x rising.1 (record {
      class = i.class;
      is_class = more;
      before = λ d has lt. i.before d (has_later c cs d has) lt;
      first = i.first;
    }))
    (has_cases c cs i.class i.is_class)

none_in : (f : ℕ → List Handout) (cs : List ℕ) → flat_map f cs ≡ [] → (c : ℕ) → Has cs c → f c ≡ []
none_in f [] none c has = absurd (has_none c has)
none_in f (d ∷ cs) none c has =
    elim (f d) as (λ (l : List Handout). f d ≡ l → l ++ flat_map f cs ≡ [] → f c ≡ []) [
      | [] ↦ λ empty rest. ⊎_elim (λ (e : d ≡ c). ap f (sym e)
          ∙ empty) (λ (more : Has cs c). none_in f cs rest c more) (has_cases d cs c has)
      | y ∷ ys ↦ λ some rest. absurd (cc)
    ] refl none

in_none : (f : ℕ → List Handout) (cs : List ℕ) → ((c : ℕ) → Has cs c → f c ≡ []) → flat_map f cs ≡ []
in_none f [] none = refl
in_none f (c ∷ cs) none =
    ap (λ l. l ++ flat_map f cs) (none c (zero, refl)) ∙ in_none f cs (λ d has. none d (has_later c cs d has))

above : (c d : ℕ) (cs : List ℕ) → c < d → ((x : ℕ) → Has cs x → d < x) → (x : ℕ) → Has (d ∷ cs) x → c < x
above c d cs lt rest x has =
    ⊎_elim (λ (k : d ≡ x). omega arith) (λ (more : Has cs x). let over = rest x more in
    omega arith) (has_cases d cs x has)

classes_rise : AreRising classes
classes_rise =
    let five : (x : ℕ) → Has [] x → 5 < x = λ x has. absurd (has_none x has) in
    let four : (x : ℕ) → Has (5 ∷ []) x → 4 < x = above 4 5 [] (omega arith) five in
    let three : (x : ℕ) → Has (4 ∷ 5 ∷ []) x → 3 < x = above 3 4 (5 ∷ []) (omega arith) four in
    let two : (x : ℕ) → Has (3 ∷ 4 ∷ 5 ∷ []) x → 2 < x = above 2 3 (4 ∷ 5 ∷ []) (omega arith) three in
    (two, (three, (four, (five, tt))))

pub handout_first : (p : Plant) (b : ℕ) (h : List Event) (x : Handout) → slice_get (handouts p b h) 0 ≡ Some x
    → IsNextHandout p b h x
handout_first p b h x is =
    let i = first_in (class_handouts p b h) classes x classes_rise is in
    record {
      class = i.class;
      is_class = i.is_class;
      before = λ c has lt. no_handouts c (waiting p b c h) (owed p b c h) (i.before c has lt);
      first = class_first p b i.class h (waiting p b i.class h) (owed p b i.class h) x refl refl i.first;
    }

pub first_handout : (p : Plant) (b : ℕ) (h : List Event) (x : Handout) → IsNextHandout p b h x
    → slice_get (handouts p b h) 0 ≡ Some x
first_handout p b h x next =
    in_first (class_handouts p b h) classes x classes_rise (record {
      class = next.class;
      is_class = next.is_class;
      before = λ c has lt. handouts_none p b c h (next.before c has lt);
      first = first_of_class p b next.class h x next.first;
    })

pub nothing_there : (p : Plant) (b : ℕ) (h : List Event) → handouts p b h ≡ [] → (c : ℕ) → Has classes c
    → HasNothing p b h c
nothing_there p b h none c has =
    no_handouts c (waiting p b c h) (owed p b c h) (none_in (class_handouts p b h) classes none c has)

pub there_nothing : (p : Plant) (b : ℕ) (h : List Event) → ((c : ℕ) → Has classes c → HasNothing p b h c)
    → handouts p b h ≡ []
there_nothing p b h none = in_none (class_handouts p b h) classes (λ c has. handouts_none p b c h (none c has))
