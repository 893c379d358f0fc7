-- What is handed out first.
use Rattle.std.proofs.Common.{◌≡◌, ⊎_elim, ℕ, zero, suc, ◌<◌, Bool, true, false, eqb, ◌&&◌, List, [], ◌∷◌, ◌++◌}
use Rattle.std.proofs.Common.{map, length, drop, Option, Some, None, refl, sym, ap, ◌∙◌, subst, arith}
use Rattle.std.proofs.lemmas.Bool.{and_parts}
use Rattle.std.proofs.lemmas.Bool.Decides.{eqb_tells}
use Rattle.std.proofs.lemmas.List.Elements.{All-nil, All-push, All-drop}
use Rattle.std.proofs.lemmas.Option.{slice_get_within, get_or_from_slice_get}
use Rattle.std.proofs.lemmas.Grind.{common_steps}
use Rattle.std.specs.Prelude.{All, IfSome, if◌then◌else◌, slice_get, is_some, nat_lt, option_map, filter_map}
use Rattle.std.specs.List.{cons_option}
use Rattle.gearcmd.specs.declared.requests.Request.{Request}
use Rattle.gearcmd.specs.declared.requests.TaskKind.{TaskKind}
use Rattle.gearcmd.specs.Requests.{class_of}
use Rattle.busqueue.specs.declared.class.Class.{Class}
use Rattle.busqueue.specs.Queues.{class_number}
use Rattle.plantevents.specs.declared.event.Event.{Event}
use Rattle.plantevents.specs.declared.event.Event.TheVariants.{Tick, Heard, Take, Commit, Hand, Done, Down, Up}
use Rattle.plantevents.specs.declared.event.Origin.TheVariants.{Queued, Output}
use Rattle.plantevents.specs.Plants.{Plant}
use Rattle.plantevents.specs.Histories.{scan}
use Rattle.plantevents.specs.Waiting.{OwedLevel, Handout, is_for, is_queued, after_offer, after_offers, kind_scanned}
use Rattle.plantevents.specs.Waiting.{most_waiting, waiting, owed, owed_at, numbers_below, request_handout}
use Rattle.plantevents.specs.Waiting.{level_handout}
use Rattle.plantevents.specs.Waiting.{class_handouts}
use Rattle.plantevents.proofs.Handing.{first_given}
use Rattle.plantbuses.specs.declared.next.Next.{Next}
use Rattle.plantbuses.specs.HandingSteps.{handout_by, handout_of, level_at, first_by, IsOfClass}

-- ---- whether anything is there

some_first : (xs : List Handout) → nat_lt 0 (length xs) ≡ is_some (slice_get xs 0)
some_first [] = refl
some_first (x ∷ xs) = grind (arith, common_steps)

same_some : (o : Option Next) → is_some (option_map handout_of o) ≡ is_some o
same_some None = refl
same_some (Some next) = refl

-- whether anything is there
pub any_there : (xs : List Handout) (o : Option Next) → slice_get xs 0 ≡ option_map handout_of o
    → nat_lt 0 (length xs) ≡ is_some o
any_there xs o first = some_first xs ∙ (ap (λ (x : Option Handout). is_some x) first ∙ same_some o)

-- ---- of one class

pub request_first : (class : Class) (q : List Request) (levels : List OwedLevel) (r : Request)
    → slice_get q 0 ≡ Some r
    → slice_get (map (request_handout (class_number class)) q ++ map (level_handout (class_number class)) levels) 0
    ≡ Some (handout_by class (Queued r))
request_first class [] levels r is = absurd (cc)
request_first class (s ∷ q) levels r is =
    let e : s ≡ r = cc in ap (λ (x : Request). Some (handout_by class (Queued x))) e

pub level_first : (class : Class) (q : List Request) (levels : List Handout) → slice_get q 0 ≡ None
    → slice_get (map (request_handout (class_number class)) q ++ levels) 0 ≡ slice_get levels 0
level_first class [] levels none = refl
level_first class (s ∷ q) levels none = absurd (cc)

-- ---- each request that waits is of its class

abbrev FitsClass : ℕ → Request → Type 0
FitsClass c r = (kind : TaskKind) × (class_of r.command kind ≡ c)

equal : (a b : ℕ) → eqb a b ≡ true → a ≡ b
equal a b e = ⊎_elim (λ (k : (eqb a b ≡ true) × (a ≡ b)). k.1) (λ (k : (eqb a b ≡ false) × ¬ (a ≡ b)). absurd (cc))
    (eqb_tells a b)

accepted : (c : ℕ) (queue : List Request) (r : Request) (fits room : Bool) → (fits ≡ true → FitsClass c r)
    → All (FitsClass c) queue → All (FitsClass c) (if fits && room then queue ++ r ∷ [] else queue)
accepted c queue r true true is all = All-push (FitsClass c) queue r all (is refl)
accepted c queue r true false is all = all
accepted c queue r false room is all = all

offer_fits : (b c : ℕ) (kind : TaskKind) (queue : List Request) (r : Request) → All (FitsClass c) queue
    → All (FitsClass c) (after_offer b c kind queue r)
offer_fits b c kind queue r all =
    accepted c queue r (is_for b c kind r) (nat_lt (length queue) most_waiting)
    (λ is. (kind, equal (class_of r.command kind) c (and_parts (eqb r.bus b) (eqb (class_of r.command kind) c) is).1))
    all

offers_fit : (b c : ℕ) (kind : TaskKind) (queue requests : List Request) → All (FitsClass c) queue
    → All (FitsClass c) (after_offers b c kind queue requests)
offers_fit b c kind queue [] all = all
offers_fit b c kind queue (r ∷ more) all =
    offers_fit b c kind (after_offer b c kind queue r) more (offer_fits b c kind queue r all)

left : (c : ℕ) (taken : Bool) (queue : List Request) → All (FitsClass c) queue
    → All (FitsClass c) (if taken then drop 1 queue else queue)
left c true queue all = All-drop (FitsClass c) 1 queue all
left c false queue all = all

all_fit : (p : Plant) (b c : ℕ) (h : List Event) → All (FitsClass c) (waiting p b c h)
all_fit p b c [] = All-nil (FitsClass c)
all_fit p b c (Tick m ∷ h) = all_fit p b c h
all_fit p b c (Heard d f ∷ h) = all_fit p b c h
all_fit p b c (Take w t s ∷ h) = all_fit p b c h
all_fit p b c (Commit w n result ∷ h) =
    offers_fit b c (kind_scanned p (scan w h)) (waiting p b c h) result.after.requests (all_fit p b c h)
all_fit p b c (Hand d s t ∷ h) = left c (eqb d b && is_queued c s t) (waiting p b c h) (all_fit p b c h)
all_fit p b c (Done d n r ∷ h) = all_fit p b c h
all_fit p b c (Down d ∷ h) = all_fit p b c h
all_fit p b c (Up d ∷ h) = all_fit p b c h

pub waiting_fits : (p : Plant) (b c : ℕ) (h : List Event) (r : Request) → slice_get (waiting p b c h) 0 ≡ Some r
    → FitsClass c r
waiting_fits p b c h r is =
    subst (FitsClass c) (get_or_from_slice_get (waiting p b c h) 0 r r is)
    (all_fit p b c h 0 r (slice_get_within (waiting p b c h) 0 r is))

-- ---- levels

given_append : {X Y : Type 0} (f : X → Option Y) (xs ys : List X)
    → filter_map f (xs ++ ys) ≡ filter_map f xs ++ filter_map f ys
given_append f [] ys = refl
given_append f (x ∷ xs) ys =
    elim (f x) as (λ (o : Option _). cons_option o (filter_map f (xs ++ ys))
    ≡ cons_option o (filter_map f xs) ++ filter_map f ys) [
      | None ↦ given_append f xs ys
      | Some y ↦ ap (λ l. y ∷ l) (given_append f xs ys)
    ]

none_given : (f : ℕ → Option OwedLevel) (n : ℕ) → ((a : ℕ) → a < n → f a ≡ None)
    → filter_map f (numbers_below n) ≡ []
none_given f zero none = refl
none_given f (suc n) none =
    given_append f (numbers_below n) (n ∷ [])
    ∙ (ap (λ l. l ++ filter_map f (n ∷ [])) (none_given f n (λ m lt. none m (omega arith)))
    ∙ ap (λ o. cons_option o []) (none n (omega arith)))

first_of_map : (g : OwedLevel → Handout) (levels : List OwedLevel) (o : OwedLevel) → slice_get levels 0 ≡ Some o
    → slice_get (map g levels) 0 ≡ Some (g o)
first_of_map g [] o is = absurd (cc)
first_of_map g (x ∷ levels) o is = let e : x ≡ o = cc in ap (λ y. Some (g y)) e

-- the level of the least address
pub least_owed : (p : Plant) (b : ℕ) (class : Class) (h : List Event) (a level : ℕ) → a < 81
    → ((m : ℕ) → m < a → owed_at p b (class_number class) h m ≡ None)
    → owed_at p b (class_number class) h a ≡ Some (level_at a level)
    → slice_get (map (level_handout (class_number class)) (owed p b (class_number class) h)) 0
    ≡ Some (handout_by class (Output a level))
least_owed p b class h a level lt none is =
    first_of_map (level_handout (class_number class)) (owed p b (class_number class) h) (level_at a level)
    (first_given (owed_at p b (class_number class) h) 81 a (level_at a level) lt is none)

pub none_owed : (p : Plant) (b c : ℕ) (h : List Event) → ((m : ℕ) → m < 81 → owed_at p b c h m ≡ None)
    → slice_get (map (level_handout c) (owed p b c h)) 0 ≡ None
none_owed p b c h none = ap (λ l. slice_get (map (level_handout c) l) 0) (none_given (owed_at p b c h) 81 none)

-- ---- the request, else the level

pub first_chosen : (p : Plant) (b : ℕ) (class : Class) (h : List Event) (request : Option Request)
    (level next : Option Next)
    → request ≡ slice_get (waiting p b (class_number class) h) 0
    → slice_get (map (level_handout (class_number class)) (owed p b (class_number class) h)) 0
    ≡ option_map handout_of level
    → next ≡ first_by class request level
    → slice_get (class_handouts p b h (class_number class)) 0 ≡ option_map handout_of next
first_chosen p b class h None level next waits owes is =
    level_first class (waiting p b (class_number class) h)
    (map (level_handout (class_number class)) (owed p b (class_number class) h)) (sym waits)
    ∙ (owes ∙ sym (ap (option_map handout_of) is))
first_chosen p b class h (Some r) level next waits owes is =
    request_first class (waiting p b (class_number class) h) (owed p b (class_number class) h) r (sym waits)
    ∙ sym (ap (option_map handout_of) is)

fits : (class : Class) (next : Option Next) (o : Option Next) → o ≡ next
    → IfSome next (λ x. IsOfClass x.class x.origin) → IfSome o (λ x. IsOfClass x.class x.origin)
fits class next o same is = subst (λ (x : Option Next). IfSome x (λ y. IsOfClass y.class y.origin)) (sym same) is

pub class_chosen : (p : Plant) (b : ℕ) (class : Class) (h : List Event) (request : Option Request)
    (level next : Option Next)
    → request ≡ slice_get (waiting p b (class_number class) h) 0
    → IfSome level (λ x. IsOfClass x.class x.origin) → next ≡ first_by class request level
    → IfSome next (λ x. IsOfClass x.class x.origin)
class_chosen p b class h None level next waits is same = fits class level next same is
class_chosen p b class h (Some r) level next waits is same =
    fits class (Some (record { class = class; origin = Queued r })) next same
    (waiting_fits p b (class_number class) h r (sym waits))
