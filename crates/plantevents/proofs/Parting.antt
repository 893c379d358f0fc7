-- An event is in the part of the role that it comes from, and in no other.
use Rattle.std.proofs.Common.{◌≡◌, ◌≢◌, ◌⊎◌, inl, inr, ⊎_elim, ℕ, zero, Bool, true, false, true≢false, eqb, eq-eqb}
use Rattle.std.proofs.Common.{List, [], ◌∷◌, ◌++◌, length}
use Rattle.std.proofs.Common.{Some, refl, sym, ap, ◌∙◌, subst}
use Rattle.std.proofs.lemmas.Bool.Decides.{eqb_tells}
use Rattle.std.specs.Prelude.{if◌then◌else◌}
use Rattle.plantevents.specs.declared.role.Role.{Role}
use Rattle.plantevents.specs.declared.role.Role.TheVariants.{Worker, Bus, Clock}
use Rattle.plantevents.specs.declared.event.Event.{Event}
use Rattle.plantevents.specs.Parts.{Placed, placed, role_of, is_same_role, part}
use Rattle.plantevents.specs.Members.{Has, IsInPart}
use Rattle.plantevents.proofs.Having.{has_cases, has_later, has_none}

equal : (a b : ℕ) → eqb a b ≡ true → a ≡ b
equal a b e = ⊎_elim (λ (k : (eqb a b ≡ true) × (a ≡ b)). k.1) (λ (k : (eqb a b ≡ false) × (a ≢ b)).
    absurd (cc)) (eqb_tells a b)

same_role : (one other : Role) → is_same_role one other ≡ true → one ≡ other
same_role (Worker v) (Worker w) is = ap (λ x. Worker x) (equal v w is)
same_role (Worker v) (Bus b) is = absurd (cc)
same_role (Worker v) Clock is = absurd (cc)
same_role (Bus b) (Worker w) is = absurd (cc)
same_role (Bus b) (Bus c) is = ap (λ x. Bus x) (equal b c is)
same_role (Bus b) Clock is = absurd (cc)
same_role Clock (Worker w) is = absurd (cc)
same_role Clock (Bus c) is = absurd (cc)
same_role Clock Clock is = refl

role_itself : (role : Role) → is_same_role role role ≡ true
role_itself (Worker w) = eq-eqb w w refl
role_itself (Bus b) = eq-eqb b b refl
role_itself Clock = refl

-- ---- the part of an event more

pub part_mine : (e : Event) (h : List Event)
    → part (role_of e) (e ∷ h) ≡ placed (length h) e ∷ part (role_of e) h
part_mine e h =
    ap (λ (b : Bool). if b then placed (length h) e ∷ part (role_of e) h else part (role_of e) h)
    (role_itself (role_of e))

pub part_other : (r : Role) (e : Event) (h : List Event) → is_same_role (role_of e) r ≡ false
    → part r (e ∷ h) ≡ part r h
part_other r e h is = ap (λ (b : Bool). if b then placed (length h) e ∷ part r h else part r h) is

-- the test of roles tells
pub role_tells : (r q : Role) → ((is_same_role r q ≡ true) × (r ≡ q)) ⊎ ((is_same_role r q ≡ false) × (r ≢ q))
role_tells r q =
    elim (is_same_role r q) as (λ (b : Bool). is_same_role r q ≡ b
    → ((b ≡ true) × (r ≡ q)) ⊎ ((b ≡ false) × (r ≢ q))) [
      | true ↦ λ is. inl (refl, same_role r q is)
      | false ↦ λ is. inr (
        refl,
        λ (e : r ≡ q).
            absurd (true≢false (sym (role_itself q) ∙ ap (λ (x : Role). is_same_role x q) (sym e) ∙ is)),
      )
    ] refl

-- ---- members

abbrev at : Event → List Event → Placed
at e h = placed (length h) e

here : (role : Role) (e : Event) (h : List Event) (x : Placed) → role_of e ≡ role → at e h ≡ x → IsInPart role (e ∷ h) x
here role e h x from is =
    subst (λ (y : Placed). IsInPart role (e ∷ h) y) is (record {
      later = [];
      front = h;
      stands = refl;
      is_place =
          refl;
      from = from;
    })

before : (role : Role) (e : Event) (h : List Event) (x : Placed) → IsInPart role h x → IsInPart role (e ∷ h) x
before role e h x i =
    record {
      later = e ∷ i.later;
      front = i.front;
      stands = ap (λ k. e ∷ k) i.stands;
      is_place = i.is_place;
      from =
          i.from;
    }

pub has_part : (role : Role) (h : List Event) (x : Placed) → Has (part role h) x → IsInPart role h x
has_part role [] x has = absurd (has_none x has)
has_part role (e ∷ h) x has =
    elim (is_same_role (role_of e) role) as (λ (b : Bool). is_same_role (role_of e) role ≡ b
    → Has (if b then at e h ∷ part role h else part role h) x → IsInPart role (e ∷ h) x) [
      | true ↦ λ is more.
          ⊎_elim (λ (k : at e h ≡ x). here role e h x (same_role (role_of e) role is) k)
          (λ (k : Has (part role h) x). before role e h x (has_part role h x k))
          (has_cases (at e h) (part role h) x more)
      | false ↦ λ other more. before role e h x (has_part role h x more)
    ] refl has

-- what stands after these later events
stands_here : (role : Role) (later front : List Event) (x : Placed) → x.place ≡ length front → role_of x.event ≡ role
    → Has (part role (later ++ x.event ∷ front)) x
stands_here role [] front x place from =
    let is : is_same_role (role_of x.event) role ≡ true = ap (λ r. is_same_role r role) from ∙ role_itself role in
    rw is (zero, ap (λ n. Some (record { place = n; event = x.event })) (sym place))
stands_here role (e ∷ later) front x place from =
    let rest = stands_here role later front x place from in
    elim (is_same_role (role_of e) role) as (λ (b : Bool). Has (if b then at e (later
    ++ x.event ∷ front) ∷ part role (later ++ x.event ∷ front) else part role (later ++ x.event ∷ front)) x) [
      | true ↦ has_later _ _ x rest
      | false ↦ rest
    ]

pub part_has : (role : Role) (h : List Event) (x : Placed) → IsInPart role h x → Has (part role h) x
part_has role h x i =
    subst (λ k. Has (part role k) x) (sym i.stands) (stands_here role i.later i.front x i.is_place i.from)
