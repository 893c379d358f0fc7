-- The owed levels are those that differ from what was handed out last.
use Rattle.std.proofs.Common.{◌≡◌, ◌≢◌, ⊎_elim, ℕ, ◌≤◌, Bool, true, false, eqb, eq-eqb, List, Option, Some, None}
use Rattle.std.proofs.Common.{refl, sym, ap, ◌∙◌, subst, arith, pos, negsuc}
use Rattle.std.proofs.lemmas.Bool.{ne_eqb}
use Rattle.std.proofs.lemmas.Bool.Decides.{eqb_tells}
use Rattle.std.specs.Prelude.{if◌then◌else◌, ◌==◌, option_and_then}
use Rattle.iltypes.specs.declared.value.Value.{Value}
use Rattle.iltypes.specs.declared.value.Value.TheVariants as values
use Rattle.ilmachine.specs.Images.{Global}
use Rattle.plantevents.specs.declared.event.Event.{Event}
use Rattle.plantevents.specs.Plants.{Plant, output_at}
use Rattle.plantevents.specs.Variables.{value, whole}
use Rattle.plantevents.specs.Waiting.{OwedLevel, handed_level, natural_in, level_class, if_new, owed_by, owed_at}
use Rattle.plantevents.specs.Waiting.{addresses, owed}
use Rattle.plantevents.specs.Members.{Has, IsOwed}
use Rattle.plantevents.proofs.Having.{has_given, given_has, has_below, below_has}

equal : (a b : ℕ) → eqb a b ≡ true → a ≡ b
equal a b e = ⊎_elim (λ (k : (eqb a b ≡ true) × (a ≡ b)). k.1) (λ (k : (eqb a b ≡ false) × (a ≢ b)).
    absurd (cc)) (eqb_tells a b)

apart : (a b : ℕ) → eqb a b ≡ false → a ≢ b
apart a b e same = let yes = eq-eqb a b same in absurd (cc)

natural_is : (v : Option Value) (n : ℕ) → natural_in v ≡ Some n → v ≡ Some (whole n)
natural_is None n is = absurd (cc)
natural_is (Some (values.Bool truth)) n is = absurd (cc)
natural_is (Some (values.Int (pos m))) n is = let e : m ≡ n = cc in ap (λ x. Some (whole x)) e
natural_is (Some (values.Int (negsuc m))) n is = absurd (cc)

-- a new level, by the parts of what is owed
record IsNew (before a level : ℕ) (o : OwedLevel) : Type 0 where
  address : o.address ≡ a
  is_level : o.level ≡ level
  differs : level ≢ before

new_is : (before a level : ℕ) (o : OwedLevel) → if_new before a level ≡ Some o → IsNew before a level o
new_is before a level o is =
    elim (level == before) as (λ (x : Bool). (level == before) ≡ x
    → (if x then None else Some (record { address = a; level = level })) ≡ Some o → IsNew before a level o) [
      | true ↦ λ same none. absurd (cc)
      | false ↦ λ other some.
          let e : record { address = a; level = level } ≡ o = cc in
          record {
            address = sym (ap (λ (x : OwedLevel). x.address) e);
            is_level = sym (ap (λ (x : OwedLevel). x.level) e);
            differs = apart level before other;
          }
    ] refl is

by_value : (before a : ℕ) (v : Option Value) (o : OwedLevel) → option_and_then (if_new before a) (natural_in v) ≡ Some o
    → (n : ℕ) × (v ≡ Some (whole n)) × IsNew before a n o
by_value before a v o is =
    elim (natural_in v) as (λ (x : Option ℕ). natural_in v ≡ x → option_and_then (if_new before a) x ≡ Some o
    → (n : ℕ) × (v ≡ Some (whole n)) × IsNew before a n o) [
      | None ↦ λ none owes. absurd (cc)
      | Some n ↦ λ some owes. (n, natural_is v n some, new_is before a n o owes)
    ] refl is

by_class : (p : Plant) (b c a : ℕ) (h : List Event) (g : ℕ) (o : OwedLevel) → a ≤ 80 → output_at p b a ≡ Some g
    → owed_by p b c a h g ≡ Some o
    → IsOwed p b c h o
by_class p b c a h g o le out is =
    elim (level_class p g == c) as (λ (x : Bool). (level_class p g == c) ≡ x
    → (if x then option_and_then (if_new (handed_level b a h) a) (natural_in (value p (Global g) h)) else None)
    ≡ Some o → IsOwed p b c h o) [
      | true ↦ λ same owes.
          let found = by_value (handed_level b a h) a (value p (Global g) h) o owes in
          let new = found.2 in
          record {
            address = subst (λ x. x ≤ 80) (sym new.address) le;
            global = g;
            output = subst (λ x. output_at p b x ≡ Some g) (sym new.address) out;
            class = equal (level_class p g) c same;
            is_value = found.1 ∙ ap (λ x. Some (whole x)) (sym new.is_level);
            differs = λ alike. new.differs (sym new.is_level ∙ (alike ∙ ap (λ x. handed_level b x h) new.address));
          }
      | false ↦ λ other none. absurd (cc)
    ] refl is

pub at_address : (p : Plant) (b c a : ℕ) (h : List Event) (o : OwedLevel) → a ≤ 80 → owed_at p b c h a ≡ Some o
    → IsOwed p b c h o
at_address p b c a h o le is =
    elim (output_at p b a) as (λ (x : Option ℕ). output_at p b a ≡ x → option_and_then (owed_by p b c a h) x ≡ Some o
    → IsOwed p b c h o) [
      | None ↦ λ none owes. absurd (cc)
      | Some g ↦ λ some owes. by_class p b c a h g o le some owes
    ] refl is

-- what is owed at an address has it
address_by : (before a : ℕ) (v : Option ℕ) (o : OwedLevel) → option_and_then (if_new before a) v ≡ Some o
    → o.address ≡ a
address_by before a None o is = absurd (cc)
address_by before a (Some n) o is = (new_is before a n o is).address

pub owes_address : (p : Plant) (b c a : ℕ) (h : List Event) (o : OwedLevel) → owed_at p b c h a ≡ Some o → o.address ≡ a
owes_address p b c a h o is =
    elim (output_at p b a) as (λ (x : Option ℕ). option_and_then (owed_by p b c a h) x ≡ Some o → o.address ≡ a) [
      | None ↦ λ owes. absurd (cc)
      | Some g ↦ λ owes.
          elim (level_class p g == c) as (λ (y : Bool).
          (if y then option_and_then (if_new (handed_level b a h) a) (natural_in (value p (Global g) h)) else None)
          ≡ Some o → o.address ≡ a) [
            | true ↦ λ some. address_by (handed_level b a h) a (natural_in (value p (Global g) h)) o some
            | false ↦ λ none. absurd (cc)
          ] owes
    ] is

pub has_owed : (p : Plant) (b c : ℕ) (h : List Event) (o : OwedLevel) → Has (owed p b c h) o → IsOwed p b c h o
has_owed p b c h o has =
    let found = has_given (owed_at p b c h) addresses o has in
    at_address p b c found.0 h o (let lt = has_below 81 found.0 found.1 in omega arith) found.2

pub owes_at : (p : Plant) (b c : ℕ) (h : List Event) (o : OwedLevel) → IsOwed p b c h o
    → owed_at p b c h o.address ≡ Some o
owes_at p b c h o is =
    ap (option_and_then (owed_by p b c o.address h)) is.output
    ∙ (let class : (level_class p is.global == c) ≡ true = eq-eqb (level_class p is.global) c is.class in
    let other : (o.level == handed_level b o.address h) ≡ false =
    ne_eqb o.level (handed_level b o.address h) is.differs in
    rw class (ap (λ v. option_and_then (if_new (handed_level b o.address h) o.address) (natural_in v)) is.is_value
    ∙ rw other refl))

pub owed_has : (p : Plant) (b c : ℕ) (h : List Event) (o : OwedLevel) → IsOwed p b c h o → Has (owed p b c h) o
owed_has p b c h o is =
    given_has (owed_at p b c h) addresses o.address o (below_has 81 o.address (let le = is.address in
    omega arith)) (owes_at p b c h o is)
