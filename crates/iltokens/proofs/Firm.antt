-- The laws of an item that is never nothing, put together.
use Rattle.std.proofs.Common.{◌≡◌, true, false, List, Option, Some}
use Rattle.iltokens.specs.Items.{Item, one, map, seq, lead, select, opt, alt, many}
use Rattle.iltokens.proofs.Laws.{Lawful, Solid, Lawful-one, Solid-one, Lawful-map, Solid-map, Lawful-seq}
use Rattle.iltokens.proofs.Laws.{Lawful-seq_open, Solid-seq, Lawful-lead, Solid-lead, Lawful-opt, Lawful-alt}
use Rattle.iltokens.proofs.Laws.{Solid-alt, Lawful-fewer}
use Rattle.iltokens.proofs.Repeats.{Lawful-many}
use Rattle.iltokens.proofs.Selects.{Lawful-select, Solid-select}

pub record Firm (T A : Type 0) (a : Item T A) (s : T → Type 0) : Type 0 where
  pub lawful : Lawful T A a s
  pub solid : Solid T A a

pub Firm-one : {T A : Type 0} → (class : T → Option A) (sample : T) (value : A) → class sample ≡ Some value
    → Firm T A (one class) (λ t. Unit {0})
Firm-one class sample value has = record { lawful = Lawful-one _ _ class sample value has; solid = Solid-one _ _ class }

pub Firm-map : {T A B : Type 0} {a : Item T A} {s : T → Type 0} → (f : A → B) → Firm T A a s → Firm T B (map f a) s
Firm-map f x = record { lawful = Lawful-map _ _ _ f _ _ x.lawful; solid = Solid-map _ _ _ f _ x.solid }

pub Firm-seq : {T A B : Type 0} {a : Item T A} {b : Item T B} {sa sb : T → Type 0} → Firm T A a sa
    → ((t : T) → b.starts t ≡ true → sa t)
    → Firm T B b sb → Firm T (A × B) (seq a b) sb
Firm-seq {b} x apart y =
    record {
      lawful = Lawful-seq _ _ _ _ _ _ _ x.lawful y.lawful apart x.solid y.solid;
      solid = Solid-seq _ _ _ _ b
          x.solid;
    }

pub Firm-seq_open : {T A B : Type 0} {a : Item T A} {b : Item T B} {sa sb : T → Type 0} → Firm T A a sa
    → ((t : T) → b.starts t ≡ true → sa t)
    → Lawful T B b sb → Firm T (A × B) (seq a b) (λ t. sa t × sb t)
Firm-seq_open {b} x apart lb =
    record { lawful = Lawful-seq_open _ _ _ _ _ _ _ x.lawful lb apart x.solid; solid = Solid-seq _ _ _ _ b x.solid }

pub Firm-lead : {T A B : Type 0} {a : Item T A} {b : Item T B} {sa sb : T → Type 0} → Lawful T A a sa
    → ((t : T) → b.starts t ≡ true → sa t)
    → Firm T B b sb → Firm T (A × B) (lead a b) sb
Firm-lead {a} la apart y =
    record { lawful = Lawful-lead _ _ _ _ _ _ _ la y.lawful apart y.solid; solid = Solid-lead _ _ _ a _ y.solid }

-- the item that is selected may be nothing
pub Firm-select : {T A B : Type 0} {a : Item T A} {b : A → Item T B} {sa sb : T → Type 0}
    → Firm T A a sa → ((x : A) (t : T) → (b x).starts t ≡ true → sa t)
    → ((x : A) → Lawful T B (b x) sb) → Firm T B (select a b) (λ t. sa t × sb t)
Firm-select {b} x apart y = record {
  lawful = Lawful-select _ _ _ _ _ _ _ x.lawful x.solid y apart;
  solid = Solid-select _ _ _ _ b x.solid;
}

pub Firm-alt : {T A : Type 0} {a b : Item T A} {sa sb : T → Type 0} → Firm T A a sa
    → ((t : T) → b.starts t ≡ true → a.starts t ≡ false)
    → Firm T A b sb → Firm T A (alt a b) (λ t. sa t × sb t)
Firm-alt x apart y =
    record {
      lawful = Lawful-alt _ _ _ _ _ _ x.lawful y.lawful x.solid y.solid apart;
      solid = Solid-alt _ _ _ _ x.solid
          y.solid;
    }

pub Firm-fewer : {T A : Type 0} {a : Item T A} {s : T → Type 0} → (r : T → Type 0) → ((t : T) → r t → s t)
    → Firm T A a s → Firm T A a r
Firm-fewer r sub x = record { lawful = Lawful-fewer _ _ _ _ r sub x.lawful; solid = x.solid }

pub from_opt : {T A : Type 0} {a : Item T A} {s : T → Type 0} → Firm T A a s
    → Lawful T (Option A) (opt a) (λ t. s t × (a.starts t ≡ false))
from_opt x = Lawful-opt _ _ _ _ x.lawful x.solid

pub from_many : {T A : Type 0} {a : Item T A} {s : T → Type 0} → ((t : T) → a.starts t ≡ true → s t) → Firm T A a s
    → Lawful T (List A) (many a) (λ t. s t × (a.starts t ≡ false))
from_many apart x = Lawful-many _ _ _ _ x.lawful x.solid apart
