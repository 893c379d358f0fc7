-- The frames of a source are those that solve the equation of its scheme.
use Rattle.std.proofs.Common.{◌≡◌, ℕ, ◌+◌, ◌-◌, ◌^◌, ◌<◌, ◌≤◌, Bool, true, false, ◌&&◌, refl, ap, arith}
use Rattle.std.proofs.lemmas.Bool.{le-leb, leb-true, lt-ltb, ltb-true}
use Rattle.std.specs.Prelude.{nat_lt, nat_le}
use Rattle.dalievent.specs.declared.messages.EventSource.{EventSource}
use Rattle.dalievent.specs.declared.heard.EventMessage.{EventMessage}
use Rattle.dalievent.specs.EventSchemes.{scheme_bits, a_limit, Solves, IsFrom}
use Rattle.dalievent.specs.Messages.{first_message, is_message, information}

parts : (x y : Bool) → (x && y) ≡ true → (x ≡ true) × (y ≡ true)
parts true true e = (refl, refl)
parts true false e = absurd (cc)
parts false y e = absurd (cc)

within : (s : EventSource) (f : ℕ) → is_message s f ≡ true → (first_message s ≤ f) × (f < first_message s + 2 ^ 10)
within s f is =
    let p = parts (nat_le (first_message s) f) (nat_lt f (first_message s + 2 ^ 10)) is in
    (leb-true (first_message s) f p.0, ltb-true f (first_message s + 2 ^ 10) p.1)

pub message_of : (s : EventSource) (f : ℕ) → s.a < a_limit s.scheme → s.b < 32 → is_message s f ≡ true
    → (e : EventMessage) × Solves e f × IsFrom s e
message_of s f a b is =
    let w = within s f is in (
      record { scheme = s.scheme; a = s.a; b = s.b; information = f - first_message s },
      (a, b, (let l = w.0 in let u = w.1 in omega arith), (let l = w.0 in omega arith)),
      (refl, refl, refl),
    )

-- the first message, by the parts of a message of the source
first_is : (s : EventSource) (e : EventMessage) (f : ℕ) → Solves e f → IsFrom s e → f ≡ first_message s + e.information
first_is s e f solves from =
    let bits : scheme_bits s.scheme ≡ scheme_bits e.scheme = ap scheme_bits from.0 in
    let is = solves.3 in
    let a = from.1 in
    let b = from.2 in omega arith

pub is_message_of : (s : EventSource) (e : EventMessage) (f : ℕ) → Solves e f → IsFrom s e → is_message s f ≡ true
is_message_of s e f solves from =
    let is = first_is s e f solves from in
    let small = solves.2 in
    let low : nat_le (first_message s) f ≡ true = le-leb (first_message s) f (omega arith) in
    let high : nat_lt f (first_message s + 2 ^ 10) ≡ true = lt-ltb f (first_message s + 2 ^ 10) (omega arith) in
    rw low high

pub information_is : (s : EventSource) (e : EventMessage) (f : ℕ) → Solves e f → IsFrom s e → information s f ≡ e.information
information_is s e f solves from = let is = first_is s e f solves from in omega arith
