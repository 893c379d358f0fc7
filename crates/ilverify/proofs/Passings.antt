-- What a pass knows before a word, and that no other entry is known there.
use Rattle.std.proofs.Common.{◌≡◌, ℕ, Option, Some, None, refl, sym, ◌∙◌, subst, arith}
use Rattle.std.specs.Prelude.{slice_get, get_or}
use Rattle.std.proofs.lemmas.Option.{slice_get-get_or, slice_get_within}
use Rattle.ilcode.specs.Listings.{Listing}
use Rattle.ilverify.specs.declared.entry.Entry.{Entry}
use Rattle.ilverify.specs.Entries.{IsInto}
use Rattle.ilverify.specs.BeforeWords.{IsKnownBefore}
use Rattle.ilverify.specs.Certificates.{Certificate, IsConsistentBelow, IsClosest}
use Rattle.ilverify.specs.PassSteps.{IsFound}
use Rattle.ilverify.proofs.PassEntries.{same_entry}

-- an entry of the one holds that of the other, if each certificate says most
held : (code : Listing) (place : ℕ) (p q : Certificate) (x y : Entry) → IsClosest code p place
    → IsConsistentBelow code q place → slice_get p place ≡ Some (Some x) → slice_get q place ≡ Some (Some y)
    → IsInto x y
held code place p q x y h g e f =
    let l = h.covers q g place x e in
    let i = l.is in
    let same : l.wider ≡ y = cc in
    subst (IsInto x) same l.into

known_once : (code : Listing) (place : ℕ) (p q : Certificate) (a b : Option Entry) → IsClosest code p place
    → IsClosest code q place → slice_get p place ≡ Some a → slice_get q place ≡ Some b → a ≡ b
known_once code place p q None None h g e f = refl
known_once code place p q (Some x) None h g e f =
    let i = (h.covers q g.consistent place x e).is in let k : ⊥ = cc in absurd k
known_once code place p q None (Some y) h g e f =
    let i = (g.covers p h.consistent place y f).is in let k : ⊥ = cc in absurd k
known_once code place p q (Some x) (Some y) h g e f =
    let same = same_entry x y (held code place p q x y h g.consistent e f) (held code place q p y x g h.consistent f e)
    in
    cc

-- what is known before a word is the entry that is kept for it
pub found_once : (code : Listing) (place : ℕ) (pending : Certificate) → IsFound code place pending → (other : Option Entry)
    → IsKnownBefore (record { code = code; place = place; entry = other }) → other ≡ get_or pending place None
found_once code place pending f other h =
    let long = f.long in
    let same = h.closest.consistent.long in
    let inside = slice_get_within h.certificate place other h.is in
    let kept = sym (f.same place (omega arith))
    ∙ slice_get-get_or pending place None (omega (arith, long, same, inside)) in
    known_once code place h.certificate f.certificate other (get_or pending place None) h.closest f.closest h.is kept
