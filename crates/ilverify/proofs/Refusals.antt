-- By what is known of values a code is refused at one word at most, for one cause.
use Rattle.std.proofs.Common.{◌≡◌, ℕ, ◌+◌, Bool, false, Option, None, Some, inl, inr, refl, sym, ap, ◌∙◌, subst, arith}
use Rattle.std.specs.Prelude.{slice_get}
use Rattle.std.proofs.lemmas.Bool.{cases_lt}
use Rattle.ilcode.specs.declared.word.Word.{Word}
use Rattle.ilcode.specs.Listings.{Listing}
use Rattle.ilverify.specs.declared.cause.Cause.{Cause}
use Rattle.ilverify.specs.Causes.{IsLeastCause}
use Rattle.ilverify.specs.declared.entry.Entry.{Entry}
use Rattle.ilverify.specs.Entries.{IsInto}
use Rattle.ilverify.specs.Refusals.{ArisesAtWord}
use Rattle.ilverify.specs.declared.refusal.Refusal.{Refusal}
use Rattle.ilverify.specs.Certificates.{Certificate, Leads, is_closed, is_met, IsClosest, IsRangeRefusal}
use Rattle.ilverify.proofs.CausesAtWords.{one_cause}
use Rattle.ilverify.proofs.PassGrowth.{below}
use Rattle.ilverify.proofs.PassEntries.{same_entry, closed_wider}

-- two closest certificates reach a word with the same entry
same_reached : (code : Listing) (c d : Certificate) (place : ℕ) (a b : Entry) → IsClosest code c place
    → IsClosest code d place
    → slice_get c place ≡ Some (Some a) → slice_get d place ≡ Some (Some b) → a ≡ b
same_reached code c d place a b h g e f =
    let to : Leads d place a = h.covers d g.consistent place a e in
    let from : Leads c place b = g.covers c h.consistent place b f in
    let wide : to.wider ≡ b = let t = to.is in cc in
    let wide' : from.wider ≡ a = let t = from.is in cc in
    same_entry a b (subst (IsInto a) wide to.into) (subst (IsInto b) wide' from.into)

-- no refusal stands at a lesser word than another
same_word : (code : Listing) (a b : Refusal) → IsRangeRefusal code a → IsRangeRefusal code b → a.word ≡ b.word
same_word code a b h g =
    elim (cases_lt a.word b.word) as (λ _. a.word ≡ b.word) [
      | inl lt ↦ absurd (h.none_further g.certificate
          (below code g.certificate (a.word + 1) b.word (omega (arith, lt)) g.closest.consistent))
      | inr ge ↦ elim (cases_lt b.word a.word) as (λ _. a.word ≡ b.word) [
        | inl gt ↦ absurd (g.none_further h.certificate
            (below code h.certificate (b.word + 1) a.word (omega (arith, gt)) h.closest.consistent))
        | inr le ↦ omega (arith, ge, le)
      ]
    ]

-- where the one does not reach a place, the other does not
unmet_by : (code : Listing) (c d : Certificate) (place : ℕ) → IsClosest code c place → IsClosest code d place
    → (at : ℕ) (x : Option (Option Entry)) → slice_get c at ≡ x → ((entry : Entry) → ¬ (x ≡ Some (Some entry)))
    → is_met d at ≡ false
unmet_by code c d place h g at x e none = none_there (slice_get d at) refl
  where
    none_there : (y : Option (Option Entry)) → slice_get d at ≡ y → is_closed y ≡ false
    none_there None f = refl
    none_there (Some None) f = refl
    none_there (Some (Some entry)) f =
        let from : Leads c at entry = g.covers c h.consistent at entry f in absurd (none from.wider (sym e ∙ from.is))

met_by : (code : Listing) (c d : Certificate) (place : ℕ) → IsClosest code c place → IsClosest code d place
    → (at : ℕ) (x : Option (Option Entry)) → slice_get c at ≡ x → is_closed x ≡ is_met d at
met_by code c d place h g at None e = sym (unmet_by code c d place h g at None e (λ a k. let z : ⊥ = cc in z))
met_by code c d place h g at (Some None) e =
    sym (unmet_by code c d place h g at (Some None) e (λ a k. let z : ⊥ = cc in z))
met_by code c d place h g at (Some (Some entry)) e =
    let to : Leads d at entry = h.covers d g.consistent at entry e in
    closed_wider entry to.wider to.into ∙ sym (ap is_closed to.is)

-- two closest certificates reach the same places where nothing is open
same_met : (code : Listing) (c d : Certificate) (place at : ℕ) → IsClosest code c place → IsClosest code d place
    → is_met c at ≡ is_met d at
same_met code c d place at h g = met_by code c d place h g at (slice_get c at) refl

same_at : (code : Listing) (word line other : ℕ) (cause its : Cause)
    → IsRangeRefusal code (record { word = word; line = line; cause = cause })
    → IsRangeRefusal code (record { word = word; line = other; cause = its }) → (line ≡ other) × (cause ≡ its)
same_at code word line other cause its h g =
    let entry : h.entry ≡ g.entry = same_reached code h.certificate g.certificate word h.entry g.entry h.closest
    g.closest h.reached g.reached in
    let instruction : h.word ≡ g.word = let a = h.is in let b = g.is in cc in
    let met = is_met g.certificate (word + 1) in
    let there : IsLeastCause (ArisesAtWord code word met g.entry g.word) cause =
    subst (λ (w : Word). IsLeastCause (ArisesAtWord code word met g.entry w) cause) instruction
    (subst (λ (e : Entry). IsLeastCause (ArisesAtWord code word met e h.word) cause) entry
    (subst (λ (m : Bool). IsLeastCause (ArisesAtWord code word m h.entry h.word) cause)
    (same_met code h.certificate g.certificate word (word + 1) h.closest g.closest) h.cause)) in
    (let a = h.line in let b = g.line in cc, one_cause g.word code word met g.entry cause its there g.cause)

pub same_range_refusal : (code : Listing) (a b : Refusal) → IsRangeRefusal code a → IsRangeRefusal code b → a ≡ b
same_range_refusal code a b h g =
    let word : b.word ≡ a.word = sym (same_word code a b h g) in
    let there : IsRangeRefusal code (record b { word = a.word }) =
    subst (λ (w : ℕ). IsRangeRefusal code (record b { word = w })) word g in
    let rest : (a.line ≡ b.line) × (a.cause ≡ b.cause) = same_at code a.word a.line b.line a.cause b.cause h there in
    ap (λ (w : ℕ). record a { word = w }) (sym word)
    ∙ ap (λ (l : ℕ). record a { word = b.word; line = l }) rest.0
    ∙ ap (λ (c : Cause). record b { cause = c }) rest.1
