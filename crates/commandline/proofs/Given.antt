-- Whether a flag is on and whether a word is given, by the rows of what was found.
use Rattle.std.proofs.Common.{◌≡◌, ◌∙◌, ◌↔◌, ap, subst, sym, refl, true, false, codes, ℕ, Bool, List, arith}
use Rattle.std.proofs.Common.{Option, Some, None}
use Rattle.std.specs.Prelude.{option_map, unwrap_or, is_some, slice_index, IsSome, IsTrue}
use Rattle.std.specs.Borrow.{Bor}
use Rattle.std.specs.Str.Parse.{ParsesBool}
use Rattle.clap.specs.Words.{ReadsOne, Text, first_of, first_value, one_of, one_text, rows_of}
use Rattle.clap.specs.declared.parser.matches.Found.{Found}
use Rattle.clap.proofs.WalkLemmas.{first_value-rows, one_text-rows}

same_text : (a b : Text) → Some a ≡ Some b → a ≡ b
same_text a b e = ap (λ (o : Option Text). unwrap_or o a) e

both_texts : (text : Text) → text ≡ codes "false" → text ≡ codes "true" → ⊥
both_texts text off on = apart (ap (λ (t : List ℕ). slice_index t 0) (sym off ∙ on))
  where
    apart : slice_index (codes "false") 0 ≡ slice_index (codes "true") 0 → ⊥
    apart bad = omega arith

module _ (E : Type 0) where
  on : (text : Text) (read : Option Bool) → ReadsOne (ParsesBool {E = E}) text read
      → IsTrue (unwrap_or read false) ↔ (Some text ≡ Some (codes "true"))
  on text (Some true) reads = (λ yes. ap (λ (t : Text). Some t) reads, λ same. refl)
  on text (Some false) reads =
      (λ yes. absurd (cc), λ same. absurd (both_texts text reads (same_text text (codes "true") same)))
  on text None reads = (λ yes. absurd (cc), λ same. absurd (reads.1.0 (same_text text (codes "true") same)))

  pub flag_on : (f : Found) (id : Text) (read : Option Bool) → (one_text f id ≡ None → read ≡ None)
      → ((text : Text) → one_text f id ≡ Some text → ReadsOne (ParsesBool {E = E}) text read)
      → IsTrue (unwrap_or read false) ↔ (one_of id (rows_of f) ≡ Some (codes "true"))
  flag_on f id read none value =
      subst (λ (text : Option Text). IsTrue (unwrap_or read false) ↔ (text ≡ Some (codes "true"))) (one_text-rows f id)
      (go (one_text f id) refl)
    where
      go : (text : Option Text) → one_text f id ≡ text → IsTrue (unwrap_or read false) ↔ (text ≡ Some (codes "true"))
      go None is =
          let off : unwrap_or read false ≡ false = ap (λ (o : Option Bool). unwrap_or o false) (none is) in
          (λ yes. absurd (cc), λ same. absurd (cc))
      go (Some text) is = on text read (value text is)

some_of : (text : Option (Bor Text)) → is_some text ≡ is_some (option_map (λ s. s.now) text)
some_of None = refl
some_of (Some text) = refl

pub word_given : (f : Found) (id : Text) (text : Option (Bor Text)) → option_map (λ s. s.now) text ≡ first_value f id
    → IsTrue (is_some text) ↔ IsSome (first_of id (rows_of f))
word_given f id text is =
    let same = some_of text ∙ ap (λ (o : Option Text). is_some o) (is ∙ first_value-rows f id) in
    (λ yes. sym same ∙ yes, λ yes. same ∙ yes)
