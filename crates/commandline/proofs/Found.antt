-- What the getters of `clap` give, by the rows of what was found.
use Rattle.std.proofs.Common.{◌≡◌, ◌∙◌, ap, subst, true, false, codes, ℕ, Bool, List, Option, Some, None, Result, [], map}
use Rattle.std.proofs.Common.{Ok, Err, refl}
use Rattle.std.specs.Prelude.{option_map, unwrap_or}
use Rattle.std.specs.Borrow.{Bor}
use Rattle.std.specs.Str.Parse.{ParsesUnsigned}
use Rattle.clap.specs.Words.{ReadsOne, Text, all_of, first_of, first_value, matched_of, one_of, one_text}
use Rattle.clap.specs.Words.{raw_values, rows_of}
use Rattle.clap.specs.declared.parser.matches.Found.{Found}
use Rattle.clap.proofs.WalkLemmas.{first_value-rows, one_text-rows, raw_values-rows}
use Rattle.commandline.specs.Invocations.{IsByte, IsFlag, IsGivenNumber, IsNumber}
use Rattle.commandline.specs.TextWords.{given}

-- the text of an id
pub text_found : (f : Found) (id : Text) (text : Option (Bor Text)) → option_map (λ s. s.now) text ≡ first_value f id
    → option_map (λ s. s.now) text ≡ first_of id (rows_of f)
text_found f id text is = is ∙ first_value-rows f id

pub text_given : (f : Found) (id : Text) (text : Option (Bor Text)) → option_map (λ s. s.now) text ≡ first_value f id
    → given (option_map (λ s. s.now) text) ≡ given (first_of id (rows_of f))
text_given f id text is = ap given (text_found f id text is)

-- the words of an id
pub words_given : (f : Found) (id : Text) (words : Option (Bor (List (Bor Text))))
    → option_map (λ all. map (λ word. word.now) all.now) words ≡ option_map raw_values (matched_of f id)
    → unwrap_or (option_map (λ all. map (λ word. word.now) all.now) words) [] ≡ unwrap_or (all_of id (rows_of f)) []
words_given f id words is =
    ap (λ (all : Option (List Text)). unwrap_or all []) (is ∙ raw_values-rows f id)

-- whether the flag of an id was given
pub flag_given : (f : Found) (id : Text) (is : Bool) → (one_text f id ≡ None → is ≡ false)
    → (one_text f id ≡ Some (codes "true") → is ≡ true) → (one_text f id ≡ Some (codes "false") → is ≡ false)
    → IsFlag (one_of id (rows_of f)) is
flag_given f id is none on off =
    subst (λ (text : Option Text). IsFlag text is) (one_text-rows f id) (go (one_text f id) refl)
  where
    go : (text : Option Text) → one_text f id ≡ text → IsFlag text is
    go None found = none found
    go (Some text) found =
        (λ same. on (found ∙ ap (λ (t : Text). Some t) same), λ same. off (found ∙ ap (λ (t : Text). Some t) same))

module _ {E : Type 0} (Gives : List ℕ → Result ℕ E → Type 0)
    (parses : (text : List ℕ) (read : Result ℕ E) → Gives text read → ParsesUnsigned 32 10 text read) where
  -- the number that was read of a text
  number_read : (default : ℕ) (text : Text) (read : Option ℕ) → ReadsOne Gives text read
      → IsNumber default (Some text) (unwrap_or read default)
  number_read default text (Some n) reads = λ numeral small. (parses text (Ok n) reads).1
  number_read default text None reads = λ numeral small. absurd (parses text (Err reads.0) reads.1 (numeral, small))

  -- the number that was read of a text, where one was
  text_read : (text : Text) (read : Option ℕ) → ReadsOne Gives text read → IsGivenNumber (Some text) read
  text_read text (Some n) reads =
      λ numeral small. ap (λ (number : ℕ). Some number) (parses text (Ok n) reads).1
  text_read text None reads = λ numeral small. absurd (parses text (Err reads.0) reads.1 (numeral, small))

  pub number_if_given : (f : Found) (id : Text) (read : Option ℕ) → (one_text f id ≡ None → read ≡ None)
      → ((text : Text) → one_text f id ≡ Some text → ReadsOne Gives text read)
      → IsGivenNumber (one_of id (rows_of f)) read
  number_if_given f id read none value =
      subst (λ (text : Option Text). IsGivenNumber text read) (one_text-rows f id) (go (one_text f id) refl)
    where
      go : (text : Option Text) → one_text f id ≡ text → IsGivenNumber text read
      go None is = none is
      go (Some text) is = text_read text read (value text is)

  -- the number of an id
  pub number_given : (default : ℕ) (f : Found) (id : Text) (read : Option ℕ) → (one_text f id ≡ None → read ≡ None)
      → ((text : Text) → one_text f id ≡ Some text → ReadsOne Gives text read)
      → IsNumber default (one_of id (rows_of f)) (unwrap_or read default)
  number_given default f id read none value =
      subst (λ (text : Option Text). IsNumber default text (unwrap_or read default)) (one_text-rows f id)
      (go (one_text f id) refl)
    where
      go : (text : Option Text) → one_text f id ≡ text → IsNumber default text (unwrap_or read default)
      go None is = ap (λ (o : Option ℕ). unwrap_or o default) (none is)
      go (Some text) is = number_read default text read (value text is)

module _ {E : Type 0} (Gives : List ℕ → Result ℕ E → Type 0)
    (parses : (text : List ℕ) (read : Result ℕ E) → Gives text read → ParsesUnsigned 8 10 text read) where
  -- the byte that was read of a text
  byte_read : (text : Text) (read : Option ℕ) → ReadsOne Gives text read → IsByte (Some text) (unwrap_or read 0)
  byte_read text (Some n) reads = λ numeral small. (parses text (Ok n) reads).1
  byte_read text None reads = λ numeral small. absurd (parses text (Err reads.0) reads.1 (numeral, small))

  -- the byte of an id
  pub byte_given : (f : Found) (id : Text) (read : Option ℕ) → (one_text f id ≡ None → read ≡ None)
      → ((text : Text) → one_text f id ≡ Some text → ReadsOne Gives text read)
      → IsByte (one_of id (rows_of f)) (unwrap_or read 0)
  byte_given f id read none value =
      subst (λ (text : Option Text). IsByte text (unwrap_or read 0)) (one_text-rows f id) (go (one_text f id) refl)
    where
      go : (text : Option Text) → one_text f id ≡ text → IsByte text (unwrap_or read 0)
      go None is = ap (λ (o : Option ℕ). unwrap_or o 0) (none is)
      go (Some text) is = byte_read text read (value text is)
