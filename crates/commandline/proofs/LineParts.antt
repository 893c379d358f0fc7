-- What the parts of a word are, around its first `=` and around its first comma.
use Rattle.std.proofs.Common.{◌≡◌, ◌≢◌, ◌∙◌, ◌<◌, ◌≤◌, ◌++◌, ◌∷◌, ℕ, Bool, [], Option, Some, None, zero, suc}
use Rattle.std.proofs.Common.{arith, ap, subst, sym, refl, true, false, length, get_or}
use Rattle.std.specs.Prelude.{◌&&◌, ◌↔◌, IsTrue, MatchBool, MatchOption, if◌then◌else◌, nat_le, nat_lt, not, option_map, unwrap_or}
use Rattle.std.specs.Borrow.{Bor}
use Rattle.std.specs.Char.{digit_value}
use Rattle.std.specs.List.{Contains}
use Rattle.std.specs.Str.Parse.{digits_value}
use Rattle.std.specs.Str.Pattern.{FindsChar, HasMatch}
use Rattle.std.proofs.Math.ListN.{length-append}
use Rattle.std.proofs.Math.Seq.{get_or-append_seam}
use Rattle.std.proofs.lemmas.Bool.{leb-true}
use Rattle.std.proofs.lemmas.List.{get_or_default}
use Rattle.std.proofs.lemmas.Str.Pattern.{IsSplitOnceResult, contains_char, split_after, split_parts}
use Rattle.clap.specs.Words.{Text}
use Rattle.wordlines.specs.WordLines.{are_digits, number_upto}
use Rattle.commandline.specs.LineWords.{ArePaths, IsLineWord, IsPath, comma, equals_sign}
use Rattle.commandoptions.specs.declared.line_word.LineWord.{LineWord}

-- ---- a byte that stands nowhere in a text

abbrev pub StandsNowhere : ℕ → Text → Type 0
StandsNowhere byte text = (i : ℕ) → i < length text → get_or text i 0 ≢ byte

pub nowhere : (byte : ℕ) (text : Text) → ¬ Contains text byte → StandsNowhere byte text
nowhere byte text none i within is = none (i, within, get_or_default text i byte 0 within ∙ is)

pub between : (byte : ℕ) (front back : Text) → Contains (front ++ byte ∷ back) byte
between byte front back =
    (length front, omega (arith, length-append front (byte ∷ back)), get_or-append_seam front byte back byte)

-- what `contains` answers
pub contains_none : (byte : ℕ) (text : Text) (has : Bool)
    → MatchBool has (HasMatch (FindsChar byte) text) (FindsChar byte text None) → byte < 128
    → IsTrue (not has) ↔ ¬ Contains text byte
contains_none byte text true finds small =
    let there = (contains_char byte text true finds small).0 refl in (
      λ yes. absurd (cc),
      λ none. absurd (none (there.0, there.1, get_or_default text there.0 byte 0 there.1 ∙ there.2)),
    )
contains_none byte text false finds small = (
  λ yes there.
      let bad : false ≡ true = (contains_char byte text false finds small).1 there.0 there.1
      (get_or_default text there.0 0 byte there.1 ∙ there.2) in
      absurd (cc),
  λ none. refl,
)

-- ---- the paths around a comma

-- a text is one path, or two
one_reading : (text : Text) (split : Option (Bor Text × Bor Text)) → IsSplitOnceResult comma text split
    → (from : Text) (to : Option Text) → ArePaths text from to
    → MatchOption split ((text ≡ from) × (to ≡ None)) (λ x. (x.0.now ≡ from) × (Some x.1.now ≡ to))
one_reading text None parts from None are = (are.spelled, refl)
one_reading text (Some x) parts from None are =
    let split = split_parts comma text (Some x) parts (omega arith) in
    let there : Contains from comma =
    subst (λ (t : Text). Contains t comma) (sym split.0 ∙ are.spelled) (between comma x.0.now x.1.now) in
    absurd (are.is_from.1 there)
one_reading text None parts from (Some to) are =
    absurd (split_after comma text from to None parts (omega arith) are.spelled (nowhere comma from are.is_from.1))
one_reading text (Some x) parts from (Some to) are =
    let both = split_after comma text from to (Some x) parts (omega arith) are.spelled
    (nowhere comma from are.is_from.1) in
    (both.0, ap (λ (t : Text). Some t) both.1)

-- and where its parts are no paths, it is none
pub no_two : (text : Text) (x : Bor Text × Bor Text) → IsSplitOnceResult comma text (Some x)
    → (IsPath x.0.now → ¬ IsPath x.1.now) → (from : Text) (to : Option Text) → ¬ ArePaths text from to
no_two text x parts none from None are =
    let same = (one_reading text (Some x) parts from None are).1 in
    absurd (cc)
no_two text x parts none from (Some to) are =
    let same = one_reading text (Some x) parts from (Some to) are in
    let second : x.1.now ≡ to = ap (λ (t : Option Text). unwrap_or t to) same.1 in
    none (subst (λ (t : Text). IsPath t) (sym same.0) are.is_from)
    (subst (λ (t : Text). IsPath t) (sym second) are.is_to)

pub no_one : (text : Text) → IsSplitOnceResult comma text None → ¬ IsPath text → (from : Text) (to : Option Text)
    → ¬ ArePaths text from to
no_one text parts none from to are =
    let same = one_reading text None parts from to are in
    none (subst (λ (t : Text). IsPath t) (sym same.0) are.is_from)

-- ---- the bus and the paths around `=`

all_true : (a b : Bool) → (a && b) ≡ true → (a ≡ true) × (b ≡ true)
all_true true b is = (refl, is)
all_true false b is = absurd (cc)

chosen : (some digits small : Bool) (value number : ℕ)
    → (if (some && digits) && small then Some value else None) ≡ Some number
    → (digits ≡ true) × (small ≡ true) × (value ≡ number)
chosen true true true value number is = (refl, refl, ap (λ (o : Option ℕ). unwrap_or o value) is)
chosen true true false value number is = absurd (cc)
chosen true false small value number is = absurd (cc)
chosen false digits small value number is = absurd (cc)

-- what spells a bus has digits alone, and the bus is below 64
pub bus_spelled : (digits : Text) (bus : ℕ) → number_upto 63 digits ≡ Some bus
    → (are_digits 10 digits ≡ true) × (bus < 64)
bus_spelled digits bus is =
    let value = digits_value 10 digits in
    let all = chosen (nat_lt 0 (length digits)) (are_digits 10 digits) (nat_le value 63) value bus is in
    let small : value ≤ 63 = leb-true value 63 all.1 in
    (all.0, omega (arith, small, all.2))

pub no_sign_there : (digits : Text) → are_digits 10 digits ≡ true → StandsNowhere equals_sign digits
no_sign_there [] all i within is = absurd (omega arith)
no_sign_there (digit ∷ digits) all zero within is =
    let first = (all_true (nat_lt (digit_value digit) 10) (are_digits 10 digits) all).0 in
    let bad : nat_lt (digit_value equals_sign) 10 ≡ true = subst (λ (d : ℕ). nat_lt (digit_value d) 10 ≡ true) is first in
    absurd (cc)
no_sign_there (digit ∷ digits) all (suc i) within is =
    no_sign_there digits (all_true (nat_lt (digit_value digit) 10) (are_digits 10 digits) all).1 i (omega arith) is

-- a word names a line in one way
pub one_line : (word : Text) (split : Option (Bor Text × Bor Text)) → IsSplitOnceResult equals_sign word split
    → (line : LineWord) (named : IsLineWord word line)
    → MatchOption split ⊥ (λ x. (x.0.now ≡ named.digits) × (x.1.now ≡ named.paths))
one_line word split parts line named =
    split_after equals_sign word named.digits named.paths split parts (omega arith) named.spelled
    (no_sign_there named.digits (bus_spelled named.digits line.bus named.bus).0)

-- and where the parts of its way name none, it names none
pub no_bus : (word : Text) (x : Bor Text × Bor Text) → IsSplitOnceResult equals_sign word (Some x)
    → number_upto 63 x.0.now ≡ None → (line : LineWord) → ¬ IsLineWord word line
no_bus word x parts none line named =
    let same = one_line word (Some x) parts line named in
    let two : None ≡ Some line.bus = sym none ∙ (ap (λ (t : Text). number_upto 63 t) same.0 ∙ named.bus) in
    absurd (cc)

pub no_paths : (word : Text) (x : Bor Text × Bor Text) → IsSplitOnceResult equals_sign word (Some x)
    → ((from : Text) (to : Option Text) → ¬ ArePaths x.1.now from to) → (line : LineWord) → ¬ IsLineWord word line
no_paths word x parts none line named =
    let same = one_line word (Some x) parts line named in
    let to = option_map (λ path. path.now) line.to in
    none line.from.now to
    (subst (λ (t : Text). ArePaths t line.from.now to) (sym same.1) named.are_paths)
