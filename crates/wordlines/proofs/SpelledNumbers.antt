-- The digits of a number, one after another.
use Rattle.std.proofs.Common.{◌≡◌, ℕ, ◌+◌, ◌*◌, ◌<◌, ◌≤◌, ◌↔◌, List, [], ◌∷◌, length, get_or, drop, drop-cons, add-one}
use Rattle.std.proofs.Common.{refl, subst, ap, arith, lit<, ◌∙◌}
use Rattle.std.proofs.Common.{Bool, true, false, ◌&&◌, ◌^◌, Option, Some, None}
use Rattle.std.specs.Prelude.{◌==◌, nat_lt, nat_le, if◌then◌else◌}
use Rattle.std.specs.Bool.{Decides}
use Rattle.std.specs.Option.{SomeIff}
use Rattle.std.specs.Str.Parse.{AllDigits, IsNumeral, digits_value, digits_value_after}
use Rattle.std.proofs.lemmas.Bool.Decides.{Decides-and, Decides-ltb, Decides-eqb, nat_tests}
use Rattle.std.proofs.Math.Nat.{mul-le-mul_left}
use Rattle.std.proofs.lemmas.List.{drop_all}
use Rattle.std.proofs.lemmas.Int.Digits.{digits_value-lt}
use Rattle.wordlines.specs.WordLines.{are_digits, number_upto, hex_number}
use Rattle.std.specs.Char.{digit_value}

front_at : (ds : List ℕ) (i : ℕ) → i < length ds → drop i ds ≡ get_or ds i 0 ∷ drop (i + 1) ds
front_at ds i within = rw add-one (drop-cons ds i 0 within)

-- the digits from here on are digits where all are
pub digit_here : (radix : ℕ) (ds : List ℕ) (i : ℕ) → i < length ds → AllDigits radix (drop i ds)
    → digit_value (get_or ds i 0) < radix
digit_here radix ds i within all = (subst (AllDigits radix) (front_at ds i within) all).0

pub digits_on : (radix : ℕ) (ds : List ℕ) (i : ℕ) → i < length ds → digit_value (get_or ds i 0) < radix
    → AllDigits radix (drop i ds) ↔ AllDigits radix ds → AllDigits radix (drop (i + 1) ds) ↔ AllDigits radix ds
digits_on radix ds i within digit so_far =
    let next = front_at ds i within in
    let now = subst (λ (xs : List ℕ). AllDigits radix xs ↔ AllDigits radix ds) next so_far in
    (λ left. now.0 (digit, left), λ all. (now.1 all).1)

pub value_on : (radix : ℕ) (ds : List ℕ) (i n value : ℕ) → i < length ds
    → digits_value_after radix n (drop i ds) ≡ value
    → digits_value_after radix (n * radix + digit_value (get_or ds i 0)) (drop (i + 1) ds) ≡ value
value_on radix ds i n value within so_far =
    subst (λ (xs : List ℕ). digits_value_after radix n xs ≡ value) (front_at ds i within) so_far

-- more digits make the number no less
pub value_grows : (radix n : ℕ) (ds : List ℕ) → 1 ≤ radix → n ≤ digits_value_after radix n ds
value_grows radix n [] h = omega arith
value_grows radix n (c ∷ cs) h =
    let more = value_grows radix (n * radix + digit_value c) cs h in
    omega (arith, more, mul-le-mul_left n h)

Decides-leb : (a b : ℕ) → Decides (nat_le a b) (a ≤ b)
Decides-leb a b = (λ h. grind (arith, nat_tests), λ h. grind (arith, nat_tests))

all_tested : (radix : ℕ) (ds : List ℕ) → Decides (are_digits radix ds) (AllDigits radix ds)
all_tested radix [] = (λ _. tt, λ _. refl)
all_tested radix (c ∷ cs) = Decides-and (nat_lt (digit_value c) radix) (are_digits radix cs)
    (Decides-ltb (digit_value c) radix) (all_tested radix cs)

chosen : (test : Bool) (P : Type 0) (value : ℕ) (r : Option ℕ) → Decides test P → SomeIff r P value
    → r ≡ if test then Some value else None
chosen true P value None d h = absurd (h (d.0 refl))
chosen true P value (Some x) d h = ap Some h.1
chosen false P value None d h = refl
chosen false P value (Some x) d h = let wrong = d.1 h.0 in cc

-- one answer by facts is the answer by tests
pub upto_chosen : (most : ℕ) (ds : List ℕ) (r : Option ℕ) → SomeIff r (IsNumeral 10 ds × (digits_value 10 ds ≤ most))
    (digits_value 10 ds)
    → r ≡ number_upto most ds
upto_chosen most ds r h =
    chosen ((nat_lt 0 (length ds) && are_digits 10 ds) && nat_le (digits_value 10 ds) most) (IsNumeral 10 ds
    × (digits_value 10 ds ≤ most)) (digits_value 10 ds) r
    (Decides-and (nat_lt 0 (length ds) && are_digits 10 ds) (nat_le (digits_value 10 ds) most)
    (Decides-and (nat_lt 0 (length ds)) (are_digits 10 ds) (Decides-ltb 0 (length ds)) (all_tested 10 ds))
    (Decides-leb (digits_value 10 ds) most))
    h

pub hex_chosen : (ds : List ℕ) (r : Option ℕ) → SomeIff r ((length ds ≡ 6) × AllDigits 16 ds) (digits_value 16 ds)
    → r ≡ hex_number ds
hex_chosen ds r h =
    chosen ((length ds == 6) && are_digits 16 ds) ((length ds ≡ 6) × AllDigits 16 ds) (digits_value 16 ds) r
    (Decides-and (length ds == 6) (are_digits 16 ds) (Decides-eqb (length ds) 6) (all_tested 16 ds))
    h

-- six digits fit 24 bits
pub six_fit : (ds : List ℕ) → AllDigits 16 ds → length ds ≡ 6 → digits_value 16 ds < 2 ^ 24
six_fit ds all six = subst (λ (n : ℕ). digits_value 16 ds < 16 ^ n) six (digits_value-lt 16 ds all)

le_trans : {a b c : ℕ} → a ≤ b → b ≤ c → a ≤ c
le_trans h k = omega (arith, h, k)

le_lt : {a b c : ℕ} → a ≤ b → b < c → a < c
le_lt h k = omega (arith, h, k)

lt_le : {a b : ℕ} → a < b → a ≤ b
lt_le h = omega (arith, h)

-- a number past 64 bits on the way
pub past : (radix : ℕ) (ds : List ℕ) (i number m : ℕ) (r : Option ℕ) → r ≡ None → 1 ≤ radix → i < length ds
    → digits_value_after radix number (drop i ds) ≡ digits_value radix ds
    → m ≤ number * radix + digit_value (get_or ds i 0) → (m < 2 ^ 64 → ⊥)
    → SomeIff r (IsNumeral radix ds × (digits_value radix ds < 2 ^ 64)) (digits_value radix ds)
past radix ds i number m None none low within value upto big =
    let worth = digit_value (get_or ds i 0) in
    let on = value_on radix ds i number (digits_value radix ds) within value in
    let grown = value_grows radix (number * radix + worth) (drop (i + 1) ds) low in
    λ p. let least : m ≤ digits_value radix ds =
    subst (λ (n : ℕ). m ≤ n) on (le_trans upto grown) in big (le_lt least p.1)
past radix ds i number m (Some x) none low within value upto big = cc

-- all digits are read
pub all_read : (radix : ℕ) (ds : List ℕ) (i number : ℕ) → 0 < length ds → length ds ≤ i → number < 2 ^ 64
    → AllDigits radix (drop i ds) ↔ AllDigits radix ds
    → digits_value_after radix number (drop i ds) ≡ digits_value radix ds
    → (IsNumeral radix ds × (digits_value radix ds < 2 ^ 64)) × (number ≡ digits_value radix ds)
all_read radix ds i number some past fits digits value =
    let none = drop_all i ds past in
    let all = (subst (λ (xs : List ℕ). AllDigits radix xs ↔ AllDigits radix ds) none digits).0 tt in
    let same : number ≡ digits_value radix ds =
    subst (λ (xs : List ℕ). digits_value_after radix number xs ≡ digits_value radix ds) none value in
    (((some, all), subst (λ (n : ℕ). n < 2 ^ 64) same fits), same)

-- the answers of `number_of` and `hex_of`
pub upto_none : (most : ℕ) (ds : List ℕ) (r : Option ℕ) → r ≡ None → most < 2 ^ 64
    → (IsNumeral 10 ds × (digits_value 10 ds < 2 ^ 64) → ⊥)
    → r ≡ number_upto most ds
upto_none most ds r none small not =
    let no : IsNumeral 10 ds × (digits_value 10 ds ≤ most) → ⊥ = λ p. not (p.0, le_lt p.1 small) in
    none ∙ upto_chosen most ds None no

pub upto_some : (most : ℕ) (ds : List ℕ) (number : ℕ) → IsNumeral 10 ds → number ≡ digits_value 10 ds → number ≤ most
    → Some number ≡ number_upto most ds
upto_some most ds number numeral value upto =
    upto_chosen most ds (Some number) ((numeral, subst (λ (n : ℕ). n ≤ most) value upto), value)

pub hex_none : (ds : List ℕ) (r : Option ℕ) → r ≡ None → length ds ≡ 6
    → (IsNumeral 16 ds × (digits_value 16 ds < 2 ^ 64) → ⊥) → r ≡ hex_number ds
hex_none ds r none six not =
    let no : (length ds ≡ 6) × AllDigits 16 ds → ⊥ =
    λ p. not ((omega (arith, six), p.1), le_lt (lt_le (six_fit ds p.1 six)) (lit< tt)) in
    none ∙ hex_chosen ds None no

pub hex_some : (ds : List ℕ) (number : ℕ) → length ds ≡ 6 → IsNumeral 16 ds → number ≡ digits_value 16 ds
    → Some number ≡ hex_number ds
hex_some ds number six numeral value = hex_chosen ds (Some number) ((six, numeral.1), value)

pub hex_short : (ds : List ℕ) → (length ds ≡ 6 → ⊥) → None ≡ hex_number ds
hex_short ds short = hex_chosen ds None (λ p. short p.0)
