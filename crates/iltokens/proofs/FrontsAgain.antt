-- A token that stands at the front is read, whatever follows it.
use Rattle.std.proofs.Common.{◌≡◌, pos, neg_ℤ, ℤ, ℕ, zero, suc, ◌+◌, ◌^◌, ◌<◌, ◌≤◌, Bool, true, false, cond, eqb, leb}
use Rattle.std.proofs.Common.{ltb, List, [], ◌∷◌, ◌++◌, length, drop, Option, Some, None, ◌&&◌, ◌||◌, ◌⊎◌, inl, inr}
use Rattle.std.proofs.Common.{refl, sym, ap, subst, ◌∙◌, append_assoc, arith, eqb-true}
use Rattle.std.specs.Prelude.{codes, FitsSigned}
use Rattle.std.specs.Int.{w64}
use Rattle.std.specs.Char.{to_ascii_lowercase}
use Rattle.std.proofs.lemmas.Bool.{leb-true, leb-false, ltb-true, ltb-false}
use Rattle.iltokens.specs.declared.lexed.AddressKind.{AddressKind}
use Rattle.iltokens.specs.declared.lexed.AddressKind.TheVariants as kinds
use Rattle.iltokens.specs.declared.lexed.Delimiter.TheVariants as delimiters
use Rattle.iltokens.specs.declared.lexed.What.{What}
use Rattle.iltokens.specs.declared.lexed.What.TheVariants as whats
use Rattle.iltokens.specs.declared.lexed.LexicalCause.TheVariants.{BadNumber}
use Rattle.iltokens.specs.Digits.{is_digit}
use Rattle.iltokens.specs.NumberSteps.{unsigned, signed}
use Rattle.iltokens.specs.TimeSteps.{time}
use Rattle.iltokens.specs.AddressSteps.{AddressParts, address}
use Rattle.iltokens.specs.Letters.{is_letter}
use Rattle.iltokens.specs.WordSteps.{after_name}
use Rattle.iltokens.specs.FrontSteps.{Front, end, taken, fault, in_limits, number_front, number_at, word_kind}
use Rattle.iltokens.specs.FrontSteps.{word_front, time_front, word_at, address_front, address_at, colon_at, dot_at}
use Rattle.iltokens.specs.FrontSteps.{ampersand_at, delimiter_at, front_at}
use Rattle.iltokens.specs.Spellings as forms
use Rattle.iltokens.specs.Spellings.{Reads, Spells, IsUnsigned, IsNumber, IsTime, IsAddress}
use Rattle.iltokens.specs.Longest.{IsWithin}
use Rattle.iltokens.proofs.DigitLaws.{capped, Found}
use Rattle.iltokens.proofs.DigitsAgain.{ReadTo}
use Rattle.iltokens.proofs.ReservedWords.{keyword_kind, name_kind, front_taken}
use Rattle.iltokens.proofs.WordsAgain.{lower_is, lower_mark, letter_in_name, name_again, hash_last, before_hash}
use Rattle.iltokens.proofs.NumbersAgain.{unsigned_to, unsigned_begins, AddressTo, address_to}
use Rattle.iltokens.proofs.TimesAgain.{time_to}
use Rattle.iltokens.proofs.TimeLaws.{time_found}

-- ---- what stands after what is read at the front, be it in its limits or not

abbrev pub rest_of : Option (ℕ × List ℕ) → Option (List ℕ)
rest_of None = None
rest_of (Some read) = Some read.1

abbrev pub place_rest : Option AddressParts → Option (List ℕ)
place_rest None = None
place_rest (Some p) = Some p.rest

abbrev pub word_rest : Option (ℕ × List ℕ) → List ℕ → List ℕ
word_rest None bs = after_name (drop 1 bs)
word_rest (Some read) bs = read.1

abbrev pub front_rest : Front → Option (List ℕ)
front_rest end = None
front_rest (taken what rest) = Some rest
front_rest (fault cause) = None

abbrev pub rest_at : List ℕ → Option (List ℕ)
rest_at [] = None
rest_at (b ∷ bs) =
    cond (eqb b 43) (rest_of (unsigned bs))
    (cond (eqb b 45) (rest_of (unsigned bs))
    (cond (eqb b 37) (place_rest (address (b ∷ bs)))
    (cond (is_letter b) (Some (word_rest (time (b ∷ bs)) (b ∷ bs)))
    (cond (is_digit 10 b) (rest_of (unsigned (b ∷ bs)))
    (front_rest (delimiter_at (b ∷ bs)))))))

-- a whole token is reported by its limits
abbrev pub Limited : What → Front → Type 0
Limited what f = (IsWithin what × (f ≡ taken what [])) ⊎ ((IsWithin what → ⊥) × (f ≡ fault BadNumber))

abbrev pub Reaches : What → List ℕ → Front → Option (List ℕ) → Type 0
Reaches what rest f None = ⊥
Reaches what rest f (Some r) = (length r ≤ length rest) × (rest ≡ [] → Limited what f)

nothing : (rest r : List ℕ) → length r ≤ length rest → rest ≡ [] → r ≡ []
nothing rest [] le z = refl
nothing rest (b ∷ r) le z = absurd (let none : length rest ≡ 0 = ap length z in omega arith)

-- ---- numbers

pub fits_pos : (n : ℕ) → n < 2 ^ 63 → FitsSigned w64 (pos n)
fits_pos n lt = record { sfits = lt }

pub pos_fits : (n : ℕ) → FitsSigned w64 (pos n) → n < 2 ^ 63
pos_fits n h = h.sfits

pub fits_neg : (n : ℕ) → n ≤ 2 ^ 63 → FitsSigned w64 (neg_ℤ (pos n))
fits_neg zero le = record { sfits = omega arith }
fits_neg (suc n) le = record { sfits = omega arith }

pub neg_fits : (n : ℕ) → FitsSigned w64 (neg_ℤ (pos n)) → n ≤ 2 ^ 63
neg_fits zero h = omega arith
neg_fits (suc n) h = let lt = h.sfits in omega arith

positive_to : (n : ℕ) (rest : List ℕ) (o : Option (ℕ × List ℕ)) → ReadTo n rest o
    → Reaches (whats.Number (pos n)) rest (number_front false o) (rest_of o)
unfolding signed
positive_to n rest None h = h
positive_to n rest (Some read) h = (h.0, λ z. go (ltb read.0 (2 ^ 63)) refl (h.1 z) (nothing rest read.1 h.0 z))
  where
    go : (t : Bool) → ltb read.0 (2 ^ 63) ≡ t → read.0 ≡ capped n → read.1 ≡ []
        → Limited (whats.Number (pos n)) (in_limits (cond t (Some (pos read.0)) None) read.1)
    go true is kept none =
        let lt = ltb-true read.0 (2 ^ 63) is in
        let same : read.0 ≡ n = omega arith in
        inl (fits_pos n (omega arith), rw (same, none) refl)
    go false is kept none =
        let le = ltb-false read.0 (2 ^ 63) is in
        inr (λ w. (let lt = pos_fits n w in omega arith), refl)

negative_to : (n : ℕ) (rest : List ℕ) (o : Option (ℕ × List ℕ)) → ReadTo n rest o
    → Reaches (whats.Number (neg_ℤ (pos n))) rest (number_front true o) (rest_of o)
unfolding signed
negative_to n rest None h = h
negative_to n rest (Some read) h = (h.0, λ z. go (leb read.0 (2 ^ 63)) refl (h.1 z) (nothing rest read.1 h.0 z))
  where
    go : (t : Bool) → leb read.0 (2 ^ 63) ≡ t → read.0 ≡ capped n → read.1 ≡ []
        → Limited (whats.Number (neg_ℤ (pos n))) (in_limits (cond t (Some (neg_ℤ (pos read.0))) None) read.1)
    go true is kept none =
        let le = leb-true read.0 (2 ^ 63) is in
        let same : read.0 ≡ n = omega arith in
        inl (fits_neg n (omega arith), rw (same, none) refl)
    go false is kept none =
        let lt = leb-false read.0 (2 ^ 63) is in
        inr (λ w. (let le = neg_fits n w in omega arith), refl)

differs : (p : ℕ → Bool) (b k : ℕ) → p b ≡ true → p k ≡ false → eqb b k ≡ false
differs p b k is other = go (eqb b k) refl
  where
    go : (t : Bool) → eqb b k ≡ t → t ≡ false
    go true e = let same : p b ≡ p k = ap p (eqb-true b k e) in let bad = sym is ∙ same ∙ other in cc
    go false e = refl

digit_range : (b : ℕ) → is_digit 10 b ≡ true → (48 ≤ b) × (b ≤ 57)
unfolding is_digit
digit_range b is = (grind arith, grind arith)

below_letters : (b : ℕ) → b < 65 → is_letter b ≡ false
below_letters b lt = grind arith

plain_to : (n : ℕ) (rest : List ℕ) (b : ℕ) (bs : List ℕ) → is_digit 10 b ≡ true → ReadTo n rest (unsigned (b ∷ bs))
    → Reaches (whats.Number (pos n)) rest (front_at (b ∷ bs)) (rest_at (b ∷ bs))
unfolding front_at number_at is_digit
plain_to n rest b bs is h =
    let range = digit_range b is in
    let plus : eqb b 43 ≡ false = differs (is_digit 10) b 43 is refl in
    let minus : eqb b 45 ≡ false = differs (is_digit 10) b 45 is refl in
    let percent : eqb b 37 ≡ false = differs (is_digit 10) b 37 is refl in
    let letter : is_letter b ≡ false = below_letters b (omega arith) in
    rw (plus, minus, percent, letter, is) (positive_to n rest (unsigned (b ∷ bs)) h)

number_reaches : (u : List ℕ) (n : ℤ) → IsNumber u n → (rest : List ℕ)
    → Reaches (whats.Number n) rest (front_at (u ++ rest)) (rest_at (u ++ rest))
unfolding front_at number_at
number_reaches _ _ (IsNumber.plain u n h) rest =
    let k = unsigned_begins u n h in
    let e : u ++ rest ≡ k.0 ∷ (k.1 ++ rest) = ap (λ (z : List ℕ). z ++ rest) k.2 in
    subst (λ (z : List ℕ). Reaches (whats.Number (pos n)) rest (front_at z) (rest_at z)) (sym e)
    (plain_to n rest k.0 (k.1 ++ rest) k.3
    (subst (λ (z : List ℕ). ReadTo n rest (unsigned z)) e (unsigned_to u n h rest)))
number_reaches _ _ (IsNumber.positive u n h) rest = positive_to n rest (unsigned (u ++ rest)) (unsigned_to u n h rest)
number_reaches _ _ (IsNumber.negative u n h) rest = negative_to n rest (unsigned (u ++ rest)) (unsigned_to u n h rest)

-- ---- words and durations

at_letter : (what : What) (rest : List ℕ) (b : ℕ) (bs : List ℕ) → is_letter b ≡ true
    → Reaches what rest (word_at (b ∷ bs)) (Some (word_rest (time (b ∷ bs)) (b ∷ bs)))
    → Reaches what rest (front_at (b ∷ bs)) (rest_at (b ∷ bs))
unfolding front_at
at_letter what rest b bs is h =
    let plus : eqb b 43 ≡ false = differs is_letter b 43 is refl in
    let minus : eqb b 45 ≡ false = differs is_letter b 45 is refl in
    let percent : eqb b 37 ≡ false = differs is_letter b 37 is refl in
    rw (plus, minus, percent, is) h

-- what is read as a duration has a hash, which is in no name
name_short : (u rest : List ℕ) (read : ℕ × List ℕ) → forms.AreNameBytes u → Found IsTime (u ++ rest) (Some read)
    → length read.1 < length rest
name_short u rest read name f = go f.3.reads
  where
    size : (a b : List ℕ) → length b ≤ length (a ++ b)
    size [] b = omega arith
    size (x ∷ a) b = let le = size a b in omega arith

    hashed : (q : List ℕ) → f.3.prefix ≡ q ++ 35 ∷ [] → length read.1 < length rest
    hashed q e =
        let whole : u ++ rest ≡ q ++ 35 ∷ (f.3.others ++ read.1) =
        f.2 ∙ ap (λ (z : List ℕ). z ++ read.1) (f.3.parts ∙ ap (λ (z : List ℕ). z ++ f.3.others) e) ∙ append_assoc
        (q ++ 35 ∷ []) f.3.others read.1 ∙ append_assoc q (35 ∷ []) (f.3.others ++ read.1) in
        let lt = before_hash u rest q (f.3.others ++ read.1) name whole in
        let le = size f.3.others read.1 in
        omega arith

    go : (Reads (codes "t#") f.3.prefix ⊎ Reads (codes "time#") f.3.prefix) → length read.1 < length rest
    go (inl h) = let k = hash_last (codes "t") f.3.prefix h in hashed k.0 k.1
    go (inr h) = let k = hash_last (codes "time") f.3.prefix h in hashed k.0 k.1

word_reaches : (what : What) (b : ℕ) (w rest : List ℕ) → IsWithin what → is_letter b ≡ true → forms.AreNameBytes w
    → word_kind (b ∷ w) ≡ what
    → Reaches what rest (word_at (b ∷ w ++ rest)) (Some (word_rest (time (b ∷ w ++ rest)) (b ∷ w ++ rest)))
unfolding word_at
word_reaches what b w rest within is name kind = go (time (b ∷ w ++ rest)) (time_found (b ∷ w ++ rest))
  where
    none_left : rest ≡ [] → after_name (w ++ rest) ≡ []
    none_left z = nothing rest (after_name (w ++ rest)) (name_again w rest name) z

    whole : rest ≡ [] → word_front (b ∷ w ++ rest) (after_name (w ++ rest)) ≡ taken what []
    whole z =
        let all : b ∷ w ++ rest ≡ (b ∷ w) ++ after_name (w ++ rest) = rw (none_left z, z) refl in
        rw (front_taken (b ∷ w ++ rest) (b ∷ w) (after_name (w ++ rest)) all, kind, none_left z) refl

    go : (o : Option (ℕ × List ℕ)) → Found IsTime (b ∷ w ++ rest) o
        → Reaches what rest (time_front o (b ∷ w ++ rest)) (Some (word_rest o (b ∷ w ++ rest)))
    go None f = (name_again w rest name, λ z. inl (within, whole z))
    go (Some read) f =
        let lt = name_short (b ∷ w) rest read (letter_in_name b is, name) f in
        (omega arith, λ z. absurd (let none : length rest ≡ 0 = ap length z in omega arith))

limited_time : (n : ℕ) (rest bs : List ℕ) (o : Option (ℕ × List ℕ)) → ReadTo n rest o
    → Reaches (whats.Time n) rest (time_front o bs) (Some (word_rest o bs))
limited_time n rest bs None h = absurd h
limited_time n rest bs (Some read) h = (h.0, λ z. go (leb read.0 4294967295) refl (h.1 z) (nothing rest read.1 h.0 z))
  where
    go : (t : Bool) → leb read.0 4294967295 ≡ t → read.0 ≡ capped n → read.1 ≡ []
        → Limited (whats.Time n) (cond t (taken (whats.Time read.0) read.1) (fault BadNumber))
    go true is kept none =
        let le = leb-true read.0 4294967295 is in
        let same : read.0 ≡ n = omega arith in
        inl (omega arith, rw (same, none) refl)
    go false is kept none = let lt = leb-false read.0 4294967295 is in inr (λ w. omega arith, refl)

time_first : (b : ℕ) → to_ascii_lowercase b ≡ 116 → is_letter b ≡ true
time_first b e = go (lower_is b 116 e)
  where
    go : (b ≡ 116) ⊎ ((b + 32 ≡ 116) × (65 ≤ b) × (b < 91)) → is_letter b ≡ true
    go (inl x) = rw x refl
    go (inr c) = let x : b ≡ 84 = (let f = c.0 in omega arith) in rw x refl

time_begins : (p : List ℕ) → (Reads (codes "t#") p ⊎ Reads (codes "time#") p)
    → (b : ℕ) × (w : List ℕ) × (p ≡ b ∷ w) × (is_letter b ≡ true)
time_begins [] (inl h) = absurd cc
time_begins [] (inr h) = absurd cc
time_begins (b ∷ w) (inl h) = (b, w, refl, time_first b (cc))
time_begins (b ∷ w) (inr h) = (b, w, refl, time_first b (cc))

time_reaches : (u : List ℕ) (n : ℕ) → IsTime u n → (rest : List ℕ)
    → Reaches (whats.Time n) rest (front_at (u ++ rest)) (rest_at (u ++ rest))
unfolding word_at
time_reaches u n h rest =
    let k = time_begins h.prefix h.reads in
    let e : u ++ rest ≡ k.0 ∷ ((k.1 ++ h.others) ++ rest) = ap (λ (z : List ℕ). z ++ rest)
    (h.parts ∙ ap (λ (z : List ℕ). z ++ h.others) k.2) in
    subst (λ (z : List ℕ). Reaches (whats.Time n) rest (front_at z) (rest_at z)) (sym e)
    (at_letter (whats.Time n) rest k.0 ((k.1 ++ h.others) ++ rest) k.3
    (limited_time n rest (k.0 ∷ ((k.1 ++ h.others) ++ rest)) (time (k.0 ∷ ((k.1 ++ h.others) ++ rest)))
    (subst (λ (z : List ℕ). ReadTo n rest (time z)) e (time_to u n h rest))))

-- ---- addresses

limited_address : (kind : AddressKind) (bus place : ℕ) (rest : List ℕ) (o : Option AddressParts)
    → AddressTo kind bus place rest o
    → Reaches (whats.Address kind bus place) rest (address_front o) (place_rest o)
limited_address kind bus place rest None h = h
limited_address kind bus place rest (Some p) h =
    (h.0, λ z. go (ltb p.bus (2 ^ 63)) (ltb p.place (2 ^ 63)) refl refl (h.1 z) (nothing rest p.rest h.0 z))
  where
    go : (x y : Bool) → ltb p.bus (2 ^ 63) ≡ x → ltb p.place (2 ^ 63) ≡ y
        → (p.kind ≡ kind) × (p.bus ≡ capped bus) × (p.place ≡ capped place) → p.rest ≡ []
        → Limited (whats.Address kind bus place)
        (cond (x && y) (taken (whats.Address p.kind p.bus p.place) p.rest) (fault BadNumber))
    go true true e f kept none =
        let one = ltb-true p.bus (2 ^ 63) e in
        let two = ltb-true p.place (2 ^ 63) f in
        let first = kept.1 in
        let second = kept.2 in
        let bus_is : p.bus ≡ bus = omega arith in
        let place_is : p.place ≡ place = omega arith in
        let kind_is = kept.0 in
        inl ((omega arith, omega arith), rw (kind_is, bus_is, place_is, none) refl)
    go true false e f kept none =
        let le = ltb-false p.place (2 ^ 63) f in
        let second = kept.2 in
        inr (λ w. (let lt = w.1 in omega arith), refl)
    go false y e f kept none =
        let le = ltb-false p.bus (2 ^ 63) e in
        let first = kept.1 in
        inr (λ w. (let lt = w.0 in omega arith), refl)

address_begins : (kind : AddressKind) (p : List ℕ) → Reads (forms.prefix_of kind) p → (w : List ℕ) × (p ≡ 37 ∷ w)
address_begins kinds.OutputByte [] h = absurd cc
address_begins kinds.InputWord [] h = absurd cc
address_begins kinds.InputBit [] h = absurd cc
address_begins kinds.OutputByte (b ∷ w) h = (w, ap (λ (c : ℕ). c ∷ w) (lower_mark b 37 (omega arith) (cc)))
address_begins kinds.InputWord (b ∷ w) h = (w, ap (λ (c : ℕ). c ∷ w) (lower_mark b 37 (omega arith) (cc)))
address_begins kinds.InputBit (b ∷ w) h = (w, ap (λ (c : ℕ). c ∷ w) (lower_mark b 37 (omega arith) (cc)))

at_percent : (what : What) (rest bs : List ℕ)
    → Reaches what rest (address_at (37 ∷ bs)) (place_rest (address (37 ∷ bs)))
    → Reaches what rest (front_at (37 ∷ bs)) (rest_at (37 ∷ bs))
unfolding front_at
at_percent what rest bs h = h

address_reaches : (u : List ℕ) (kind : AddressKind) (bus place : ℕ) → IsAddress u kind bus place → (rest : List ℕ)
    → Reaches (whats.Address kind bus place) rest (front_at (u ++ rest)) (rest_at (u ++ rest))
unfolding address_at
address_reaches u kind bus place h rest =
    let k = address_begins kind h.prefix h.reads in
    let others = (((k.0 ++ h.first) ++ codes ".") ++ h.second) ++ rest in
    let e : u ++ rest ≡ 37 ∷ others = ap (λ (z : List ℕ). z ++ rest)
    (h.parts ∙ ap (λ (z : List ℕ). ((z ++ h.first) ++ codes ".") ++ h.second) k.1) in
    subst (λ (z : List ℕ). Reaches (whats.Address kind bus place) rest (front_at z) (rest_at z)) (sym e)
    (at_percent (whats.Address kind bus place) rest others
    (limited_address kind bus place rest (address (37 ∷ others))
    (subst (λ (z : List ℕ). AddressTo kind bus place rest (address z)) e (address_to u kind bus place h rest))))

-- ---- delimiters

simple : (what : What) (rest : List ℕ) → IsWithin what → Reaches what rest (taken what rest) (Some rest)
simple what rest w = (omega arith, λ z. inl (w, ap (taken what) z))

-- a mark that goes on with one more byte, where this stands there
either_delimiter : (what longer : What) (rest : List ℕ) (t : Bool) (b : ℕ) (bs : List ℕ) → IsWithin what → rest ≡ b ∷ bs
    → Reaches what rest (cond t (taken longer bs) (taken what rest))
    (front_rest (cond t (taken longer bs) (taken what rest)))
either_delimiter what longer rest true b bs w e =
    (let size = ap length e in omega arith, λ z. absurd (let bad = sym z ∙ e in cc))
either_delimiter what longer rest false b bs w e = simple what rest w

colon_reaches : (rest : List ℕ) → Reaches (whats.Delimiter delimiters.Colon) rest (colon_at rest)
    (front_rest (colon_at rest))
colon_reaches [] = simple (whats.Delimiter delimiters.Colon) [] tt
colon_reaches (b ∷ bs) = either_delimiter (whats.Delimiter delimiters.Colon) (whats.Delimiter delimiters.Assign)
    (b ∷ bs) (eqb b 61) b bs tt refl

dot_reaches : (rest : List ℕ) → Reaches (whats.Delimiter delimiters.Dot) rest (dot_at rest) (front_rest (dot_at rest))
dot_reaches [] = simple (whats.Delimiter delimiters.Dot) [] tt
dot_reaches (b ∷ bs) = either_delimiter (whats.Delimiter delimiters.Dot) (whats.Delimiter delimiters.Range) (b ∷ bs)
    (eqb b 46) b bs tt refl

ampersand_reaches : (rest : List ℕ)
    → Reaches (whats.Delimiter delimiters.Ampersand) rest (ampersand_at rest) (front_rest (ampersand_at rest))
ampersand_reaches [] = simple (whats.Delimiter delimiters.Ampersand) [] tt
ampersand_reaches (b ∷ bs) =
    either_delimiter (whats.Delimiter delimiters.Ampersand) (whats.Delimiter delimiters.AmpersandNot) (b ∷ bs)
    ((eqb b 78) || (eqb b 110)) b bs tt refl

ampersand_not : (u : List ℕ) → Reads (codes "&n") u → (n : ℕ) × (u ≡ 38 ∷ n ∷ []) × (((eqb n 78) || (eqb n 110)) ≡ true)
ampersand_not [] h = absurd cc
ampersand_not (b ∷ []) h = absurd cc
ampersand_not (b ∷ c ∷ d ∷ u) h = absurd cc
ampersand_not (b ∷ c ∷ []) h =
    let first : to_ascii_lowercase b ≡ 38 = cc in
    let second : to_ascii_lowercase c ≡ 110 = cc in
    (c, ap (λ (z : ℕ). z ∷ c ∷ []) (lower_mark b 38 (omega arith) first), go (lower_is c 110 second))
  where
    go : (c ≡ 110) ⊎ ((c + 32 ≡ 110) × (65 ≤ c) × (c < 91)) → ((eqb c 78) || (eqb c 110)) ≡ true
    go (inl x) = rw x refl
    go (inr k) = let x : c ≡ 78 = (let f = k.0 in omega arith) in rw x refl

ampersand_not_at : (n : ℕ) (rest : List ℕ) → ((eqb n 78) || (eqb n 110)) ≡ true
    → Reaches (whats.Delimiter delimiters.AmpersandNot) rest (ampersand_at (n ∷ rest))
    (front_rest (ampersand_at (n ∷ rest)))
ampersand_not_at n rest is = rw is (simple (whats.Delimiter delimiters.AmpersandNot) rest tt)

-- ---- all tokens

pub reaches : (what : What) (u : List ℕ) → Spells what u → (rest : List ℕ)
    → Reaches what rest (front_at (u ++ rest)) (rest_at (u ++ rest))
unfolding front_at delimiter_at is_digit
reaches (whats.Keyword k) [] h rest = absurd h.0
reaches (whats.Keyword k) (b ∷ w) h rest =
    at_letter (whats.Keyword k) rest b (w ++ rest) h.0.0
    (word_reaches (whats.Keyword k) b w rest tt h.0.0 h.0.1 (keyword_kind (b ∷ w) k h.1))
reaches whats.Name [] h rest = absurd h.0
reaches whats.Name (b ∷ w) h rest =
    at_letter whats.Name rest b (w ++ rest) h.0.0
    (word_reaches whats.Name b w rest tt h.0.0 h.0.1 (name_kind (b ∷ w) h.1))
reaches (whats.Number n) u h rest = number_reaches u n h rest
reaches (whats.Time n) u h rest = time_reaches u n h rest
reaches (whats.Address kind bus place) u h rest = address_reaches u kind bus place h rest
reaches (whats.Delimiter delimiters.Comma) u h rest = rw h (simple (whats.Delimiter delimiters.Comma) rest tt)
reaches (whats.Delimiter delimiters.Colon) u h rest = rw h (colon_reaches rest)
reaches (whats.Delimiter delimiters.Semicolon) u h rest = rw h (simple (whats.Delimiter delimiters.Semicolon) rest tt)
reaches (whats.Delimiter delimiters.Assign) u h rest = rw h (simple (whats.Delimiter delimiters.Assign) rest tt)
reaches (whats.Delimiter delimiters.Dot) u h rest = rw h (dot_reaches rest)
reaches (whats.Delimiter delimiters.Range) u h rest = rw h (simple (whats.Delimiter delimiters.Range) rest tt)
reaches (whats.Delimiter delimiters.Open) u h rest = rw h (simple (whats.Delimiter delimiters.Open) rest tt)
reaches (whats.Delimiter delimiters.Close) u h rest = rw h (simple (whats.Delimiter delimiters.Close) rest tt)
reaches (whats.Delimiter delimiters.Ampersand) u h rest = rw h (ampersand_reaches rest)
reaches (whats.Delimiter delimiters.AmpersandNot) u h rest =
    let k = ampersand_not u h in
    let e = k.1 in
    rw e (ampersand_not_at k.0 rest k.2)
reaches (whats.Delimiter delimiters.LineEnd) u (inl h) rest = rw h (simple (whats.Delimiter delimiters.LineEnd) rest tt)
reaches (whats.Delimiter delimiters.LineEnd) u (inr h) rest = rw h (simple (whats.Delimiter delimiters.LineEnd) rest tt)
