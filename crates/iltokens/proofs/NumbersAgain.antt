-- A number or an address that stands at the front is read, whatever follows it.
use Rattle.std.proofs.Common.{◌≡◌, ℕ, ◌<◌, ◌≤◌, Bool, true, false, cond, eqb, List, [], ◌∷◌, ◌++◌, length, Option, Some}
use Rattle.std.proofs.Common.{None, ◌&&◌, ◌⊎◌, inl, inr, refl, sym, ap, subst, ◌∙◌, append_assoc, arith, eqb-true}
use Rattle.std.specs.Prelude.{codes}
use Rattle.std.specs.Option.{option_or}
use Rattle.iltokens.specs.declared.lexed.AddressKind.{AddressKind}
use Rattle.iltokens.specs.declared.lexed.AddressKind.TheVariants as kinds
use Rattle.iltokens.specs.Digits.{is_digit}
use Rattle.iltokens.specs.DigitSteps.{digits, plain_from, plain}
use Rattle.iltokens.specs.NumberSteps.{hexadecimal, based, unsigned}
use Rattle.iltokens.specs.AddressSteps.{AddressParts, kind_at, with_place, with_bus, with_kind, address}
use Rattle.iltokens.specs.Spellings as forms
use Rattle.iltokens.specs.Spellings.{Reads, IsUnsigned, IsAddress}
use Rattle.iltokens.proofs.Comments.{both}
use Rattle.iltokens.proofs.OverDigits.{goes_on}
use Rattle.iltokens.proofs.DigitLaws.{capped, Found, digits_found}
use Rattle.iltokens.proofs.DigitsAgain.{ReadTo, begun, digits_to, digit_next, stops_at, plain_again, plain_to}
use Rattle.iltokens.proofs.WordsAgain.{word_again, word_other}

-- ---- numbers

abbrev Within : ℕ → Option (ℕ × List ℕ) → Type 0
Within size None = Unit {0}
Within size (Some read) = length read.1 ≤ size

within_append : (v rest : List ℕ) → length rest ≤ length (v ++ rest)
within_append [] rest = omega arith
within_append (b ∷ v) rest = let le = within_append v rest in omega arith

digits_within : (base : ℕ) → 0 < base → (bs : List ℕ) → Within (length bs) (digits base bs)
digits_within base lt bs = go (digits base bs) (digits_found base lt bs)
  where
    go : (o : Option (ℕ × List ℕ)) → Found (forms.Digits base) bs o → Within (length bs) o
    go None f = tt
    go (Some read) f = let e = f.2 in let le = within_append f.0 read.1 in (rw e le)

-- what is read with a base goes further than the decimal digits before its hash
further : (n size : ℕ) (rest : List ℕ) (o p : Option (ℕ × List ℕ)) (held : ℕ) (stop : List ℕ) → Within size o
    → p ≡ Some (held, stop)
    → size < length stop → ReadTo n rest p → ReadTo n rest (option_or o p)
further n size rest None p held stop within e lt h = h
further n size rest (Some read) p held stop within e lt h =
    let k = subst (λ (q : Option (ℕ × List ℕ)). ReadTo n rest q) e h in
    let le : length stop ≤ length rest = k.0 in
    (omega arith, λ z. absurd (let none : length rest ≡ 0 = ap length z in omega arith))

digit_hash : (b : ℕ) (bs : List ℕ) → (b ≡ 50) ⊎ (b ≡ 56) → (held : ℕ) × (digits 10 (b ∷ 35 ∷ bs) ≡ Some (held, 35 ∷ bs))
unfolding is_digit
digit_hash b bs (inl e) = rw e (2, ap (λ (r : ℕ × List ℕ). Some r) (stops_at 10 2 35 bs refl refl))
digit_hash b bs (inr e) = rw e (8, ap (λ (r : ℕ × List ℕ). Some r) (stops_at 10 8 35 bs refl refl))

two_digits_hash : (bs : List ℕ) → (held : ℕ) × (digits 10 (49 ∷ 54 ∷ 35 ∷ bs) ≡ Some (held, 35 ∷ bs))
unfolding is_digit
two_digits_hash bs = (
  _,
  ap (λ (r : ℕ × List ℕ). Some r)
      (sym (goes_on 10 1 (54 ∷ 35 ∷ bs) 54 (35 ∷ bs)
      (digit_next 10 54 (35 ∷ bs) refl)) ∙ stops_at 10 _ 35 bs refl refl),
)

module _ (n : ℕ) (rest : List ℕ) where
  based_then : (b : ℕ) (bs : List ℕ) (base : ℕ) → 0 < base → (b ≡ 50) ⊎ (b ≡ 56)
      → ReadTo n rest (digits 10 (b ∷ 35 ∷ bs)) → ReadTo n rest (option_or (digits base bs) (digits 10 (b ∷ 35 ∷ bs)))
  based_then b bs base lt is h =
      let k = digit_hash b bs is in
      further n (length bs) rest (digits base bs) (digits 10 (b ∷ 35 ∷ bs)) k.0 (35 ∷ bs) (digits_within base lt bs) k.1
      (omega arith) h

  hexadecimal_then : (bs : List ℕ) → ReadTo n rest (digits 10 (49 ∷ 54 ∷ bs))
      → ReadTo n rest (option_or (hexadecimal bs) (digits 10 (49 ∷ 54 ∷ bs)))
  hexadecimal_then [] h = h
  hexadecimal_then (b ∷ bs) h = go (eqb b 35) refl
    where
      go : (t : Bool) → eqb b 35 ≡ t
          → ReadTo n rest (option_or (cond t (digits 16 bs) None) (digits 10 (49 ∷ 54 ∷ b ∷ bs)))
      go true is =
          let x = eqb-true b 35 is in
          let k = two_digits_hash bs in
          further n (length bs) rest (digits 16 bs) (digits 10 (49 ∷ 54 ∷ b ∷ bs)) k.0 (35 ∷ bs)
          (digits_within 16 (omega arith) bs) (rw x k.1) (omega arith) h
      go false is = h

  decimal_then : (bs : List ℕ) → ReadTo n rest (digits 10 bs) → ReadTo n rest (option_or (based bs) (digits 10 bs))
  unfolding based
  decimal_then [] h = h
  decimal_then (b ∷ []) h = h
  decimal_then (b ∷ c ∷ bs) h = two ((eqb b 50) && (eqb c 35)) refl
    where
      sixteen : (t : Bool) → ((eqb b 49) && (eqb c 54)) ≡ t
          → ReadTo n rest (option_or (cond t (hexadecimal bs) None) (digits 10 (b ∷ c ∷ bs)))
      sixteen true is =
          let p = both (eqb b 49) (eqb c 54) is in
          let x = eqb-true b 49 p.0 in
          let y = eqb-true c 54 p.1 in
          subst (λ (z : List ℕ). ReadTo n rest (option_or (hexadecimal bs) (digits 10 z)))
          (ap (λ (d : ℕ). d ∷ 54 ∷ bs) (sym x) ∙ ap (λ (d : ℕ). b ∷ d ∷ bs) (sym y))
          (hexadecimal_then bs (subst (λ (z : List ℕ). ReadTo n rest (digits 10 z))
          (ap (λ (d : ℕ). b ∷ d ∷ bs) y ∙ ap (λ (d : ℕ). d ∷ 54 ∷ bs) x) h))
      sixteen false is = h

      hashed : (base : ℕ) → 0 < base → (b ≡ 50) ⊎ (b ≡ 56) → c ≡ 35
          → ReadTo n rest (option_or (digits base bs) (digits 10 (b ∷ c ∷ bs)))
      hashed base lt is y =
          subst (λ (z : List ℕ). ReadTo n rest (option_or (digits base bs) (digits 10 z)))
          (ap (λ (d : ℕ). b ∷ d ∷ bs) (sym y))
          (based_then b bs base lt is
          (subst (λ (z : List ℕ). ReadTo n rest (digits 10 z)) (ap (λ (d : ℕ). b ∷ d ∷ bs) y) h))

      eight : (t : Bool) → ((eqb b 56) && (eqb c 35))
          ≡ t → ReadTo n rest (option_or (cond t (digits 8 bs) (cond ((eqb b 49) && (eqb c 54)) (hexadecimal bs) None))
          (digits 10 (b ∷ c ∷ bs)))
      eight true is =
          let p = both (eqb b 56) (eqb c 35) is in
          hashed 8 (omega arith) (inr (eqb-true b 56 p.0)) (eqb-true c 35 p.1)
      eight false is = sixteen ((eqb b 49) && (eqb c 54)) refl

      two : (t : Bool) → ((eqb b 50) && (eqb c 35))
          ≡ t → ReadTo n rest (option_or
          (cond t (digits 2 bs)
          (cond ((eqb b 56) && (eqb c 35)) (digits 8 bs)
          (cond ((eqb b 49) && (eqb c 54)) (hexadecimal bs) None))) (digits 10 (b ∷ c ∷ bs)))
      two true is =
          let p = both (eqb b 50) (eqb c 35) is in
          hashed 2 (omega arith) (inl (eqb-true b 50 p.0)) (eqb-true c 35 p.1)
      two false is = eight ((eqb b 56) && (eqb c 35)) refl

first_of_two : (n : ℕ) (rest : List ℕ) (o p : Option (ℕ × List ℕ)) → ReadTo n rest o → ReadTo n rest (option_or o p)
first_of_two n rest None p h = absurd h
first_of_two n rest (Some read) p h = h

pub unsigned_to : (u : List ℕ) (n : ℕ) → IsUnsigned u n → (rest : List ℕ) → ReadTo n rest (unsigned (u ++ rest))
unfolding unsigned based
unsigned_to _ _ (IsUnsigned.decimal u n h) rest =
    decimal_then n rest (u ++ rest) (digits_to 10 (omega arith) (omega arith) u n h rest)
unsigned_to _ _ (IsUnsigned.binary u n h) rest =
    first_of_two n rest _ (digits 10 (50 ∷ 35 ∷ u ++ rest)) (digits_to 2 (omega arith) (omega arith) u n h rest)
unsigned_to _ _ (IsUnsigned.octal u n h) rest =
    first_of_two n rest _ (digits 10 (56 ∷ 35 ∷ u ++ rest)) (digits_to 8 (omega arith) (omega arith) u n h rest)
unsigned_to _ _ (IsUnsigned.hexadecimal u n h) rest =
    first_of_two n rest _ (digits 10 (49 ∷ 54 ∷ 35 ∷ u ++ rest)) (digits_to 16 (omega arith) (omega arith) u n h rest)

-- a number begins with a digit
pub unsigned_begins : (u : List ℕ) (n : ℕ) → IsUnsigned u n
    → (d : ℕ) × (w : List ℕ) × (u ≡ d ∷ w) × (is_digit 10 d ≡ true)
unfolding is_digit
unsigned_begins _ _ (IsUnsigned.decimal u n h) = let k = begun 10 u n h in (k.0, k.1, k.2, k.3)
unsigned_begins _ _ (IsUnsigned.binary u n h) = (50, 35 ∷ u, refl, refl)
unsigned_begins _ _ (IsUnsigned.octal u n h) = (56, 35 ∷ u, refl, refl)
unsigned_begins _ _ (IsUnsigned.hexadecimal u n h) = (49, 54 ∷ 35 ∷ u, refl, refl)

-- ---- addresses

kind_again : (kind : AddressKind) (p rest : List ℕ) → Reads (forms.prefix_of kind) p
    → kind_at (p ++ rest) ≡ Some (kind, rest)
unfolding kind_at
kind_again kinds.OutputByte p rest h = rw (word_again (codes "%qb") p rest h) refl
kind_again kinds.InputWord p rest h =
    rw (word_other (codes "%qb") (codes "%iw") p rest h refl, word_again (codes "%iw") p rest h) refl
kind_again kinds.InputBit p rest h =
    rw (
      word_other (codes "%qb") (codes "%ix") p rest h refl,
      word_other (codes "%iw")
          (codes "%ix") p rest h refl,
      word_again (codes "%ix") p rest h,
    ) refl

-- the address that is read: nothing of what stands after the spelling is left out, and where nothing stands there the
-- numbers are these
abbrev pub AddressTo : AddressKind → ℕ → ℕ → List ℕ → Option AddressParts → Type 0
AddressTo kind bus place rest None = ⊥
AddressTo kind bus place rest (Some p) =
    (length p.rest ≤ length rest) × (rest ≡ [] → (p.kind ≡ kind) × (p.bus ≡ capped bus) × (p.place ≡ capped place))

plain_stops : (value : ℕ) (bs : List ℕ) → plain_from value (46 ∷ bs) ≡ (value, 46 ∷ bs)
unfolding plain_from is_digit
plain_stops value bs = refl

placed : (kind : AddressKind) (bus place held : ℕ) (rest : List ℕ) (o : Option (ℕ × List ℕ)) → held ≡ capped bus
    → ReadTo place rest o
    → AddressTo kind bus place rest (with_place kind held o)
placed kind bus place held rest None e h = absurd h
placed kind bus place held rest (Some read) e h = (h.0, λ z. (refl, e, h.1 z))

pub address_to : (u : List ℕ) (kind : AddressKind) (bus place : ℕ) → IsAddress u kind bus place → (rest : List ℕ)
    → AddressTo kind bus place rest (address (u ++ rest))
unfolding address
address_to u kind bus place h rest =
    let whole : u ++ rest ≡ h.prefix ++ (h.first ++ (46 ∷ (h.second ++ rest))) = ap
    (λ (z : List ℕ). z ++ rest) h.parts ∙ regroup h.prefix h.first h.second rest in
    let read : address (u ++ rest) ≡ with_place kind (capped bus) (plain (h.second ++ rest)) =
    ap address whole ∙ ap with_kind (kind_again kind h.prefix (h.first ++ (46 ∷ (h.second ++ rest))) h.reads)
    ∙ ap (with_bus kind) (plain_again h.first bus h.on_bus (46 ∷ (h.second ++ rest)) ∙ ap (λ (r : ℕ × List ℕ). Some r)
    (plain_stops (capped bus) (h.second ++ rest))) in
    rw read (placed kind bus place (capped bus) rest (plain (h.second ++ rest)) refl
    (plain_to h.second place h.at_place rest))
  where
    regroup : (p f s r : List ℕ) → (((p ++ f) ++ codes ".") ++ s) ++ r ≡ p ++ (f ++ (46 ∷ (s ++ r)))
    regroup p f s r = simp append_assoc
