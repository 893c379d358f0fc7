-- What is reported as a token spells it.
use Rattle.std.proofs.Common.{◌≡◌, ℕ, Bool, true, false, cond, eqb, List, [], ◌∷◌, ◌++◌, Option, Some, None, ◌&&◌, refl}
use Rattle.std.proofs.Common.{sym, ap, ◌∙◌, append_assoc, arith, eqb-true}
use Rattle.std.specs.Prelude.{codes}
use Rattle.std.specs.Option.{option_or}
use Rattle.std.specs.Char.{to_ascii_lowercase}
use Rattle.iltokens.specs.declared.lexed.AddressKind.{AddressKind}
use Rattle.iltokens.specs.declared.lexed.AddressKind.TheVariants as kinds
use Rattle.iltokens.specs.DigitSteps.{digits, plain}
use Rattle.iltokens.specs.NumberSteps.{hexadecimal, based, unsigned}
use Rattle.iltokens.specs.Letters.{is_name_byte}
use Rattle.iltokens.specs.WordSteps.{after_name, after_word}
use Rattle.iltokens.specs.AddressSteps.{
  AddressParts,
  is_kind,
  kind_at,
  with_place,
  after_dot,
  with_bus,
  with_kind,
  address,
}
use Rattle.iltokens.specs.Spellings as forms
use Rattle.iltokens.specs.Spellings.{Spells, Reads, IsUnsigned}
use Rattle.iltokens.proofs.Comments.{both}
use Rattle.iltokens.proofs.DigitLaws.{capped, Found, digits_found, plain_found}

-- ---- numbers

lifted : (P Q : List ℕ → ℕ → Type 0) (w bs : List ℕ) → ((u : List ℕ) (n : ℕ) → P u n → Q (w ++ u) n)
    → (o : Option (ℕ × List ℕ)) → Found P bs o
    → Found Q (w ++ bs) o
lifted P Q w bs f None h = tt
lifted P Q w bs f (Some read) h =
    (w ++ h.0, h.1, ap (λ (z : List ℕ). w ++ z) h.2 ∙ sym (append_assoc w h.0 read.1), f h.0 h.1 h.3, h.4)

hexadecimal_found : (bs : List ℕ) → Found IsUnsigned (49 ∷ 54 ∷ bs) (hexadecimal bs)
hexadecimal_found [] = tt
hexadecimal_found (b ∷ bs) = go (eqb b 35) refl
  where
    go : (t : Bool) → eqb b 35 ≡ t → Found IsUnsigned (49 ∷ 54 ∷ b ∷ bs) (cond t (digits 16 bs) None)
    go true is =
        let x = eqb-true b 35 is in
        rw x (lifted (forms.Digits 16) IsUnsigned (codes "16#") bs (λ u n h. forms.IsUnsigned.hexadecimal u n h)
        (digits 16 bs) (digits_found 16 (omega arith) bs))
    go false is = tt

based_found : (bs : List ℕ) → Found IsUnsigned bs (based bs)
unfolding based
based_found [] = tt
based_found (b ∷ []) = tt
based_found (b ∷ c ∷ bs) = two ((eqb b 50) && (eqb c 35)) refl
  where
    sixteen : (t : Bool) → ((eqb b 49) && (eqb c 54)) ≡ t → Found IsUnsigned (b ∷ c ∷ bs) (cond t (hexadecimal bs) None)
    sixteen true is =
        let p = both (eqb b 49) (eqb c 54) is in
        let x = eqb-true b 49 p.0 in
        let y = eqb-true c 54 p.1 in
        rw (x, y) (hexadecimal_found bs)
    sixteen false is = tt

    eight : (t : Bool) → ((eqb b 56) && (eqb c 35)) ≡ t
        → Found IsUnsigned (b ∷ c ∷ bs) (cond t (digits 8 bs) (cond ((eqb b 49) && (eqb c 54)) (hexadecimal bs) None))
    eight true is = let p = both (eqb b 56) (eqb c 35) is in let x = eqb-true b 56 p.0 in let y = eqb-true c 35 p.1 in
        rw (x, y) (lifted (forms.Digits 8) IsUnsigned (codes "8#") bs (λ u n h. forms.IsUnsigned.octal u n h)
        (digits 8 bs) (digits_found 8 (omega arith) bs))
    eight false is = sixteen ((eqb b 49) && (eqb c 54)) refl

    two : (t : Bool) → ((eqb b 50) && (eqb c 35))
        ≡ t → Found IsUnsigned (b ∷ c ∷ bs)
        (cond t (digits 2 bs)
        (cond ((eqb b 56) && (eqb c 35)) (digits 8 bs) (cond ((eqb b 49) && (eqb c 54)) (hexadecimal bs) None)))
    two true is = let p = both (eqb b 50) (eqb c 35) is in let x = eqb-true b 50 p.0 in let y = eqb-true c 35 p.1 in
        rw (x, y) (lifted (forms.Digits 2) IsUnsigned (codes "2#") bs (λ u n h. forms.IsUnsigned.binary u n h)
        (digits 2 bs) (digits_found 2 (omega arith) bs))
    two false is = eight ((eqb b 56) && (eqb c 35)) refl

either_found : (bs : List ℕ) (a b : Option (ℕ × List ℕ)) → Found IsUnsigned bs a → Found IsUnsigned bs b
    → Found IsUnsigned bs (option_or a b)
either_found bs None b h k = k
either_found bs (Some read) b h k = h

as_decimal : (bs : List ℕ) (o : Option (ℕ × List ℕ)) → Found (forms.Digits 10) bs o → Found IsUnsigned bs o
as_decimal bs None h = tt
as_decimal bs (Some read) h = (h.0, h.1, h.2, forms.IsUnsigned.decimal h.0 h.1 h.3, h.4)

pub unsigned_found : (bs : List ℕ) → Found IsUnsigned bs (unsigned bs)
unfolding unsigned
unsigned_found bs =
    either_found bs (based bs) (digits 10 bs) (based_found bs)
    (as_decimal bs (digits 10 bs) (digits_found 10 (omega arith) bs))

-- ---- words

abbrev pub WordAt : List ℕ → List ℕ → Option (List ℕ) → Type 0
WordAt word bs None = Unit {0}
WordAt word bs (Some rest) = (p : List ℕ) × (bs ≡ p ++ rest) × Reads word p

one_letter : (w b : ℕ) (ws bs : List ℕ) (o : Option (List ℕ)) → to_ascii_lowercase b ≡ w → WordAt ws bs o
    → WordAt (w ∷ ws) (b ∷ bs) o
one_letter w b ws bs None e h = tt
one_letter w b ws bs (Some rest) e h = (b ∷ h.0, ap (λ (z : List ℕ). b ∷ z) h.1, let r = h.2 in cc)

pub word_found : (word bs : List ℕ) → WordAt word bs (after_word word bs)
word_found [] bs = ([], refl, refl)
word_found (w ∷ ws) [] = tt
word_found (w ∷ ws) (b ∷ bs) = go (eqb (to_ascii_lowercase b) w) refl (word_found ws bs)
  where
    go : (t : Bool) → eqb (to_ascii_lowercase b) w ≡ t → WordAt ws bs (after_word ws bs)
        → WordAt (w ∷ ws) (b ∷ bs) (cond t (after_word ws bs) None)
    go true is h = one_letter w b ws bs (after_word ws bs) (eqb-true (to_ascii_lowercase b) w is) h
    go false is h = tt

pub name_found : (bs : List ℕ) → (v : List ℕ) × (bs ≡ v ++ after_name bs) × forms.AreNameBytes v
name_found [] = ([], refl, tt)
name_found (b ∷ bs) = go (is_name_byte b) refl (name_found bs)
  where
    go : (t : Bool) → is_name_byte b ≡ t → (v : List ℕ) × (bs ≡ v ++ after_name bs) × forms.AreNameBytes v
        → (v : List ℕ) × (b ∷ bs ≡ v ++ cond t (after_name bs) (b ∷ bs)) × forms.AreNameBytes v
    go true is h = (b ∷ h.0, ap (λ (z : List ℕ). b ∷ z) h.1, (is, h.2))
    go false is h = ([], refl, tt)

-- ---- addresses

abbrev KindAt : List ℕ → Option (AddressKind × List ℕ) → Type 0
KindAt bs None = Unit {0}
KindAt bs (Some read) = (p : List ℕ) × (bs ≡ p ++ read.1) × Reads (forms.prefix_of read.0) p

kind_is : (bs : List ℕ) (kind : AddressKind) (o : Option (List ℕ)) → WordAt (forms.prefix_of kind) bs o
    → KindAt bs (is_kind kind o)
kind_is bs kind None h = tt
kind_is bs kind (Some rest) h = h

kind_either : (bs : List ℕ) (a b : Option (AddressKind × List ℕ)) → KindAt bs a → KindAt bs b
    → KindAt bs (option_or a b)
kind_either bs None b h k = k
kind_either bs (Some read) b h k = h

kind_found : (bs : List ℕ) → KindAt bs (kind_at bs)
unfolding kind_at
kind_found bs =
    kind_either bs _ _ (kind_is bs kinds.OutputByte (after_word (codes "%qb") bs) (word_found (codes "%qb") bs))
    (kind_either bs _ _ (kind_is bs kinds.InputWord (after_word (codes "%iw") bs) (word_found (codes "%iw") bs))
    (kind_is bs kinds.InputBit (after_word (codes "%ix") bs) (word_found (codes "%ix") bs)))

-- an address whose numbers are kept at 64 bits
abbrev pub AddressAt : List ℕ → Option AddressParts → Type 0
AddressAt bs None = Unit {0}
AddressAt bs (Some p) =
    (v : List ℕ) × (bus place : ℕ) × (bs ≡ v ++ p.rest) × forms.IsAddress v p.kind bus place × (p.bus ≡ capped bus) ×
    (p.place ≡ capped place)

module _ (bs : List ℕ) (kind : AddressKind) (prefix numbers : List ℕ) (begins : bs ≡ prefix ++ numbers)
    (reads : Reads (forms.prefix_of kind) prefix) where
  module _ (held bus : ℕ) (first dot : List ℕ) (on_bus : forms.PlainDigits first bus) (is : numbers ≡ first ++ dot)
      (kept : held ≡ capped bus) where
    placed : (others : List ℕ) (o : Option (ℕ × List ℕ)) → dot ≡ 46 ∷ others → Found forms.PlainDigits others o
        → AddressAt bs (with_place kind held o)
    placed others None e h = tt
    placed others (Some read) e h = (
      prefix ++ first ++ codes "." ++ h.0,
      bus,
      h.1,
      begins ∙ ap (λ (z : List ℕ). prefix ++ z)
          (is ∙ ap (λ (z : List ℕ). first ++ z) (e ∙ ap (λ (z : List ℕ). 46 ∷ z) h.2)) ∙ regroup h.0 read.1,
      record {
        prefix = prefix;
        first = first;
        second = h.0;
        parts = refl;
        reads = reads;
        on_bus = on_bus;
        at_place = h.3;
      },
      kept,
      h.4,
    )
      where
        regroup : (u rest : List ℕ)
            → prefix ++ (first ++ 46 ∷ (u ++ rest)) ≡ ((prefix ++ first) ++ codes "." ++ u) ++ rest
        regroup u rest = simp append_assoc

    dotted : (ds : List ℕ) → dot ≡ ds → AddressAt bs (after_dot kind held ds)
    dotted [] e = tt
    dotted (b ∷ others) e = go (eqb b 46) refl
      where
        go : (t : Bool) → eqb b 46 ≡ t → AddressAt bs (cond t (with_place kind held (plain others)) None)
        go true same = placed others (plain others) (let x = eqb-true b 46 same in rw (← x) e) (plain_found others)
        go false same = tt

  bussed : (o : Option (ℕ × List ℕ)) → Found forms.PlainDigits numbers o → AddressAt bs (with_bus kind o)
  bussed None h = tt
  bussed (Some read) h = dotted read.0 h.1 h.0 read.1 h.3 h.2 h.4 read.1 refl

pub address_found : (bs : List ℕ) → AddressAt bs (address bs)
unfolding address
address_found bs = go (kind_at bs) (kind_found bs)
  where
    go : (o : Option (AddressKind × List ℕ)) → KindAt bs o → AddressAt bs (with_kind o)
    go None h = tt
    go (Some read) h = bussed bs read.0 h.0 read.1 h.1 h.2 (plain read.1) (plain_found read.1)
