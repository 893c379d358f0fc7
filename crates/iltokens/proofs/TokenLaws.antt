-- What is reported at the front of some bytes is spelled there, in its limits or outside them.
use Rattle.std.proofs.Common.{◌≡◌, pos, neg_ℤ, ℕ, suc, ◌-◌, ◌^◌, ◌<◌, ◌≤◌, Bool, true, false, cond, eqb, leb, ltb, List}
use Rattle.std.proofs.Common.{[], ◌∷◌, ◌++◌, length, take, Option, Some, None, ◌&&◌, ◌||◌, ◌⊎◌, inl, inr, refl, sym, ap}
use Rattle.std.proofs.Common.{subst, ◌∙◌, append_assoc, arith, eqb-true}
use Rattle.std.specs.Prelude.{codes}
use Rattle.std.proofs.lemmas.Bool.{leb-true, leb-false, ltb-true, ltb-false}
use Rattle.iltokens.specs.declared.lexed.What.{What}
use Rattle.iltokens.specs.declared.lexed.What.TheVariants as whats
use Rattle.iltokens.specs.declared.lexed.LexicalCause.TheVariants.{BadNumber}
use Rattle.iltokens.specs.Digits.{is_digit}
use Rattle.iltokens.specs.NumberSteps.{unsigned, signed}
use Rattle.iltokens.specs.TimeSteps.{time}
use Rattle.iltokens.specs.AddressSteps.{AddressParts, address}
use Rattle.iltokens.specs.Letters.{is_letter}
use Rattle.iltokens.specs.WordSteps.{after_name}
use Rattle.iltokens.specs.FrontSteps.{Front, end, taken, fault, in_limits, number_front, number_at, word_front}
use Rattle.iltokens.specs.FrontSteps.{time_front, word_at, address_front, address_at, colon_at, dot_at, ampersand_at}
use Rattle.iltokens.specs.FrontSteps.{return_at, delimiter_at, front_at}
use Rattle.iltokens.specs.Spellings.{Spells, IsUnsigned, IsNumber, IsTime, IsAddress}
use Rattle.iltokens.specs.Spellings as forms
use Rattle.iltokens.specs.Longest.{IsWithin}
use Rattle.iltokens.proofs.Comments.{either}
use Rattle.iltokens.proofs.DigitLaws.{capped, Found}
use Rattle.iltokens.proofs.ReservedWords.{word_spelled, word_within, front_taken}
use Rattle.iltokens.proofs.Spelled.{unsigned_found, name_found, AddressAt, address_found}
use Rattle.iltokens.proofs.TimeLaws.{time_found}
use Rattle.iltokens.proofs.FrontsAgain.{rest_of, place_rest, word_rest, front_rest, rest_at, fits_pos, pos_fits}
use Rattle.iltokens.proofs.FrontsAgain.{fits_neg, neg_fits}

-- what is reported at the front, and what stands after it
abbrev pub Reported : List ℕ → Front → Option (List ℕ) → Type 0
Reported bs end None = bs ≡ []
Reported bs end (Some r) = ⊥
Reported bs (taken what rest) None = ⊥
Reported bs (taken what rest) (Some r) = (v : List ℕ) × (rest ≡ r) × (bs ≡ v ++ r) × Spells what v × IsWithin what
Reported bs (fault BadNumber) None = ⊥
Reported bs (fault BadNumber) (Some r) = (v : List ℕ) × (what : What) × (bs ≡ v ++ r) × Spells what v
    × ¬ IsWithin what
Reported bs (fault cause) None = Unit {0}
Reported bs (fault cause) (Some r) = ⊥

chosen : (t : Bool) (bs : List ℕ) (x y : Front) (p q : Option (List ℕ)) → (t ≡ true → Reported bs x p)
    → (t ≡ false → Reported bs y q)
    → Reported bs (cond t x y) (cond t p q)
chosen true bs x y p q h k = h refl
chosen false bs x y p q h k = k refl

marked : (t : Bool) (bs : List ℕ) (x y : Front) → (t ≡ true → Reported bs x (front_rest x))
    → (t ≡ false → Reported bs y (front_rest y))
    → Reported bs (cond t x y) (front_rest (cond t x y))
marked true bs x y h k = h refl
marked false bs x y h k = k refl

-- ---- numbers

at_least : (held value n : ℕ) → held ≡ capped value → n ≤ held → n ≤ value
at_least held value n e le = omega arith

exactly : (held value n : ℕ) → held ≡ capped value → held ≤ n → n < 2 ^ 64 - 1 → value ≡ held
exactly held value n e le lt = omega arith

positive_front : (w bs : List ℕ) → ((u : List ℕ) (n : ℕ) → IsUnsigned u n → IsNumber (w ++ u) (pos n))
    → (o : Option (ℕ × List ℕ))
    → Found IsUnsigned bs o → Reported (w ++ bs) (number_front false o) (rest_of o)
unfolding signed
positive_front w bs make None h = tt
positive_front w bs make (Some read) h = go (ltb read.0 (2 ^ 63)) refl
  where
    parts : w ++ bs ≡ (w ++ h.0) ++ read.1
    parts = ap (λ (z : List ℕ). w ++ z) h.2 ∙ sym (append_assoc w h.0 read.1)

    go : (t : Bool) → ltb read.0 (2 ^ 63) ≡ t
        → Reported (w ++ bs) (in_limits (cond t (Some (pos read.0)) None) read.1) (Some read.1)
    go true is =
        let lt = ltb-true read.0 (2 ^ 63) is in
        let same : h.1 ≡ read.0 = exactly read.0 h.1 (2 ^ 63) h.4 (omega arith) (omega arith) in (
          w ++ h.0,
          refl,
          parts,
          subst (λ (n : ℕ). IsNumber (w ++ h.0) (pos n)) same
              (make h.0 h.1 h.3),
          fits_pos read.0 lt,
        )
    go false is =
        let high : 2 ^ 63 ≤ read.0 = ltb-false read.0 (2 ^ 63) is in
        let much = at_least read.0 h.1 (2 ^ 63) h.4 high in
        (w ++ h.0, whats.Number (pos h.1), parts, make h.0 h.1 h.3, λ fits. (let lt = pos_fits h.1 fits in omega arith))

negative_front : (w bs : List ℕ) → ((u : List ℕ) (n : ℕ) → IsUnsigned u n → IsNumber (w ++ u) (neg_ℤ (pos n)))
    → (o : Option (ℕ × List ℕ))
    → Found IsUnsigned bs o → Reported (w ++ bs) (number_front true o) (rest_of o)
unfolding signed
negative_front w bs make None h = tt
negative_front w bs make (Some read) h = go (leb read.0 (2 ^ 63)) refl
  where
    parts : w ++ bs ≡ (w ++ h.0) ++ read.1
    parts = ap (λ (z : List ℕ). w ++ z) h.2 ∙ sym (append_assoc w h.0 read.1)

    go : (t : Bool) → leb read.0 (2 ^ 63) ≡ t
        → Reported (w ++ bs) (in_limits (cond t (Some (neg_ℤ (pos read.0))) None) read.1) (Some read.1)
    go true is =
        let le = leb-true read.0 (2 ^ 63) is in
        let same : h.1 ≡ read.0 = exactly read.0 h.1 (2 ^ 63) h.4 le (omega arith) in (
          w ++ h.0,
          refl,
          parts,
          subst (λ (n : ℕ). IsNumber (w ++ h.0) (neg_ℤ (pos n))) same
              (make h.0 h.1 h.3),
          fits_neg read.0 le,
        )
    go false is =
        let high : 2 ^ 63 < read.0 = leb-false read.0 (2 ^ 63) is in
        let much = at_least read.0 h.1 (suc (2 ^ 63)) h.4 high in (
          w ++ h.0,
          whats.Number (neg_ℤ (pos h.1)),
          parts,
          make h.0 h.1 h.3,
          λ fits.
              (let le = neg_fits h.1 fits in omega arith),
        )

plain_number : (bs : List ℕ) → Reported bs (number_at false bs) (rest_of (unsigned bs))
unfolding number_at
plain_number bs = positive_front [] bs (λ u n h. IsNumber.plain u n h) (unsigned bs) (unsigned_found bs)

plus_number : (bs : List ℕ) → Reported (43 ∷ bs) (number_at false bs) (rest_of (unsigned bs))
unfolding number_at
plus_number bs = positive_front (codes "+") bs (λ u n h. IsNumber.positive u n h) (unsigned bs) (unsigned_found bs)

minus_number : (bs : List ℕ) → Reported (45 ∷ bs) (number_at true bs) (rest_of (unsigned bs))
unfolding number_at
minus_number bs = negative_front (codes "-") bs (λ u n h. IsNumber.negative u n h) (unsigned bs) (unsigned_found bs)

-- ---- words and durations

reported_word : (bs u rest : List ℕ) → bs ≡ u ++ rest → forms.IsName u → Reported bs (word_front bs rest) (Some rest)
reported_word bs u rest parts name =
    let same : take (length bs - length rest) bs ≡ u = front_taken bs u rest parts in
    (u, refl, parts, rw same (word_spelled u name), rw same (word_within u))

word_reported : (b : ℕ) (bs : List ℕ) → is_letter b ≡ true
    → Reported (b ∷ bs) (word_at (b ∷ bs)) (Some (word_rest (time (b ∷ bs)) (b ∷ bs)))
unfolding word_at
word_reported b bs letter = go (time (b ∷ bs)) (time_found (b ∷ bs))
  where
    limited : (read : ℕ × List ℕ) → Found IsTime (b ∷ bs) (Some read) → (t : Bool) → leb read.0 4294967295 ≡ t
        → Reported (b ∷ bs) (cond t (taken (whats.Time read.0) read.1) (fault BadNumber)) (Some read.1)
    limited read h true is =
        let le = leb-true read.0 4294967295 is in
        let same : h.1 ≡ read.0 = exactly read.0 h.1 4294967295 h.4 le (omega arith) in
        (h.0, refl, h.2, subst (λ (n : ℕ). IsTime h.0 n) same h.3, omega arith)
    limited read h false is =
        let high : 4294967295 < read.0 = leb-false read.0 4294967295 is in
        let much = at_least read.0 h.1 (2 ^ 32) h.4 (omega arith) in
        (h.0, whats.Time h.1, h.2, h.3, λ fits. omega arith)

    go : (o : Option (ℕ × List ℕ)) → Found IsTime (b ∷ bs) o
        → Reported (b ∷ bs) (time_front o (b ∷ bs)) (Some (word_rest o (b ∷ bs)))
    go None h =
        let n = name_found bs in
        let parts : b ∷ bs ≡ (b ∷ n.0) ++ after_name bs = ap (λ (z : List ℕ). b ∷ z) n.1 in
        reported_word (b ∷ bs) (b ∷ n.0) (after_name bs) parts (letter, n.2)
    go (Some read) h = limited read h (leb read.0 4294967295) refl

-- ---- addresses

address_reported : (bs : List ℕ) → Reported bs (address_at bs) (place_rest (address bs))
unfolding address_at
address_reported bs = go (address bs) (address_found bs)
  where
    go : (o : Option AddressParts) → AddressAt bs o → Reported bs (address_front o) (place_rest o)
    go None h = tt
    go (Some p) h = limited (ltb p.bus (2 ^ 63)) (ltb p.place (2 ^ 63)) refl refl
      where
        limited : (x y : Bool) → ltb p.bus (2 ^ 63) ≡ x → ltb p.place (2 ^ 63) ≡ y
            → Reported bs (cond (x && y) (taken (whats.Address p.kind p.bus p.place) p.rest) (fault BadNumber))
            (Some p.rest)
        limited true true e f =
            let one = ltb-true p.bus (2 ^ 63) e in
            let other = ltb-true p.place (2 ^ 63) f in
            let bus : h.1 ≡ p.bus = exactly p.bus h.1 (2 ^ 63) h.5 (omega arith) (omega arith) in
            let place : h.2 ≡ p.place = exactly p.place h.2 (2 ^ 63) h.6 (omega arith) (omega arith) in (
              h.0,
              refl,
              h.3,
              subst (λ (n : ℕ). IsAddress h.0 p.kind p.bus n) place
                  (subst (λ (n : ℕ). IsAddress h.0 p.kind n h.2) bus h.4),
              (one, other),
            )
        limited true false e f =
            let much = at_least p.place h.2 (2 ^ 63) h.6 (ltb-false p.place (2 ^ 63) f) in
            (h.0, whats.Address p.kind h.1 h.2, h.3, h.4, λ fits. (let lt = fits.1 in omega arith))
        limited false y e f =
            let much = at_least p.bus h.1 (2 ^ 63) h.5 (ltb-false p.bus (2 ^ 63) e) in
            (h.0, whats.Address p.kind h.1 h.2, h.3, h.4, λ fits. (let lt = fits.0 in omega arith))

-- ---- delimiters

abbrev DelimiterReported : List ℕ → Front → Type 0
DelimiterReported bs f = Reported bs f (front_rest f)

colon_reported : (bs : List ℕ) → DelimiterReported (58 ∷ bs) (colon_at bs)
colon_reported [] = (58 ∷ [], refl, refl, refl, tt)
colon_reported (c ∷ bs) =
    marked (eqb c 61) (58 ∷ c ∷ bs) _ _ (λ e. let x = eqb-true c 61 e in (58 ∷ c ∷ [], refl, refl, rw x refl, tt))
    (λ e. (58 ∷ [], refl, refl, refl, tt))

dot_reported : (bs : List ℕ) → DelimiterReported (46 ∷ bs) (dot_at bs)
dot_reported [] = (46 ∷ [], refl, refl, refl, tt)
dot_reported (c ∷ bs) =
    marked (eqb c 46) (46 ∷ c ∷ bs) _ _ (λ e. let x = eqb-true c 46 e in (46 ∷ c ∷ [], refl, refl, rw x refl, tt))
    (λ e. (46 ∷ [], refl, refl, refl, tt))

ampersand_reported : (bs : List ℕ) → DelimiterReported (38 ∷ bs) (ampersand_at bs)
ampersand_reported [] = (38 ∷ [], refl, refl, refl, tt)
ampersand_reported (c ∷ bs) =
    marked ((eqb c 78) || (eqb c 110)) (38 ∷ c ∷ bs) _ _
    (λ e. (38 ∷ c ∷ [], refl, refl, letter (either (eqb c 78) (eqb c 110) e), tt))
    (λ e. (38 ∷ [], refl, refl, refl, tt))
  where
    letter : (eqb c 78 ≡ true) ⊎ (eqb c 110 ≡ true) → forms.Reads (codes "&n") (38 ∷ c ∷ [])
    letter (inl e) = let x = eqb-true c 78 e in rw x refl
    letter (inr e) = let x = eqb-true c 110 e in rw x refl

return_reported : (bs : List ℕ) → DelimiterReported (13 ∷ bs) (return_at bs)
return_reported [] = tt
return_reported (c ∷ bs) =
    marked (eqb c 10) (13 ∷ c ∷ bs) _ _ (λ e. let x = eqb-true c 10 e in (13 ∷ c ∷ [], refl, refl, inr (rw x refl), tt))
    (λ e. tt)

delimiter_reported : (b : ℕ) (bs : List ℕ) → DelimiterReported (b ∷ bs) (delimiter_at (b ∷ bs))
unfolding delimiter_at
delimiter_reported b bs =
    marked (eqb b 44) (b ∷ bs) _ _ (λ e. let x = eqb-true b 44 e in (b ∷ [], refl, refl, rw x refl, tt)) (λ e.
    marked (eqb b 59) (b ∷ bs) _ _ (λ e. let x = eqb-true b 59 e in (b ∷ [], refl, refl, rw x refl, tt)) (λ e.
    marked (eqb b 40) (b ∷ bs) _ _ (λ e. let x = eqb-true b 40 e in (b ∷ [], refl, refl, rw x refl, tt)) (λ e.
    marked (eqb b 41) (b ∷ bs) _ _ (λ e. let x = eqb-true b 41 e in (b ∷ [], refl, refl, rw x refl, tt)) (λ e.
    marked (eqb b 58) (b ∷ bs) _ _
    (λ e. let x = eqb-true b 58 e in subst (λ (d : ℕ). DelimiterReported (d ∷ bs) (colon_at bs)) (sym x)
    (colon_reported bs))
    (λ e.
    marked (eqb b 46) (b ∷ bs) _ _
    (λ e. let x = eqb-true b 46 e in subst (λ (d : ℕ). DelimiterReported (d ∷ bs) (dot_at bs)) (sym x)
    (dot_reported bs)) (λ e.
    marked (eqb b 38) (b ∷ bs) _ _
    (λ e. let x = eqb-true b 38 e in subst (λ (d : ℕ). DelimiterReported (d ∷ bs) (ampersand_at bs)) (sym x)
    (ampersand_reported bs)) (λ e.
    marked (eqb b 10) (b ∷ bs) _ _ (λ e. let x = eqb-true b 10 e in (b ∷ [], refl, refl, inl (rw x refl), tt)) (λ e.
    marked (eqb b 13) (b ∷ bs) _ _
    (λ e. let x = eqb-true b 13 e in subst (λ (d : ℕ). DelimiterReported (d ∷ bs) (return_at bs)) (sym x)
    (return_reported bs))
    (λ e.
    marked (leb 128 b) (b ∷ bs) _ _ (λ e. tt) (λ e. tt))))))))))

-- ---- all tokens

pub front_reported : (bs : List ℕ) → Reported bs (front_at bs) (rest_at bs)
unfolding front_at
front_reported [] = refl
front_reported (b ∷ bs) =
    chosen (eqb b 43) (b ∷ bs) _ _ _ _
    (λ e. let x = eqb-true b 43 e in subst (λ (d : ℕ). Reported (d ∷ bs) (number_at false bs) (rest_of (unsigned bs)))
    (sym x) (plus_number bs)) (λ e.
    chosen (eqb b 45) (b ∷ bs) _ _ _ _
    (λ e. let x = eqb-true b 45 e in subst (λ (d : ℕ). Reported (d ∷ bs) (number_at true bs) (rest_of (unsigned bs)))
    (sym x) (minus_number bs)) (λ e.
    chosen (eqb b 37) (b ∷ bs) _ _ _ _ (λ e. address_reported (b ∷ bs)) (λ e.
    chosen (is_letter b) (b ∷ bs) _ _ _ _ (λ e. word_reported b bs e) (λ e.
    chosen (is_digit 10 b) (b ∷ bs) _ _ _ _ (λ e. plain_number (b ∷ bs)) (λ e.
    delimiter_reported b bs)))))
