-- Which faults a front may have, and that only the end of the bytes is an end.
use Rattle.std.proofs.Common.{◌≡◌, ℤ, ℕ, ◌+◌, ◌-◌, ◌^◌, ◌<◌, ◌≤◌, Bool, true, false, cond, eqb, leb, ltb, List, [], ◌∷◌}
use Rattle.std.proofs.Common.{◌++◌, length, drop, Option, Some, None, ◌&&◌, ◌||◌, refl, ap, arith, eqb-true}
use Rattle.std.proofs.Common.{length-drop, length-append}
use Rattle.iltokens.specs.declared.lexed.LexicalCause.TheVariants.{NotAscii, BadToken, BadNumber, CommentOpen}
use Rattle.iltokens.specs.Blanks.{AreBlanks}
use Rattle.iltokens.specs.NumberSteps.{unsigned, signed}
use Rattle.iltokens.specs.TimeSteps.{time}
use Rattle.iltokens.specs.AddressSteps.{AddressParts, address}
use Rattle.iltokens.specs.Letters.{is_letter}
use Rattle.iltokens.specs.Digits.{is_digit}
use Rattle.iltokens.specs.FrontSteps.{Front, end, taken, fault, in_limits, number_front, number_at, time_front, word_at}
use Rattle.iltokens.specs.FrontSteps.{address_front, address_at, colon_at, dot_at, ampersand_at, return_at}
use Rattle.iltokens.specs.FrontSteps.{delimiter_at}
use Rattle.iltokens.specs.FrontSteps.{front_at}
use Rattle.iltokens.specs.Tokens.{IsAfterBlanks, BeginsWith}

-- what a front that begins with a byte may be
abbrev pub Fits : ℕ → Front → Type 0
Fits b end = ⊥
Fits b (taken what rest) = Unit {0}
Fits b (fault NotAscii) = 128 ≤ b
Fits b (fault BadToken) = b < 128
Fits b (fault BadNumber) = Unit {0}
Fits b (fault CommentOpen) = ⊥

chosen : (t : Bool) (b : ℕ) (x y : Front) → (t ≡ true → Fits b x) → (t ≡ false → Fits b y) → Fits b (cond t x y)
chosen true b x y h k = h refl
chosen false b x y h k = k refl

limited : (b : ℕ) (o : Option ℤ) (rest : List ℕ) → Fits b (in_limits o rest)
limited b None rest = tt
limited b (Some n) rest = tt

number_fits : (b : ℕ) (negative : Bool) (bs : List ℕ) → b < 128 → Fits b (number_at negative bs)
unfolding number_at
number_fits b negative bs lt = go (unsigned bs)
  where
    go : (o : Option (ℕ × List ℕ)) → Fits b (number_front negative o)
    go None = lt
    go (Some read) = limited b (signed negative read.0) read.1

word_fits : (b : ℕ) (bs : List ℕ) → Fits b (word_at bs)
unfolding word_at
word_fits b bs = go (time bs)
  where
    go : (o : Option (ℕ × List ℕ)) → Fits b (time_front o bs)
    go None = tt
    go (Some read) = chosen (leb read.0 4294967295) b _ _ (λ e. tt) (λ e. tt)

address_fits : (b : ℕ) (bs : List ℕ) → b < 128 → Fits b (address_at bs)
unfolding address_at
address_fits b bs lt = go (address bs)
  where
    go : (o : Option AddressParts) → Fits b (address_front o)
    go None = lt
    go (Some p) = chosen (ltb p.bus (2 ^ 63) && ltb p.place (2 ^ 63)) b _ _ (λ e. tt) (λ e. tt)

colon_fits : (b : ℕ) (bs : List ℕ) → Fits b (colon_at bs)
colon_fits b [] = tt
colon_fits b (c ∷ bs) = chosen (eqb c 61) b _ _ (λ e. tt) (λ e. tt)

dot_fits : (b : ℕ) (bs : List ℕ) → Fits b (dot_at bs)
dot_fits b [] = tt
dot_fits b (c ∷ bs) = chosen (eqb c 46) b _ _ (λ e. tt) (λ e. tt)

ampersand_fits : (b : ℕ) (bs : List ℕ) → Fits b (ampersand_at bs)
ampersand_fits b [] = tt
ampersand_fits b (c ∷ bs) = chosen ((eqb c 78) || (eqb c 110)) b _ _ (λ e. tt) (λ e. tt)

return_fits : (b : ℕ) (bs : List ℕ) → b < 128 → Fits b (return_at bs)
return_fits b [] lt = lt
return_fits b (c ∷ bs) lt = chosen (eqb c 10) b _ _ (λ e. tt) (λ e. lt)

below : (b n : ℕ) → n < 128 → eqb b n ≡ true → b < 128
below b n lt e = let x = eqb-true b n e in omega arith

delimiter_fits : (b : ℕ) (bs : List ℕ) → Fits b (delimiter_at (b ∷ bs))
unfolding delimiter_at
delimiter_fits b bs =
    chosen (eqb b 44) b _ _ (λ e. tt) (λ e.
    chosen (eqb b 59) b _ _ (λ e. tt) (λ e.
    chosen (eqb b 40) b _ _ (λ e. tt) (λ e.
    chosen (eqb b 41) b _ _ (λ e. tt) (λ e.
    chosen (eqb b 58) b _ _ (λ e. colon_fits b bs) (λ e.
    chosen (eqb b 46) b _ _ (λ e. dot_fits b bs) (λ e.
    chosen (eqb b 38) b _ _ (λ e. ampersand_fits b bs) (λ e.
    chosen (eqb b 10) b _ _ (λ e. tt) (λ e.
    chosen (eqb b 13) b _ _ (λ e. return_fits b bs (below b 13 (omega arith) e)) (λ e.
    chosen (leb 128 b) b _ _ (λ e. grind arith) (λ e. grind arith))))))))))

digit_below : (b : ℕ) → is_digit 10 b ≡ true → b < 128
unfolding is_digit
digit_below b e = grind arith

pub front_nil : front_at [] ≡ end
unfolding front_at
front_nil = refl

pub front_fits : (b : ℕ) (bs : List ℕ) → Fits b (front_at (b ∷ bs))
unfolding front_at
front_fits b bs =
    chosen (eqb b 43) b _ _ (λ e. number_fits b false bs (below b 43 (omega arith) e)) (λ e.
    chosen (eqb b 45) b _ _ (λ e. number_fits b true bs (below b 45 (omega arith) e)) (λ e.
    chosen (eqb b 37) b _ _ (λ e. address_fits b (b ∷ bs) (below b 37 (omega arith) e)) (λ e.
    chosen (is_letter b) b _ _ (λ e. word_fits b (b ∷ bs)) (λ e.
    chosen (is_digit 10 b) b _ _ (λ e. number_fits b false (b ∷ bs) (digit_below b e)) (λ e.
    delimiter_fits b bs)))))

-- ---- places

pub after_blanks : (bytes : List ℕ) (at : ℕ) (rest u : List ℕ) (P : List ℕ → Type 0) (place : ℕ) → at ≤ length bytes
    → drop at bytes ≡ u ++ rest
    → AreBlanks u → P rest → place + length rest ≡ length bytes → IsAfterBlanks bytes at place P
after_blanks bytes at rest u P place le e are h there =
    record {
      before = u;
      rest = rest;
      parts = e;
      blanks = are;
      here = omega
          (arith, length-drop at bytes, ap length e, length-append u rest);
      ahead = h;
    }

pub shorter : (bytes : List ℕ) (at : ℕ) (rest u : List ℕ) → drop at bytes ≡ u ++ rest
    → (length bytes - length rest) + length rest ≡ length bytes
shorter bytes at rest u e = omega (arith, length-drop at bytes, ap length e, length-append u rest)

pub begins : (rest : List ℕ) (P : ℕ → Type 0) → ((b : ℕ) (bs : List ℕ) → rest ≡ b ∷ bs → P b) → (rest ≡ [] → ⊥)
    → BeginsWith P rest
begins [] P h n = n refl
begins (b ∷ bs) P h n = h b bs refl
