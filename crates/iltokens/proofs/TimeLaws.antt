-- What is read as a duration spells it.
use Rattle.std.proofs.Common.{◌≡◌, ℕ, ◌+◌, ◌-◌, ◌*◌, ◌^◌, ◌<◌, ◌≤◌, min, Bool, true, false, cond, eqb, leb, List, []}
use Rattle.std.proofs.Common.{◌∷◌, ◌++◌, Option, Some, None, ◌&&◌, ◌⊎◌, inl, inr, refl, sym, ap, ◌∙◌, append_assoc}
use Rattle.std.proofs.Common.{arith, eqb-true}
use Rattle.std.specs.Prelude.{codes}
use Rattle.std.specs.Option.{option_or}
use Rattle.std.proofs.Math.Nat.{le-mul_of_pos_right}
use Rattle.std.proofs.lemmas.Bool.{leb-true, leb-false}
use Rattle.iltokens.specs.declared.time.Unit.{Unit}
use Rattle.iltokens.specs.declared.time.Unit.TheVariants as units
use Rattle.iltokens.specs.DigitSteps.{digits}
use Rattle.iltokens.specs.WordSteps.{after_word}
use Rattle.iltokens.specs.Times.{milliseconds}
use Rattle.iltokens.specs.TimeSteps.{nothing_after, after_unit, scaled, with_unit, part, Parts, after_mark, parts_begin}
use Rattle.iltokens.specs.TimeSteps.{added, with_part, parts, after_prefix, if_some, time_after, time}
use Rattle.iltokens.specs.Spellings as forms
use Rattle.iltokens.specs.Spellings.{Reads, IsPart, AreParts, IsTime}
use Rattle.iltokens.proofs.DigitLaws.{capped, Found, digits_found}
use Rattle.iltokens.proofs.Spelled.{WordAt, word_found}

-- ---- a part

unless : (word bs : List ℕ) (a b : Option (List ℕ)) → WordAt word bs b → WordAt word bs (nothing_after a b)
unless word bs None b h = h
unless word bs (Some rest) b h = tt

unit_found : (unit : Unit) (bs : List ℕ) → WordAt (forms.letters unit) bs (after_unit unit bs)
unfolding after_unit
unit_found units.Day bs = word_found (codes "d") bs
unit_found units.Hour bs = word_found (codes "h") bs
unit_found units.Minute bs =
    unless (codes "m") bs (after_word (codes "ms") bs) (after_word (codes "m") bs) (word_found (codes "m") bs)
unit_found units.Second bs = word_found (codes "s") bs
unit_found units.Millisecond bs = word_found (codes "ms") bs

pub times_capped : (n base : ℕ) → n ≤ n * base → 0 < base
    → min (min n (2 ^ 64 - 1) * base) (2 ^ 64 - 1) ≡ min (n * base) (2 ^ 64 - 1)
times_capped n base le lt = go (leb n (2 ^ 64 - 1)) refl
  where
    go : (t : Bool) → leb n (2 ^ 64 - 1) ≡ t
        → min (min n (2 ^ 64 - 1) * base) (2 ^ 64 - 1) ≡ min (n * base) (2 ^ 64 - 1)
    go true is = let low = leb-true n (2 ^ 64 - 1) is in let e : min n (2 ^ 64 - 1) ≡ n = omega arith in rw e refl
    go false is =
        let high = leb-false n (2 ^ 64 - 1) is in
        let e : min n (2 ^ 64 - 1) ≡ 2 ^ 64 - 1 = omega arith in
        rw e (omega arith)

pub some_time : (unit : Unit) → 0 < milliseconds unit
some_time units.Day = omega arith
some_time units.Hour = omega arith
some_time units.Minute = omega arith
some_time units.Second = omega arith
some_time units.Millisecond = omega arith

pub scale_grows : (unit : Unit) (count : ℕ) → count ≤ count * milliseconds unit
scale_grows unit count = le-mul_of_pos_right count (some_time unit)

scaled_found : (unit : Unit) (bs number others : List ℕ) (count held : ℕ) (o : Option (List ℕ)) → bs ≡ number ++ others
    → forms.Digits 10 number count → held
    ≡ capped count → WordAt (forms.letters unit) others o → Found (IsPart unit) bs (scaled unit held o)
scaled_found unit bs number others count held None e are kept w = tt
scaled_found unit bs number others count held (Some rest) e are kept w = (
  number ++ w.0,
  count * milliseconds unit,
  e ∙ ap (λ (z : List ℕ). number ++ z) w.1 ∙ sym (append_assoc number w.0 rest),
  record { number = number; count = count; word = w.0; parts = refl; digits = are; reads = w.2; scaled = refl },
  rw kept (times_capped count (milliseconds unit) (scale_grows unit count) (some_time unit)),
)

pub part_found : (unit : Unit) (bs : List ℕ) → Found (IsPart unit) bs (part unit bs)
unfolding part
part_found unit bs = go (digits 10 bs) (digits_found 10 (omega arith) bs)
  where
    go : (o : Option (ℕ × List ℕ)) → Found (forms.Digits 10) bs o → Found (IsPart unit) bs (with_unit unit o)
    go None h = tt
    go (Some read) h =
        scaled_found unit bs h.0 read.1 h.1 read.0 (after_unit unit read.1) h.2 h.3 h.4 (unit_found unit read.1)

-- ---- the parts so far

abbrev GoodWhen : Bool → ℕ → List ℕ → ℕ → List ℕ → Type 0
GoodWhen false limit bs total rest = (rest ≡ bs) × (total ≡ 0)
GoodWhen true limit bs total rest =
    (v : List ℕ) × (value least : ℕ) × (bs ≡ v ++ rest) × AreParts least v value × (total ≡ capped value) ×
    (limit ≤ least)

abbrev Good : ℕ → List ℕ → Parts → Type 0
Good limit bs p = GoodWhen p.some limit bs p.total p.rest

fewer : (some : Bool) (limit less : ℕ) (bs : List ℕ) (total : ℕ) (rest : List ℕ) → less < limit
    → GoodWhen some limit bs total rest
    → GoodWhen some less bs total rest
fewer false limit less bs total rest lt h = h
fewer true limit less bs total rest lt h = (h.0, h.1, h.2, h.3, h.4, h.5, let le = h.6 in omega arith)

unmarked : (rest : List ℕ) → after_mark false rest ≡ rest
unmarked [] = refl
unmarked (b ∷ bs) = go (eqb b 95)
  where
    go : (t : Bool) → cond (t && false) bs (b ∷ bs) ≡ b ∷ bs
    go true = refl
    go false = refl

delimiters : (rest : List ℕ) → (rest ≡ after_mark true rest) ⊎ (rest ≡ 95 ∷ after_mark true rest)
delimiters [] = inl refl
delimiters (b ∷ bs) = go (eqb b 95) refl
  where
    go : (t : Bool) → eqb b 95 ≡ t
        → (b ∷ bs ≡ cond (t && true) bs (b ∷ bs)) ⊎ (b ∷ bs ≡ 95 ∷ cond (t && true) bs (b ∷ bs))
    go true is = let x = eqb-true b 95 is in inr (rw x refl)
    go false is = inl refl

abbrev pub state : ℕ → Bool → List ℕ → Parts
state total some rest = record { total = total; some = some; rest = rest }

pub summed : (total held value n : ℕ) → total ≡ capped value → held ≡ capped n
    → min (total + held) (2 ^ 64 - 1) ≡ capped (value + n)
summed total held value n e f = omega arith

module _ (unit : Unit) (limit : ℕ) (lt : milliseconds unit < limit) (bs : List ℕ) where
  one_part : (some : Bool) (total : ℕ) (rest : List ℕ) → GoodWhen some limit bs total rest → (o : Option (ℕ × List ℕ))
      → Found (IsPart unit) (after_mark some rest) o → Good (milliseconds unit) bs (added (state total some rest) o)
  one_part some total rest h None f = fewer some limit (milliseconds unit) bs total rest lt h
  one_part false total rest h (Some read) f = (
    f.0,
    f.1,
    milliseconds unit,
    sym h.0 ∙ sym (unmarked rest) ∙ f.2,
    AreParts.first unit f.0 f.1 f.3,
    (let a = h.1 in let b = f.4 in omega arith),
    omega arith,
  )
  one_part true total rest h (Some read) f = go (delimiters rest)
    where
      smaller : milliseconds unit < h.2
      smaller = let le = h.6 in omega arith

      go : (rest ≡ after_mark true rest) ⊎ (rest ≡ 95 ∷ after_mark true rest)
          → Good (milliseconds unit) bs (added (state total true rest) (Some read))
      go (inl e) = (
        h.0 ++ f.0,
        h.1 + f.1,
        milliseconds unit,
        h.3 ∙ ap (λ (z : List ℕ). h.0 ++ z) (e ∙ f.2) ∙ sym (append_assoc h.0 f.0 read.1),
        AreParts.then h.2 h.0 h.1 unit f.0 f.1 h.4 smaller f.3,
        summed total read.0 h.1 f.1 h.5 f.4,
        omega arith,
      )
      go (inr e) = (
        h.0 ++ 95 ∷ f.0,
        h.1 + f.1,
        milliseconds unit,
        h.3 ∙ ap (λ (z : List ℕ). h.0 ++ z) (e ∙ ap (λ (z : List ℕ). 95 ∷ z) f.2) ∙ sym
            (append_assoc h.0 (95 ∷ f.0) read.1),
        AreParts.apart h.2 h.0 h.1 unit f.0 f.1 h.4 smaller f.3,
        summed total read.0 h.1 f.1 h.5 f.4,
        omega arith,
      )

  step : (p : Parts) → Good limit bs p → Good (milliseconds unit) bs (with_part unit p)
  unfolding with_part parts_begin
  step p h =
      one_part p.some p.total p.rest h (part unit (after_mark p.some p.rest))
      (part_found unit (after_mark p.some p.rest))

all_good : (bs : List ℕ) → Good 1 bs (parts bs)
unfolding parts
all_good bs =
    step units.Millisecond 1000 (omega arith) bs _
    (step units.Second 60000 (omega arith) bs _
    (step units.Minute 3600000 (omega arith) bs _
    (step units.Hour 86400000 (omega arith) bs _
    (step units.Day 86400001 (omega arith) bs (state 0 false bs) (refl, refl)))))

-- ---- the whole duration

abbrev PrefixAt : List ℕ → Option (List ℕ) → Type 0
PrefixAt bs None = Prim.Unit {0}
PrefixAt bs (Some rest) = (p : List ℕ) × (bs ≡ p ++ rest) × (Reads (codes "t#") p ⊎ Reads (codes "time#") p)

prefix_either : (bs : List ℕ) (a b : Option (List ℕ)) → WordAt (codes "t#") bs a → WordAt (codes "time#") bs b
    → PrefixAt bs (option_or a b)
prefix_either bs (Some rest) b h k = (h.0, h.1, inl h.2)
prefix_either bs None (Some rest) h k = (k.0, k.1, inr k.2)
prefix_either bs None None h k = tt

time_is : (bs p rest : List ℕ) → bs ≡ p ++ rest → (Reads (codes "t#") p ⊎ Reads (codes "time#") p) → (q : Parts)
    → Good 1 rest q → Found IsTime bs (if_some q)
time_is bs p rest e reads q h = go q.some q.total q.rest h
  where
    go : (some : Bool) (total : ℕ) (others : List ℕ) → GoodWhen some 1 rest total others
        → Found IsTime bs (if_some (state total some others))
    go false total others h = tt
    go true total others h = (
      p ++ h.0,
      h.1,
      e ∙ ap (λ (z : List ℕ). p ++ z) h.3 ∙ sym (append_assoc p h.0 others),
      record { prefix = p; least = h.2; others = h.0; parts = refl; reads = reads; are = h.4 },
      h.5,
    )

pub time_found : (bs : List ℕ) → Found IsTime bs (time bs)
unfolding time after_prefix
time_found bs =
    go (after_prefix bs) (prefix_either bs (after_word (codes "t#") bs) (after_word (codes "time#") bs)
    (word_found (codes "t#") bs) (word_found (codes "time#") bs))
  where
    go : (o : Option (List ℕ)) → PrefixAt bs o → Found IsTime bs (time_after o)
    go None h = tt
    go (Some rest) h = time_is bs h.0 rest h.1 h.2 (parts rest) (all_good rest)
