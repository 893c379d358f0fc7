-- A duration that stands at the front is read, whatever follows it.
use Rattle.std.proofs.Common.{◌≡◌, ℕ, suc, ◌+◌, ◌-◌, ◌*◌, ◌^◌, ◌<◌, ◌≤◌, min, Bool, true, false, cond, eqb, List, []}
use Rattle.std.proofs.Common.{◌∷◌, ◌++◌, length, Option, Some, None, ◌&&◌, ◌⊎◌, inl, inr, refl, sym, ap, subst, ◌∙◌}
use Rattle.std.proofs.Common.{append_assoc, arith, eqb-true}
use Rattle.std.specs.Prelude.{codes}
use Rattle.std.specs.Char.{to_ascii_lowercase}
use Rattle.std.proofs.lemmas.List.{append-nil}
use Rattle.iltokens.specs.declared.time.Unit.{Unit}
use Rattle.iltokens.specs.declared.time.Unit.TheVariants as units
use Rattle.iltokens.specs.Digits.{is_digit}
use Rattle.iltokens.specs.DigitSteps.{digits_from, digits}
use Rattle.iltokens.specs.Times.{milliseconds}
use Rattle.iltokens.specs.TimeSteps.{nothing_after, after_unit, scaled, with_unit, part, Parts, after_mark, parts_begin}
use Rattle.iltokens.specs.TimeSteps.{added, with_part, parts, after_prefix, if_some, time}
use Rattle.iltokens.specs.Spellings as forms
use Rattle.iltokens.specs.Spellings.{Reads, IsPart, AreParts, IsTime}
use Rattle.iltokens.proofs.OverDigits.{stops}
use Rattle.iltokens.proofs.DigitLaws.{capped, Found}
use Rattle.iltokens.proofs.DigitsAgain.{ReadTo, begun, digits_again, stops_at}
use Rattle.iltokens.proofs.WordsAgain.{word_again, word_other}
use Rattle.iltokens.proofs.TimeLaws.{state, part_found, times_capped, some_time, summed, scale_grows}

-- ---- units

-- letters of another unit are not read as those of x
abbrev Apart : Unit → Unit → Type 0
Apart x y = (word rest : List ℕ) → Reads (forms.letters y) word → after_unit x (word ++ rest) ≡ None

abbrev AllApart : Unit → List Unit → Type 0
AllApart x [] = Prim.Unit {0}
AllApart x (y ∷ us) = Apart x y × AllApart x us

-- the units below one
abbrev pub below : Unit → List Unit
below units.Day = units.Hour ∷ units.Minute ∷ units.Second ∷ units.Millisecond ∷ []
below units.Hour = units.Minute ∷ units.Second ∷ units.Millisecond ∷ []
below units.Minute = units.Second ∷ units.Millisecond ∷ []
below units.Second = units.Millisecond ∷ []
below units.Millisecond = []

abbrev all_units : List Unit
all_units = units.Day ∷ below units.Day

none_after : (a b : Option (List ℕ)) → a ≡ None → b ≡ None → nothing_after a b ≡ None
none_after a b e f = rw (e, f) refl

day_apart : (y : Unit) (word rest : List ℕ) → Reads (forms.letters y) word → milliseconds y < 86400000
    → after_unit units.Day (word ++ rest) ≡ None
unfolding after_unit
day_apart units.Day word rest h lt = absurd (omega arith)
day_apart units.Hour word rest h lt = word_other (codes "d") (codes "h") word rest h refl
day_apart units.Minute word rest h lt = word_other (codes "d") (codes "m") word rest h refl
day_apart units.Second word rest h lt = word_other (codes "d") (codes "s") word rest h refl
day_apart units.Millisecond word rest h lt = word_other (codes "d") (codes "ms") word rest h refl

hour_apart : (y : Unit) (word rest : List ℕ) → Reads (forms.letters y) word → milliseconds y < 3600000
    → after_unit units.Hour (word ++ rest) ≡ None
unfolding after_unit
hour_apart units.Day word rest h lt = absurd (omega arith)
hour_apart units.Hour word rest h lt = absurd (omega arith)
hour_apart units.Minute word rest h lt = word_other (codes "h") (codes "m") word rest h refl
hour_apart units.Second word rest h lt = word_other (codes "h") (codes "s") word rest h refl
hour_apart units.Millisecond word rest h lt = word_other (codes "h") (codes "ms") word rest h refl

minute_second : (word rest : List ℕ) → Reads (codes "s") word → after_unit units.Minute (word ++ rest) ≡ None
unfolding after_unit
minute_second word rest h =
    none_after _ _ (word_other (codes "ms") (codes "s") word rest h refl)
    (word_other (codes "m") (codes "s") word rest h refl)

-- `m` before `s` is not a minute
minute_milli : (word rest : List ℕ) → Reads (codes "ms") word → after_unit units.Minute (word ++ rest) ≡ None
unfolding after_unit
minute_milli word rest h = rw (word_again (codes "ms") word rest h) refl

second_milli : (word rest : List ℕ) → Reads (codes "ms") word → after_unit units.Second (word ++ rest) ≡ None
unfolding after_unit
second_milli word rest h = word_other (codes "s") (codes "ms") word rest h refl

-- a unit's own letters are read
abbrev Own : Unit → Type 0
Own x = (word rest : List ℕ) → Reads (forms.letters x) word → after_unit x (word ++ rest) ≡ Some rest

own_day : Own units.Day
unfolding after_unit
own_day word rest h = word_again (codes "d") word rest h

own_hour : Own units.Hour
unfolding after_unit
own_hour word rest h = word_again (codes "h") word rest h

own_second : Own units.Second
unfolding after_unit
own_second word rest h = word_again (codes "s") word rest h

own_milli : Own units.Millisecond
unfolding after_unit
own_milli word rest h = word_again (codes "ms") word rest h

-- an `m` is a minute, unless `s` follows it
abbrev BeginsSecond : List ℕ → Type 0
BeginsSecond bs = (s : ℕ) × (others : List ℕ) × (bs ≡ s ∷ others) × (to_ascii_lowercase s ≡ 115)

own_minute : (word rest : List ℕ) → Reads (codes "m") word
    → (after_unit units.Minute (word ++ rest) ≡ Some rest) ⊎ BeginsSecond rest
unfolding after_unit
own_minute [] rest h = absurd cc
own_minute (m ∷ c ∷ word) rest h = absurd cc
own_minute (m ∷ []) [] h =
    let one : to_ascii_lowercase m ≡ 109 = cc in
    inl (rw one refl)
own_minute (m ∷ []) (s ∷ others) h = go (eqb (to_ascii_lowercase s) 115) refl
  where
    one : to_ascii_lowercase m ≡ 109
    one = cc

    go : (t : Bool) → eqb (to_ascii_lowercase s) 115 ≡ t
        → (after_unit units.Minute (m ∷ s ∷ others) ≡ Some (s ∷ others)) ⊎ BeginsSecond (s ∷ others)
    go true is = inr (s, others, refl, eqb-true (to_ascii_lowercase s) 115 is)
    go false is = inl (rw (one, is) refl)

-- ---- a part

-- no letter of a unit goes on with digits
letters_stop : (x : Unit) (word rest : List ℕ) → Reads (forms.letters x) word
    → (c : ℕ) × (others : List ℕ) × (word ++ rest ≡ c ∷ others) × (100 ≤ to_ascii_lowercase c)
letters_stop units.Day [] rest h = absurd cc
letters_stop units.Day (c ∷ word) rest h =
    (c, word ++ rest, refl, (let one : to_ascii_lowercase c ≡ 100 = cc in omega arith))
letters_stop units.Hour [] rest h = absurd cc
letters_stop units.Hour (c ∷ word) rest h =
    (c, word ++ rest, refl, (let one : to_ascii_lowercase c ≡ 104 = cc in omega arith))
letters_stop units.Minute [] rest h = absurd cc
letters_stop units.Minute (c ∷ word) rest h =
    (c, word ++ rest, refl, (let one : to_ascii_lowercase c ≡ 109 = cc in omega arith))
letters_stop units.Second [] rest h = absurd cc
letters_stop units.Second (c ∷ word) rest h =
    (c, word ++ rest, refl, (let one : to_ascii_lowercase c ≡ 115 = cc in omega arith))
letters_stop units.Millisecond [] rest h = absurd cc
letters_stop units.Millisecond (c ∷ word) rest h =
    (c, word ++ rest, refl, (let one : to_ascii_lowercase c ≡ 109 = cc in omega arith))

letter_no_digit : (c : ℕ) → 100 ≤ to_ascii_lowercase c → (is_digit 10 c ≡ false) × (eqb c 95 ≡ false)
unfolding is_digit
letter_no_digit c le = (grind arith, grind arith)

count_again : (x : Unit) (number word rest : List ℕ) (count : ℕ) → forms.Digits 10 number count
    → Reads (forms.letters x) word
    → digits 10 (number ++ (word ++ rest)) ≡ Some (capped count, word ++ rest)
count_again x number word rest count h reads =
    let k = letters_stop x word rest reads in
    let other = letter_no_digit k.0 k.3 in
    digits_again 10 (omega arith) (omega arith) number count h (word ++ rest)
    ∙ ap (λ (r : ℕ × List ℕ). Some r)
    (ap (λ (z : List ℕ). digits_from 10 (capped count) z) k.2 ∙ stops_at 10
    (capped count) k.0 k.1 other.0 other.1 ∙ ap (λ (z : List ℕ). (capped count, z)) (sym k.2))

part_is : (x y : Unit) (u rest : List ℕ) (n : ℕ) → (h : IsPart y u n)
    → part x (u ++ rest) ≡ scaled x (capped h.count) (after_unit x (h.word ++ rest))
unfolding part
part_is x y u rest n h =
    let e : u ++ rest ≡ h.number ++ (h.word ++ rest) = ap
    (λ (z : List ℕ). z ++ rest) h.parts ∙ append_assoc h.number h.word rest in
    ap (λ (z : List ℕ). with_unit x (digits 10 z)) e ∙ ap (λ (o : Option (ℕ × List ℕ)). with_unit x o)
    (count_again y h.number h.word rest h.count h.digits h.reads)

part_none : (x y : Unit) (u rest : List ℕ) (n : ℕ) → Apart x y → IsPart y u n → part x (u ++ rest) ≡ None
part_none x y u rest n apart h =
    part_is x y u rest n h ∙ ap (λ (o : Option (List ℕ)). scaled x (capped h.count) o) (apart h.word rest h.reads)

part_some : (x : Unit) (u rest : List ℕ) (n : ℕ) → (h : IsPart x u n) → after_unit x (h.word ++ rest) ≡ Some rest
    → part x (u ++ rest) ≡ Some (capped n, rest)
part_some x u rest n h own =
    part_is x x u rest n h ∙ ap (λ (o : Option (List ℕ)). scaled x (capped h.count) o) own
    ∙ ap (λ (c : ℕ). Some (c, rest))
    (times_capped h.count (milliseconds x) (scale_grows x h.count) (some_time x) ∙ ap capped (sym h.scaled))

-- ---- marks between parts

abbrev IsLead : Bool → List ℕ → Type 0
IsLead some lead = (lead ≡ []) ⊎ ((some ≡ true) × (lead ≡ 95 ∷ []))

pub digit_unmarked : (d : ℕ) → is_digit 10 d ≡ true → eqb d 95 ≡ false
unfolding is_digit
digit_unmarked d is = grind arith

part_unmarked : (x : Unit) (some : Bool) (u rest : List ℕ) (n : ℕ) → IsPart x u n
    → after_mark some (u ++ rest) ≡ u ++ rest
part_unmarked x some u rest n h =
    let k = begun 10 h.number h.count h.digits in
    let e : u ++ rest ≡ k.0 ∷ (k.1 ++ (h.word ++ rest)) = ap (λ (z : List ℕ). z ++ rest)
    (h.parts ∙ ap (λ (z : List ℕ). z ++ h.word) k.2) ∙ ap (λ (z : List ℕ). k.0 ∷ z)
    (append_assoc k.1 h.word rest) in
    let unmarked : eqb k.0 95 ≡ false = digit_unmarked k.0 k.3 in
    rw e (rw unmarked refl)

led : (x : Unit) (some : Bool) (lead u rest : List ℕ) (n : ℕ) → IsLead some lead → IsPart x u n
    → after_mark some ((lead ++ u) ++ rest) ≡ u ++ rest
led x some lead u rest n (inl e) h = rw e (part_unmarked x some u rest n h)
led x some lead u rest n (inr (is, e)) h = rw (is, e) refl

-- ---- parts in falling order, from the first on

pub record Takes (some : Bool) (x : Unit) (P : List ℕ → ℕ → Type 0) (w : List ℕ) (n : ℕ) : Type 0 where
  pub lead : List ℕ
  pub here : List ℕ
  pub others : List ℕ
  pub first : ℕ
  pub sum : ℕ
  pub parts : w ≡ (lead ++ here) ++ others
  pub total : n ≡ first + sum
  pub mark : IsLead some lead
  pub is : IsPart x here first
  pub more : P others sum

abbrev pub Falling : Bool → List Unit → List ℕ → ℕ → Type 0
Falling some [] w n = (some ≡ true) × (w ≡ []) × (n ≡ 0)
Falling some (x ∷ us) w n = Falling some us w n ⊎ Takes some x (λ v b. Falling true us v b) w n

-- what is left to read
abbrev IsNothing : Bool → List ℕ → ℕ → Type 0
IsNothing some w n = (some ≡ true) × (w ≡ []) × (n ≡ 0)

blocked : (x : Unit) (us : List Unit) → AllApart x us → (some : Bool) (w : List ℕ) (n : ℕ) → Falling some us w n
    → IsNothing some w n ⊎ ((rest : List ℕ) → part x (after_mark some (w ++ rest)) ≡ None)
blocked x [] apart some w n h = inl h
blocked x (y ∷ us) apart some w n (inl h) = blocked x us apart.1 some w n h
blocked x (y ∷ us) apart some w n (inr t) = inr (λ rest.
    let e : w ++ rest ≡ (t.lead ++ t.here) ++ (t.others ++ rest) = ap (λ (z : List ℕ). z ++ rest) t.parts ∙ append_assoc
    (t.lead ++ t.here) t.others rest in
    ap (λ (z : List ℕ). part x (after_mark some z)) e ∙ ap (part x)
    (led y some t.lead t.here (t.others ++ rest) t.first t.mark t.is) ∙ part_none x y t.here
    (t.others ++ rest) t.first apart.0 t.is)

-- ---- reading them

abbrev run : List Unit → Parts → Parts
run [] p = p
run (x ∷ us) p = run us (with_part x p)

abbrev Ends : ℕ → List ℕ → Parts → Type 0
Ends n rest p = (p.some ≡ true) × (length p.rest ≤ length rest) × (rest ≡ [] → p.total ≡ capped n)

with_is : (x : Unit) (held : ℕ) (some : Bool) (bs : List ℕ)
    → with_part x (state held some bs) ≡ added (state held some bs) (part x (after_mark some bs))
unfolding with_part parts_begin
with_is x held some bs = refl

skips : (x : Unit) (us : List Unit) (held : ℕ) (some : Bool) (bs : List ℕ) → part x (after_mark some bs) ≡ None
    → run (x ∷ us) (state held some bs) ≡ run us (state held some bs)
skips x us held some bs e = ap (run us) (with_is x held some bs ∙ ap (added (state held some bs)) e)

reads_one : (x : Unit) (us : List Unit) (held : ℕ) (some : Bool) (bs : List ℕ) (read : ℕ × List ℕ)
    → part x (after_mark some bs) ≡ Some read
    → run (x ∷ us) (state held some bs) ≡ run us (state (min (held + read.0) (2 ^ 64 - 1)) true read.1)
reads_one x us held some bs read e = ap (run us) (with_is x held some bs ∙ ap (added (state held some bs)) e)

mark_shorter : (some : Bool) (bs : List ℕ) → length (after_mark some bs) ≤ length bs
mark_shorter some [] = omega arith
mark_shorter some (b ∷ bs) = go (eqb b 95 && some)
  where
    go : (t : Bool) → length (cond t bs (b ∷ bs)) ≤ length (b ∷ bs)
    go true = omega arith
    go false = omega arith

tail_size : (a b c : List ℕ) → length c < suc (length (a ++ (b ++ c)))
tail_size [] [] c = omega arith
tail_size [] (x ∷ b) c = let le = tail_size [] b c in omega arith
tail_size (x ∷ a) b c = let le = tail_size a b c in omega arith

-- a part leaves less
part_less : (x : Unit) (bs : List ℕ) (read : ℕ × List ℕ) → part x bs ≡ Some read → length read.1 < length bs
part_less x bs read e = go (subst (λ (o : Option (ℕ × List ℕ)). Found (IsPart x) bs o) e (part_found x bs))
  where
    go : Found (IsPart x) bs (Some read) → length read.1 < length bs
    go f =
        let k = begun 10 f.3.number f.3.count f.3.digits in
        let whole : bs ≡ k.0 ∷ (k.1 ++ (f.3.word ++ read.1)) = f.2 ∙ ap (λ (z : List ℕ). z ++ read.1)
        (f.3.parts ∙ ap (λ (z : List ℕ). z ++ f.3.word) k.2) ∙ ap (λ (z : List ℕ). k.0 ∷ z)
        (append_assoc k.1 f.3.word read.1) in
        rw whole (tail_size k.1 f.3.word read.1)

-- where a part stands already, what is read is no more than what is there
abbrev Goes : List ℕ → ℕ → Parts → Type 0
Goes rest held p = (p.some ≡ true) × (length p.rest ≤ length rest) × (rest ≡ [] → p.total ≡ held)

goes_on : (us : List Unit) (held : ℕ) (rest : List ℕ) → Goes rest held (run us (state held true rest))
goes_on [] held rest = (refl, omega arith, λ e. refl)
goes_on (x ∷ us) held rest = go (part x (after_mark true rest)) refl (λ n bs. goes_on us n bs)
  where
    go : (o : Option (ℕ × List ℕ)) → part x (after_mark true rest) ≡ o
        → ((n : ℕ) (bs : List ℕ) → Goes bs n (run us (state n true bs)))
        → Goes rest held (run (x ∷ us) (state held true rest))
    go None e ih = subst (λ (p : Parts). Goes rest held p) (sym (skips x us held true rest e)) (ih held rest)
    go (Some read) e ih =
        let less = part_less x (after_mark true rest) read e in
        let marked = mark_shorter true rest in
        let h = ih (min (held + read.0) (2 ^ 64 - 1)) read.1 in
        subst (λ (p : Parts). Goes rest held p) (sym (reads_one x us held true rest read e))
        (h.0, (let le = h.1 in omega arith), (λ n. absurd (let z : length rest ≡ 0 = ap length n in omega arith)))

-- what follows these units' parts is read in their order
abbrev Reached : List Unit → Type 0
Reached us =
    (some : Bool) (w : List ℕ) (n held total : ℕ) (rest : List ℕ) → Falling some us w n → held ≡ capped total
    → Ends (total + n) rest (run us (state held some (w ++ rest)))

reached_none : Reached []
reached_none some w n held total rest h e = (h.0, rw h.1 (omega arith), λ z. (let f = h.2 in omega arith))

nothing_left : (us : List Unit) (some : Bool) (w : List ℕ) (n held total : ℕ) (rest : List ℕ) → IsNothing some w n
    → held ≡ capped total
    → Ends (total + n) rest (run us (state held some (w ++ rest)))
nothing_left us some w n held total rest h e =
    let k = goes_on us held rest in
    rw (h.0, h.1) (k.0, k.1, λ z. k.2 z ∙ (let f = h.2 in omega arith))

-- one unit more, whose part is not there
reached_skip : (x : Unit) (us : List Unit) → AllApart x us → Reached us
    → (some : Bool) (w : List ℕ) (n held total : ℕ) (rest : List ℕ)
    → Falling some us w n → held ≡ capped total → Ends (total + n) rest (run (x ∷ us) (state held some (w ++ rest)))
reached_skip x us apart ih some w n held total rest h e = go (blocked x us apart some w n h)
  where
    go : IsNothing some w n ⊎ ((rest : List ℕ) → part x (after_mark some (w ++ rest)) ≡ None)
        → Ends (total + n) rest (run (x ∷ us) (state held some (w ++ rest)))
    go (inl nothing) = nothing_left (x ∷ us) some w n held total rest nothing e
    go (inr stops) =
        subst (λ (p : Parts). Ends (total + n) rest p) (sym (skips x us held some (w ++ rest) (stops rest)))
        (ih some w n held total rest h e)

-- one unit more, whose part is read
reached_take : (x : Unit) (us : List Unit) → Reached us → (some : Bool) (w : List ℕ) (n held total : ℕ) (rest : List ℕ)
    → (t : Takes some x (λ v b. Falling true us v b) w n)
    → after_unit x (t.is.word ++ (t.others ++ rest)) ≡ Some (t.others ++ rest) → held ≡ capped total
    → Ends (total + n) rest (run (x ∷ us) (state held some (w ++ rest)))
reached_take x us ih some w n held total rest t own e =
    let whole : w ++ rest ≡ (t.lead ++ t.here) ++ (t.others ++ rest) = ap
    (λ (z : List ℕ). z ++ rest) t.parts ∙ append_assoc (t.lead ++ t.here) t.others rest in
    let read : part x (after_mark some (w ++ rest)) ≡ Some (capped t.first, t.others ++ rest) =
    ap (λ (z : List ℕ). part x (after_mark some z)) whole ∙ ap (part x)
    (led x some t.lead t.here (t.others ++ rest) t.first t.mark t.is) ∙ part_some x t.here
    (t.others ++ rest) t.first t.is own in
    let kept : min (held + capped t.first) (2 ^ 64 - 1) ≡ capped (total + t.first) = summed held
    (capped t.first) total t.first e refl in
    let h = ih true t.others t.sum (min (held + capped t.first) (2 ^ 64 - 1)) (total + t.first) rest t.more kept in
    let sums : (total + t.first) + t.sum ≡ total + n = (let s = t.total in omega arith) in
    subst (λ (p : Parts). Ends (total + n) rest p)
    (sym (reads_one x us held some (w ++ rest) (capped t.first, t.others ++ rest) read))
    (h.0, h.1, λ z. h.2 z ∙ ap capped sums)

reached_unit : (x : Unit) (us : List Unit) → AllApart x us → Own x → Reached us → Reached (x ∷ us)
reached_unit x us apart own ih some w n held total rest (inl h) e =
    reached_skip x us apart ih some w n held total rest h e
reached_unit x us apart own ih some w n held total rest (inr t) e =
    reached_take x us ih some w n held total rest t (own t.is.word (t.others ++ rest) t.is.reads) e

reached_millis : Reached (below units.Second)
reached_millis = reached_unit units.Millisecond [] tt own_milli reached_none

reached_seconds : Reached (below units.Minute)
reached_seconds = reached_unit units.Second (below units.Second) (second_milli, tt) own_second reached_millis

-- what follows a part is not the letter s, unless it follows all parts
begins_no_second : (us : List Unit) (w rest : List ℕ) (n : ℕ) → Falling true us w n → BeginsSecond (w ++ rest) → w ≡ []
begins_no_second [] w rest n h s = h.1
begins_no_second (x ∷ us) w rest n (inl h) s = begins_no_second us w rest n h s
begins_no_second (x ∷ us) w rest n (inr t) s = absurd (never t.mark)
  where
    whole : w ++ rest ≡ (t.lead ++ t.here) ++ (t.others ++ rest)
    whole = ap (λ (z : List ℕ). z ++ rest) t.parts ∙ append_assoc (t.lead ++ t.here) t.others rest

    no_mark : (c : ℕ) → to_ascii_lowercase c ≡ 115 → c ≡ 95 → ⊥
    no_mark c e f = let low : to_ascii_lowercase c ≡ 95 = ap to_ascii_lowercase f in absurd (omega arith)

    no_digit : (c : ℕ) → to_ascii_lowercase c ≡ 115 → is_digit 10 c ≡ true → ⊥
    no_digit c e is = let k = letter_no_digit c (omega arith) in let bad = sym k.0 ∙ is in cc

    never : IsLead true t.lead → ⊥
    never (inl e) =
        let k = begun 10 t.is.number t.is.count t.is.digits in
        let first : t.here ≡ k.0 ∷ (k.1 ++ t.is.word) = t.is.parts ∙ ap (λ (z : List ℕ). z ++ t.is.word) k.2 in
        let both : s.0 ∷ s.1 ≡ k.0 ∷ ((k.1 ++ t.is.word) ++ (t.others ++ rest)) = sym s.2 ∙ whole ∙ ap
        (λ (z : List ℕ). (z ++ t.here) ++ (t.others ++ rest)) e ∙ ap
        (λ (z : List ℕ). z ++ (t.others ++ rest)) first in
        let same : s.0 ≡ k.0 = cc (both) in
        no_digit s.0 s.3 (rw same k.3)
    never (inr (is, e)) =
        let both : s.0 ∷ s.1 ≡ 95 ∷ (t.here ++ (t.others ++ rest)) = sym s.2 ∙ whole ∙ ap
        (λ (z : List ℕ). (z ++ t.here) ++ (t.others ++ rest)) e in
        let same : s.0 ≡ 95 = cc (both) in
        no_mark s.0 s.3 same

-- `m` and `s` of a minute's part are milliseconds
joined : (here : List ℕ) (first s : ℕ) → (h : IsPart units.Minute here first) → to_ascii_lowercase s ≡ 115
    → IsPart units.Millisecond (here ++ s ∷ []) (h.count * 1)
joined here first s h e = record {
  number = h.number;
  count = h.count;
  word = h.word ++ s ∷ [];
  parts = ap (λ (z : List ℕ). z ++ s ∷ []) h.parts ∙ append_assoc h.number h.word (s ∷ []);
  digits = h.digits;
  reads = read h.word h.reads;
  scaled = refl;
}
  where
    read : (word : List ℕ) → Reads (codes "m") word → Reads (codes "ms") (word ++ s ∷ [])
    read [] r = absurd cc
    read (m ∷ []) r = let one : to_ascii_lowercase m ≡ 109 = cc in rw (one, e) refl
    read (m ∷ c ∷ word) r = absurd cc

minute_apart : AllApart units.Minute (below units.Minute)
minute_apart = (minute_second, (minute_milli, tt))

reached_minutes : Reached (below units.Hour)
reached_minutes some w n held total rest (inl h) e =
    reached_skip units.Minute (below units.Minute) minute_apart reached_seconds some w n held total rest h e
reached_minutes some w n held total rest (inr t) e = go (own_minute t.is.word (t.others ++ rest) t.is.reads)
  where
    go : (after_unit units.Minute (t.is.word ++ (t.others ++ rest)) ≡ Some (t.others ++ rest)) ⊎ BeginsSecond
        (t.others ++ rest) → Ends (total + n) rest (run (below units.Hour) (state held some (w ++ rest)))
    go (inl own) = reached_take units.Minute (below units.Minute) reached_seconds some w n held total rest t own e
    go (inr s) = instead (begins_no_second (below units.Minute) t.others rest t.sum t.more s)
      where
        regroup : (c : ℕ) (others : List ℕ)
            → ((t.lead ++ t.here) ++ []) ++ (c ∷ others) ≡ (t.lead ++ (t.here ++ c ∷ [])) ++ others
        regroup c others =
            ap (λ (z : List ℕ). z ++ (c ∷ others)) (append-nil (t.lead ++ t.here)) ∙ append_assoc t.lead t.here
            (c ∷ others)
            ∙ sym (append_assoc t.lead (t.here ++ c ∷ []) others ∙ ap (λ (z : List ℕ). t.lead ++ z)
            (append_assoc t.here (c ∷ []) others))

        -- what is read then ends behind the s
        instead : t.others ≡ [] → Ends (total + n) rest (run (below units.Hour) (state held some (w ++ rest)))
        instead none =
            let follows : rest ≡ s.0 ∷ s.1 = ap (λ (z : List ℕ). z ++ rest) (sym none) ∙ s.2 in
            let part = joined t.here t.first s.0 t.is s.3 in
            let whole : w ++ rest ≡ (t.lead ++ (t.here ++ s.0 ∷ [])) ++ s.1 =
            ap (λ (z : List ℕ). z ++ rest) (t.parts ∙ ap (λ (z : List ℕ). (t.lead ++ t.here) ++ z) none)
            ∙ ap (λ (z : List ℕ). ((t.lead ++ t.here) ++ []) ++ z) follows ∙ regroup s.0 s.1 in
            let millis : Falling some (below units.Minute) (t.lead ++ (t.here ++ s.0 ∷ [])) (t.is.count * 1 + 0) =
            inl (inr (record {
              lead = t.lead;
              here = t.here ++ s.0 ∷ [];
              others = [];
              first = t.is.count * 1;
              sum = 0;
              parts = sym (append-nil (t.lead ++ (t.here ++ s.0 ∷ [])));
              total = refl;
              mark = t.mark;
              is = part;
              more = (refl, refl, refl);
            })) in
            let h = reached_skip units.Minute (below units.Minute) minute_apart reached_seconds some
            (t.lead ++ (t.here ++ s.0 ∷ [])) (t.is.count * 1 + 0) held total s.1 millis e in
            rw whole (
              h.0,
              (let le = h.1 in let size : length rest ≡ suc
                  (length s.1) = ap length follows in omega arith),
              λ z. absurd (let bad = sym z ∙ follows in cc),
            )

hours_apart : AllApart units.Hour (below units.Hour)
hours_apart = (
  (λ word rest h. hour_apart units.Minute word rest h (omega arith)),
  (
    (λ word rest h. hour_apart units.Second word rest h (omega arith)),
    ((λ word rest h. hour_apart units.Millisecond word rest h (omega arith)), tt),
  ),
)

days_apart : AllApart units.Day (below units.Day)
days_apart = (
  (λ word rest h. day_apart units.Hour word rest h (omega arith)),
  (
    (λ word rest h. day_apart units.Minute word rest h (omega arith)),
    (
      (λ word rest h. day_apart units.Second word rest h (omega arith)),
      ((λ word rest h. day_apart units.Millisecond word rest h (omega arith)), tt),
    ),
  ),
)

reached_hours : Reached (below units.Day)
reached_hours = reached_unit units.Hour (below units.Hour) hours_apart own_hour reached_minutes

reached_all : Reached all_units
reached_all = reached_unit units.Day (below units.Day) days_apart own_day reached_hours

-- ---- parts as they are spelled, from the first on

-- the units from x on are among those below y
suffix : (y x : Unit) → milliseconds x < milliseconds y → (w : List ℕ) (n : ℕ) → Falling true (x ∷ below x) w n
    → Falling true (below y) w n
suffix units.Day units.Hour lt w n h = h
suffix units.Day units.Minute lt w n h = inl h
suffix units.Day units.Second lt w n h = inl (inl h)
suffix units.Day units.Millisecond lt w n h = inl (inl (inl h))
suffix units.Hour units.Minute lt w n h = h
suffix units.Hour units.Second lt w n h = inl h
suffix units.Hour units.Millisecond lt w n h = inl (inl h)
suffix units.Minute units.Second lt w n h = h
suffix units.Minute units.Millisecond lt w n h = inl h
suffix units.Second units.Millisecond lt w n h = h
suffix units.Millisecond x lt w n h = absurd (let some = some_time x in omega arith)
suffix _ _ lt w n h = absurd (omega arith)

from_first : (x : Unit) (w : List ℕ) (n : ℕ) → Falling false (x ∷ below x) w n → Falling false all_units w n
from_first units.Day w n h = h
from_first units.Hour w n h = inl h
from_first units.Minute w n h = inl (inl h)
from_first units.Second w n h = inl (inl (inl h))
from_first units.Millisecond w n h = inl (inl (inl (inl h)))

-- with more parts behind them
abbrev Opens : ℕ → List ℕ → ℕ → Type 0
Opens least v n =
    (y : Unit) × (least ≡ milliseconds y) ×
    ((w : List ℕ) (m : ℕ) → Falling true (below y) w m → Falling false all_units (v ++ w) (n + m))

opens : (least : ℕ) (v : List ℕ) (n : ℕ) → AreParts least v n → Opens least v n
opens _ _ _ (AreParts.first unit u n is) = (
  unit,
  refl,
  λ w m more. from_first unit (u ++ w) (n + m)
      (inr (record {
        lead = [];
        here = u;
        others = w;
        first = n;
        sum = m;
        parts = refl;
        total = refl;
        mark = inl refl;
        is = is;
        more = more;
      })),
)
opens _ _ _ (AreParts.then least v m unit u n h lt is) =
    let k = opens least v m h in (
      unit,
      refl,
      λ w j more.
          let later = k.2 (u ++ w) (n + j) (suffix k.0 unit (let e = k.1 in omega arith) (u ++ w) (n + j)
          (inr (record {
            lead = [];
            here = u;
            others = w;
            first = n;
            sum = j;
            parts = refl;
            total = refl;
            mark = inl refl;
            is = is;
            more = more;
          }))) in
          subst (λ (z : List ℕ). Falling false all_units z ((m + n) + j)) (sym (append_assoc v u w))
          (subst (λ (s : ℕ). Falling false all_units (v ++ (u ++ w)) s) (omega arith) later),
    )
opens _ _ _ (AreParts.apart least v m unit u n h lt is) =
    let k = opens least v m h in (
      unit,
      refl,
      λ w j more.
          let later = k.2 (95 ∷ u ++ w) (n + j) (suffix k.0 unit (let e = k.1 in omega arith) (95 ∷ u ++ w) (n + j)
          (inr (record {
            lead = 95 ∷ [];
            here = u;
            others = w;
            first = n;
            sum = j;
            parts = refl;
            total = refl;
            mark = inr (refl, refl);
            is = is;
            more = more;
          }))) in
          subst (λ (z : List ℕ). Falling false all_units z ((m + n) + j)) (sym (append_assoc v (95 ∷ u) w))
          (subst (λ (s : ℕ). Falling false all_units (v ++ (95 ∷ u ++ w)) s) (omega arith) later),
    )

ends_none : (us : List Unit) → Falling true us [] 0
ends_none [] = (refl, refl, refl)
ends_none (x ∷ us) = inl (ends_none us)

falls : (least : ℕ) (v : List ℕ) (n : ℕ) → AreParts least v n → Falling false all_units v n
falls least v n h =
    let k = opens least v n h in
    let f = k.2 [] 0 (ends_none (below k.0)) in
    subst (λ (z : List ℕ). Falling false all_units z n) (append-nil v)
    (subst (λ (s : ℕ). Falling false all_units (v ++ []) s) (omega arith) f)

-- ---- the whole duration

parts_are : (bs : List ℕ) → parts bs ≡ run all_units (state 0 false bs)
unfolding parts
parts_are bs = refl

prefix_again : (p rest : List ℕ) → (Reads (codes "t#") p ⊎ Reads (codes "time#") p)
    → after_prefix (p ++ rest) ≡ Some rest
unfolding after_prefix
prefix_again p rest (inl h) = rw (word_again (codes "t#") p rest h) refl
prefix_again p rest (inr h) =
    rw (word_other (codes "t#") (codes "time#") p rest h refl, word_again (codes "time#") p rest h) refl

some_read : (n : ℕ) (rest : List ℕ) (p : Parts) → Ends n rest p → ReadTo n rest (if_some p)
some_read n rest p h = let is = h.0 in rw is (h.1, h.2)

pub time_to : (u : List ℕ) (n : ℕ) → IsTime u n → (rest : List ℕ) → ReadTo n rest (time (u ++ rest))
unfolding time
time_to u n h rest =
    let whole : u ++ rest ≡ h.prefix ++ (h.others ++ rest) = ap
    (λ (z : List ℕ). z ++ rest) h.parts ∙ append_assoc h.prefix h.others rest in
    let ends = reached_all false h.others n 0 0 rest (falls h.least h.others n h.are) refl in
    let same : Ends n rest (parts (h.others ++ rest)) = rw (parts_are (h.others ++ rest))
    (ends.0, ends.1, λ z. ends.2 z ∙ (omega arith)) in
    rw whole (rw (prefix_again h.prefix (h.others ++ rest) h.reads) (some_read n rest (parts (h.others ++ rest)) same))
