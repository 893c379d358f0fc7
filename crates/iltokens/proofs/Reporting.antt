-- What is reported is the longest token, the end or the fault, and nothing else is.
use Rattle.std.proofs.Common.{◌≡◌, ℕ, ◌+◌, ◌-◌, ◌<◌, ◌≤◌, Bool, true, false, cond, eqb, leb, List, [], ◌∷◌, ◌++◌}
use Rattle.std.proofs.Common.{length, drop, Option, Some, None, Result, Ok, Err, inl, inr, refl, sym, ap, subst, ◌∙◌}
use Rattle.std.proofs.Common.{arith, eqb-true, length-drop, length-append}
use Rattle.std.proofs.lemmas.List.{append-nil}
use Rattle.std.proofs.lemmas.Bool.{le-leb}
use Rattle.iltokens.specs.declared.lexed.What.{What}
use Rattle.iltokens.specs.declared.lexed.Lexed.{Lexed}
use Rattle.iltokens.specs.declared.lexed.Lexed.TheVariants as lexed
use Rattle.iltokens.specs.declared.lexed.LexicalCause.TheVariants.{NotAscii, BadToken, BadNumber, CommentOpen}
use Rattle.iltokens.specs.BlankSteps.{blanks}
use Rattle.iltokens.specs.Blanks.{AreBlanks, OpensComment, NoOpening, BeginsNoBlank}
use Rattle.iltokens.specs.Spellings.{Spells}
use Rattle.iltokens.specs.Longest.{IsWithin, IsLongest, SpellsNone}
use Rattle.iltokens.specs.Digits.{is_digit}
use Rattle.iltokens.specs.Letters.{is_letter}
use Rattle.iltokens.specs.FrontSteps.{Front, end, taken, fault, delimiter_at, front_at}
use Rattle.iltokens.specs.TokenSteps.{lexed_front, lexed_blanks, token_at}
use Rattle.iltokens.specs.Tokens.{BeginsWith, TokenStands, OutsideStands, StandsNext}
use Rattle.iltokens.proofs.Comments.{Passed, AllBlanks, blanks_are}
use Rattle.iltokens.proofs.BlanksAgain.{blanks_end, blanks_open}
use Rattle.iltokens.proofs.Fallen.{Fits, front_nil, front_fits, after_blanks, shorter, begins}
use Rattle.iltokens.proofs.FrontsAgain.{rest_at, Limited, Reaches, reaches}
use Rattle.iltokens.proofs.TokenLaws.{Reported, front_reported}

-- ---- the longest

reaches_at : (bs u after : List ℕ) (what : What) → bs ≡ u ++ after → Spells what u
    → Reaches what after (front_at bs) (rest_at bs)
reaches_at bs u after what e h =
    subst (λ (z : List ℕ). Reaches what after (front_at z) (rest_at z)) (sym e) (reaches what u h after)

is_longest : (bs v r : List ℕ) (what : What) → bs ≡ v ++ r → Spells what v → rest_at bs ≡ Some r → IsLongest bs v what
is_longest bs v r what e h is =
    record {
      after = r;
      parts = e;
      spells = h;
      longest = λ u after any f s. size u after any f
          (subst (λ (o : Option (List ℕ)). Reaches any after (front_at bs) o) is (reaches_at bs u after any f s));
    }
  where
    size : (u after : List ℕ) (any : What) → bs ≡ u ++ after → Reaches any after (front_at bs) (Some r)
        → length u ≤ length v
    size u after any f k =
        let le = k.0 in
        omega (arith, ap length e, ap length f, length-append v r, length-append u after)

spells_none : (bs : List ℕ) → rest_at bs ≡ None → SpellsNone bs
spells_none bs is u after any e s =
    subst (λ (o : Option (List ℕ)). Reaches any after (front_at bs) o) is (reaches_at bs u after any e s)

-- ---- what is reported stands there

after_front : (bytes : List ℕ) (at : ℕ) (rest : List ℕ) (f : Front) (o : Option (List ℕ)) → at ≤ length bytes
    → Passed (drop at bytes) rest BeginsNoBlank → ((b : ℕ) (bs : List ℕ) → rest ≡ b ∷ bs → Fits b f)
    → (rest ≡ [] → f ≡ end)
    → rest_at rest ≡ o → Reported rest f o → StandsNext bytes at (lexed_front (length bytes) rest f)
after_front bytes at rest end None le p fits nil is t =
    after_blanks bytes at rest p.0 (λ r. r ≡ []) (length bytes) le p.1 p.2 t (rw t (omega arith))
after_front bytes at rest end (Some r) le p fits nil is t = absurd t
after_front bytes at rest (taken what after) None le p fits nil is t = absurd t
after_front bytes at rest (taken what after) (Some r) le p fits nil is t =
    let from = length bytes - length rest in
    let there = shorter bytes at rest p.0 p.1 in
    let size : length rest ≡ length t.0 + length r = omega (arith, ap length t.2, length-append t.0 r) in
    let same : length after ≡ length r = ap length t.1 in
    let to : length bytes - length after ≡ from + length t.0 = omega arith in
    after_blanks bytes at rest p.0
    (λ z. BeginsNoBlank z × TokenStands what from (length bytes - length after) z) from le p.1 p.2
    (p.3, (t.0, to, is_longest rest t.0 r what t.2 t.3 is, t.4)) there
after_front bytes at rest (fault NotAscii) None le p fits nil is t =
    after_blanks bytes at rest p.0 (BeginsWith (λ b. 128 ≤ b)) (length bytes - length rest) le p.1 p.2
    (begins rest (λ b. 128 ≤ b) fits (λ e. let bad = nil e in cc)) (shorter bytes at rest p.0 p.1)
after_front bytes at rest (fault BadToken) None le p fits nil is t =
    after_blanks bytes at rest p.0 (λ r. BeginsNoBlank r × BeginsWith (λ b. b < 128) r × SpellsNone r)
    (length bytes - length rest) le p.1 p.2
    (p.3, begins rest (λ b. b < 128) fits (λ e. let bad = nil e in cc), spells_none rest is)
    (shorter bytes at rest p.0 p.1)
after_front bytes at rest (fault BadNumber) (Some r) le p fits nil is t =
    after_blanks bytes at rest p.0 (λ z. BeginsNoBlank z × OutsideStands z) (length bytes - length rest) le p.1 p.2
    (p.3, (t.0, t.1, is_longest rest t.0 r t.1 t.2 t.3 is, t.4)) (shorter bytes at rest p.0 p.1)
after_front bytes at [] (fault CommentOpen) o le p fits nil is t = let bad = nil refl in absurd cc
after_front bytes at (b ∷ rest) (fault CommentOpen) o le p fits nil is t = absurd (fits b rest refl)
after_front bytes at rest (fault NotAscii) (Some r) le p fits nil is t = absurd t
after_front bytes at rest (fault BadToken) (Some r) le p fits nil is t = absurd t
after_front bytes at rest (fault BadNumber) None le p fits nil is t = absurd t

pub token_reported : (bytes : List ℕ) (at : ℕ) → at ≤ length bytes → StandsNext bytes at (token_at bytes at)
unfolding token_at
token_reported bytes at le = go (blanks (drop at bytes)) (blanks_are (drop at bytes))
  where
    go : (r : Result (List ℕ) (List ℕ)) → AllBlanks (drop at bytes) r
        → StandsNext bytes at (lexed_blanks (length bytes) r)
    go (Ok rest) p =
        after_front bytes at rest (front_at rest) (rest_at rest) le p
        (λ b bs e. subst (λ (z : List ℕ). Fits b (front_at z)) (sym e) (front_fits b bs))
        (λ e. ap front_at e ∙ front_nil) refl (front_reported rest)
    go (Err rest) p =
        after_blanks bytes at rest p.0 OpensComment (length bytes - length rest) le p.1 p.2 p.3
        (shorter bytes at rest p.0 p.1)

-- ---- nothing else is

pub whole : (what : What) (v : List ℕ) → Spells what v → Limited what (front_at v)
whole what v h = go (rest_at (v ++ [])) (reaches what v h [])
  where
    go : (o : Option (List ℕ)) → Reaches what [] (front_at (v ++ [])) o → Limited what (front_at v)
    go None k = absurd k
    go (Some r) k = subst (λ (z : List ℕ). Limited what (front_at z)) (append-nil v) (k.1 refl)

same_size : (u v r after : List ℕ) → u ++ r ≡ v ++ after → length u ≡ length v → (u ≡ v) × (r ≡ after)
same_size [] [] r after e l = (refl, e)
same_size [] (b ∷ v) r after e l = absurd (omega arith)
same_size (a ∷ u) [] r after e l = absurd (omega arith)
same_size (a ∷ u) (b ∷ v) r after e l =
    let first : a ≡ b = cc in
    let others : u ++ r ≡ v ++ after = cc in
    let k = same_size u v r after others (omega arith) in
    (rw first (ap (λ (z : List ℕ). b ∷ z) k.0), k.1)

-- another token that is reported there has the same bytes
same_front : (bs front v r : List ℕ) (what other : What) → (l : IsLongest bs front what) → bs ≡ v ++ r → Spells other v
    → rest_at bs ≡ Some r
    → (v ≡ front) × (r ≡ l.after)
same_front bs front v r what other l e h is =
    let k = subst (λ (o : Option (List ℕ)). Reaches what l.after (front_at bs) o) is
    (reaches_at bs front l.after what l.parts l.spells) in
    let less = k.0 in
    let more = l.longest v r other e h in
    same_size v front r l.after (sym e ∙ l.parts)
    (omega (arith, ap length e, ap length l.parts, length-append v r, length-append front l.after))

no_rest : (bs front : List ℕ) (what : What) → IsLongest bs front what → rest_at bs ≡ None → ⊥
no_rest bs front what l is = spells_none bs is front l.after what l.parts l.spells

pub one_token : (a b : What) (f : Front) → IsWithin a → IsWithin b → Limited a f → Limited b f → a ≡ b
one_token a b f v w (inl h) (inl k) = let x = h.1 in let y = k.1 in cc
one_token a b f v w (inl h) (inr k) = absurd (k.0 w)
one_token a b f v w (inr h) k = absurd (h.0 v)

pub one_limit : (a b : What) (f : Front) → IsWithin a → (IsWithin b → ⊥) → Limited a f → Limited b f → ⊥
one_limit a b f v w (inl h) (inl k) = w k.0
one_limit a b f v w (inl h) (inr k) = let x = h.1 in let y = k.1 in cc
one_limit a b f v w (inr h) k = h.0 v

module _ (bs front : List ℕ) (what : What) (l : IsLongest bs front what) where
  moved : (other : What) (v r : List ℕ) → bs ≡ v ++ r → Spells other v → rest_at bs ≡ Some r
      → Limited other (front_at front) × (r ≡ l.after)
  moved other v r e h is =
      let k = same_front bs front v r what other l e h is in
      (subst (λ (z : List ℕ). Limited other (front_at z)) k.0 (whole other v h), k.1)

  is_token : IsWithin what → (f : Front) (o : Option (List ℕ)) → rest_at bs ≡ o → Reported bs f o
      → f ≡ taken what l.after
  is_token within end None is t = absurd (no_rest bs front what l is)
  is_token within end (Some r) is t = absurd t
  is_token within (taken other rest) None is t = absurd t
  is_token within (taken other rest) (Some r) is t =
      let k = moved other t.0 r t.2 t.3 is in
      let same : other ≡ what = one_token other what (front_at front) t.4 within k.0 (whole what front l.spells) in
      let left : rest ≡ l.after = t.1 ∙ k.1 in
      rw (same, left) refl
  is_token within (fault BadNumber) None is t = absurd t
  is_token within (fault BadNumber) (Some r) is t =
      absurd (let k = moved t.1 t.0 r t.2 t.3 is in one_limit what t.1 (front_at front) within t.4
      (whole what front l.spells) k.0)
  is_token within (fault NotAscii) None is t = absurd (no_rest bs front what l is)
  is_token within (fault NotAscii) (Some r) is t = absurd t
  is_token within (fault BadToken) None is t = absurd (no_rest bs front what l is)
  is_token within (fault BadToken) (Some r) is t = absurd t
  is_token within (fault CommentOpen) None is t = absurd (no_rest bs front what l is)
  is_token within (fault CommentOpen) (Some r) is t = absurd t

  is_outside : (IsWithin what → ⊥) → (f : Front) (o : Option (List ℕ)) → rest_at bs ≡ o → Reported bs f o
      → f ≡ fault BadNumber
  is_outside outside end None is t = absurd (no_rest bs front what l is)
  is_outside outside end (Some r) is t = absurd t
  is_outside outside (taken other rest) None is t = absurd t
  is_outside outside (taken other rest) (Some r) is t =
      absurd (let k = moved other t.0 r t.2 t.3 is in one_limit other what (front_at front) t.4 outside k.0
      (whole what front l.spells))
  is_outside outside (fault BadNumber) o is t = refl
  is_outside outside (fault NotAscii) None is t = absurd (no_rest bs front what l is)
  is_outside outside (fault NotAscii) (Some r) is t = absurd t
  is_outside outside (fault BadToken) None is t = absurd (no_rest bs front what l is)
  is_outside outside (fault BadToken) (Some r) is t = absurd t
  is_outside outside (fault CommentOpen) None is t = absurd (no_rest bs front what l is)
  is_outside outside (fault CommentOpen) (Some r) is t = absurd t

-- where no token is spelled, a fault of the first byte is reported
is_bad : (b : ℕ) (bs : List ℕ) → SpellsNone (b ∷ bs) → (f : Front) (o : Option (List ℕ)) → Reported (b ∷ bs) f o
    → Fits b f
    → ((b < 128) → f ≡ fault BadToken) × ((128 ≤ b) → f ≡ fault NotAscii)
is_bad b bs none end o t fits = absurd fits
is_bad b bs none (taken what rest) None t fits = absurd t
is_bad b bs none (taken what rest) (Some r) t fits = absurd (none t.0 r what t.2 t.3)
is_bad b bs none (fault BadNumber) None t fits = absurd t
is_bad b bs none (fault BadNumber) (Some r) t fits = absurd (none t.0 r t.1 t.2 t.3)
is_bad b bs none (fault NotAscii) o t fits = ((λ lt. absurd (omega arith)), (λ le. refl))
is_bad b bs none (fault BadToken) o t fits = ((λ lt. refl), (λ le. absurd (omega arith)))
is_bad b bs none (fault CommentOpen) o t fits = absurd fits

-- ---- a byte of 80 hex or more

second : (t : Bool) (x y z : Front) → t ≡ false → y ≡ z → cond t x y ≡ z
second true x y z e h = absurd cc
second false x y z e h = h

high_differs : (b k : ℕ) → 128 ≤ b → k < 128 → eqb b k ≡ false
high_differs b k le lt = go (eqb b k) refl
  where
    go : (t : Bool) → eqb b k ≡ t → t ≡ false
    go true e = absurd (let same = eqb-true b k e in omega arith)
    go false e = refl

high_letter : (b : ℕ) → 128 ≤ b → is_letter b ≡ false
high_letter b le = grind arith

high_digit : (b : ℕ) → 128 ≤ b → is_digit 10 b ≡ false
unfolding is_digit
high_digit b le = grind arith

high_test : (b : ℕ) → 128 ≤ b → leb 128 b ≡ true
high_test b le = le-leb 128 b le

high_byte : (b : ℕ) (bs : List ℕ) → 128 ≤ b → delimiter_at (b ∷ bs) ≡ fault NotAscii
unfolding delimiter_at
high_byte b bs le =
    let test = high_test b le in
    second (eqb b 44) _ _ _ (high_differs b 44 le (omega arith))
    (second (eqb b 59) _ _ _ (high_differs b 59 le (omega arith))
    (second (eqb b 40) _ _ _ (high_differs b 40 le (omega arith))
    (second (eqb b 41) _ _ _ (high_differs b 41 le (omega arith))
    (second (eqb b 58) _ _ _ (high_differs b 58 le (omega arith))
    (second (eqb b 46) _ _ _ (high_differs b 46 le (omega arith))
    (second (eqb b 38) _ _ _ (high_differs b 38 le (omega arith))
    (second (eqb b 10) _ _ _ (high_differs b 10 le (omega arith))
    (second (eqb b 13) _ _ _ (high_differs b 13 le (omega arith))
    (rw test refl)))))))))

not_ascii : (b : ℕ) (bs : List ℕ) → 128 ≤ b → front_at (b ∷ bs) ≡ fault NotAscii
unfolding front_at
not_ascii b bs le =
    second (eqb b 43) _ _ _ (high_differs b 43 le (omega arith))
    (second (eqb b 45) _ _ _ (high_differs b 45 le (omega arith))
    (second (eqb b 37) _ _ _ (high_differs b 37 le (omega arith))
    (second (is_letter b) _ _ _ (high_letter b le)
    (second (is_digit 10 b) _ _ _ (high_digit b le)
    (high_byte b bs le)))))

-- ---- any answer that is reported

module _ (bytes : List ℕ) (at : ℕ) (le : at ≤ length bytes) where
  there : (place : ℕ) (u rest : List ℕ) → drop at bytes ≡ u ++ rest → place ≡ at + length u
      → length bytes - length rest ≡ place
  there place u rest e here = omega (arith, length-drop at bytes, ap length e, length-append u rest)

  at_rest : (u rest : List ℕ) → drop at bytes ≡ u ++ rest → AreBlanks u → BeginsNoBlank rest
      → token_at bytes at ≡ lexed_front (length bytes) rest (front_at rest)
  unfolding token_at
  at_rest u rest e are h =
      ap (λ (z : List ℕ). lexed_blanks (length bytes) (blanks z)) e ∙ ap (lexed_blanks (length bytes))
      (blanks_end u rest are h)

  at_open : (u rest : List ℕ) → drop at bytes ≡ u ++ rest → AreBlanks u → OpensComment rest
      → token_at bytes at ≡ lexed.Fault CommentOpen (length bytes - length rest)
  unfolding token_at
  at_open u rest e are h =
      ap (λ (z : List ℕ). lexed_blanks (length bytes) (blanks z)) e ∙ ap (lexed_blanks (length bytes))
      (blanks_open u rest are h)

  high_front : (rest : List ℕ) → BeginsWith (λ b. 128 ≤ b) rest → BeginsNoBlank rest × (front_at rest ≡ fault NotAscii)
  high_front [] h = absurd h
  high_front (b ∷ rest) h = ((λ e. omega arith, λ e. omega arith, opening rest), not_ascii b rest h)
    where
      opening : (bs : List ℕ) → NoOpening b bs
      opening [] = tt
      opening (c ∷ bs) = λ x y. omega arith

  low_front : (rest : List ℕ) → BeginsWith (λ b. b < 128) rest → SpellsNone rest → front_at rest ≡ fault BadToken
  low_front [] h none = absurd h
  low_front (b ∷ rest) h none =
      (is_bad b rest none (front_at (b ∷ rest)) (rest_at (b ∷ rest)) (front_reported (b ∷ rest))
      (front_fits b rest)).0 h

  pub token_only : (l : Lexed) → StandsNext bytes at l → l ≡ token_at bytes at
  token_only (lexed.Token what from to) h =
      let t = h.ahead.1 in
      let begun = there from h.before h.rest h.parts h.here in
      let front : front_at h.rest ≡ taken what t.2.after = is_token h.rest t.0 what t.2 t.3 (front_at h.rest)
      (rest_at h.rest) refl (front_reported h.rest) in
      let size = shorter bytes at h.rest h.before h.parts in
      let ended : length bytes - length t.2.after ≡ to = omega
      (arith, ap length t.2.parts, length-append t.0 t.2.after, t.1) in
      sym (at_rest h.before h.rest h.parts h.blanks h.ahead.0 ∙ ap (lexed_front (length bytes) h.rest) front ∙ ap
      (λ (n : ℕ). lexed.Token what n (length bytes - length t.2.after)) begun ∙ ap
      (λ (n : ℕ). lexed.Token what from n) ended)
  token_only lexed.End h =
      let none = h.ahead in
      sym (at_rest h.before h.rest h.parts h.blanks (rw none tt) ∙ ap
      (λ (z : List ℕ). lexed_front (length bytes) z (front_at z)) none ∙ ap
      (lexed_front (length bytes) []) front_nil)
  token_only (lexed.Fault CommentOpen place) h =
      sym (at_open h.before h.rest h.parts h.blanks h.ahead ∙ ap (λ (n : ℕ). lexed.Fault CommentOpen n)
      (there place h.before h.rest h.parts h.here))
  token_only (lexed.Fault NotAscii place) h =
      let k = high_front h.rest h.ahead in
      sym (at_rest h.before h.rest h.parts h.blanks k.0 ∙ ap (lexed_front (length bytes) h.rest) k.1 ∙ ap
      (λ (n : ℕ). lexed.Fault NotAscii n) (there place h.before h.rest h.parts h.here))
  token_only (lexed.Fault BadToken place) h =
      sym (at_rest h.before h.rest h.parts h.blanks h.ahead.0 ∙ ap (lexed_front (length bytes) h.rest)
      (low_front h.rest h.ahead.1 h.ahead.2) ∙ ap (λ (n : ℕ). lexed.Fault BadToken n)
      (there place h.before h.rest h.parts h.here))
  token_only (lexed.Fault BadNumber place) h =
      let t = h.ahead.1 in
      let front : front_at h.rest ≡ fault BadNumber = is_outside h.rest t.0 t.1 t.2 t.3 (front_at h.rest)
      (rest_at h.rest) refl (front_reported h.rest) in
      sym (at_rest h.before h.rest h.parts h.blanks h.ahead.0 ∙ ap (lexed_front (length bytes) h.rest) front ∙ ap
      (λ (n : ℕ). lexed.Fault BadNumber n) (there place h.before h.rest h.parts h.here))

-- one answer is reported of a place
pub one_reported : (bytes : List ℕ) (at : ℕ) → at ≤ length bytes → (a b : Lexed) → StandsNext bytes at a
    → StandsNext bytes at b → a ≡ b
one_reported bytes at le a b h k = token_only bytes at le a h ∙ sym (token_only bytes at le b k)

-- a token ends within the bytes
pub ends_within : (bytes : List ℕ) (at : ℕ) (what : What) (from to : ℕ) → at ≤ length bytes
    → StandsNext bytes at (lexed.Token what from to) → to ≤ length bytes
ends_within bytes at what from to le h =
    let t = h.ahead.1 in
    let here = h.here in
    let ended = t.1 in
    omega (
      arith,
      length-drop at bytes,
      ap length h.parts,
      length-append h.before h.rest,
      ap length
          t.2.parts,
      length-append t.0 t.2.after,
    )
