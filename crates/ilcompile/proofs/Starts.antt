-- Where programs and functions begin: a start stands at the first place of each, and at no other place.
use Rattle.std.proofs.Common.{◌≡◌, ℕ, ◌+◌, ◌<◌, ◌≤◌, List, [], ◌∷◌, ◌++◌, Bool, true, false, ◌||◌}
use Rattle.std.proofs.Common.{refl, ap, ◌∙◌, arith}
use Rattle.std.specs.Prelude.{◌==◌, ◌&&◌, nat_lt, ⊤}
use Rattle.std.specs.List.{list_any}
use Rattle.std.proofs.lemmas.Bool.Decides.{nat_tests}
use Rattle.ilsource.specs.declared.instruction.Line.{Line}
use Rattle.ilsource.specs.Words.{words_of_lines}
use Rattle.ilplan.specs.declared.place.Place.{Place}
use Rattle.ilcompile.specs.Layout.{starts_from}
use Rattle.ilcompile.proofs.UsedFunctions.{either}

abbrev pub Programs : Type 0
Programs = List (List (Line Place ℕ))

abbrev pub starts_at : ℕ → List ℕ → Bool
starts_at p starts = list_any (λ start. start == p) starts

-- no start is further on
abbrev pub UpTo : ℕ → List ℕ → Type 0
UpTo p [] = ⊤
UpTo p (s ∷ starts) = (s ≤ p) × UpTo p starts

pub one_more : (starts : List ℕ) (p q : ℕ) → p ≤ q → UpTo p starts → UpTo q (starts ++ p ∷ [])
one_more [] p q h l = (h, tt)
one_more (s ∷ starts) p q h l = (let le = l.0 in omega arith, one_more starts p q h l.1)

not_before : (s p : ℕ) → s < p → (s == p) ≡ false
not_before s p h = grind (arith, nat_tests)

not_after : (s p : ℕ) → p < s → (s == p) ≡ false
not_after s p h = grind (arith, nat_tests)

-- starts that are behind a place do not matter there
past : (before rest : List ℕ) (q p : ℕ) → UpTo q before → q < p → starts_at p (before ++ rest) ≡ starts_at p rest
past [] rest q p l h = refl
past (s ∷ before) rest q p l h =
    let le = l.0 in
    ap (λ b. b || starts_at p (before ++ rest)) (not_before s p (omega arith)) ∙ past before rest q p l.1 h

-- no start is before this place
abbrev pub FromOn : ℕ → List ℕ → Type 0
FromOn p [] = ⊤
FromOn p (s ∷ starts) = (p ≤ s) × FromOn p starts

pub from_less : (p q : ℕ) (starts : List ℕ) → p ≤ q → FromOn q starts → FromOn p starts
from_less p q [] h f = tt
from_less p q (s ∷ starts) h f = (let le = f.0 in omega arith, from_less p q starts h f.1)

pub from_both : (p : ℕ) (one other : List ℕ) → FromOn p one → FromOn p other → FromOn p (one ++ other)
from_both p [] other f g = g
from_both p (s ∷ one) other f g = (f.0, from_both p one other f.1 g)

pub programs_from : (q : ℕ) (more : Programs) → FromOn q (starts_from q more)
programs_from q [] = tt
programs_from q (lines ∷ more) =
    let next = q + words_of_lines lines in
    (omega arith, from_less q next (starts_from next more) (omega arith) (programs_from next more))

none_yet : (starts : List ℕ) (q p : ℕ) → FromOn q starts → p < q → starts_at p starts ≡ false
none_yet [] q p f h = refl
none_yet (s ∷ starts) q p f h =
    let le = f.0 in ap (λ b. b || starts_at p starts) (not_after s p (omega arith)) ∙ none_yet starts q p f.1 h

-- between the start of a program and the next start there is none
pub none_between : (before rest : List ℕ) (p q n : ℕ) → UpTo p before → FromOn q rest → p < n → n < q
    → starts_at n (before ++ rest) ≡ false
none_between before rest p q n l f lo hi = past before rest p n l lo ∙ none_yet rest q n f hi

-- a program begins between the two places
abbrev pub begins_between : ℕ → ℕ → List ℕ → Bool
begins_between p n starts = list_any (λ start. nat_lt p start && nat_lt start n) starts

is_behind : (s p n : ℕ) → s ≤ p → (nat_lt p s && nat_lt s n) ≡ false
is_behind s p n h = let t : nat_lt p s ≡ false = grind (arith, nat_tests) in ap (λ b. b && nat_lt s n) t

is_ahead : (s p n : ℕ) → n ≤ s → (nat_lt p s && nat_lt s n) ≡ false
is_ahead s p n h =
    let t : nat_lt s n ≡ false = grind (arith, nat_tests) in ap (λ b. nat_lt p s && b) t ∙ no_more (nat_lt p s)
  where
    no_more : (b : Bool) → (b && false) ≡ false
    no_more true = refl
    no_more false = refl

none_behind : (before rest : List ℕ) (q p n : ℕ) → UpTo q before → q ≤ p
    → begins_between p n (before ++ rest) ≡ begins_between p n rest
none_behind [] rest q p n l h = refl
none_behind (s ∷ before) rest q p n l h =
    let le = l.0 in
    ap (λ b. b || begins_between p n (before ++ rest)) (is_behind s p n (omega arith))
    ∙ none_behind before rest q p n l.1 h

none_ahead : (starts : List ℕ) (q p n : ℕ) → FromOn q starts → n ≤ q → begins_between p n starts ≡ false
none_ahead [] q p n f h = refl
none_ahead (s ∷ starts) q p n f h =
    let le = f.0 in
    ap (λ b. b || begins_between p n starts) (is_ahead s p n (omega arith)) ∙ none_ahead starts q p n f.1 h

-- within a program or a body none begins
pub none_within : (before rest : List ℕ) (q p n end : ℕ) → UpTo q before → FromOn end rest → q ≤ p → n ≤ end
    → begins_between p n (before ++ rest) ≡ false
none_within before rest q p n end l f lo hi =
    none_behind before rest q p n l lo ∙ none_ahead rest end p n f hi

-- a program begins where its words do
pub one_there : (before after : List ℕ) (p : ℕ) → starts_at p (before ++ p ∷ after) ≡ true
one_there [] after p = let t : (p == p) ≡ true = grind (arith, nat_tests) in ap (λ b. b || starts_at p after) t
one_there (s ∷ before) after p = either (s == p) (starts_at p (before ++ p ∷ after)) (one_there before after p)
