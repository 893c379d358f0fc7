-- Blanks and comments are gone over, whatever follows them.
use Rattle.std.proofs.Common.{◌≡◌, ◌≢◌, ℕ, Bool, true, false, eqb, List, [], ◌∷◌, ◌++◌, Some, None, Result, Ok, Err}
use Rattle.std.proofs.Common.{◌&&◌, inl, inr, refl, sym, ap, ◌∙◌, append_assoc, eqb-true}
use Rattle.iltokens.specs.BlankSteps.{after_comment, here, past, open_comment, comment_past, blank_at, blanks}
use Rattle.iltokens.specs.Blanks.{NoClose, IsBlank, AreBlanks, OpensComment, BeginsNoBlank}
use Rattle.iltokens.proofs.Comments.{both}
use Rattle.iltokens.proofs.OverBlanks.{goes_over, stops_there, fails_there}

other_than : (b k : ℕ) → b ≢ k → eqb b k ≡ false
other_than b k differs = go (eqb b k) refl
  where
    go : (t : Bool) → eqb b k ≡ t → t ≡ false
    go true e = absurd (differs (eqb-true b k e))
    go false e = refl

not_two : (b c m n : ℕ) → (b ≡ m → c ≡ n → ⊥) → ((eqb b m) && (eqb c n)) ≡ false
not_two b c m n away = go ((eqb b m) && (eqb c n)) refl
  where
    go : (t : Bool) → ((eqb b m) && (eqb c n)) ≡ t → t ≡ false
    go true e = let p = both (eqb b m) (eqb c n) e in absurd (away (eqb-true b m p.0) (eqb-true c n p.1))
    go false e = refl

comment_again : (inside rest : List ℕ) → NoClose (inside ++ 42 ∷ [])
    → after_comment (inside ++ 42 ∷ 41 ∷ rest) ≡ Some rest
comment_again [] rest h = refl
comment_again (b ∷ []) rest h = let away = not_two b 42 42 41 h.0 in rw away refl
comment_again (b ∷ c ∷ inside) rest h =
    let away = not_two b c 42 41 h.0 in
    rw away (comment_again (c ∷ inside) rest h.1)

never_closed : (inside : List ℕ) → NoClose inside → after_comment inside ≡ None
never_closed [] h = refl
never_closed (b ∷ []) h = refl
never_closed (b ∷ c ∷ inside) h = let away = not_two b c 42 41 h.0 in rw away (never_closed (c ∷ inside) h.1)

blank_again : (u rest : List ℕ) → IsBlank u → blank_at (u ++ rest) ≡ past rest
blank_again u rest (inl e) = rw e refl
blank_again u rest (inr (inl e)) = rw e refl
blank_again u rest (inr (inr h)) =
    let inside = h.0 in
    let regroup : (inside ++ 42 ∷ 41 ∷ []) ++ rest ≡ inside ++ 42 ∷ 41 ∷ rest = append_assoc inside
    (42 ∷ 41 ∷ []) rest in
    ap (λ (z : List ℕ). blank_at (z ++ rest)) h.1 ∙ ap
    (λ (z : List ℕ). comment_past (after_comment z)) regroup ∙ ap comment_past (comment_again inside rest h.2)

opens_again : (rest : List ℕ) → OpensComment rest → blank_at rest ≡ open_comment
opens_again rest h = ap blank_at h.1 ∙ ap comment_past (never_closed h.0 h.2)

here_again : (rest : List ℕ) → BeginsNoBlank rest → blank_at rest ≡ here
here_again [] h = refl
here_again (b ∷ []) h = let space = other_than b 32 h.0 in let tab = other_than b 9 h.1 in rw (space, tab) refl
here_again (b ∷ c ∷ bs) h =
    let space = other_than b 32 h.0 in
    let tab = other_than b 9 h.1 in
    let away = not_two b c 40 42 h.2 in
    rw (space, tab, away) refl

over : (u rest : List ℕ) → AreBlanks u → (r : Result (List ℕ) (List ℕ)) → blanks rest ≡ r → blanks (u ++ rest) ≡ r
over _ rest AreBlanks.none r e = e
over _ rest (AreBlanks.more u v is are) r e =
    ap blanks (append_assoc u v rest)
    ∙ sym (goes_over (u ++ (v ++ rest)) (v ++ rest) (sym (blank_again u (v ++ rest) is))) ∙ over v rest are r e

pub blanks_end : (u rest : List ℕ) → AreBlanks u → BeginsNoBlank rest → blanks (u ++ rest) ≡ Ok rest
blanks_end u rest are h = over u rest are (Ok rest) (stops_there rest (sym (here_again rest h)))

pub blanks_open : (u rest : List ℕ) → AreBlanks u → OpensComment rest → blanks (u ++ rest) ≡ Err rest
blanks_open u rest are h = over u rest are (Err rest) (fails_there rest (sym (opens_again rest h)))
