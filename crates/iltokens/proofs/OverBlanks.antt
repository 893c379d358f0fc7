-- Going over blanks.
use Rattle.std.proofs.Common.{◌≡◌, ℕ, zero, suc, ◌<◌, ◌≤◌, Bool, true, false, cond, eqb, List, [], ◌∷◌, length, Option}
use Rattle.std.proofs.Common.{Some, None, Ok, Err, ◌&&◌, ◌||◌, refl, sym, subst, arith}
use Rattle.iltokens.specs.BlankSteps.{after_comment, Blank, here, past, open_comment, comment_past, comment_at}
use Rattle.iltokens.specs.BlankSteps.{blank_at, blank_then, blanks_read, blanks}

abbrev Behind : ℕ → Option (List ℕ) → Type 0
Behind n None = Unit {0}
Behind n (Some r) = length r < n

abbrev Shorter : ℕ → Blank → Type 0
Shorter n here = Unit {0}
Shorter n (past r) = length r < n
Shorter n open_comment = Unit {0}

more : (n : ℕ) (o : Option (List ℕ)) → Behind n o → Behind (suc n) o
more n None h = tt
more n (Some r) h = omega arith

comment_shrinks : (bs : List ℕ) → Behind (suc (length bs)) (after_comment bs)
comment_shrinks [] = tt
comment_shrinks (b ∷ []) = tt
comment_shrinks (b ∷ c ∷ bs) = go ((eqb b 42) && (eqb c 41)) (comment_shrinks (c ∷ bs))
  where
    go : (t : Bool) → Behind (suc (length (c ∷ bs))) (after_comment (c ∷ bs))
        → Behind (suc (length (b ∷ c ∷ bs))) (cond t (Some bs) (after_comment (c ∷ bs)))
    go true h = omega arith
    go false h = more _ (after_comment (c ∷ bs)) h

past_shrinks : (n : ℕ) (o : Option (List ℕ)) → Behind n o → Shorter n (comment_past o)
past_shrinks n None h = tt
past_shrinks n (Some r) h = h

at_shrinks : (b : ℕ) (bs : List ℕ) → Shorter (suc (length bs)) (comment_at b bs)
at_shrinks b [] = tt
at_shrinks b (c ∷ bs) = go ((eqb b 40) && (eqb c 42))
  where
    go : (t : Bool) → Shorter (suc (length (c ∷ bs))) (cond t (comment_past (after_comment bs)) here)
    go true = past_shrinks _ (after_comment bs) (more _ (after_comment bs) (comment_shrinks bs))
    go false = tt

blank_shrinks : (bs : List ℕ) → Shorter (length bs) (blank_at bs)
blank_shrinks [] = tt
blank_shrinks (b ∷ bs) = go ((eqb b 32) || (eqb b 9))
  where
    go : (t : Bool) → Shorter (suc (length bs)) (cond t (past bs) (comment_at b bs))
    go true = omega arith
    go false = at_shrinks b bs

pub past_shorter : (bs rest : List ℕ) → past rest ≡ blank_at bs → length rest < length bs
past_shorter bs rest e = subst (λ (b : Blank). Shorter (length bs) b) (sym e) (blank_shrinks bs)

same_fuel : (n m : ℕ) (bs : List ℕ) → length bs ≤ n → length bs ≤ m → blanks_read n bs ≡ blanks_read m bs
unfolding blanks_read
same_fuel zero zero bs ln lm = refl
same_fuel zero (suc m) [] ln lm = refl
same_fuel zero (suc m) (b ∷ bs) ln lm = absurd (omega arith)
same_fuel (suc n) zero [] ln lm = refl
same_fuel (suc n) zero (b ∷ bs) ln lm = absurd (omega arith)
same_fuel (suc n) (suc m) bs ln lm = go (same_fuel n m) (blank_at bs) refl
  where
    go : ((rest : List ℕ) → length rest ≤ n → length rest ≤ m → blanks_read n rest ≡ blanks_read m rest) → (o : Blank)
        → o ≡ blank_at bs → blank_then o bs (λ rest. blanks_read n rest) ≡ blank_then o bs (λ rest. blanks_read m rest)
    go ih here e = refl
    go ih (past rest) e = let lt = past_shorter bs rest e in ih rest (omega arith) (omega arith)
    go ih open_comment e = refl

one_step : (n : ℕ) (bs rest : List ℕ) → length bs ≤ n → past rest ≡ blank_at bs → blanks_read n bs ≡ blanks rest
unfolding blanks_read
one_step zero bs rest le e = absurd (let lt = past_shorter bs rest e in omega arith)
one_step (suc n) bs rest le e =
    let lt = past_shorter bs rest e in
    rw (sym e) (same_fuel n (length rest) rest (omega arith) (omega arith))

pub goes_over : (bs rest : List ℕ) → past rest ≡ blank_at bs → blanks rest ≡ blanks bs
goes_over bs rest e = sym (one_step (length bs) bs rest (omega arith) e)

stops_from : (n : ℕ) (bs : List ℕ) → here ≡ blank_at bs → blanks_read n bs ≡ Ok bs
unfolding blanks_read
stops_from zero bs e = refl
stops_from (suc n) bs e = rw (sym e) refl

pub stops_there : (bs : List ℕ) → here ≡ blank_at bs → blanks bs ≡ Ok bs
stops_there bs e = stops_from (length bs) bs e

fails_from : (n : ℕ) (bs : List ℕ) → length bs ≤ n → open_comment ≡ blank_at bs → blanks_read n bs ≡ Err bs
unfolding blanks_read
fails_from zero [] le e = absurd cc
fails_from zero (b ∷ bs) le e = absurd (omega arith)
fails_from (suc n) bs le e = rw (sym e) refl

pub fails_there : (bs : List ℕ) → open_comment ≡ blank_at bs → blanks bs ≡ Err bs
fails_there bs e = fails_from (length bs) bs (omega arith) e

pub short_none : (bs : List ℕ) → length bs < 2 → after_comment bs ≡ None
short_none [] h = refl
short_none (b ∷ []) h = refl
short_none (b ∷ c ∷ bs) h = absurd (omega arith)
