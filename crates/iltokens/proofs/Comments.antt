-- What is gone over as blanks are blanks, and a comment ends at the first place where it may.
use Rattle.std.proofs.Common.{◌≡◌, ◌≢◌, ℕ, zero, suc, ◌≤◌, Bool, true, false, cond, eqb, List, [], ◌∷◌, ◌++◌, length}
use Rattle.std.proofs.Common.{Option, Some, None, Result, Ok, Err, ◌&&◌, ◌||◌, ◌⊎◌, inl, inr, refl, sym, ap, ◌∙◌}
use Rattle.std.proofs.Common.{append_assoc, arith, eqb-true, eq-eqb}
use Rattle.iltokens.specs.BlankSteps.{after_comment, Blank, here, past, open_comment, comment_past, comment_at}
use Rattle.iltokens.specs.BlankSteps.{blank_at, blank_then, blanks_read, blanks}
use Rattle.iltokens.specs.Blanks.{NoClose, IsBlank, AreBlanks, none, more, OpensComment, BeginsNoBlank}
use Rattle.iltokens.proofs.OverBlanks.{past_shorter}

-- ---- two tests together

pub both : (x y : Bool) → (x && y) ≡ true → (x ≡ true) × (y ≡ true)
both true true e = (refl, refl)
both true false e = absurd cc
both false y e = absurd cc

not_both : (b c m n : ℕ) → ((eqb b m) && (eqb c n)) ≡ false → b ≡ m → c ≡ n → ⊥
not_both b c m n e x y =
    let p = eq-eqb b m x in
    let q = eq-eqb c n y in
    let r : ((eqb b m) && (eqb c n)) ≡ true = rw (p, q) refl in
    let bad = sym e ∙ r in
    cc

pub either : (x y : Bool) → (x || y) ≡ true → (x ≡ true) ⊎ (y ≡ true)
either true y e = inl refl
either false y e = inr e

neither : (x y : Bool) → (x || y) ≡ false → (x ≡ false) × (y ≡ false)
neither true y e = absurd cc
neither false y e = (refl, e)

not_equal : (b m : ℕ) → eqb b m ≡ false → b ≢ m
not_equal b m e x = let p = eq-eqb b m x in let bad = sym e ∙ p in cc

-- ---- comments

abbrev Closed : List ℕ → Option (List ℕ) → Type 0
Closed bs (Some rest) = (inside : List ℕ) × (bs ≡ inside ++ 42 ∷ 41 ∷ rest) × NoClose (inside ++ 42 ∷ [])
Closed bs None = NoClose bs

one_more : (b c : ℕ) (bs inside rest : List ℕ) → (b ≡ 42 → c ≡ 41 → ⊥) → c ∷ bs ≡ inside ++ 42 ∷ 41 ∷ rest
    → NoClose (inside ++ 42 ∷ [])
    → NoClose (b ∷ (inside ++ 42 ∷ []))
one_more b c bs [] rest away e h = (λ x y. omega arith, tt)
one_more b c bs (d ∷ inside) rest away e h = let same : c ≡ d = cc in (λ x y. away x (same ∙ y), h)

grows : (b c : ℕ) (bs : List ℕ) (o : Option (List ℕ)) → (b ≡ 42 → c ≡ 41 → ⊥) → Closed (c ∷ bs) o
    → Closed (b ∷ c ∷ bs) o
grows b c bs (Some rest) away h = (b ∷ h.0, ap (λ (z : List ℕ). b ∷ z) h.1, one_more b c bs h.0 rest away h.1 h.2)
grows b c bs None away h = (away, h)

closes : (bs : List ℕ) → Closed bs (after_comment bs)
closes [] = tt
closes (b ∷ []) = tt
closes (b ∷ c ∷ bs) = go ((eqb b 42) && (eqb c 41)) refl (closes (c ∷ bs))
  where
    go : (t : Bool) → ((eqb b 42) && (eqb c 41)) ≡ t → Closed (c ∷ bs) (after_comment (c ∷ bs))
        → Closed (b ∷ c ∷ bs) (cond t (Some bs) (after_comment (c ∷ bs)))
    go true is h =
        let p = both (eqb b 42) (eqb c 41) is in
        let x = eqb-true b 42 p.0 in
        let y = eqb-true c 41 p.1 in
        ([], cc, tt)
    go false is h = grows b c bs (after_comment (c ∷ bs)) (not_both b c 42 41 is) h

-- ---- one blank

abbrev pub OneBlank : List ℕ → Blank → Type 0
OneBlank bs here = BeginsNoBlank bs
OneBlank bs (past rest) = (u : List ℕ) × (bs ≡ u ++ rest) × IsBlank u
OneBlank bs open_comment = OpensComment bs

comment_is : (inside : List ℕ) (o : Option (List ℕ)) → Closed inside o → OneBlank (40 ∷ 42 ∷ inside) (comment_past o)
comment_is inside (Some rest) h = (
  40 ∷ 42 ∷ h.0 ++ 42 ∷ 41 ∷ [],
  ap (λ (z : List ℕ). 40 ∷ 42 ∷ z)
      (h.1 ∙ sym (append_assoc h.0 (42 ∷ 41 ∷ []) rest)),
  inr (inr (h.0, refl, h.2)),
)
comment_is inside None h = (inside, refl, h)

at_comment : (b : ℕ) (bs : List ℕ) → b ≢ 32 → b ≢ 9 → OneBlank (b ∷ bs) (comment_at b bs)
at_comment b [] s t = (s, t, tt)
at_comment b (c ∷ bs) s t = go ((eqb b 40) && (eqb c 42)) refl
  where
    go : (x : Bool) → ((eqb b 40) && (eqb c 42)) ≡ x
        → OneBlank (b ∷ c ∷ bs) (cond x (comment_past (after_comment bs)) here)
    go true is =
        let p = both (eqb b 40) (eqb c 42) is in
        let x : b ≡ 40 = eqb-true b 40 p.0 in
        let y : c ≡ 42 = eqb-true c 42 p.1 in
        rw (x, y) (comment_is bs (after_comment bs) (closes bs))
    go false is = (s, t, not_both b c 40 42 is)

pub one_blank : (bs : List ℕ) → OneBlank bs (blank_at bs)
one_blank [] = tt
one_blank (b ∷ bs) = go ((eqb b 32) || (eqb b 9)) refl
  where
    space : (eqb b 32 ≡ true) ⊎ (eqb b 9 ≡ true) → IsBlank (b ∷ [])
    space (inl e) = let x = eqb-true b 32 e in inl cc
    space (inr e) = let x = eqb-true b 9 e in inr (inl cc)

    go : (t : Bool) → ((eqb b 32) || (eqb b 9)) ≡ t → OneBlank (b ∷ bs) (cond t (past bs) (comment_at b bs))
    go true is = (b ∷ [], refl, space (either (eqb b 32) (eqb b 9) is))
    go false is = let p = neither (eqb b 32) (eqb b 9) is in at_comment b bs (not_equal b 32 p.0) (not_equal b 9 p.1)

-- ---- all blanks

abbrev pub Passed : List ℕ → List ℕ → (List ℕ → Type 0) → Type 0
Passed bs rest P = (u : List ℕ) × (bs ≡ u ++ rest) × AreBlanks u × P rest

abbrev pub AllBlanks : List ℕ → Result (List ℕ) (List ℕ) → Type 0
AllBlanks bs (Ok rest) = Passed bs rest BeginsNoBlank
AllBlanks bs (Err rest) = Passed bs rest OpensComment

joins : (u v rest bs : List ℕ) (P : List ℕ → Type 0) → bs ≡ u ++ v → IsBlank u → Passed v rest P → Passed bs rest P
joins u v rest bs P e is h =
    (u ++ h.0, e ∙ ap (λ (z : List ℕ). u ++ z) h.1 ∙ sym (append_assoc u h.0 rest), more u h.0 is h.2, h.3)

joins_all : (u v bs : List ℕ) (r : Result (List ℕ) (List ℕ)) → bs ≡ u ++ v → IsBlank u → AllBlanks v r → AllBlanks bs r
joins_all u v bs (Ok rest) e is h = joins u v rest bs BeginsNoBlank e is h
joins_all u v bs (Err rest) e is h = joins u v rest bs OpensComment e is h

read_blanks : (n : ℕ) (bs : List ℕ) → length bs ≤ n → AllBlanks bs (blanks_read n bs)
unfolding blanks_read
read_blanks zero [] le = ([], refl, none, tt)
read_blanks zero (b ∷ bs) le = absurd (omega arith)
read_blanks (suc n) bs le = go (blank_at bs) refl (one_blank bs) (read_blanks n)
  where
    go : (o : Blank) → o ≡ blank_at bs → OneBlank bs o → ((v : List ℕ) → length v ≤ n → AllBlanks v (blanks_read n v))
        → AllBlanks bs (blank_then o bs (λ rest. blanks_read n rest))
    go here e h ih = ([], refl, none, h)
    go (past rest) e h ih =
        let lt = past_shorter bs rest e in
        joins_all h.0 rest bs (blanks_read n rest) h.1 h.2 (ih rest (omega arith))
    go open_comment e h ih = ([], refl, none, h)

pub blanks_are : (bs : List ℕ) → AllBlanks bs (blanks bs)
blanks_are bs = read_blanks (length bs) bs (omega arith)
