-- Going over blanks, as the private functions do.
use Rattle.std.specs.Prelude.{ℕ, zero, suc, List, [], ◌∷◌, length, Option, Some, None, Result, Ok, Err}
use Rattle.std.specs.Prelude.{◌&&◌, ◌||◌, ◌==◌, if◌then◌else◌}

-- what stands after the next `*)`
abbrev pub after_comment : List ℕ → Option (List ℕ)
after_comment [] = None
after_comment (b ∷ []) = None
after_comment (b ∷ c ∷ bs) = if (b == 42) && (c == 41) then Some bs else after_comment (c ∷ bs)

-- what stands at the front: no blank, a blank and what is after it, or a comment without end
pub data Blank : Type 0 where
  here : Blank
  past : List ℕ → Blank
  open_comment : Blank

abbrev pub comment_past : Option (List ℕ) → Blank
comment_past (Some bs) = past bs
comment_past None = open_comment

abbrev pub comment_at : ℕ → List ℕ → Blank
comment_at b [] = here
comment_at b (c ∷ bs) = if (b == 40) && (c == 42) then comment_past (after_comment bs) else here

abbrev pub blank_at : List ℕ → Blank
blank_at [] = here
blank_at (b ∷ bs) = if (b == 32) || (b == 9) then past bs else comment_at b bs

-- all blanks at the front; an error is at the comment without end
abbrev pub blank_then : Blank → List ℕ → (List ℕ → Result (List ℕ) (List ℕ)) → Result (List ℕ) (List ℕ)
blank_then here bs f = Ok bs
blank_then (past rest) bs f = f rest
blank_then open_comment bs f = Err bs

-- at most n blanks
unfoldable pub blanks_read : ℕ → List ℕ → Result (List ℕ) (List ℕ)
blanks_read zero bs = Ok bs
blanks_read (suc n) bs = blank_then (blank_at bs) bs (λ rest. blanks_read n rest)

abbrev pub blanks : List ℕ → Result (List ℕ) (List ℕ)
blanks bs = blanks_read (length bs) bs
