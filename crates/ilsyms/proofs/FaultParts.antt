-- The least fault that is not in a declaration is the least of its parts: of what lines use, of lines as such, of
-- global variables that two tasks store to, and of limits.
use Rattle.std.proofs.Common.{◌≡◌, ℕ, List, [], ◌∷◌, refl, sym, subst, ◌⊎◌, inl, inr}
use Rattle.std.specs.Prelude.{Option}
use Rattle.ilsource.specs.declared.uses.Use.{Use}
use Rattle.ilsource.specs.declared.symbol.Symbol.{Symbol}
use Rattle.ilsource.specs.Names.{folded}
use Rattle.ilsource.specs.SourceTrees.{Tree}
use Rattle.ildeclared.specs.Faults.{IsNextOf, OfCause, SomeOf}
use Rattle.ildeclared.specs.Order.{lesser_of_two}
use Rattle.ildeclared.specs.declared.fault.NameCause.{NameCause}
use Rattle.ildeclared.specs.declared.fault.NameCause.TheVariants.{Unknown, Twice, UnknownLabel, BackwardJump}
use Rattle.ildeclared.specs.declared.fault.NameCause.TheVariants.{BadAddress, InputRangeTooSmall, WrittenTwice}
use Rattle.ildeclared.specs.declared.fault.NameCause.TheVariants.{WritesInput, NoTask, TooMany, BadDeclaration}
use Rattle.ildeclared.specs.declared.found.Found.{Found}
use Rattle.ildeclared.proofs.FoundOrder.{next_same, or_else}
use Rattle.ildeclared.proofs.Least.{both_next}
use Rattle.ilscope.specs.Declarations.{bodies_of, DeclaredProgram}
use Rattle.ilscope.specs.Faults.{IsTwiceIn}
use Rattle.ilscope.proofs.LeastOfDeclarations.{some_of}
use Rattle.ilscope.specs.UseFaults.{IsUnknownUse, StoresToInput, WritesOutput, JumpsBack, JumpsNowhere, labels_of}
use Rattle.ilscope.specs.Calls.{calls_of}
use Rattle.ilscope.specs.UseFaults.{IsFaultAtUse, IsFaultAtUses, IsFaultOfBody, IsFaultOfLabels, IsFaultOfUses}
use Rattle.ilscope.specs.UseFaults.{IsGivenTwiceIn, IsWrongIn}
use Rattle.ilscope.specs.Uses.{uses_of}
use Rattle.ilsyms.specs.Faults.{IsFaultOfUse, IsTooMany, IsWrittenTwice}

-- ---- faults of one cause

-- the same places
pub of_same : (after : Option Found) (its : NameCause) (F G : ℕ → Type 0) (o : Option Found)
    → ((at : ℕ) → F at → G at) → ((at : ℕ) → G at → F at)
    → IsNextOf after (OfCause its F) o → IsNextOf after (OfCause its G) o
of_same after its F G o to from h =
    next_same after (OfCause its F) (OfCause its G) o (λ place cause f. (f.0, to place f.1))
    (λ place cause g. (g.0, from place g.1)) h

none_of : {X : Type 0} (xs : List X) → SomeOf (λ x. ⊥) xs → ⊥
none_of [] s = s
none_of (x ∷ xs) (inl n) = n
none_of (x ∷ xs) (inr s) = none_of xs s

two_of : {X : Type 0} (P Q : X → Type 0) (xs : List X) → SomeOf (λ x. P x ⊎ Q x) xs → SomeOf P xs ⊎ SomeOf Q xs
two_of P Q [] s = absurd s
two_of P Q (x ∷ xs) (inl (inl p)) = inl (inl p)
two_of P Q (x ∷ xs) (inl (inr q)) = inr (inl q)
two_of P Q (x ∷ xs) (inr s) = or_else (λ t. inl (inr t)) (λ t. inr (inr t)) (two_of P Q xs s)

module _ (tree : Tree) where
  abbrev Programs : List DeclaredProgram
  Programs = bodies_of tree

  abbrev IsUsed : ℕ → NameCause → Type 0
  IsUsed place cause = SomeOf (λ p. IsFaultAtUses tree p (uses_of p.program.lines) place cause) Programs

  abbrev IsWritten : ℕ → NameCause → Type 0
  IsWritten place cause = SomeOf (λ p. IsFaultOfBody tree p place cause) Programs

  abbrev IsPart : ℕ → NameCause → Type 0
  IsPart place cause =
      (IsFaultOfUses tree place cause ⊎ IsWritten place cause)
      ⊎ (OfCause WrittenTwice (IsWrittenTwice tree) place cause ⊎ OfCause TooMany (IsTooMany tree) place cause)

  -- ---- what lines use

  -- what each fault of a use of this cause is
  used_by : (place : ℕ) (cause : NameCause) (P : DeclaredProgram → Use Symbol → Type 0)
      → ((p : DeclaredProgram) (u : Use Symbol) → IsFaultAtUse tree p u place cause → P p u) → IsUsed place cause
      → SomeOf (λ p. SomeOf (P p) (uses_of p.program.lines)) Programs
  used_by place cause P each s =
      some_of (λ p t. some_of (λ u f. each p u f) (uses_of p.program.lines) t) Programs s

  none_used : (place : ℕ) (cause : NameCause) → ¬ (cause ≡ Unknown) → ¬ (cause ≡ WritesInput) → ¬ IsUsed place cause
  none_used place cause one other s =
      none_of Programs (some_of (λ p t. none_of (uses_of p.program.lines) t) Programs
      (used_by place cause (λ p u. ⊥) (λ p u f. or_else (λ t. one t.0) (λ t. other t.0) f) s))

  -- a use that stores to an output port, and one that stores to an input
  both_written : (place : ℕ) (ps : List DeclaredProgram)
      → SomeOf (λ p. SomeOf (λ u. WritesOutput tree.text p place u ⊎ StoresToInput tree p place u)
      (uses_of p.program.lines)) ps
      → SomeOf (λ p. SomeOf (WritesOutput tree.text p place) (uses_of p.program.lines)) ps
      ⊎ SomeOf (λ p. SomeOf (StoresToInput tree p place) (uses_of p.program.lines)) ps
  both_written place ps s =
      two_of (λ p. SomeOf (WritesOutput tree.text p place) (uses_of p.program.lines))
      (λ p. SomeOf (StoresToInput tree p place) (uses_of p.program.lines)) ps
      (some_of (λ p t. two_of (WritesOutput tree.text p place) (StoresToInput tree p place) (uses_of p.program.lines) t)
      ps s)

  used : (place : ℕ) (cause : NameCause) → IsUsed place cause → IsFaultOfUse tree place cause
  used place Unknown s =
      used_by place Unknown (λ p u. IsUnknownUse tree p place u)
      (λ p u f. or_else (λ t. t.1) (λ t. absurd (let e = t.0 in cc)) f) s
  used place WritesInput s =
      or_else (λ o. inl o) (λ i. inr (inl i))
      (both_written place Programs
      (used_by place WritesInput (λ p u. WritesOutput tree.text p place u ⊎ StoresToInput tree p place u)
      (λ p u f. or_else (λ t. absurd (let e = t.0 in cc)) (λ t. t.1) f) s))
  used place Twice s = absurd (none_used place Twice (λ e. cc) (λ e. cc) s)
  used place UnknownLabel s = absurd (none_used place UnknownLabel (λ e. cc) (λ e. cc) s)
  used place BackwardJump s = absurd (none_used place BackwardJump (λ e. cc) (λ e. cc) s)
  used place BadAddress s = absurd (none_used place BadAddress (λ e. cc) (λ e. cc) s)
  used place InputRangeTooSmall s = absurd (none_used place InputRangeTooSmall (λ e. cc) (λ e. cc) s)
  used place WrittenTwice s = absurd (none_used place WrittenTwice (λ e. cc) (λ e. cc) s)
  used place NoTask s = absurd (none_used place NoTask (λ e. cc) (λ e. cc) s)
  used place TooMany s = absurd (none_used place TooMany (λ e. cc) (λ e. cc) s)
  used place BadDeclaration s = absurd (none_used place BadDeclaration (λ e. cc) (λ e. cc) s)

  -- ---- lines as such

  -- what each fault of lines of this cause is
  lines_by : (place : ℕ) (cause : NameCause) (P : DeclaredProgram → Type 0)
      → ((p : DeclaredProgram) → IsFaultOfBody tree p place cause → P p) → IsWritten place cause
      → SomeOf P Programs
  lines_by place cause P each s = some_of (λ p f. each p f) Programs s

  -- and there is none of other causes
  none_written : (place : ℕ) (cause : NameCause)
      → ((p : DeclaredProgram) → IsFaultOfBody tree p place cause → ⊥) → ¬ IsWritten place cause
  none_written place cause none s = none_of Programs (lines_by place cause (λ p. ⊥) none s)

  -- a cause that neither labels nor ports nor calls have
  no_line : (place : ℕ) (cause : NameCause) (p : DeclaredProgram) → ¬ (cause ≡ Twice) → ¬ (cause ≡ BadDeclaration)
      → ¬ IsFaultOfLabels tree.text p.program.lines place cause → ¬ IsFaultOfBody tree p place cause
  no_line place cause p twice bad none f =
      or_else (λ l. or_else (λ k. none k) (λ t. twice t.0) l) (λ t. bad t.0) f

  written : (place : ℕ) (cause : NameCause) → IsWritten place cause → IsFaultOfUse tree place cause
  written place Twice s =
      two_of (λ p. IsTwiceIn (folded tree.text) (labels_of p.program.lines) place)
      (λ p. IsGivenTwiceIn tree.text p.program.lines place) Programs (lines_by place Twice
      (λ p. IsTwiceIn (folded tree.text) (labels_of p.program.lines) place
      ⊎ IsGivenTwiceIn tree.text p.program.lines place)
      (λ p f. or_else (λ l. or_else inl (λ t. inr t.1) l) (λ t. absurd (let e = t.0 in cc)) f) s)
  written place UnknownLabel s =
      lines_by place UnknownLabel (λ p. JumpsNowhere tree.text p.program.lines place)
      (λ p f. or_else (λ l. or_else (λ k. k) (λ t. absurd (let e = t.0 in cc)) l) (λ t. absurd (let e = t.0 in cc)) f) s
  written place BackwardJump s =
      lines_by place BackwardJump (λ p. JumpsBack tree.text p.program.lines place)
      (λ p f. or_else (λ l. or_else (λ k. k) (λ t. absurd (let e = t.0 in cc)) l) (λ t. absurd (let e = t.0 in cc)) f) s
  written place BadDeclaration s =
      lines_by place BadDeclaration (λ p. IsWrongIn tree p place (calls_of p.program.lines))
      (λ p f. or_else (λ l. or_else (λ k. absurd k) (λ t. absurd (let e = t.0 in cc)) l) (λ t. t.1) f) s
  written place Unknown s =
      absurd (none_written place Unknown (λ p f. no_line place Unknown p (λ e. cc) (λ e. cc) (λ k. k) f) s)
  written place BadAddress s =
      absurd (none_written place BadAddress (λ p f. no_line place BadAddress p (λ e. cc) (λ e. cc) (λ k. k) f) s)
  written place InputRangeTooSmall s =
      absurd (none_written place InputRangeTooSmall
      (λ p f. no_line place InputRangeTooSmall p (λ e. cc) (λ e. cc) (λ k. k) f) s)
  written place WrittenTwice s =
      absurd (none_written place WrittenTwice (λ p f. no_line place WrittenTwice p (λ e. cc) (λ e. cc) (λ k. k) f) s)
  written place WritesInput s =
      absurd (none_written place WritesInput (λ p f. no_line place WritesInput p (λ e. cc) (λ e. cc) (λ k. k) f) s)
  written place NoTask s =
      absurd (none_written place NoTask (λ p f. no_line place NoTask p (λ e. cc) (λ e. cc) (λ k. k) f) s)
  written place TooMany s =
      absurd (none_written place TooMany (λ p f. no_line place TooMany p (λ e. cc) (λ e. cc) (λ k. k) f) s)

  whole : (place : ℕ) (cause : NameCause) → IsPart place cause → IsFaultOfUse tree place cause
  whole place cause (inl (inl (inl u))) = used place cause u
  whole place cause (inl (inl (inr o))) =
      subst (λ (c : NameCause). IsFaultOfUse tree place c) (sym o.0) (inr (inr o.1))
  whole place cause (inl (inr l)) = written place cause l
  whole place cause (inr (inl t)) = subst (λ (c : NameCause). IsFaultOfUse tree place c) (sym t.0) t.1
  whole place cause (inr (inr t)) = subst (λ (c : NameCause). IsFaultOfUse tree place c) (sym t.0) t.1

  -- ---- and back

  uses_from : (place : ℕ) (cause : NameCause) (P : DeclaredProgram → Use Symbol → Type 0)
      → ((p : DeclaredProgram) (u : Use Symbol) → P p u → IsFaultAtUse tree p u place cause)
      → SomeOf (λ p. SomeOf (P p) (uses_of p.program.lines)) Programs → IsPart place cause
  uses_from place cause P each s =
      inl (inl (inl (some_of (λ p t. some_of (λ u f. each p u f) (uses_of p.program.lines) t) Programs s)))

  lines_from : (place : ℕ) (cause : NameCause) (P : DeclaredProgram → Type 0)
      → ((p : DeclaredProgram) → P p → IsFaultOfBody tree p place cause)
      → SomeOf P Programs → IsPart place cause
  lines_from place cause P each s = inl (inr (some_of (λ p f. each p f) Programs s))

  parted : (place : ℕ) (cause : NameCause) → IsFaultOfUse tree place cause → IsPart place cause
  parted place Unknown u =
      uses_from place Unknown (λ p u. IsUnknownUse tree p place u) (λ p u f. inl (refl, f)) u
  parted place Twice (inl l) =
      lines_from place Twice (λ p. IsTwiceIn (folded tree.text) (labels_of p.program.lines) place)
      (λ p f. inl (inl f)) l
  parted place Twice (inr g) =
      lines_from place Twice (λ p. IsGivenTwiceIn tree.text p.program.lines place) (λ p f. inl (inr (refl, f))) g
  parted place UnknownLabel l =
      lines_from place UnknownLabel (λ p. JumpsNowhere tree.text p.program.lines place) (λ p f. inl (inl f)) l
  parted place BackwardJump l =
      lines_from place BackwardJump (λ p. JumpsBack tree.text p.program.lines place) (λ p f. inl (inl f)) l
  parted place WritesInput (inl w) =
      uses_from place WritesInput (λ p u. WritesOutput tree.text p place u) (λ p u f. inr (refl, inl f)) w
  parted place WritesInput (inr (inl w)) =
      uses_from place WritesInput (λ p u. StoresToInput tree p place u) (λ p u f. inr (refl, inr f)) w
  parted place WritesInput (inr (inr o)) = inl (inl (inr (refl, o)))
  parted place WrittenTwice t = inr (inl (refl, t))
  parted place TooMany t = inr (inr (refl, t))
  parted place BadAddress t = absurd t
  parted place InputRangeTooSmall t = absurd t
  parted place NoTask t = absurd t
  parted place BadDeclaration t =
      lines_from place BadDeclaration (λ p. IsWrongIn tree p place (calls_of p.program.lines)) (λ p f. inr (refl, f)) t

  -- the least fault is the least of the four
  pub least_of_uses : (after uses lines stored many : Option Found)
      → IsNextOf after (IsFaultOfUses tree) uses
      → IsNextOf after (λ place cause. SomeOf (λ p. IsFaultOfBody tree p place cause) (bodies_of tree)) lines
      → IsNextOf after (OfCause WrittenTwice (IsWrittenTwice tree)) stored
      → IsNextOf after (OfCause TooMany (IsTooMany tree)) many
      → IsNextOf after (IsFaultOfUse tree) (lesser_of_two (lesser_of_two uses lines) (lesser_of_two stored many))
  least_of_uses after uses lines stored many h k l m =
      next_same after IsPart (IsFaultOfUse tree) (lesser_of_two (lesser_of_two uses lines) (lesser_of_two stored many))
      whole parted
      (both_next after (λ place cause. IsFaultOfUses tree place cause ⊎ IsWritten place cause)
      (λ place cause.
      OfCause WrittenTwice (IsWrittenTwice tree) place cause ⊎ OfCause TooMany (IsTooMany tree) place cause)
      (lesser_of_two uses lines) (lesser_of_two stored many)
      (both_next after (IsFaultOfUses tree) IsWritten uses lines h k)
      (both_next after (OfCause WrittenTwice (IsWrittenTwice tree)) (OfCause TooMany (IsTooMany tree)) stored many l m))
