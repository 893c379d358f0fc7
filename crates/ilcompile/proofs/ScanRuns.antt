-- The run of a code is the runs of its programs, one after another: at the end of one the next begins, with no result,
-- whatever the result was.
use Rattle.std.proofs.Common.{◌≡◌, ℕ, ◌+◌, ◌≤◌, List, [], ◌∷◌, ◌++◌, length, true, cond, Option, Some}
use Rattle.std.proofs.Common.{None, refl, sym, ap, ◌∙◌, subst, arith, append_assoc}
use Rattle.std.specs.Prelude.{◌==◌, ◌&&◌, nat_lt, nat_le, not}
use Rattle.std.specs.Option.{option_and_then}
use Rattle.std.proofs.lemmas.Bool.Decides.{nat_tests}
use Rattle.iltypes.specs.declared.value.Value.{Value}
use Rattle.ilsource.specs.declared.instruction.Line.{Line}
use Rattle.ilsource.specs.Meaning.{Access, On}
use Rattle.ilsource.specs.Passes.{passes, scan}
use Rattle.ilsource.specs.Words as counts
use Rattle.ilblocks.specs.Stores.{Store}
use Rattle.ilplan.specs.declared.place.Place.{Place}
use Rattle.ilplan.specs.PlanMeaning.{number_same}
use Rattle.ilplan.specs.Plans.{Nameable}
use Rattle.ilcode.specs.Listings.{Listing, all_starts, end_of}
use Rattle.ilcode.specs.Steps.{Configuration, at, entered, is_start}
use Rattle.ilcompile.specs.Layout.{Numbers, starts_from, words_of_lines, words_of_programs}
use Rattle.ilcompile.proofs.Named.{IsFit}
use Rattle.ilcompile.proofs.Stands.{Each, HasWords, words_front, words_back}
use Rattle.ilcompile.proofs.Sizes.{lines_long}
use Rattle.ilcompile.proofs.Starts.{Programs, UpTo, FromOn, one_more, starts_at, none_between, none_within}
use Rattle.ilcompile.proofs.Starts.{begins_between, programs_from, from_both, from_less, one_there}
use Rattle.ilcompile.proofs.Reaches.{Reaches, Stuck, Region, in_program, reaches_self, reaches_then, reaches_as}
use Rattle.ilcompile.proofs.Reaches.{reaches_at, stuck_later}
use Rattle.ilcompile.proofs.Shows.{Shows}
use Rattle.ilcompile.proofs.LineRuns.{Passes, lines_run}

-- how many words programs are
abbrev pub words_of_all : Programs → ℕ
words_of_all [] = 0
words_of_all (lines ∷ more) = counts.words_of_lines lines + words_of_all more

module _ (code : Listing) (numbers : Numbers) (base hi : ℕ) (a : Access Place Store) (Whole : Store → Store → Type 0)
    (names : Nameable) (May : ℕ → Type 0) (shows : Shows code numbers base hi [] a Whole names May)
    (within : hi ≤ length code.slots) (tail : List ℕ) (behind : FromOn (end_of code 0) tail)
    (inside : end_of code 0 ≤ length code.instructions) where
  -- the run comes to the programs' end with what shows this store, or is stuck
  abbrev pub Done : Configuration → Option Store → Type 0
  Done c None = Stuck code c
  Done c (Some s) = (t : Store) × (r : Option Value) × Whole s t × Reaches code c (at (end_of code 0) t r [] [])

  done_later : (c d : Configuration) (o : Option Store) → Reaches code c d → Done d o → Done c o
  done_later c d None l h = stuck_later code c d l h
  done_later c d (Some s) l h = (h.0, h.1, h.2, reaches_then code c d (at (end_of code 0) h.0 h.1 [] []) l h.3)

  -- the programs that are left, where the starts of those before stand in front
  pub record Left (before : List ℕ) (p : ℕ) (more : Programs) : Type 0 where
    pub words : HasWords code.instructions p (words_of_programs numbers p more)
    pub starts : all_starts code ≡ before ++ (starts_from p more ++ tail)
    pub ends : p + words_of_all more ≡ end_of code 0
    pub up_to : UpTo p before

  abbrev lines_end : ℕ → List (Line Place ℕ) → ℕ
  lines_end p lines = p + counts.words_of_lines lines

  next_left : (before : List ℕ) (p : ℕ) (lines : List (Line Place ℕ)) (more : Programs) → Left before p (lines ∷ more)
      → Left (before ++ p ∷ []) (lines_end p lines) more
  next_left before p lines more l =
      let q = lines_end p lines in
      let mine = words_of_lines numbers q p lines in
      let long : p + length mine ≡ q = ap (λ n. p + n) (lines_long numbers q p lines) in
      let ends = l.ends in
      record {
        words = subst (λ n. HasWords code.instructions n (words_of_programs numbers q more)) long
            (words_back code.instructions p mine (words_of_programs numbers q more) l.words);
        starts = l.starts ∙ sym (append_assoc before (p ∷ []) (starts_from q more ++ tail));
        ends = omega arith;
        up_to = one_more before p q (omega arith) l.up_to;
      }

  -- starts behind a program
  rest_from : (before : List ℕ) (q : ℕ) (more : Programs) → Left before q more → FromOn q (starts_from q more ++ tail)
  rest_from before q more l =
      let ends = l.ends in
      from_both q (starts_from q more) tail (programs_from q more)
      (from_less q (end_of code 0) tail (omega arith) behind)

  region_of : (before : List ℕ) (p : ℕ) (lines : List (Line Place ℕ)) (more : Programs) → Left before p (lines ∷ more)
      → Region code [] p (lines_end p lines)
  region_of before p lines more l =
      let q = lines_end p lines in
      let next = next_left before p lines more l in
      let rest = rest_from (before ++ p ∷ []) q more next in
      let ends = next.ends in
      let mine = one_more before p p (omega arith) l.up_to in
      in_program code p q
      (λ n lo hi. ap (starts_at n) next.starts
      ∙ none_between (before ++ p ∷ []) (starts_from q more ++ tail) p q n mine rest lo hi)
      (omega arith)
      (λ n m lo up hi.
      let t : nat_lt n m ≡ true = grind (arith, nat_tests) in
      let le : m ≤ length code.instructions = omega arith in
      let u : nat_le m (length code.instructions) ≡ true = grind (arith, nat_tests) in
      let none = ap (begins_between n m) next.starts
      ∙ none_within (before ++ p ∷ []) (starts_from q more ++ tail) p n m q mine rest lo hi in
      ap (λ b. (b && nat_le m (length code.instructions)) && not (begins_between n m (all_starts code))) t
      ∙ (ap (λ b. b && not (begins_between n m (all_starts code))) u ∙ ap not none))

  -- at a start with any result it is as with none
  as_none : (p : ℕ) (t : Store) (r : Option Value) → is_start code p ≡ true
      → entered code (at p t r [] []) ≡ entered code (at p t None [] [])
  as_none p t r e =
      ap
      (λ b. cond b (Some (at p t None [] []))
      (cond (p == end_of code 0) (Some (at p t r [] [])) (Some (at p t r [] [])))) e
      ∙ sym (ap
      (λ b. cond b (Some (at p t None [] []))
      (cond (p == end_of code 0) (Some (at p t None [] [])) (Some (at p t None [] [])))) e)

  -- at the end of a program
  go_on : (c : Configuration) (before : List ℕ) (q : ℕ) (more : Programs) (s t : Store) (r : Option Value)
      → Left before q more → Whole s t → Reaches code c (at q t r [] [])
      → Done (at q t None [] []) (scan number_same a more s) → Done c (scan number_same a more s)
  go_on c before q [] s t r l here way h =
      let ends = l.ends in
      let z : q ≡ end_of code 0 = omega arith in
      (t, r, here, reaches_at code c q (end_of code 0) t r [] [] z way)
  go_on c before q (lines ∷ more) s t r l here way h =
      let start = ap (starts_at q) l.starts
      ∙ one_there before (starts_from (lines_end q lines) more ++ tail) q in
      done_later c (at q t None [] []) (scan number_same a (lines ∷ more) s)
      (reaches_as code c (at q t r [] []) (at q t None [] []) (as_none q t r start) way) h

  -- one program, where it is known how the run goes on behind it
  after : (before : List ℕ) (p : ℕ) (lines : List (Line Place ℕ)) (more : Programs) (l : Left before p (lines ∷
      more)) (t : Store)
      → ((s1 t1 : Store) → Whole s1 t1 → Done (at (lines_end p lines) t1 None [] []) (scan number_same a more s1))
      → (o : Option Store)
      → Passes code numbers base hi [] a Whole names May shows p (lines_end p lines) (region_of before p lines more l)
      within (at p t None [] []) o
      → Done (at p t None [] []) (option_and_then (scan number_same a more) o)
  after before p lines more l t later None h = h
  after before p lines more l t later (Some s1) h =
      go_on (at p t None [] []) (before ++ p ∷ []) (lines_end p lines) more s1 h.0 h.1 (next_left before p lines more l)
      h.2 h.3 (later s1 h.0 h.2)

  -- all programs that are left
  pub programs_run : (programs : Programs) (before : List ℕ) (p : ℕ) → Left before p programs
      → Each (Each (IsFit numbers.constants names May)) programs → (s t : Store) → Whole s t
      → Done (at p t None [] []) (scan number_same a programs s)
  programs_run [] before p l fit s t here =
      let ends = l.ends in
      let z : p ≡ end_of code 0 = omega arith in (
        t,
        None,
        here,
        reaches_at code (at p t None [] []) p (end_of code 0) t None [] [] z
            (reaches_self code (at p t None [] [])),
      )
  programs_run (lines ∷ more) before p l fit s t here =
      let q = lines_end p lines in
      let mine = words_of_lines numbers q p lines in
      let rest = words_of_programs numbers q more in
      let region = region_of before p lines more l in
      let run = lines_run code numbers base hi [] a Whole names May shows p q region within lines p
      (words_front code.instructions p mine rest l.words) fit.0 refl (omega arith) On None s t here (λ e. refl) in
      after before p lines more l t
      (λ s1 t1 seen. programs_run more (before ++ p ∷ []) q (next_left before p lines more l) fit.1 s1 t1 seen)
      (passes number_same a lines On None s) run.2
