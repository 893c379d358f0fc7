-- Lines that are passed over before the one that answers the greeting, and what is read away.
use Rattle.std.proofs.Common.{◌≡◌, ℕ, List, [], ◌∷◌, ◌++◌, inl, inr, Option, refl, sym, ap, ◌∙◌, subst}
use Rattle.std.proofs.Common.{true, false}
use Rattle.std.proofs.Common.{append_assoc, append-nil}
use Rattle.std.specs.Prelude.{All}
use Rattle.std.proofs.lemmas.List.Elements.{All-nil, All-append, All-cons}
use Rattle.std.specs.Io.KnownBytes.{Appends, Consumes, Keeps}
use Rattle.std.proofs.KnownBytes.{Consumes-nil, Consumes-trans, Consumes-kept}
use Rattle.liveline.specs.Greetings.{Ends, IsAnswer, IsAnswered, IsAsked, IsGreeted, IsGreetedAsBefore}
use Rattle.liveline.specs.Greetings.{IsGreetedPlainly, IsReadAway, ends}
use Rattle.liveline.specs.Lines.{ended, fault_line, greeting, line_end, numbered_answer, numbered_greeting}

-- lines were read, of which none answers the greeting
abbrev pub ArePassed : ℕ → ℕ → Option (List ℕ) → Option (List ℕ) → Type 0
ArePassed version number old new =
    (passed : List (List ℕ)) × All (λ line. ¬ IsAnswer version number line) passed × Consumes old new (ended passed)

pub none_passed : (version number : ℕ) (a : Option (List ℕ)) → ArePassed version number a a
none_passed version number a = ([], All-nil (λ line. ¬ IsAnswer version number line), Consumes-nil a)

ended_more : (lines : List (List ℕ)) (line : List ℕ) → ended (lines ++ line ∷ []) ≡ ended lines ++ (line ++ line_end)
ended_more [] line = append-nil (line ++ line_end)
ended_more (first ∷ lines) line =
    ap (λ (xs : List ℕ). (first ++ line_end) ++ xs) (ended_more lines line)
    ∙ sym (append_assoc (first ++ line_end) (ended lines) (line ++ line_end))

all_more : (P : List ℕ → Type 0) (lines : List (List ℕ)) (line : List ℕ) → All P lines → P line
    → All P (lines ++ line ∷ [])
all_more P lines line all is = All-append P lines (line ∷ []) all (All-cons P line [] is (All-nil P))

neither : (version number : ℕ) (line : List ℕ) → ¬ (line ≡ numbered_answer version number) → ¬ (line ≡ fault_line)
    → ¬ IsAnswer version number line
neither version number line answer fault (inl is) = answer is
neither version number line answer fault (inr is) = fault is

pub one_passed : (version number : ℕ) (a b c : Option (List ℕ)) (line : List ℕ) → ArePassed version number a b
    → ¬ (line ≡ numbered_answer version number) → ¬ (line ≡ fault_line) → Consumes b c (line ++ line_end)
    → ArePassed version number a c
one_passed version number a b c line before answer fault read = (
  before.0 ++ line ∷ [],
  all_more (λ line. ¬ IsAnswer version number line) before.0 line before.1
      (neither version number line answer fault),
  subst (λ (xs : List ℕ). Consumes a c xs) (sym (ended_more before.0 line))
      (Consumes-trans a b c (ended before.0) (line ++ line_end) before.2 read),
)

up_to : (version number : ℕ) (a b c : Option (List ℕ)) (line last : List ℕ) → ArePassed version number a b
    → line ≡ last → Consumes b c (line ++ line_end) → IsAnswered version number last a c
up_to version number a b c line last before is read = record {
  passed = before.0;
  others = before.1;
  read = Consumes-trans a b c (ended before.0) (last ++ line_end) before.2
      (subst (λ (xs : List ℕ). Consumes b c (xs ++ line_end)) is read);
}

pub answered : (version number : ℕ) (a b c : Option (List ℕ)) (line : List ℕ) → ArePassed version number a b
    → line ≡ numbered_answer version number → Consumes b c (line ++ line_end)
    → IsAnswered version number (numbered_answer version number) a c
answered version number a b c line before is read =
    up_to version number a b c line (numbered_answer version number) before is read

pub refused : (version number : ℕ) (a b c : Option (List ℕ)) (line : List ℕ) → ArePassed version number a b
    → line ≡ fault_line → Consumes b c (line ++ line_end) → IsAnswered version number fault_line a c
refused version number a b c line before is read = up_to version number a b c line fault_line before is read

-- ---- what is read away

pub nothing_read : (a : Option (List ℕ)) → IsReadAway a a
nothing_read a = ([], Consumes-nil a)

pub some_read : (a b : Option (List ℕ)) (some : List ℕ) → Consumes a b some → IsReadAway a b
some_read a b some read = (some, read)

pub none_read : (a b : Option (List ℕ)) → Keeps a b → IsReadAway a b
none_read a b kept = ([], Consumes-kept a a b [] (Consumes-nil a) kept)

pub more_read : (a b c : Option (List ℕ)) → IsReadAway a b → IsReadAway b c → IsReadAway a c
more_read a b c before more = (before.0 ++ more.0, Consumes-trans a b c before.0 more.0 before.1 more.1)

-- ---- the greeting

pub asked : (version number : ℕ) (line : List ℕ) (unread written read said : Option (List ℕ))
    → Appends written said (numbered_greeting version number ++ line_end)
    → IsAnswered version number line unread read
    → IsAsked version number line (ends unread written) (ends read said)
asked version number line unread written read said request answer = record { request = request; answer = answer }

pub said_plainly : (unread written silent read said : Option (List ℕ)) → IsReadAway unread silent
    → Appends written said (greeting ++ line_end) → Consumes silent read (greeting ++ line_end)
    → IsGreetedPlainly (ends unread written) (ends read said)
said_plainly unread written silent read said away request answer =
    record { request = request; silent = silent; read_away = away; answer = answer }

pub by_number : (number : ℕ) (old new : Ends) → IsAsked 2 number (numbered_answer 2 number) old new
    → IsGreetedAsBefore number old new
by_number number old new knows = inl knows

pub plainly : (number : ℕ) (old refused new : Ends) → IsAsked 2 number fault_line old refused
    → IsGreetedPlainly refused new → IsGreetedAsBefore number old new
plainly number old refused new refusal after = inr (record { refused = refused; refusal = refusal; after = after })

pub newest : (number : ℕ) (old : Ends) (read said : Option (List ℕ))
    → IsAsked 3 number (numbered_answer 3 number) old (ends read said)
    → IsGreeted number old (record { unread = read; written = said; announces = true })
newest number old read said knows = inl (refl, knows)

pub older : (number : ℕ) (old refused : Ends) (read said : Option (List ℕ)) → IsAsked 3 number fault_line old refused
    → IsGreetedAsBefore number refused (ends read said)
    → IsGreeted number old (record { unread = read; written = said; announces = false })
older number old refused read said refusal after =
    inr (refl, record { refused = refused; refusal = refusal; after = after })
