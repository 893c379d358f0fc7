-- The clock gives the moments of what happens.
use Rattle.std.proofs.Common.{◌≡◌, inl, inr, ℕ, List, [], ◌∷◌, ◌++◌, reverse, Option, Some, None}
use Rattle.std.proofs.Common.{refl, sym, ap, ◌∙◌, append_assoc, append-nil}
use Rattle.std.specs.List.{filter_map}
use Rattle.std.proofs.lemmas.List.{reverse-append}
use Rattle.std.proofs.lemmas.List.Elements.{filter_map-append}
use Rattle.wordlines.specs.declared.happenings.Happening.{Happening}
use Rattle.wordlines.specs.declared.happenings.Happening.TheVariants.{Tick, Event, HearFault}
use Rattle.wordlines.specs.declared.statements.Statement.{Statement}
use Rattle.wordlines.specs.declared.statements.Statement.TheVariants as statement
use Rattle.wordlines.specs.Happenings.{happenings, ticks}
use Rattle.plantevents.specs.Histories.{given_in}
use Rattle.plant.specs.Shown.{Shown}
use Rattle.plantplay.specs.Stage.{Stage, Comes, Happens, IsBegun, IsPlayedAsFar, IsPlayedBy}
use Rattle.plantplay.proofs.Happened.{settles_driven}

-- ---- moments

abbrev pub moment_of : Happening → Option ℕ
moment_of (Tick m) = Some m
moment_of (Event b frame) = None
moment_of (HearFault b) = None

abbrev pub moments_of : List Happening → List ℕ
moments_of happenings = filter_map moment_of happenings

-- those of all that happens are the ticks of the statements
pub ticks_of_all : (statements : List Statement) → moments_of (happenings statements) ≡ ticks statements
ticks_of_all [] = refl
ticks_of_all (statement.Gear bus short start ∷ more) = ticks_of_all more
ticks_of_all (statement.LampFailure bus short ∷ more) = ticks_of_all more
ticks_of_all (statement.Memory bus short bank offset value ∷ more) = ticks_of_all more
ticks_of_all (statement.Device bus short ∷ more) = ticks_of_all more
ticks_of_all (statement.InputInstance bus short number kind scheme value ∷ more) = ticks_of_all more
ticks_of_all (statement.Reply bus place fate ∷ more) = ticks_of_all more
ticks_of_all (statement.HearFault bus ∷ more) = ticks_of_all more
ticks_of_all (statement.Tick moment ∷ more) = ap (λ (ms : List ℕ). moment ∷ ms) (ticks_of_all more)
ticks_of_all (statement.Event bus frame ∷ more) = ticks_of_all more

-- ---- one happening

abbrev pub given_at : Stage → List ℕ
given_at s = given_in s.plant.history

pub given_comes : (happening : Happening) (s t : Stage) → Comes happening s t
    → given_at t ≡ given_at s ++ moments_of (happening ∷ [])
given_comes (Tick m) s t comes = ap (λ (p : Shown). given_in p.history) comes.plant.1
given_comes (Event b frame) s t comes = ap given_at comes ∙ sym (append-nil (given_at s))
given_comes (HearFault b) s t comes = ap given_at comes ∙ sym (append-nil (given_at s))

given_happens : (happening : Happening) (s t : Stage) → Happens happening s t
    → given_at t ≡ given_at s ++ moments_of (happening ∷ [])
given_happens happening s t is =
    (settles_driven happening is.0 t is.2).given ∙ given_comes happening s is.0 is.1

-- ---- all that happened

-- one happening more
pub one_after : {X : Type 0} → (of : Happening → Option X) (before : List X) (earlier : List Happening) (happening : Happening)
    → (before ++ filter_map of (reverse earlier)) ++ filter_map of (happening ∷ [])
    ≡ before ++ filter_map of (reverse (happening ∷ earlier))
one_after of before earlier happening =
    append_assoc before (filter_map of (reverse earlier)) (filter_map of (happening ∷ []))
    ∙ ap (λ xs. before ++ xs) (sym (filter_map-append of (reverse earlier) (happening ∷ []))
    ∙ ap (filter_map of) (sym (reverse-append (happening ∷ []) earlier)))

pub given_by : (done : List Happening) (s t : Stage) → IsPlayedBy done s t
    → given_at t ≡ given_at s ++ moments_of (reverse done)
given_by [] s t is = ap given_at is ∙ sym (append-nil (given_at s))
given_by (happening ∷ earlier) s t is =
    given_happens happening is.0 t is.2
    ∙ (ap (λ (ms : List ℕ). ms ++ moments_of (happening ∷ [])) (given_by earlier s is.0 is.1)
    ∙ one_after moment_of (given_at s) earlier happening)

-- some moments may not have come yet
given_begun : (rest : List Happening) (s t : Stage) → IsBegun rest s t
    → (left : List ℕ) × (given_at s ++ moments_of rest ≡ given_at t ++ left)
given_begun [] s t is = ([], ap (λ (x : Stage). given_at x ++ []) (sym is))
given_begun (happening ∷ more) s t (inl none) =
    (moments_of (happening ∷ more), ap (λ (x : Stage). given_at x ++ moments_of (happening ∷ more)) (sym none))
given_begun (happening ∷ more) s t (inr (came, comes, driven)) = (
  moments_of more,
  ap (λ (ms : List ℕ). given_at s ++ ms) (filter_map-append moment_of (happening ∷ []) more)
      ∙ (sym (append_assoc (given_at s) (moments_of (happening ∷ [])) (moments_of more))
      ∙ ap (λ (ms : List ℕ). ms ++ moments_of more) (sym (driven.given ∙ given_comes happening s came comes))),
)

-- the moments of all are those that came, and some that are left
pub given_as_far : (all rest : List Happening) (s t : Stage) → IsPlayedAsFar all rest s t
    → (left : List ℕ) × (given_at s ++ moments_of all ≡ given_at t ++ left)
given_as_far all rest s t is =
    let begun = given_begun rest is.between t is.begun in (
      begun.0,
      ap (λ (hs : List Happening). given_at s ++ moments_of hs) is.order
          ∙ (ap (λ (ms : List ℕ). given_at s ++ ms) (filter_map-append moment_of (reverse is.done) rest)
          ∙ (sym (append_assoc (given_at s) (moments_of (reverse is.done)) (moments_of rest))
          ∙ (ap (λ (ms : List ℕ). ms ++ moments_of rest) (sym (given_by is.done s is.between is.played)) ∙ begun.1))),
    )

-- all came
pub given_whole : (all : List Happening) (s t : Stage) → IsPlayedAsFar all [] s t
    → given_at t ≡ given_at s ++ moments_of all
given_whole all s t is =
    ap given_at is.begun
    ∙ (given_by is.done s is.between is.played
    ∙ ap (λ (hs : List Happening). given_at s ++ moments_of hs) (sym (is.order ∙ append-nil (reverse is.done))))
