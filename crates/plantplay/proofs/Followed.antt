-- A scenario is followed, one happening after another.
use Rattle.std.proofs.Common.{◌≡◌, inl, ◌≤◌, true≢false, List, [], ◌∷◌, ◌++◌, length, reverse, refl, sym, ap, ◌∙◌}
use Rattle.std.proofs.Common.{append_assoc, arith}
use Rattle.std.proofs.lemmas.List.{reverse-append}
use Rattle.std.specs.Prelude.{Result, Ok, Err, IsErr, MatchResult}
use Rattle.wordlines.specs.declared.happenings.Happening.{Happening}
use Rattle.wordlines.specs.declared.statements.Statement.{Statement}
use Rattle.wordlines.specs.declared.statements.Statement.TheVariants as statement
use Rattle.wordlines.specs.Happenings.{happenings}
use Rattle.plant.specs.Shown.{Shown}
use Rattle.plantdriving.specs.declared.halt.Halt.{Halt}
use Rattle.plantdriving.specs.declared.halt.Halt.TheVariants.{Refused, Memory, Unwritten}
use Rattle.plantplay.specs.declared.ending.Ending.{Ending}
use Rattle.plantplay.specs.declared.ending.Ending.TheVariants.{Whole, Limit, NoMemory}
use Rattle.plantplay.specs.Stage.{Stage, Happens, IsPlayedAsFar, IsPlayedSomeFar, IsPlayedTo}
use Rattle.plantplay.specs.PlaySteps.{IsFollowed, IsHalted, IsHaltedAt, StopsAt}

-- no more happens than there are statements
pub few_happenings : (statements : List Statement) → length (happenings statements) ≤ length statements
few_happenings [] = omega arith
few_happenings (statement.Gear bus short start ∷ more) = let few = few_happenings more in omega arith
few_happenings (statement.LampFailure bus short ∷ more) = let few = few_happenings more in omega arith
few_happenings (statement.Memory bus short bank offset value ∷ more) = let few = few_happenings more in omega arith
few_happenings (statement.Device bus short ∷ more) = let few = few_happenings more in omega arith
few_happenings (statement.InputInstance bus short number kind scheme value ∷ more) = let few = few_happenings more in omega arith
few_happenings (statement.Reply bus place fate ∷ more) = let few = few_happenings more in omega arith
few_happenings (statement.HearFault bus ∷ more) = let few = few_happenings more in omega arith
few_happenings (statement.Tick moment ∷ more) = let few = few_happenings more in omega arith
few_happenings (statement.Event bus frame ∷ more) = let few = few_happenings more in omega arith

-- the first of the rest is the last that happened
pub one_later : (done rest : List Happening) (happening : Happening)
    → reverse done ++ happening ∷ rest ≡ reverse (happening ∷ done) ++ rest
one_later done rest happening =
    sym (append_assoc (reverse done) (happening ∷ []) rest)
    ∙ ap (λ (hs : List Happening). hs ++ rest) (sym (reverse-append (happening ∷ []) done))

-- nothing happened yet
pub none_followed : (all rest : List Happening) (s : Stage) → rest ≡ all → IsFollowed all rest s s
none_followed all rest s is = record { done = []; order = sym is; played = refl }

pub one_followed : (all rest : List Happening) (happening : Happening) (left : List Happening) (s t u : Stage)
    → rest ≡ happening ∷ left → IsFollowed all rest s t → Happens happening t u → IsFollowed all left s u
one_followed all rest happening left s t u is before happens = record {
  done = happening ∷ before.done;
  order = before.order
      ∙ (ap (λ (hs : List Happening). reverse before.done ++ hs) is ∙ one_later before.done left happening);
  played = (t, before.played, happens);
}

-- all happened
pub all_followed : (all rest : List Happening) (s t : Stage) → IsFollowed all rest s t → length rest ≤ 0
    → IsPlayedAsFar all [] s t
all_followed all [] s t is none =
    record { done = is.done; order = is.order; between = t; played = is.played; begun = refl }
all_followed all (happening ∷ more) s t is none = absurd (omega (arith, none))

stops_too : (happening : Happening) (more : List Happening) (p : Shown) (halt : Halt) → StopsAt (happening ∷ []) p halt
    → StopsAt (happening ∷ more) p halt
stops_too happening more p (Refused refusal) stops = stops
stops_too happening more p Memory stops = tt
stops_too happening more p (Unwritten error) stops = tt

-- the first of the rest did not
pub halted : (all rest : List Happening) (happening : Happening) (left : List Happening) (s t u : Stage) (halt : Halt)
    → rest ≡ happening ∷ left → IsFollowed all rest s t → IsHaltedAt happening t u halt → IsHalted all s u halt
halted all rest happening left s t u halt is before at = (
  happening ∷ left,
  record {
    done = before.done;
    order = before.order ∙ ap (λ (hs : List Happening). reverse before.done ++ hs) is;
    between = t;
    played = before.played;
    begun = at.begun;
  },
  stops_too happening left u.plant halt at.stops,
)

-- ---- how it ends

pub played_some_far : (ending : Ending) (all : List Happening) (s t : Stage) → IsPlayedTo ending all s t
    → IsPlayedSomeFar all s t
played_some_far Whole all s t is = ([], is)
played_some_far Limit all s t is = (is.0, is.1)
played_some_far NoMemory all s t is = is

-- of a call that fails, whatever it answers
pub failed : {A E : Type 0} → (result : Result A E) (P : A → Type 0) (Q : Type 0) → IsErr result → Q
    → MatchResult result P (λ error. Q)
failed (Ok done) P Q is so = absurd (true≢false (sym is))
failed (Err error) P Q is so = so

-- nothing happened
pub nothing_played : (all : List Happening) (s : Stage) → IsPlayedSomeFar all s s
nothing_played [] s = ([], record { done = []; order = refl; between = s; played = refl; begun = refl })
nothing_played (happening ∷ more) s =
    (happening ∷ more, record { done = []; order = refl; between = s; played = refl; begun = inl refl })
