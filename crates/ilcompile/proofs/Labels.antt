-- Where labels stand, and what jumps and returns ask for.
use Rattle.std.proofs.Common.{◌≡◌, ℕ, ◌+◌, List, [], ◌∷◌, length, Bool, true, false, cond, Option, Some, None}
use Rattle.std.proofs.Common.{refl, ap}
use Rattle.std.proofs.Common.{arith}
use Rattle.std.specs.Prelude.{nat_lt, nat_le, not, ◌&&◌}
use Rattle.std.specs.List.{list_any}
use Rattle.std.specs.Option.{option_map}
use Rattle.std.proofs.lemmas.Bool.Decides.{nat_tests}
use Rattle.iltypes.specs.declared.value.Value.{Value}
use Rattle.iltypes.specs.declared.value.Value.TheVariants as values
use Rattle.iltypes.specs.declared.condition.Condition.TheVariants.{IfTrue, IfFalse}
use Rattle.iltypes.specs.Conditions.{holds}
use Rattle.iltypes.specs.Modifiers.{opposite}
use Rattle.ilsource.specs.declared.instruction.Line.{Line}
use Rattle.ilsource.specs.Passes.{has_label}
use Rattle.ilsource.specs.Words as counts
use Rattle.ilplan.specs.declared.place.Place.{Place}
use Rattle.ilplan.specs.PlanMeaning.{number_same}
use Rattle.ilcode.specs.Listings.{Listing, all_starts}
use Rattle.ilcode.specs.Steps.{is_target}
use Rattle.ilcompile.specs.Layout.{place_of_label}

-- the place of the first word after a label, in lines whose words begin at a place
abbrev pub label_place : ℕ → List (Line Place ℕ) → ℕ → Option ℕ
label_place p [] l = None
label_place p (line ∷ lines) l =
    cond (has_label number_same l line.label) (Some p) (label_place (p + counts.words_in line) lines l)

abbrev pub or_zero : Option ℕ → ℕ
or_zero None = 0
or_zero (Some p) = p

pub is_place : (p : ℕ) (lines : List (Line Place ℕ)) (l : ℕ)
    → place_of_label p lines l ≡ or_zero (label_place p lines l)
is_place p [] l = refl
is_place p (line ∷ lines) l =
    go (has_label number_same l line.label) (place_of_label (p + counts.words_in line) lines l)
    (label_place (p + counts.words_in line) lines l) (is_place (p + counts.words_in line) lines l)
  where
    go : (b : Bool) (q : ℕ) (o : Option ℕ) → q ≡ or_zero o → cond b p q ≡ or_zero (cond b (Some p) o)
    go true q o e = refl
    go false q o e = e

-- no jump leads to the first place
pub no_target : (code : Listing) (p : ℕ) → is_target code p 0 ≡ false
no_target code p =
    let t : nat_lt p 0 ≡ false = grind (arith, nat_tests) in
    ap (λ b. (b && nat_le 0 (length code.instructions))
    && not (list_any (λ start. nat_lt p start && nat_lt start 0) (all_starts code))) t

-- CN asks for the opposite of what C asks for
pub holds_not : (r : Option Value) → holds IfFalse r ≡ option_map opposite (holds IfTrue r)
holds_not None = refl
holds_not (Some (values.Int z)) = refl
holds_not (Some (values.Bool b)) = refl

pub holds_not_not : (r : Option Value) → holds IfTrue r ≡ option_map opposite (holds IfFalse r)
holds_not_not None = refl
holds_not_not (Some (values.Int z)) = refl
holds_not_not (Some (values.Bool true)) = refl
holds_not_not (Some (values.Bool false)) = refl
