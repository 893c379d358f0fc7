-- Buses on the stage of a scenario, and off it.
use Rattle.std.proofs.Common.{◌≡◌, ◌∙◌, ◌+◌, ◌<◌, ℕ, List, [], ◌∷◌, ◌++◌, All, length, remove, ap, refl, subst, sym, arith}
use Rattle.std.specs.Prelude.{slice_index_or}
use Rattle.std.proofs.lemmas.List.{append_assoc, length-append}
use Rattle.std.proofs.lemmas.List.Elements.{All-push}
use Rattle.wordlines.specs.declared.statements.Statement.{Statement}
use Rattle.simbus.specs.Simulated.{IsAsSetUp, Simulated, all_arrived}
use Rattle.simbus.specs.Staged.{IsOnStage, bus_of}

-- of all buses so many are off the stage, where there is room for all, and the others are on it
pub record AreOff (scenario : List Statement) (all off on : List Simulated) (so_many : ℕ) : Type 0 where
  pub order : all ≡ off ++ on
  pub left : so_many + length on ≡ length all
  pub count : length off ≡ so_many
  pub stage : All (IsOnStage scenario) off
  pub happened : All IsAsSetUp off

pub ready_on_stage : (stage scenario : List Statement) (bus : ℕ) (made ready : Simulated) → scenario ≡ stage
    → made ≡ bus_of scenario bus → ready ≡ all_arrived made → IsOnStage stage ready
ready_on_stage stage scenario bus made ready same is arrived =
    let there : ready ≡ all_arrived (bus_of stage bus) =
    arrived ∙ ap all_arrived (is ∙ ap (λ (x : List Statement). bus_of x bus) same) in
    subst (IsOnStage stage) (sym there) (record { setup = refl; script = refl })

pub one_off : (scenario : List Statement) (all off on new : List Simulated) (n : ℕ) (bus out : Simulated)
    → 0 < length on → AreOff scenario all off on n → bus ≡ slice_index_or on 0 bus → out ≡ bus → new ≡ off ++ out ∷ []
    → IsOnStage scenario bus → IsAsSetUp out → AreOff scenario all new (remove on 0) (n + 1)
one_off scenario all off [] new n bus out some was is same more stage happened = absurd (omega arith)
one_off scenario all off (y ∷ ys) new n bus out some was is same more stage happened =
    let left = was.left in let count = was.count in
    let longer : length new ≡ length off + length (out ∷ []) =
    ap (λ (xs : List Simulated). length xs) more ∙ length-append off (out ∷ []) in
    record {
      order =
          was.order
          ∙ (ap (λ (x : Simulated). off ++ x ∷ ys) (sym (same ∙ is))
          ∙ (sym (append_assoc off (out ∷ []) ys) ∙ ap (λ (xs : List Simulated). xs ++ ys) (sym more)));
      left = omega (arith, left);
      count = omega (arith, longer, count);
      stage =
          subst (All (IsOnStage scenario)) (sym more)
          (All-push (IsOnStage scenario) off out was.stage (subst (IsOnStage scenario) (sym same) stage));
      happened = subst (All IsAsSetUp) (sym more) (All-push IsAsSetUp off out was.happened happened);
    }

pub same_capacity : (first before after : ℕ) → after ≡ before → before ≡ first → after ≡ first
same_capacity first before after now was = now ∙ was
