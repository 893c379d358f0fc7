-- What statements declare: a statement makes the declaration that it is told to declare and no other, and one
-- statement more adds its own.
use Rattle.std.proofs.Common.{◌≡◌, ◌∙◌, ◌==◌, Bool, true, false, ◌&&◌, ◌||◌, cond, refl, sym, ap}
use Rattle.std.proofs.Common.{List, [], ◌∷◌, ◌++◌, Option, Some, None}
use Rattle.std.specs.List.{list_any}
use Rattle.std.proofs.lemmas.List.Folds.{list_any-append}
use Rattle.wordlines.specs.Known.{AreDeclared, declared_by, declares}
use Rattle.wordlines.specs.contracts.known.DeclarationPartialEq.TheImpl.{eq-value}
use Rattle.wordlines.specs.declared.known.Declaration.{Declaration}
use Rattle.wordlines.specs.declared.known.Declaration.TheVariants.{Gear, Device, Instance, Reply}
use Rattle.wordlines.specs.declared.statements.Statement.{Statement}
use Rattle.wordlines.specs.declared.statements.Statement.TheVariants as statement

abbrev is_own : Option Declaration → Declaration → Bool
is_own None declaration = false
is_own (Some own) declaration = eq-value.it own declaration

grouped : (a b c : Bool) → (a && (b && c)) ≡ ((a && b) && c)
grouped true b c = refl
grouped false b c = refl

-- a statement makes its own declaration alone
found : (declaration : Declaration) (next : Statement) → declares declaration next ≡ is_own (declared_by next) declaration
found (Gear bus short) (statement.Gear on at start) = refl
found (Gear bus short) (statement.LampFailure on at) = refl
found (Gear bus short) (statement.Memory on at bank offset value) = refl
found (Gear bus short) (statement.Device on at) = refl
found (Gear bus short) (statement.InputInstance on at its kind scheme value) = refl
found (Gear bus short) (statement.Reply on at fate) = refl
found (Gear bus short) (statement.HearFault on) = refl
found (Gear bus short) (statement.Tick moment) = refl
found (Gear bus short) (statement.Event on frame) = refl
found (Device bus short) (statement.Gear on at start) = refl
found (Device bus short) (statement.LampFailure on at) = refl
found (Device bus short) (statement.Memory on at bank offset value) = refl
found (Device bus short) (statement.Device on at) = refl
found (Device bus short) (statement.InputInstance on at its kind scheme value) = refl
found (Device bus short) (statement.Reply on at fate) = refl
found (Device bus short) (statement.HearFault on) = refl
found (Device bus short) (statement.Tick moment) = refl
found (Device bus short) (statement.Event on frame) = refl
found (Instance bus short number) (statement.Gear on at start) = refl
found (Instance bus short number) (statement.LampFailure on at) = refl
found (Instance bus short number) (statement.Memory on at bank offset value) = refl
found (Instance bus short number) (statement.Device on at) = refl
found (Instance bus short number) (statement.InputInstance on at its kind scheme value) =
    sym (grouped (on == bus) (at == short) (its == number))
found (Instance bus short number) (statement.Reply on at fate) = refl
found (Instance bus short number) (statement.HearFault on) = refl
found (Instance bus short number) (statement.Tick moment) = refl
found (Instance bus short number) (statement.Event on frame) = refl
found (Reply bus place) (statement.Gear on at start) = refl
found (Reply bus place) (statement.LampFailure on at) = refl
found (Reply bus place) (statement.Memory on at bank offset value) = refl
found (Reply bus place) (statement.Device on at) = refl
found (Reply bus place) (statement.InputInstance on at its kind scheme value) = refl
found (Reply bus place) (statement.Reply on at fate) = refl
found (Reply bus place) (statement.HearFault on) = refl
found (Reply bus place) (statement.Tick moment) = refl
found (Reply bus place) (statement.Event on frame) = refl

or_else : (known own : Bool) → cond own true known ≡ (known || (own || false))
or_else true true = refl
or_else true false = refl
or_else false true = refl
or_else false false = refl

or_none : (known : Bool) → known ≡ (known || (false || false))
or_none true = refl
or_none false = refl

one_more : (declaration : Declaration) (before : List Statement) (next : Statement)
    → list_any (declares declaration) (before ++ next ∷ [])
    ≡ (list_any (declares declaration) before || (is_own (declared_by next) declaration || false))
one_more declaration before next =
    list_any-append (declares declaration) before (next ∷ [])
    ∙ ap (λ own. list_any (declares declaration) before || (own || false)) (found declaration next)

module _ (before : List Statement) (next : Statement) (known : Declaration → Bool) (so : AreDeclared known before) where
  -- a statement that declares something adds it
  pub adds_own : (own : Declaration) (after : Declaration → Bool) → declared_by next ≡ Some own
      → ((other : Declaration) → after other ≡ cond (eq-value.it own other) true (known other))
      → AreDeclared after (before ++ next ∷ [])
  adds_own own after is more declaration =
      more declaration
      ∙ ap (λ was. cond (eq-value.it own declaration) true was) (so declaration)
      ∙ or_else (list_any (declares declaration) before) (eq-value.it own declaration)
      ∙ ap (λ its. list_any (declares declaration) before || (is_own its declaration || false)) (sym is)
      ∙ sym (one_more declaration before next)

  -- one that declares nothing adds nothing
  pub adds_none : declared_by next ≡ None → AreDeclared known (before ++ next ∷ [])
  adds_none is declaration =
      so declaration
      ∙ or_none (list_any (declares declaration) before)
      ∙ ap (λ its. list_any (declares declaration) before || (is_own its declaration || false)) (sym is)
      ∙ sym (one_more declaration before next)
