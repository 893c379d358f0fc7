-- What a function that is read declares: inputs with no initial value, and no global variable.
use Rattle.std.proofs.Common.{◌≡◌, List, [], ◌∷◌, Option, Some, None, Ok, inl, inr, sym, subst}
use Rattle.std.specs.Prelude.{⊤, unwrap_or}
use Rattle.iltokens.specs.Items.{opt_whole, many_whole}
use Rattle.ilsource.specs.declared.declaration.Declared.{Declared}
use Rattle.ilsource.specs.Programs.{DeclaredNames, IsInput, IsInFunction, AreInputs, AreInFunction}
use Rattle.iltext.specs.declared.token.Token.{Token}
use Rattle.iltext.specs.Declarations.{declared, declaration, declarations, vars}
use Rattle.iltext.specs.Functions.{input, inputs, var_input, own_variables}
use Rattle.iltext.proofs.FunctionLaws.{Firm-var_input, Lawful-own_variables}

-- ---- inputs

input_is : (ts : List Token) (d : DeclaredNames) → input.whole ts d → IsInput d.declared
unfolding input
input_is ts d w = subst (λ (x : DeclaredNames). IsInput x.declared) (sym w.2) tt

all_inputs : (ts : List Token) (ds : List DeclaredNames) → many_whole input ts ds → AreInputs ds
all_inputs ts [] w = tt
all_inputs ts (d ∷ ds) w = (input_is w.0 d w.3, all_inputs w.1 ds w.4)

inputs_are : (ts : List Token) (ds : List DeclaredNames) → inputs.whole ts ds → AreInputs ds
unfolding inputs
inputs_are ts ds w = all_inputs ts ds w

var_input_are : (ts : List Token) (ds : List DeclaredNames) → var_input.whole ts ds → AreInputs ds
unfolding var_input
var_input_are ts ds w = subst AreInputs (sym w.2) (inputs_are _ _ w.1.4.3)

pub are_inputs : (ts rest : List Token) (ds : List DeclaredNames) → var_input.read ts ≡ Ok (ds, rest) → AreInputs ds
are_inputs ts rest ds e = let t = Firm-var_input.lawful.ok ts ds rest e in var_input_are t.front ds t.whole

-- ---- VAR

declared_own : (ts : List Token) (d : Declared) → declared.whole ts d → IsInFunction d
unfolding declared
declared_own ts d (inl w) = subst IsInFunction (sym w.2) tt
declared_own ts d (inr w) = subst IsInFunction (sym w.2) tt

declaration_own : (ts : List Token) (d : DeclaredNames) → declaration.whole ts d → IsInFunction d.declared
unfolding declaration
declaration_own ts d w = subst (λ (x : DeclaredNames). IsInFunction x.declared) (sym w.2) (declared_own _ _ w.1.4.4)

all_own : (ts : List Token) (ds : List DeclaredNames) → many_whole declaration ts ds → AreInFunction ds
all_own ts [] w = tt
all_own ts (d ∷ ds) w = (declaration_own w.0 d w.3, all_own w.1 ds w.4)

declarations_own : (ts : List Token) (ds : List DeclaredNames) → declarations.whole ts ds → AreInFunction ds
unfolding declarations
declarations_own ts ds w = all_own ts ds w

vars_own : (ts : List Token) (ds : List DeclaredNames) → vars.whole ts ds → AreInFunction ds
unfolding vars
vars_own ts ds w = subst AreInFunction (sym w.2) (declarations_own _ _ w.1.4.3)

optional_own : (ts : List Token) (o : Option (List DeclaredNames)) → opt_whole vars ts o
    → AreInFunction (unwrap_or o [])
optional_own ts None w = tt
optional_own ts (Some ds) w = vars_own ts ds w

own_whole : (ts : List Token) (ds : List DeclaredNames) → own_variables.whole ts ds → AreInFunction ds
unfolding own_variables
own_whole ts ds w = subst AreInFunction (sym w.2) (optional_own _ _ w.1)

pub are_own : (ts rest : List Token) (ds : List DeclaredNames) → own_variables.read ts ≡ Ok (ds, rest)
    → AreInFunction ds
are_own ts rest ds e = let t = Lawful-own_variables.ok ts ds rest e in own_whole t.front ds t.whole
