-- Stores from which the codes of specs/Codes.antt go wrong.
use Rattle.std.proofs.Common.{◌≡◌, ℕ, List, [], ◌∷◌, Some, None, Bool, true, false, ℤ, pos, refl, arith}
use Rattle.std.proofs.lemmas.Grind.{common_steps}
use Rattle.iltypes.specs.declared.value.Value.{Value}
use Rattle.iltypes.specs.declared.value.Value.TheVariants as values
use Rattle.ilblocks.specs.Stores.{Store, IsStoreOf}
use Rattle.ilcode.specs.Listings.{shape_of}
use Rattle.ilcode.specs.Steps.{at, open_call, HasEnded}
use Rattle.refusalscode.specs.Codes.{bad_function, given_after_a_test, loaded_after_a_test, meeting, stored_after_a_test}
use Rattle.refusalscode.proofs.Unsafe.{GoesWrong}

-- with this level and this truth value
abbrev store : ℤ → Bool → Store
store level truth =
    record { slots = values.Int level ∷ values.Bool truth ∷ []; blocks = []; requests = []; moment = 0 }

typed_0 : IsStoreOf (shape_of meeting) (store (pos 0) false)
typed_0 =
    record {
      slots = (record { low = record { le = tt }; high = record { le = tt } }, (tt, tt));
      blocks = tt;
      requests = λ k r h. grind (arith, common_steps);
    }

pub meeting_wrong : GoesWrong meeting
meeting_wrong =
    record {
      store = store (pos 0) false;
      typed = record { slots = (record { low = record { le = tt }; high = record { le = tt } }, (tt, tt)); blocks = tt; requests = λ k r h. grind (arith, common_steps) };
      steps = 7;
      to = at 7 (store (pos 200) false) (Some (values.Int (pos 200))) [] [];
      runs = refl;
      undefined = refl;
      inside = λ e. let place = e.place in omega arith;
    }

pub stored_wrong : GoesWrong stored_after_a_test
stored_wrong =
    record {
      store = store (pos 0) false;
      typed = typed_0;
      steps = 6;
      to = at 6 (store (pos 200) false) (Some (values.Int (pos 200))) [] [];
      runs = refl;
      undefined = refl;
      inside = λ e. let place = e.place in omega arith;
    }

pub loaded_wrong : GoesWrong loaded_after_a_test
loaded_wrong =
    record {
      store = store (pos 200) true;
      typed = record { slots = (record { low = record { le = tt }; high = record { le = tt } }, (tt, tt)); blocks = tt; requests = λ k r h. grind (arith, common_steps) };
      steps = 5;
      to = at 5 (store (pos 200) true) (Some (values.Int (pos 200))) [] [];
      runs = refl;
      undefined = refl;
      inside = λ e. let place = e.place in omega arith;
    }

pub given_wrong : GoesWrong given_after_a_test
given_wrong =
    record {
      store = store (pos 0) false;
      typed = record { slots = (record { low = record { le = tt }; high = record { le = tt } }, (tt, tt)); blocks = tt; requests = λ k r h. grind (arith, common_steps) };
      steps = 5;
      to = at 5 (store (pos 200) false) (Some (values.Int (pos 200))) [] [];
      runs = refl;
      undefined = refl;
      inside = λ e. let place = e.place in omega arith;
    }

-- two truth values
abbrev falses : Store
falses = record { slots = values.Bool false ∷ values.Bool false ∷ []; blocks = []; requests = []; moment = 0 }

pub function_wrong : GoesWrong bad_function
function_wrong =
    record {
      store = falses;
      typed = record { slots = (tt, (tt, tt)); blocks = tt; requests = λ k r h. grind (arith, common_steps) };
      steps = 1;
      to = at 1 falses None [] (open_call 0 1 [] ∷ []);
      runs = refl;
      undefined = refl;
      inside = λ e. let calls = e.calls in cc;
    }
