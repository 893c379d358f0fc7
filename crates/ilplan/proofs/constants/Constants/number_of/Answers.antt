use Rattle.std.proofs.Common.{◌≡◌, ◌∙◌, List, sym, subst}
use Rattle.std.specs.List.{position_or_len}
use Rattle.iltypes.specs.declared.value.Value.{Value}
use Rattle.ilplan.specs.Constants.{same_value}
use Rattle.ilplan.proofs.Keys.{found_at, none_found}
use Rattle.ilplan.proofs.constants.Constants.number_of.Goals as goal

pub returns-in-Some : goal.returns-in-Some
returns-in-Some c =
    let number = c.in-Some.number.now in
    record {
      value = subst (λ (known : List Value). number ≡ position_or_len (same_value c.args.value) known) c.self.view_is
          (found_at (same_value c.args.value) c.self.inside.values.items number
          (sym (c.self.invariant c.args.value) ∙ sym c.in-Some.ensures.value));
    }

pub returns-in-None : goal.returns-in-None
returns-in-None c =
    record {
      value = subst (λ (known : List Value). c.len.result ≡ position_or_len (same_value c.args.value) known)
          c.self.view_is
          (c.len.ensures ∙ c.self.inside.values.ok.0 ∙ sym (none_found (same_value c.args.value) c.self.inside.values.items
          (sym (c.self.invariant c.args.value) ∙ sym c.in-None.ensures.value)));
    }
