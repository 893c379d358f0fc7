use Rattle.std.specs.Str.Lines.{lines}
use Rattle.wordlines.proofs.LineFiles.{said_is_reported, bad_is_reported}
use Rattle.wordlines.specs.Bindings.{IsBinding, IsBadBinding, BindsSome}
use Rattle.wordlines.proofs.BindingReading.{one_wiring, no_fault, fault_one, fault_short}
use Rattle.wordlines.proofs.binding.Binding.parse.Goals as goal

pub returns-clause-is_given : goal.returns-clause-is_given
returns-clause-is_given c wiring is =
    let bytes = c.args.bytes.now in
    said_is_reported (IsBinding bytes) (IsBadBinding bytes) (BindsSome (lines bytes)) bytes c.binding_of.result
    c.binding_of.ensures.judged wiring (λ other also. one_wiring bytes other wiring also is)
    (λ line bad. no_fault bytes line wiring bad is) is.short

pub returns-clause-bad_is_reported : goal.returns-clause-bad_is_reported
returns-clause-bad_is_reported c line bad =
    let bytes = c.args.bytes.now in
    bad_is_reported (IsBinding bytes) (IsBadBinding bytes) (BindsSome (lines bytes)) bytes c.binding_of.result
    c.binding_of.ensures.judged line (λ other also. fault_one bytes other line also bad)
    (λ wiring is. no_fault bytes line wiring bad is) (fault_short bytes line bad)
