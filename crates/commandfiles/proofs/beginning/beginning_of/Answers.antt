use Rattle.std.proofs.Common.{rules, ◌≡◌, ◌∙◌, Some, option_map, ap, subst, sym}
use Rattle.livekeep.specs.Faults.{IsKeptFaultOrMemory}
use Rattle.livekeep.specs.declared.fault.KeptFault.TheVariants.{Empty, Torn}
use Rattle.commandfiles.proofs.KeptNotes.{noted_unused}
use Rattle.commandfiles.proofs.UnusedValues.{begun_without, unusable_unused}
use Rattle.commandfiles.proofs.beginning.beginning_of.Goals as goal

pub returns-in-Err-Empty-clause-begun : goal.returns-in-Err-Empty-clause-begun
returns-in-Err-Empty-clause-begun c =
    begun_without c.args.binding.now c.args.text.now c.in_ok-setup.setup c.without.result c.in_ok-setup.ensures.setup
    c.without.ensures.setup c.without.ensures.kept

pub returns-in-Err-Empty-clause-used : goal.returns-in-Err-Empty-clause-used
returns-in-Err-Empty-clause-used c =
    let bytes : c.deref.result.now ≡ c.in-Some.bytes.now.items = search rules in
    unusable_unused c.deref.result.now
    (option_map (λ bytes. bytes.now.items) c.args.file) c.without.result Empty
    (ap (λ file. option_map (λ bytes. bytes.now.items) file) c.in-Some.is ∙ ap Some (sym bytes)) c.without.ensures.kept
    (subst (IsKeptFaultOrMemory c.deref.result.now) c.in-Err-Empty.field-0-is c.in-Err-Empty.ensures.fault)

pub returns-in-Err-Torn-clause-begun : goal.returns-in-Err-Torn-clause-begun
returns-in-Err-Torn-clause-begun c =
    begun_without c.args.binding.now c.args.text.now c.in_ok-setup.setup c.without-in-Err-Torn.result c.in_ok-setup.ensures.setup
    c.without-in-Err-Torn.ensures.setup c.without-in-Err-Torn.ensures.kept

pub returns-in-Err-Torn-clause-used : goal.returns-in-Err-Torn-clause-used
returns-in-Err-Torn-clause-used c =
    let bytes : c.deref.result.now ≡ c.in-Some.bytes.now.items = search rules in
    unusable_unused c.deref.result.now
    (option_map (λ bytes. bytes.now.items) c.args.file) c.without-in-Err-Torn.result Torn
    (ap (λ file. option_map (λ bytes. bytes.now.items) file) c.in-Some.is ∙ ap Some (sym bytes)) c.without-in-Err-Torn.ensures.kept
    (subst (IsKeptFaultOrMemory c.deref.result.now) c.in-Err-Torn.field-0-is c.in-Err-Torn.ensures.fault)

pub returns-in-Err-Empty-clause-noted : goal.returns-in-Err-Empty-clause-noted
returns-in-Err-Empty-clause-noted c =
    let bytes : c.deref.result.now ≡ c.in-Some.bytes.now.items = search rules in
    let own = c.in_ok-setup.setup in (
      own,
      c.in_ok-setup.ensures.setup,
      noted_unused c.deref.result.now
          (option_map (λ bytes. bytes.now.items) c.args.file) c.without.result own.plan Empty
          (ap (λ file. option_map (λ bytes. bytes.now.items) file) c.in-Some.is ∙ ap Some (sym bytes)) c.without.ensures.kept
          c.without.ensures.note
          (subst (IsKeptFaultOrMemory c.deref.result.now) c.in-Err-Empty.field-0-is c.in-Err-Empty.ensures.fault),
    )

pub returns-in-Err-Torn-clause-noted : goal.returns-in-Err-Torn-clause-noted
returns-in-Err-Torn-clause-noted c =
    let bytes : c.deref.result.now ≡ c.in-Some.bytes.now.items = search rules in
    let own = c.in_ok-setup.setup in (
      own,
      c.in_ok-setup.ensures.setup,
      noted_unused c.deref.result.now
          (option_map (λ bytes. bytes.now.items) c.args.file) c.without-in-Err-Torn.result own.plan Torn
          (ap (λ file. option_map (λ bytes. bytes.now.items) file) c.in-Some.is ∙ ap Some (sym bytes)) c.without-in-Err-Torn.ensures.kept
          c.without-in-Err-Torn.ensures.note
          (subst (IsKeptFaultOrMemory c.deref.result.now) c.in-Err-Torn.field-0-is c.in-Err-Torn.ensures.fault),
    )
