use Rattle.std.proofs.Common.{◌∙◌, ◌<◌, ℕ, List, ap, sym, subst}
use Rattle.std.specs.Prelude.{All}
use Rattle.std.specs.List.{AllZip}
use Rattle.iltypes.specs.declared.value.Value.{Value}
use Rattle.iltypes.specs.Values.{AreOf}
use Rattle.ilblocks.specs.Calls.{Block, IsBlockOf}
use Rattle.ilblocks.proofs.Blocks.{as_long}
use Rattle.ilverify.specs.Listings.{Listing, lasting_types}
use Rattle.ilverify.specs.Verdicts.{Accepted}
use Rattle.ilmachine.specs.declared.external.External.{External}
use Rattle.ilmachine.specs.ImageSteps.{slot_values}
use Rattle.ilmachine.specs.TaskRows.{task_row_of}
use Rattle.ilmachine.specs.Images.{stored_slots}
use Rattle.ilmachine.proofs.ImagePlaces.{typed_there, slots_typed}
use Rattle.ilmachine.proofs.task_row.TaskRow.of.Goals as goal

pub slot_values-requires : goal.slot_values-requires
slot_values-requires c =
    let t = c.args.task.now.layout in
    let r = c.requires in
    subst (λ (n : ℕ). All (λ (e : External). e.global < n) t.externals)
    (sym (as_long c.args.globals.now r.types r.values))
    (typed_there r.types (lasting_types t.verified.code) t.externals r.typed)

pub row_of-requires : goal.row_of-requires
row_of-requires c =
    let t = c.args.task.now in
    let globals = c.args.globals.now in
    let r = c.requires in
    let slots = lasting_types t.layout.verified.code in
    let typed = slots_typed r.types slots globals t.layout.externals t.own.slots r.typed r.values
    c.values-own.ensures.in_types in
    let code = c.code.ensures.value
    ∙ ap (λ (v : Accepted). v.code) (c.verified_code.ensures ∙ c.deref.ensures ∙ c.in_ok-prepared.ensures.cases
    ∙ c.prepared_code.ensures.value) in
    subst (λ (vs : List Value). AreOf vs (lasting_types c.code.result.now))
    (sym (c.deref-2.ensures.value ∙ c.in_ok-values.ensures))
    (subst (λ (l : Listing). AreOf (slot_values globals t) (lasting_types l)) (sym code) typed)

pub invariant_of-result : goal.invariant_of-result
invariant_of-result c =
    let t = c.args.task.now in
    let globals = c.args.globals.now in
    let r = c.requires in
    let listing = t.layout.verified.code in
    let slots = lasting_types listing in
    let typed = slots_typed r.types slots globals t.layout.externals t.own.slots r.typed r.values
    c.values-own.ensures.in_types in
    let code = c.in_ok-prepared.ensures.cases ∙ c.prepared_code.ensures.value in
    let row = c.in_ok-row.ensures ∙ c.deref-2.ensures.value ∙ c.in_ok-values.ensures in
    let blocks = c.in_ok-blocks.blocks.items in (
      record {
        values = subst (λ (v : Accepted). AreOf c.in_ok-row.row (lasting_types v.code)) (sym code)
            (subst (λ (vs : List Value). AreOf vs slots) (sym row) typed);
        blocks = subst (λ (v : Accepted). AllZip (IsBlockOf v.code.buses) blocks v.code.kinds) (sym code)
            (subst (λ (bs : List Block). AllZip (IsBlockOf listing.buses) bs listing.kinds)
            (sym c.in_ok-blocks.ensures) c.blocks-kinds.ensures.in_types);
      },
      c.in_ok-stores.ensures ∙ ap stored_slots c.deref-3.ensures.value,
    )

pub returns : goal.returns
returns c =
    let t = c.args.task.now in
    let code = c.in_ok-prepared.ensures.cases ∙ c.prepared_code.ensures.value in
    let row = c.in_ok-row.ensures ∙ c.deref-2.ensures.value ∙ c.in_ok-values.ensures in
    let externals = c.in_ok-externals.ensures.items ∙ c.externals.ensures.value in
    let blocks = c.in_ok-blocks.blocks.items in
    ap (λ (v : Accepted). task_row_of v c.in_ok-externals.externals.items c.in_ok-row.row blocks) code
    ∙ ap (λ (es : List External). task_row_of t.layout.verified es c.in_ok-row.row blocks) externals
    ∙ ap (λ (vs : List Value). task_row_of t.layout.verified t.layout.externals vs blocks) row
    ∙ ap (task_row_of t.layout.verified t.layout.externals (slot_values c.args.globals.now t)) c.in_ok-blocks.ensures
