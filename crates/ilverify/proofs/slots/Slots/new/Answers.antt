use Rattle.std.proofs.Common.{◌≡◌, ◌∙◌, List, ap, length, map, sym}
use Rattle.std.proofs.lemmas.List.{length-map}
use Rattle.ilverify.specs.ChunkSteps.{whole}
use Rattle.ilverify.specs.Knowns.{known_of_type}
use Rattle.ilverify.specs.declared.known.Known.{Known}
use Rattle.ilverify.proofs.RangeLists.{mapped_more, mapped_all}
use Rattle.ilverify.proofs.slots.Slots.new.Goals as goal

pub loop-declared-preserved : goal.loop-declared-preserved
loop-declared-preserved c =
    mapped_more known_of_type c.args.types.now c.loop-declared.declared-index c.declared-item.result
    c.loop-declared.items.items c.push.new.self.items c.of.result c.loop-declared-test.true c.loop-declared.invariant
    c.in_ok-push.ensures.items c.of.ensures.value c.declared-item.is

pub invariant_of-result : goal.invariant_of-result
invariant_of-result c =
    let types = c.args.types.now in
    let all : whole c.in_ok-cut.field-0.items ≡ map known_of_type types =
    c.in_ok-cut.ensures.all ∙ c.deref.ensures.value
    ∙ mapped_all known_of_type types c.loop-declared.declared-index c.loop-declared.items.items
    c.loop-declared.invariant
    c.loop-declared-test.false in
    (c.in_ok-cut.ensures.full, sym (length-map types known_of_type) ∙ ap (λ (ks : List Known). length ks) (sym all))

pub returns : goal.returns
returns c =
    c.in_ok-cut.ensures.all ∙ c.deref.ensures.value
    ∙ mapped_all known_of_type c.args.types.now c.loop-declared.declared-index c.loop-declared.items.items
    c.loop-declared.invariant c.loop-declared-test.false
