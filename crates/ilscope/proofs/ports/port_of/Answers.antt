use Rattle.std.proofs.Common.{◌≡◌, ℕ, List, sym, ap, ◌∙◌}
use Rattle.std.specs.Prelude.{Option, option_map}
use Rattle.ilblocks.specs.Ports.{port_named}
use Rattle.ilsource.specs.Names.{text_of}
use Rattle.ilsource.specs.SourceTrees.{Tree}
use Rattle.ilscope.proofs.PortNumbers.{port_by_found, port_in_found}
use Rattle.ilscope.proofs.ports.port_of.Goals as goal

pub returns-in_err-kind : goal.returns-in_err-kind
returns-in_err-kind c p at =
    let text = c.args.scope.now.tree.text in
    c.from_residual.ensures
    ∙ sym (port_by_found text c.args.port p c.args.block c.block.result (c.block.ensures.number p at)
    (c.block.ensures.kind p at)
    ∙ ap (port_in_found text c.args.port) c.in_err-kind.was)

pub returns-in_err-port : goal.returns-in_err-port
returns-in_err-port c p at =
    let text = c.args.scope.now.tree.text in
    let kind = c.in_ok-kind.kind in
    let spelled : text_of text c.args.port ≡ c.text-2.result.now =
    sym (c.text-2.ensures
    ∙ ap (λ (t : List ℕ). text_of t c.args.port)
    (c.text.ensures.value ∙ ap (λ (t : Tree). t.text) c.source.ensures.value))
    in
    c.from_residual-in_err-port.ensures
    ∙ sym (port_by_found text c.args.port p c.args.block c.block.result (c.block.ensures.number p at)
    (c.block.ensures.kind p at)
    ∙ ap (port_in_found text c.args.port) c.in_ok-kind.was
    ∙ ap (λ (o : Option ℕ). option_map (λ n. (kind, n)) o)
    (ap (λ (word : List ℕ). port_named kind word) spelled ∙ sym c.port_named.ensures ∙ c.in_err-port.was))

pub returns : goal.returns
returns c p at =
    let text = c.args.scope.now.tree.text in
    let kind = c.in_ok-kind.kind in
    let spelled : text_of text c.args.port ≡ c.text-2.result.now =
    sym (c.text-2.ensures
    ∙ ap (λ (t : List ℕ). text_of t c.args.port)
    (c.text.ensures.value ∙ ap (λ (t : Tree). t.text) c.source.ensures.value))
    in
    sym (port_by_found text c.args.port p c.args.block c.block.result (c.block.ensures.number p at)
    (c.block.ensures.kind p at)
    ∙ ap (port_in_found text c.args.port) c.in_ok-kind.was
    ∙ ap (λ (o : Option ℕ). option_map (λ n. (kind, n)) o)
    (ap (λ (word : List ℕ). port_named kind word) spelled ∙ sym c.port_named.ensures ∙ c.in_ok-port.was))
