use Rattle.std.proofs.Common.{◌≡◌, List, ap, subst, ◌∙◌}
use Rattle.std.specs.Prelude.{All, Contains}
use Rattle.wordlines.specs.declared.sources.BoundSource.{BoundSource}
use Rattle.wordlines.specs.Wirings.{Wiring, IsAt, IsWithinLimits}
use Rattle.wordlines.proofs.BoundSources.{found_bound, none_bound}
use Rattle.wordlines.proofs.binding.Binding.source.Goals as goal

pub returns-in-Some : goal.returns-in-Some
returns-in-Some c =
    let found = c.in-Some.bound.now in
    let view : c.self.inside.sources.items ≡ c.args.self.now.sources =
    ap (λ (w : Wiring). w.sources) c.self.view_is in
    let same : c.deref.result.now ≡ c.args.self.now.sources = c.deref.ensures.value ∙ view in
    let among = subst (λ (xs : List BoundSource). Contains xs found) same c.in-Some.ensures.0 in
    found_bound c.args.self.now (subst IsWithinLimits c.self.view_is c.self.invariant) c.args.bus c.args.number found
    among c.in-Some.ensures.1

pub returns-in-None : goal.returns-in-None
returns-in-None c =
    let view : c.self.inside.sources.items ≡ c.args.self.now.sources =
    ap (λ (w : Wiring). w.sources) c.self.view_is in
    let same : c.deref.result.now ≡ c.args.self.now.sources = c.deref.ensures.value ∙ view in
    let bus = c.args.bus in
    let number = c.args.number in
    let free = subst (λ (xs : List BoundSource). All (λ bound. ¬ IsAt bus number bound) xs) same c.in-None.ensures in
    none_bound c.args.self.now bus number free
