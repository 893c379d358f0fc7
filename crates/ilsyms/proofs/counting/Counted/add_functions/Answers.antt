use Rattle.std.proofs.Common.{ℕ, List, ◌++◌, length, true, false, append_assoc, sym, ap, ◌∙◌, subst}
use Rattle.std.proofs.lemmas.List.{length_push}
use Rattle.std.proofs.lemmas.Slice.Zip.{zip_end, zip_turn}
use Rattle.ilsource.specs.declared.symbol.Symbol.{Symbol}
use Rattle.ilsource.specs.declared.uses.Use.{Use}
use Rattle.ilsyms.specs.CountingSteps.{AreCounted}
use Rattle.ilsyms.specs.FunctionSteps.{Needs}
use Rattle.ilsyms.proofs.MarkedFunctions.{all_so_far, so_far, with_marked, without_unmarked}
use Rattle.ilsyms.proofs.counting.Counted.add_functions.Goals as goal

-- what a function uses
abbrev part : Needs → List (Use Symbol)
part one = one.uses

pub loop-is_used-preserved-in-Continue-1 : goal.loop-is_used-preserved-in-Continue-1
loop-is_used-preserved-in-Continue-1 c before counted =
    let used = c.args.used.now in
    let needs = c.args.needs.now in
    let k = length c.loop-is_used.yielded in
    let one = c.in-Some.one.now in
    let t = zip_turn used needs c.loop-is_used.yielded _ _ c.next.new.self _ (cc) (cc) c.loop-is_used.yielded_by
    (c.in-Some.is_used, c.in-Some.one) c.in-Some.is c.next.ensures.steps in
    let front = so_far part used needs k in
    let more = with_marked part used needs k one t.0 t.1 (sym c.if-is_used.true ∙ t.2 true) (t.3 one) in
    subst
    (λ (us : List (Use Symbol)). AreCounted us c.add_uses.new.self.constants c.add_uses.new.self.excess)
    (append_assoc before front c.uses.result.now
    ∙ ap (λ (us : List (Use Symbol)). before ++ (front ++ us)) c.uses.ensures.value
    ∙ ap (λ (us : List (Use Symbol)). before ++ us)
    (sym (ap (λ (n : ℕ). so_far part used needs n)
    (length_push c.loop-is_used.yielded (c.in-Some.is_used, c.in-Some.one))
    ∙ more)))
    (c.in_ok-add_uses.ensures (before ++ front) (c.loop-is_used.invariant before counted))

pub loop-is_used-preserved : goal.loop-is_used-preserved
loop-is_used-preserved c before counted =
    let used = c.args.used.now in
    let needs = c.args.needs.now in
    let k = length c.loop-is_used.yielded in
    let one = c.in-Some.one.now in
    let t = zip_turn used needs c.loop-is_used.yielded _ _ c.next.new.self _ (cc) (cc) c.loop-is_used.yielded_by
    (c.in-Some.is_used, c.in-Some.one) c.in-Some.is c.next.ensures.steps in
    let same = without_unmarked part used needs k one t.0 t.1 (sym c.if-is_used.false ∙ t.2 false) (t.3 one) in
    subst
    (λ (us : List (Use Symbol)). AreCounted (before ++ us) c.loop-is_used.self.constants c.loop-is_used.self.excess)
    (sym (ap (λ (n : ℕ). so_far part used needs n)
    (length_push c.loop-is_used.yielded (c.in-Some.is_used, c.in-Some.one))
    ∙ same))
    (c.loop-is_used.invariant before counted)

pub returns : goal.returns
returns c before counted =
    let used = c.args.used.now in
    let needs = c.args.needs.now in
    subst
    (λ (us : List (Use Symbol)). AreCounted (before ++ us) c.loop-is_used.self.constants c.loop-is_used.self.excess)
    (all_so_far part used needs (length c.loop-is_used.yielded)
    (zip_end used needs c.loop-is_used.yielded _ _ c.next.new.self _ (cc) (cc) c.loop-is_used.yielded_by c.in-None.is
    c.next.ensures.steps))
    (c.loop-is_used.invariant before counted)
