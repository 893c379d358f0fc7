use Rattle.std.proofs.Common.{ℕ, List, ◌++◌, length, true, false, sym, ap, ◌∙◌, subst}
use Rattle.std.proofs.lemmas.List.{length_push}
use Rattle.std.proofs.lemmas.Slice.Zip.{zip_end, zip_turn}
use Rattle.ilsyms.specs.FunctionSteps.{IsPast, Needs}
use Rattle.ilsyms.proofs.MarkedFunctions.{all_so_far, so_far, with_marked, without_unmarked}
use Rattle.ilsyms.proofs.past.word_past_functions.Goals as goal

-- what a part of functions gives so far
abbrev part : Needs → List ℕ
part one = one.words

pub loop-is_used-preserved-then-is_used : goal.loop-is_used-preserved-then-is_used
loop-is_used-preserved-then-is_used c =
    let used = c.args.used.now in
    let needs = c.args.needs.now in
    let k = length c.loop-is_used.yielded in
    let one = c.in-Some.one.now in
    let t = zip_turn used needs c.loop-is_used.yielded _ _ c.next.new.self _ (cc) (cc) c.loop-is_used.yielded_by
    (c.in-Some.is_used, c.in-Some.one) c.in-Some.is c.next.ensures.steps in
    let more = with_marked part used needs k one t.0 t.1 (sym c.if-is_used.true ∙ t.2 true) (t.3 one) in
    subst (λ (ps : List ℕ). IsPast ps c.args.left c.further-past.result)
    (ap (λ (ps : List ℕ). so_far part used needs k ++ ps) c.words.ensures.value
    ∙ sym (ap (λ (n : ℕ). so_far part used needs n)
    (length_push c.loop-is_used.yielded (c.in-Some.is_used, c.in-Some.one))
    ∙ more))
    (c.further-past.ensures (so_far part used needs k) c.args.left c.loop-is_used.invariant)

pub loop-is_used-preserved : goal.loop-is_used-preserved
loop-is_used-preserved c =
    let used = c.args.used.now in
    let needs = c.args.needs.now in
    let k = length c.loop-is_used.yielded in
    let one = c.in-Some.one.now in
    let t = zip_turn used needs c.loop-is_used.yielded _ _ c.next.new.self _ (cc) (cc) c.loop-is_used.yielded_by
    (c.in-Some.is_used, c.in-Some.one) c.in-Some.is c.next.ensures.steps in
    let same = without_unmarked part used needs k one t.0 t.1 (sym c.if-is_used.false ∙ t.2 false) (t.3 one) in
    subst (λ (ps : List ℕ). IsPast ps c.args.left c.loop-is_used.past)
    (sym (ap (λ (n : ℕ). so_far part used needs n)
    (length_push c.loop-is_used.yielded (c.in-Some.is_used, c.in-Some.one))
    ∙ same))
    c.loop-is_used.invariant

pub returns : goal.returns
returns c =
    let used = c.args.used.now in
    let needs = c.args.needs.now in
    subst (λ (ps : List ℕ). IsPast ps c.args.left c.loop-is_used.past)
    (all_so_far part used needs (length c.loop-is_used.yielded)
    (zip_end used needs c.loop-is_used.yielded _ _ c.next.new.self _ (cc) (cc) c.loop-is_used.yielded_by c.in-None.is
    c.next.ensures.steps))
    c.loop-is_used.invariant
