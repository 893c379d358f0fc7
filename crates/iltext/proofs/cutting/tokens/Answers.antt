use Rattle.std.proofs.Common.{◌≤◌, List, [], ◌∷◌, length, sym, subst, arith, append_assoc}
use Rattle.std.proofs.lemmas.List.{append-nil}
use Rattle.std.proofs.lemmas.List.Elements.{All-push}
use Rattle.iltext.specs.declared.token.TokenKind.TheVariants as kinds
use Rattle.iltext.specs.declared.token.Token.{Token}
use Rattle.iltext.specs.Cutting.{Cuts}
use Rattle.iltext.proofs.cutting.tokens.Goals as goal

pub returns-in-End-clause-cut : goal.returns-in-End-clause-cut
returns-in-End-clause-cut c =
    subst (λ (z : List Token). Cuts c.args.text.now 0 z) (append-nil c.all.all.items)
    (c.all.invariant.cut [] c.in-End.ensures.next)

pub all-preserved : goal.all-preserved
all-preserved c =
    let t : Token = record { kind = kinds.Good c.in-Token.what; from = c.in-Token.from; to = c.in-Token.to } in
    record {
      cut = λ rest h. rw c.in_ok-push-in-Token.ensures.items
          (subst (λ (z : List Token). Cuts c.args.text.now 0 z) (sym (append_assoc c.all.all.items (t ∷ []) rest))
          (c.all.invariant.cut (t ∷ rest) (c.in-Token.ensures.next, h)));
      place = c.in-Token.ensures.ahead.2;
      within = rw c.in_ok-push-in-Token.ensures.items
          (All-push (λ (u : Token). u.from ≤ length c.args.text.now) c.all.all.items t c.all.invariant.within
          (let a = c.in-Token.ensures.ahead.1 in let b = c.in-Token.ensures.ahead.2 in omega arith));
    }
