use Rattle.std.proofs.Common.{◌∙◌, sym, subst}
use Rattle.iltokens.specs.declared.lexed.Lexed.{Lexed}
use Rattle.iltokens.specs.Tokens.{StandsNext}
use Rattle.iltokens.proofs.Reporting.{token_reported, token_only}
use Rattle.iltokens.proofs.lexer.token.Goals as goal

pub returns-clause-next : goal.returns-clause-next
returns-clause-next c =
    subst (λ (z : Lexed). StandsNext c.args.bytes.now c.args.at z) (sym c.next_token.ensures.exact)
    (token_reported c.args.bytes.now c.args.at c.requires)

pub returns-clause-only : goal.returns-clause-only
returns-clause-only c other h =
    token_only c.args.bytes.now c.args.at c.requires other h ∙ sym c.next_token.ensures.exact
