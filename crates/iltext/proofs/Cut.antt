-- A text has one list of tokens.
use Rattle.std.proofs.Common.{◌≡◌, ℕ, ◌≤◌, List, [], ◌∷◌, length, refl, sym, ap, ◌∙◌}
use Rattle.iltokens.specs.declared.lexed.Lexed.TheVariants as lexed
use Rattle.iltokens.proofs.Reporting.{one_reported, ends_within}
use Rattle.iltext.specs.declared.token.TokenKind.{TokenKind}
use Rattle.iltext.specs.declared.token.TokenKind.TheVariants as kinds
use Rattle.iltext.specs.declared.token.Token.{Token}
use Rattle.iltext.specs.Cutting.{Stands, Follows, Cuts}

abbrev made : TokenKind → ℕ → ℕ → Token
made k f g = record { kind = k; from = f; to = g }

equal : (t u : Token) → t.kind ≡ u.kind → t.from ≡ u.from → t.to ≡ u.to → t ≡ u
equal t u k f g = let e : made t.kind t.from t.to ≡ made u.kind u.from u.to = cc in e

pub one_cut : (text : List ℕ) (at : ℕ) → at ≤ length text → (ts us : List Token) → Cuts text at ts → Cuts text at us
    → ts ≡ us
one_cut text at le [] [] h i = refl
one_cut text at le [] (u ∷ us) h i = go u.kind i.0
  where
    go : (k : TokenKind) → Stands text at u k → [] ≡ u ∷ us
    go (kinds.Good w) i = let e = one_reported text at le lexed.End (lexed.Token w u.from u.to) h i in absurd cc
    go (kinds.Bad d) i = let e = one_reported text at le lexed.End (lexed.Fault d u.from) h i.0 in absurd cc
one_cut text at le (t ∷ ts) [] h i = go t.kind h.0
  where
    go : (j : TokenKind) → Stands text at t j → t ∷ ts ≡ []
    go (kinds.Good v) h = let e = one_reported text at le lexed.End (lexed.Token v t.from t.to) i h in absurd cc
    go (kinds.Bad c) h = let e = one_reported text at le lexed.End (lexed.Fault c t.from) i h.0 in absurd cc
one_cut text at le (t ∷ ts) (u ∷ us) h i =
    go t.kind u.kind refl refl h i (λ further a b. one_cut text t.to further ts us a b)
  where
    go : (j k : TokenKind) → t.kind ≡ j → u.kind ≡ k → Stands text at t j × Follows j (Cuts text t.to ts) ts
        → Stands text at u k × Follows k (Cuts text u.to us) us
        → (t.to ≤ length text → Cuts text t.to ts → Cuts text t.to us → ts ≡ us) → t ∷ ts ≡ u ∷ us
    go (kinds.Good v) (kinds.Bad d) a b h i ih =
        let e = one_reported text at le (lexed.Token v t.from t.to) (lexed.Fault d u.from) h.0 i.0.0 in
        absurd cc
    go (kinds.Bad c) (kinds.Good w) a b h i ih =
        let e = one_reported text at le (lexed.Fault c t.from) (lexed.Token w u.from u.to) h.0.0 i.0 in
        absurd cc
    go (kinds.Bad c) (kinds.Bad d) a b h i ih =
        let e = one_reported text at le (lexed.Fault c t.from) (lexed.Fault d u.from) h.0.0 i.0.0 in
        let cause : c ≡ d = cc in
        let place : t.from ≡ u.from = cc in
        let same : t ≡ u = equal t u (a ∙ ap kinds.Bad cause ∙ sym b) place (h.0.1 ∙ place ∙ sym i.0.1) in
        let x = h.1 in let y = i.1 in cc
    go (kinds.Good v) (kinds.Good w) a b h i ih =
        let e = one_reported text at le (lexed.Token v t.from t.to) (lexed.Token w u.from u.to) h.0 i.0 in
        let what : v ≡ w = cc in
        let from : t.from ≡ u.from = cc in
        let to : t.to ≡ u.to = cc in
        let same : t ≡ u = equal t u (a ∙ ap kinds.Good what ∙ sym b) from to in
        let rest : ts ≡ us = ih (ends_within text at v t.from t.to le h.0) h.1 (rw to i.1) in
        cc
