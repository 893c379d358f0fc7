-- Going over line ends.
use Rattle.std.proofs.Common.{◌≡◌, true, false, List, [], ◌∷◌, drop, Option, Some, None, Result, Ok, Err, refl, sym}
use Rattle.iltokens.specs.Items.{◌>>=◌, begins, many, one_read, one_read_at, is_in}
use Rattle.iltokens.proofs.Repeats.{none_more, one_more}
use Rattle.iltokens.specs.declared.lexed.Delimiter.TheVariants as delimiters
use Rattle.iltext.specs.declared.token.Token.{Token}
use Rattle.iltext.specs.Terminals.{Seen, delimiter_at, delimiter, line_ends}
use Rattle.iltext.proofs.Ends.{Firm-line_end}

one_goes : (class : Token → Option Seen) (t : Token) (ts : List Token) → is_in (class t) ≡ true
    → one_read class (t ∷ ts) ≡ Ok (tt, ts)
one_goes class t ts is = go (class t) is
  where
    go : (o : Option Seen) → is_in o ≡ true → one_read_at o t ts ≡ Ok (tt, ts)
    go (Some tt) is = refl
    go None is = absurd cc

end_goes : (t : Token) (ts : List Token) → (delimiter delimiters.LineEnd).starts t ≡ true
    → (delimiter delimiters.LineEnd).read (t ∷ ts) ≡ Ok (tt, ts)
unfolding delimiter
end_goes t ts is = one_goes (λ t. delimiter_at delimiters.LineEnd t.kind) t ts is

abbrev marked : List Seen × List Token → Result (Seen × List Token) (List Token)
marked p = Ok (tt, p.1)

abbrev more : List Seen × List Token → Result (List Seen × List Token) (List Token)
more q = Ok (tt ∷ q.0, q.1)

same_rest : (r : Result (List Seen × List Token) (List Token)) → ((r >>= more) >>= marked) ≡ (r >>= marked)
same_rest (Ok q) = refl
same_rest (Err d) = refl

pub goes_over : (ts : List Token) → begins (delimiter delimiters.LineEnd) ts ≡ true
    → line_ends.read (drop 1 ts) ≡ line_ends.read ts
unfolding line_ends
goes_over [] is = absurd cc
goes_over (t ∷ ts) is =
    sym (rw (one_more _ _ _ _ Firm-line_end.lawful Firm-line_end.solid (t ∷ ts) is, end_goes t ts is)
    (same_rest ((many (delimiter delimiters.LineEnd)).read ts)))

pub stays_there : (ts : List Token) → begins (delimiter delimiters.LineEnd) ts ≡ false → line_ends.read ts ≡ Ok (tt, ts)
unfolding line_ends
stays_there ts is = rw (none_more _ _ _ _ Firm-line_end.lawful Firm-line_end.solid ts is) refl
