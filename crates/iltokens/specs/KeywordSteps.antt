-- Looking a word up, as the private functions do.
use Rattle.std.specs.Prelude.{ℕ, ◌==◌, List, [], ◌∷◌, map, flat_map, Option, Some, None, if◌then◌else◌}
use Rattle.std.specs.Borrow.{Bor}
use Rattle.std.specs.Str.{str_eq_ignore_ascii_case}
use Rattle.iltokens.specs.declared.keyword.Keyword.{Keyword}
use Rattle.iltokens.specs.Keywords.{spelling_of}
use Rattle.iltokens.specs.declared.keyword.TheConstants.{A_WORDS, B_WORDS, C_WORDS, D_WORDS, E_WORDS, F_WORDS, G_WORDS}
use Rattle.iltokens.specs.declared.keyword.TheConstants.{I_WORDS, J_WORDS, L_WORDS, M_WORDS, N_WORDS, O_WORDS, P_WORDS}
use Rattle.iltokens.specs.declared.keyword.TheConstants.{R_WORDS, S_WORDS, T_WORDS, U_WORDS, V_WORDS, W_WORDS, X_WORDS}

-- a word after its spelling
abbrev pub row_of : Keyword → List ℕ × Keyword
row_of word = (spelling_of word, word)

-- the words of a row, each after its spelling
abbrev pub row_view : Bor (List Keyword) → List (List ℕ × Keyword)
row_view row = map row_of row.now

-- the same of a constant
abbrev pub words_of : record { now : List Keyword } → List (List ℕ × Keyword)
words_of row = map row_of row.now

-- the code's reserved words: after each letter, in lower case, those that begin with it
unfoldable pub word_rows : List (ℕ × List (List ℕ × Keyword))
word_rows =
    (97, words_of A_WORDS) ∷ (98, words_of B_WORDS) ∷ (99, words_of C_WORDS) ∷ (100, words_of D_WORDS) ∷
    (101, words_of E_WORDS) ∷ (102, words_of F_WORDS) ∷ (103, words_of G_WORDS) ∷ (105, words_of I_WORDS) ∷
    (106, words_of J_WORDS) ∷ (108, words_of L_WORDS) ∷ (109, words_of M_WORDS) ∷ (110, words_of N_WORDS) ∷
    (111, words_of O_WORDS) ∷ (112, words_of P_WORDS) ∷ (114, words_of R_WORDS) ∷ (115, words_of S_WORDS) ∷
    (116, words_of T_WORDS) ∷ (117, words_of U_WORDS) ∷ (118, words_of V_WORDS) ∷ (119, words_of W_WORDS) ∷
    (120, words_of X_WORDS) ∷ []

-- the words of all rows of a table
abbrev pub all_words : List (ℕ × List (List ℕ × Keyword)) → List (List ℕ × Keyword)
all_words rows = flat_map (λ row. row.1) rows

unfoldable pub reserved_words : List (List ℕ × Keyword)
reserved_words = all_words word_rows

-- the first row of a letter
abbrev pub row_by : ℕ → List (ℕ × List (List ℕ × Keyword)) → List (List ℕ × Keyword)
row_by letter [] = []
row_by letter (row ∷ rows) = if letter == row.0 then row.1 else row_by letter rows

-- the reserved words that begin with a letter, which is given in lower case
unfoldable pub words_by : ℕ → List (List ℕ × Keyword)
words_by letter = row_by letter word_rows

-- the first word of a table that is spelled like the text
abbrev pub lookup : List (List ℕ × Keyword) → List ℕ → Option Keyword
lookup [] text = None
lookup (k ∷ ks) text = if str_eq_ignore_ascii_case k.0 text then Some k.1 else lookup ks text

unfoldable pub keyword : List ℕ → Option Keyword
keyword = lookup reserved_words
