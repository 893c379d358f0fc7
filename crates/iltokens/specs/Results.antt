-- What a function that reads an item returns.
use Rattle.std.specs.Prelude.{◌≡◌, List, ◌++◌, Result, Ok, Err}
use Rattle.iltokens.specs.Items.{◌>>=◌}
use Rattle.iltokens.specs.declared.read_error.ReadError.{ReadError}
use Rattle.iltokens.specs.declared.read_error.ReadError.TheVariants as errors

-- reading ends where the function says, unless memory ran out
abbrev pub Fails : {T Y : Type 0} → ReadError T → Result Y (List T) → Type 0
Fails errors.Memory read = Unit {0}
Fails (errors.Fault f) read = read ≡ Err f.now

-- what the function returned, seen by view, is what reading gives, unless memory ran out
abbrev pub Gives : {T X Y : Type 0} → (X → Y) → Result X (ReadError T) → Result Y (List T) → Type 0
Gives view (Ok x) read = read ≡ Ok (view x)
Gives view (Err e) read = Fails e read

-- what reading adds to a list: what f gives of the value
abbrev pub extend : {T X A : Type 0}
    → (X → List A) → List A → Result (X × List T) (List T) → Result (List A × List T) (List T)
extend f front read = read >>= λ p. Ok (front ++ f p.0, p.1)
