-- Lines under other names: what resolving makes of a program, and what it has to show.
use Rattle.std.specs.Prelude.{◌≡◌, ℕ, Bool, List, [], ◌∷◌, map, Option, Some, None, ⊤}
use Rattle.std.specs.Option.{option_map}
use Rattle.std.specs.List.{AllZip}
use Rattle.iltypes.specs.declared.value.Value.{Value}
use Rattle.ilsource.specs.declared.arguments.Argument.{Argument}
use Rattle.ilsource.specs.declared.operand.Operand.{Operand}
use Rattle.ilsource.specs.declared.operand.Operand.TheVariants.{Name, Constant}
use Rattle.ilsource.specs.declared.instruction.Instruction.{Instruction}
use Rattle.ilsource.specs.declared.instruction.Instruction.TheVariants as instructions
use Rattle.ilsource.specs.declared.instruction.Line.{Line}
use Rattle.ilsource.specs.declared.nested.Action.{Action}
use Rattle.ilsource.specs.declared.nested.Action.TheVariants as actions
use Rattle.ilsource.specs.declared.nested.Piece.{Piece}
use Rattle.ilsource.specs.declared.uses.Use.{Use}
use Rattle.ilsource.specs.Trees.{Tree, Load, Reload, Apply, Transform, Deferred, Call, piece, pieces_of}
use Rattle.ilsource.specs.Meaning.{Access, On, operand_value}
use Rattle.ilsource.specs.Passes.{passes, scan}
use Rattle.ilsource.specs.Functions.{FunctionMeaning, Body, body_value, functions_from, given_by}
use Rattle.ilblocks.specs.Stores.{Store}
use Rattle.ilsource.specs.Words.{places_in, IsShallow}
use Rattle.ilsource.specs.Uses.{uses_in}

-- new names: of operands, so that a constant may become a place in a table, and of what is stored to, called and
-- invoked
pub record NewNames (N M : Type 0) : Type 0 where
  pub operand : Operand N → Operand M
  pub name : N → M

-- where a constant stays
abbrev pub by_name : {N M : Type 0} → (N → M) → Operand N → Operand M
by_name name (Name n) = Name (name n)
by_name name (Constant v) = Constant v

module _ {N M : Type 0} (new : NewNames N M) where
  abbrev pub rename_action : Action N → Action M
  rename_action (actions.Load negated o) = actions.Load negated (new.operand o)
  rename_action (actions.Apply operator o) = actions.Apply operator (new.operand o)
  rename_action (actions.Transform function) = actions.Transform function
  rename_action (actions.Open operator) = actions.Open operator
  rename_action actions.Close = actions.Close
  rename_action (actions.Hand f) = actions.Hand (new.name f)
  rename_action (actions.Give f number o) = actions.Give (new.name f) number (new.operand o)
  rename_action (actions.Invoke f) = actions.Invoke (new.name f)

  abbrev pub rename_piece : Piece N → Piece M
  rename_piece p = piece p.at (rename_action p.action)

  abbrev pub rename_tree : Tree N → Tree M
  rename_tree (Load at negated o) = Load at negated (new.operand o)
  rename_tree (Reload t at negated o) = Reload (rename_tree t) at negated (new.operand o)
  rename_tree (Apply t at operator o) = Apply (rename_tree t) at operator (new.operand o)
  rename_tree (Transform t at function) = Transform (rename_tree t) at function
  rename_tree (Deferred t at operator u close) = Deferred (rename_tree t) at operator (rename_tree u) close
  rename_tree (Call t at f os) = Call (rename_tree t) at (new.name f) (map new.operand os)

  abbrev pub rename_argument : Argument N → Argument M
  rename_argument x = record { port = new.name x.port; operand = new.operand x.operand }

  abbrev pub rename_use : Use N → Use M
  rename_use u = record { at = u.at; purpose = u.purpose; operand = new.operand u.operand }

module _ {N M L K : Type 0} (new : NewNames N M) (label : L → K) where
  abbrev pub rename : Instruction N L → Instruction M K
  rename (instructions.Load negated o) = instructions.Load negated (new.operand o)
  rename (instructions.Apply operator o) = instructions.Apply operator (new.operand o)
  rename (instructions.Deferred operator t close) = instructions.Deferred operator (rename_tree new t) close
  rename (instructions.Transform function) = instructions.Transform function
  rename (instructions.Limit low high) = instructions.Limit (new.operand low) (new.operand high)
  rename (instructions.Store negated n) = instructions.Store negated (new.name n)
  rename (instructions.Set n) = instructions.Set (new.name n)
  rename (instructions.Reset n) = instructions.Reset (new.name n)
  rename (instructions.Jump condition l) = instructions.Jump condition (label l)
  rename (instructions.Return condition) = instructions.Return condition
  rename (instructions.Call condition n xs) = instructions.Call condition (new.name n) (map (rename_argument new) xs)
  rename (instructions.Invoke f os) = instructions.Invoke (new.name f) (map new.operand os)

  abbrev pub rename_line : Line N L → Line M K
  rename_line line =
      record { at = line.at; label = option_map label line.label; instruction = option_map rename line.instruction }

module _ {N M S T : Type 0} (a : Access N S) (b : Access M T) (new : NewNames N M) (view : S → T) where
  -- the second store is a view of the first: each operand, store and call does the same there under its new name, and
  -- each function gives the same
  pub record IsSeen : Type 0 where
    pub read : (s : S) (o : Operand N) → operand_value b (view s) (new.operand o) ≡ operand_value a s o
    pub write : (s : S) (n : N) (v : Value) → b.write (view s) (new.name n) v ≡ option_map view (a.write s n v)
    pub pass : (s : S) (n : N) (v : Value) → b.pass (view s) (new.name n) v ≡ option_map view (a.pass s n v)
    pub call : (s : S) (n : N) → b.call (view s) (new.name n) ≡ option_map view (a.call s n)
    pub give : (n : N) (vs : List Value) → b.give (new.name n) vs ≡ a.give n vs

-- no label but one that is the same gets the new name of a line's label
abbrev pub IsLabelKept : {L K : Type 0} → (L → L → Bool) → (K → K → Bool) → (L → K) → Option L → Type 0
IsLabelKept same same' label None = ⊤
IsLabelKept {L} same same' label (Some m) = (l : L) → same' (label l) (label m) ≡ same l m

abbrev pub AreKept : {N L K : Type 0} → (L → L → Bool) → (K → K → Bool) → (L → K) → List (Line N L) → Type 0
AreKept same same' label [] = ⊤
AreKept same same' label (line ∷ lines) = IsLabelKept same same' label line.label × AreKept same same' label lines

module _ {N M L K : Type 0} (same : L → L → Bool) (same' : K → K → Bool) (new : NewNames N M) where
  -- the second lines are the first ones under their new names
  pub record IsRenamed (lines : List (Line N L)) (others : List (Line M K)) : Type 0 where
    pub label : L → K
    pub kept : AreKept same same' label lines
    pub is : others ≡ map (rename_line new label) lines

  -- program by program, each with labels of its own
  abbrev pub AreRenamed : List (List (Line N L)) → List (List (Line M K)) → Type 0
  AreRenamed [] [] = ⊤
  AreRenamed (lines ∷ more) (others ∷ rest) = IsRenamed lines others × AreRenamed more rest
  AreRenamed _ _ = ⊥

  -- the second body is the first one under its new names
  pub record IsRenamedBody (body : Body N L) (other : Body M K) : Type 0 where
    pub types : other.types ≡ body.types
    pub inputs : other.inputs ≡ body.inputs
    pub initials : other.initials ≡ body.initials
    pub lines : IsRenamed body.lines other.lines

-- renamed lines leave the view of what the lines leave
abbrev pub PassesAreKept : (N M L K S T : Type 0) → Type 0
PassesAreKept N M L K S T =
    (a : Access N S) (b : Access M T) (new : NewNames N M) (view : S → T) → IsSeen a b new view
    → (same : L → L → Bool) (same' : K → K → Bool) (lines : List (Line N L)) (others : List (Line M K))
    → IsRenamed same same' new lines others → (r : Option Value) (s : S)
    → passes same' b others On r (view s) ≡ option_map view (passes same a lines On r s)

-- and so do renamed programs, one after another
abbrev pub ScansAreKept : (N M L K S T : Type 0) → Type 0
ScansAreKept N M L K S T =
    (a : Access N S) (b : Access M T) (new : NewNames N M) (view : S → T) → IsSeen a b new view
    → (same : L → L → Bool) (same' : K → K → Bool) (programs : List (List (Line N L))) (others : List (List (Line M K)))
    → AreRenamed same same' new programs others → (s : S)
    → scan same' b others (view s) ≡ option_map view (scan same a programs s)

-- a renamed line has its words at the same places, and parentheses as lawful
abbrev pub SizesAreKept : (N M L K : Type 0) → Type 0
SizesAreKept N M L K =
    (new : NewNames N M) (label : L → K) (line : Line N L)
    → (places_in (rename_line new label line) ≡ places_in line)
    × (IsShallow line.instruction → IsShallow (rename_line new label line).instruction)

-- the pieces of a renamed tree are the pieces of the tree, renamed
abbrev pub PiecesAreKept : (N M : Type 0) → Type 0
PiecesAreKept N M =
    (new : NewNames N M) (t : Tree N) → pieces_of (rename_tree new t) ≡ map (rename_piece new) (pieces_of t)

-- where names are operands under their new names too, a renamed line uses what the line uses, renamed
abbrev pub UsesAreKept : (N M L K : Type 0) → Type 0
UsesAreKept N M L K =
    (new : NewNames N M) (label : L → K) → ((n : N) → new.operand (Name n) ≡ Name (new.name n))
    → (line : Line N L) → uses_in (rename_line new label line) ≡ map (rename_use new) (uses_in line)

-- where names are read alike, so are operands
abbrev pub OperandsAreKept : (N M S T : Type 0) → Type 0
OperandsAreKept N M S T =
    (a : Access N S) (b : Access M T) (name : N → M) (view : S → T)
    → ((s : S) (n : N) → b.read (view s) (name n) ≡ a.read s n)
    → (s : S) (o : Operand N) → operand_value b (view s) (by_name name o) ≡ operand_value a s o

-- ---- functions

-- both functions give the same
abbrev pub GiveAlike : FunctionMeaning → FunctionMeaning → Type 0
GiveAlike one other = (vs : List Value) → other vs ≡ one vs

-- a function whose body has new names gives what the function gives
abbrev pub BodiesAreKept : (N M L K : Type 0) → Type 0
BodiesAreKept N M L K =
    (a : Access N Store) (b : Access M Store) (new : NewNames N M) → IsSeen a b new (λ store. store)
    → (same : L → L → Bool) (same' : K → K → Bool) (body : Body N L) (other : Body M K)
    → IsRenamedBody same same' new body other → GiveAlike (body_value same a body) (body_value same' b other)

-- where each function gives the same as soon as those before it do, all do
abbrev pub FunctionsAreKept : (F G : Type 0) → Type 0
FunctionsAreKept F G =
    (meaning : List FunctionMeaning → F → FunctionMeaning) (meaning' : List FunctionMeaning → G → FunctionMeaning)
    (fs : List F) (gs : List G)
    → AllZip
    (λ f g. (known others : List FunctionMeaning) → AllZip GiveAlike known others
    → GiveAlike (meaning known f) (meaning' others g))
    fs gs
    → AllZip GiveAlike (functions_from meaning [] fs) (functions_from meaning' [] gs)

-- and so does the function of each number
abbrev pub NumbersAreKept : Type 0
NumbersAreKept =
    (known others : List FunctionMeaning) → AllZip GiveAlike known others
    → (number : ℕ) (vs : List Value) → given_by others number vs ≡ given_by known number vs
