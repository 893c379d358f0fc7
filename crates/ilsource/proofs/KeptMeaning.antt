-- Lines mean the same under their new names.
use Rattle.std.proofs.Common.{◌≡◌, refl, ap, ◌∙◌, List, [], ◌∷◌, map, Bool, true, false, cond, Option, Some, None}
use Rattle.std.specs.Option.{option_map, option_and_then}
use Rattle.iltypes.specs.declared.value.Value.{Value}
use Rattle.iltypes.specs.declared.value.Value.TheVariants as values
use Rattle.iltypes.specs.declared.operator.Operator.TheVariants.{Min, Max}
use Rattle.iltypes.specs.Operators.{both}
use Rattle.iltypes.specs.Functions.{modified, value_of_function}
use Rattle.ilsource.specs.declared.arguments.Argument.{Argument}
use Rattle.ilsource.specs.declared.operand.Operand.{Operand}
use Rattle.ilsource.specs.declared.operand.Operand.TheVariants.{Name, Constant}
use Rattle.iltypes.specs.declared.condition.Condition.TheVariants.{IfTrue}
use Rattle.ilsource.specs.declared.instruction.Instruction.{Instruction}
use Rattle.ilsource.specs.declared.instruction.Instruction.TheVariants as instructions
use Rattle.ilsource.specs.declared.instruction.Line.{Line}
use Rattle.ilsource.specs.Trees.{Tree, Load, Reload, Apply, Transform, Deferred, Call}
use Rattle.ilsource.specs.Meaning.{Access, Way, On, To, Out, After, operand_value, loaded, value, after, gives, leaves}
use Rattle.iltypes.specs.Conditions.{holds, chosen}
use Rattle.ilsource.specs.Meaning.{operand_values, joined, given, passed, called, line_does}
use Rattle.ilsource.specs.Passes.{has_label, takes, at_end, passes, scan}
use Rattle.ilsource.specs.Renaming.{NewNames, by_name, rename_tree, rename_argument, rename, rename_line}
use Rattle.ilsource.specs.Renaming.{IsSeen, IsLabelKept, AreKept, IsRenamed, AreRenamed}

module _ {N M S T : Type 0} (a : Access N S) (b : Access M T) (new : NewNames N M) (view : S → T)
    (h : IsSeen a b new view) where
  loaded_same : (s : S) (negated : Bool) (o : Operand N)
      → loaded b (view s) negated (new.operand o) ≡ loaded a s negated o
  loaded_same s negated o = ap (option_and_then (modified negated)) (h.read s o)

  operands_same : (s : S) (os : List (Operand N))
      → operand_values b (view s) (map new.operand os) ≡ operand_values a s os
  operands_same s [] = refl
  operands_same s (o ∷ os) = let e = h.read s o in let g = operands_same s os in rw (e, g) refl

  arguments_same : (f : N) (o : Option (List Value))
      → option_and_then (b.give (new.name f)) o ≡ option_and_then (a.give f) o
  arguments_same f None = refl
  arguments_same f (Some vs) = h.give f vs

  given_same : (s : S) (f : N) (r : Option Value) (os : List (Operand N))
      → given b (new.name f) r (operand_values b (view s) (map new.operand os)) ≡ given a f r (operand_values a s os)
  given_same s f r os =
      ap (λ o. given b (new.name f) r o) (operands_same s os) ∙ arguments_same f (joined r (operand_values a s os))

  tree_same : (s : S) (t : Tree N) → value b (view s) (rename_tree new t) ≡ value a s t
  tree_same s (Load at negated o) = loaded_same s negated o
  tree_same s (Reload t at negated o) = let e = tree_same s t in let g = loaded_same s negated o in rw (e, g) refl
  tree_same s (Apply t at operator o) = let e = tree_same s t in let g = h.read s o in rw (e, g) refl
  tree_same s (Transform t at function) = ap (option_and_then (value_of_function function)) (tree_same s t)
  tree_same s (Deferred t at operator u close) = let e = tree_same s t in let g = tree_same s u in rw (e, g) refl
  tree_same s (Call t at f os) =
      ap (λ r. given b (new.name f) r (operand_values b (view s) (map new.operand os))) (tree_same s t)
      ∙ given_same s f (value a s t) os

  then_same : (k : S → Option S) (k' : T → Option T) (o : Option S) → ((s : S) → k' (view s) ≡ option_map view (k s))
      → option_and_then k' (option_map view o) ≡ option_map view (option_and_then k o)
  then_same k k' None e = refl
  then_same k k' (Some s) e = e s

  -- a value that may be none is written
  write_same : (s : S) (n : N) (o : Option Value)
      → option_and_then (b.write (view s) (new.name n)) o ≡ option_map view (option_and_then (a.write s n) o)
  write_same s n None = refl
  write_same s n (Some v) = h.write s n v

  -- and so is one passed to a port
  pass_same : (s : S) (n : N) (o : Option Value)
      → option_and_then (b.pass (view s) (new.name n)) o ≡ option_map view (option_and_then (a.pass s n) o)
  pass_same s n None = refl
  pass_same s n (Some v) = h.pass s n v

  passed_same : (xs : List (Argument N)) (s : S)
      → passed b (map (rename_argument new) xs) (view s) ≡ option_map view (passed a xs s)
  passed_same [] s = refl
  passed_same (x ∷ xs) s =
      let rest = passed b (map (rename_argument new) xs) in
      ap (λ o. option_and_then rest (option_and_then (b.pass (view s) (new.name x.port)) o)) (h.read s x.operand)
      ∙ (ap (option_and_then rest) (pass_same s x.port (operand_value a s x.operand))
      ∙ then_same (passed a xs) rest (option_and_then (a.pass s x.port) (operand_value a s x.operand))
      (passed_same xs))

  called_same : (n : N) (xs : List (Argument N)) (s : S)
      → called b (new.name n) (map (rename_argument new) xs) (view s) ≡ option_map view (called a n xs s)
  called_same n xs s =
      ap (option_and_then (λ t. b.call t (new.name n))) (passed_same xs s)
      ∙ then_same (λ t. a.call t n) (λ t. b.call t (new.name n)) (passed a xs s) (λ t. h.call t n)

module _ {N M L K S T : Type 0} (a : Access N S) (b : Access M T) (new : NewNames N M)
    (label : L → K) (view : S → T) (h : IsSeen a b new view) where
  abbrev way_of : Way L → Way K
  way_of On = On
  way_of (To l) = To (label l)
  way_of Out = Out

  abbrev seen : After L S → After K T
  seen x = record { way = way_of x.way; result = x.result; store = view x.store }

  abbrev Same : Option (After K T) → Option (After L S) → Type 0
  Same x y = x ≡ option_map seen y

  gives_same : (o : Option Value) (s : S) → Same (gives o (view s)) (gives o s)
  gives_same None s = refl
  gives_same (Some v) s = refl

  leaves_same : (r : Option Value) (o : Option S) → Same (leaves r (option_map view o)) (leaves r o)
  leaves_same r None = refl
  leaves_same r (Some s) = refl

  chosen_same : (c : Option Bool) (x y : Option (After L S)) (x' y' : Option (After K T))
      → Same x' x → Same y' y → Same (chosen c x' y') (chosen c x y)
  chosen_same None x y x' y' e g = refl
  chosen_same (Some true) x y x' y' e g = e
  chosen_same (Some false) x y x' y' e g = g

  line_same : (s : S) (r : Option Value) (i : Option (Instruction N L))
      → Same (line_does b (option_map (rename new label) i) r (view s)) (line_does a i r s)
  line_same s r None = refl
  line_same s r (Some (instructions.Load negated o)) =
      ap (λ x. gives x (view s)) (loaded_same a b new view h s negated o) ∙ gives_same (loaded a s negated o) s
  line_same s r (Some (instructions.Apply operator o)) =
      ap (λ x. gives (both operator r x) (view s)) (h.read s o) ∙ gives_same (both operator r (operand_value a s o)) s
  line_same s r (Some (instructions.Deferred operator t close)) =
      ap (λ x. gives (both operator r x) (view s)) (tree_same a b new view h s t)
      ∙ gives_same (both operator r (value a s t)) s
  line_same s r (Some (instructions.Transform function)) = gives_same (option_and_then (value_of_function function) r) s
  line_same s r (Some (instructions.Limit low high)) =
      ap (λ x. gives (both Min (both Max r x) (operand_value b (view s) (new.operand high))) (view s)) (h.read s low)
      ∙ (ap (λ x. gives (both Min (both Max r (operand_value a s low)) x) (view s)) (h.read s high)
      ∙ gives_same (both Min (both Max r (operand_value a s low)) (operand_value a s high)) s)
  line_same s r (Some (instructions.Store negated n)) =
      let o = option_and_then (modified negated) r in
      ap (leaves r) (write_same a b new view h s n o) ∙ leaves_same r (option_and_then (a.write s n) o)
  line_same s r (Some (instructions.Set n)) =
      let e = ap (leaves r) (h.write s n (values.Bool true)) ∙ leaves_same r (a.write s n (values.Bool true)) in
      chosen_same (holds IfTrue r) _ (after On r s) _ _ e refl
  line_same s r (Some (instructions.Reset n)) =
      let e = ap (leaves r) (h.write s n (values.Bool false)) ∙ leaves_same r (a.write s n (values.Bool false)) in
      chosen_same (holds IfTrue r) _ (after On r s) _ _ e refl
  line_same s r (Some (instructions.Jump condition l)) = chosen_same (holds condition r) _ _ _ _ refl refl
  line_same s r (Some (instructions.Return condition)) = chosen_same (holds condition r) _ _ _ _ refl refl
  line_same s r (Some (instructions.Call condition n xs)) =
      chosen_same (holds condition r) _ _ _ _
      (ap (leaves None) (called_same a b new view h n xs s) ∙ leaves_same None (called a n xs s)) refl
  line_same s r (Some (instructions.Invoke f os)) =
      ap (λ x. gives x (view s)) (given_same a b new view h s f r os)
      ∙ gives_same (given a f r (operand_values a s os)) s

  end_same : (way : Way L) (s : S) → at_end (way_of way) (view s) ≡ option_map view (at_end way s)
  end_same On s = refl
  end_same (To l) s = refl
  end_same Out s = refl

  cond_same : (c : Bool) (x y : Option S) (x' y' : Option T) → x' ≡ option_map view x → y' ≡ option_map view y
      → cond c x' y' ≡ option_map view (cond c x y)
  cond_same true x y x' y' e g = e
  cond_same false x y x' y' e g = g

  on_same : (u : After K T → Option T) (v : After L S → Option S) (o : Option (After L S))
      → ((x : After L S) → u (seen x) ≡ option_map view (v x))
      → option_and_then u (option_map seen o) ≡ option_map view (option_and_then v o)
  on_same u v None e = refl
  on_same u v (Some x) e = e x

  module _ (same : L → L → Bool) (same' : K → K → Bool) where
    label_same : (l : L) (m : Option L) → IsLabelKept same same' label m
        → has_label same' (label l) (option_map label m) ≡ has_label same l m
    label_same l None k = refl
    label_same l (Some m) k = k l

    takes_same : (way : Way L) (m : Option L) → IsLabelKept same same' label m
        → takes same' (way_of way) (option_map label m) ≡ takes same way m
    takes_same On m k = refl
    takes_same (To l) m k = label_same l m k
    takes_same Out m k = refl

    pub passes_same : (lines : List (Line N L)) → AreKept same same' label lines → (way : Way L) (r : Option Value)
        (s : S) → passes same' b (map (rename_line new label) lines) (way_of way) r (view s)
        ≡ option_map view (passes same a lines way r s)
    passes_same [] k way r s = end_same way s
    passes_same (line ∷ lines) k way r s =
        let u = λ (x : After K T). passes same' b (map (rename_line new label) lines) x.way x.result x.store in
        let v = λ (x : After L S). passes same a lines x.way x.result x.store in
        let i = option_map (rename new label) line.instruction in
        let otherwise = u (record { way = way_of way; result = r; store = view s }) in
        ap (λ c. cond c (option_and_then u (line_does b i r (view s))) otherwise) (takes_same way line.label k.0)
        ∙ cond_same (takes same way line.label) _ _ _ _
        (ap (option_and_then u) (line_same s r line.instruction)
        ∙ on_same u v (line_does a line.instruction r s) (λ x. passes_same lines k.1 x.way x.result x.store))
        (passes_same lines k.1 way r s)

module _ {N M L K S T : Type 0} (a : Access N S) (b : Access M T) (new : NewNames N M) (view : S → T)
    (h : IsSeen a b new view) (same : L → L → Bool) (same' : K → K → Bool) where
  pub renamed_same : (lines : List (Line N L)) (others : List (Line M K)) → IsRenamed same same' new lines others
      → (r : Option Value) (s : S) → passes same' b others On r (view s) ≡ option_map view (passes same a lines On r s)
  renamed_same lines others k r s =
      ap (λ ls. passes same' b ls On r (view s)) k.is
      ∙ passes_same a b new k.label view h same same' lines k.kept On r s

  pub scan_same : (programs : List (List (Line N L))) (others : List (List (Line M K)))
      → AreRenamed same same' new programs others
      → (s : S) → scan same' b others (view s) ≡ option_map view (scan same a programs s)
  scan_same [] [] k s = refl
  scan_same [] (x ∷ xs) k s = absurd k
  scan_same (x ∷ xs) [] k s = absurd k
  scan_same (lines ∷ more) (others ∷ rest) k s =
      ap (option_and_then (scan same' b rest)) (renamed_same lines others k.0 None s)
      ∙ then_same a b new view h (scan same a more) (scan same' b rest) (passes same a lines On None s)
      (λ t. scan_same more rest k.1 t)

pub operand_same : {N M S T : Type 0} (a : Access N S) (b : Access M T) (name : N → M) (view : S → T)
    → ((s : S) (n : N) → b.read (view s) (name n) ≡ a.read s n)
    → (s : S) (o : Operand N) → operand_value b (view s) (by_name name o) ≡ operand_value a s o
operand_same a b name view h s (Name n) = h s n
operand_same a b name view h s (Constant v) = refl
