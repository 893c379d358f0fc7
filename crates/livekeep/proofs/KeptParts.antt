-- What was kept of the ports of a block instance, one after another.
use Rattle.std.proofs.Common.{◌≡◌, ℕ, zero, suc, ◌+◌, ◌<◌, ◌≤◌, List, [], ◌∷◌, ◌++◌, drop, length, get_or}
use Rattle.std.proofs.Common.{Option, Some, None}
use Rattle.std.proofs.Common.{append_assoc, refl, sym, ap, ◌∙◌, arith}
use Rattle.std.specs.Prelude.{min, option_and_then, option_map}
use Rattle.std.proofs.lemmas.List.{append-nil, drop_all, drop_more}
use Rattle.iltypes.specs.declared.value.Value.{Value}
use Rattle.ilblocks.specs.declared.port.Port.{Port}
use Rattle.livekeep.specs.KeptBlocks.{kept_port, kept_ports, port_entries}
use Rattle.livekeep.specs.KeptFiles.{KeptEntry}

module _ (kept : List KeptEntry) (buses : ℕ) (block : List ℕ) where
  -- the values so far, and those of the ports that are left, where each was kept
  abbrev pub ports_left : List Value → List Port → Option (List Value)
  ports_left values left = option_map (λ more. values ++ more) (kept_ports kept buses block left)

  abbrev with_rest : List Port → Option Value → Option (List Value)
  with_rest left o = option_and_then (λ value. option_map (λ more. value ∷ more) (kept_ports kept buses block left)) o

  joined : (values : List Value) (value : Value) (rest : Option (List Value))
      → option_map (λ more. (values ++ value ∷ []) ++ more) rest
      ≡ option_map (λ more. values ++ more) (option_map (λ more. value ∷ more) rest)
  joined values value None = refl
  joined values value (Some more) = ap Some (append_assoc values (value ∷ []) more)

  dropped : (ports : List Port) (i : ℕ) (port : Port) → i < length ports → port ≡ get_or ports i port
      → drop i ports ≡ port ∷ drop (i + 1) ports
  dropped ports i port lt is =
      drop_more ports i port lt ∙ ap (λ (p : Port). p ∷ drop (i + 1) ports) (sym is)

  -- what is left, where the next port was kept so
  next : (ports : List Port) (i : ℕ) (port : Port) (o : Option Value) → i < length ports → port ≡ get_or ports i port
      → o ≡ kept_port kept buses block port
      → kept_ports kept buses block (drop i ports) ≡ with_rest (drop (i + 1) ports) o
  next ports i port o lt is found =
      ap (λ (l : List Port). kept_ports kept buses block l) (dropped ports i port lt is)
      ∙ ap (λ (v : Option Value). with_rest (drop (i + 1) ports) v) (sym found)

  pub one_port : (ports : List Port) (i : ℕ) (port : Port) (value : Value) (values longer : List Value)
      (whole : Option (List Value)) → i < length ports → port ≡ get_or ports i port
      → Some value ≡ kept_port kept buses block port → longer ≡ values ++ value ∷ []
      → ports_left values (drop i ports) ≡ whole → ports_left longer (drop (i + 1) ports) ≡ whole
  one_port ports i port value values longer whole lt is found pushed before =
      ap (λ (l : List Value). ports_left l (drop (i + 1) ports)) pushed
      ∙ (joined values value (kept_ports kept buses block (drop (i + 1) ports))
      ∙ (ap (λ (r : Option (List Value)). option_map (λ more. values ++ more) r)
      (sym (next ports i port (Some value) lt is found)) ∙ before))

  -- a port that was not kept
  pub none_kept : (ports : List Port) (i : ℕ) (port : Port) (values : List Value) (whole : Option (List Value))
      → i < length ports → port ≡ get_or ports i port → None ≡ kept_port kept buses block port
      → ports_left values (drop i ports) ≡ whole → None ≡ whole
  none_kept ports i port values whole lt is found before =
      ap (λ (r : Option (List Value)). option_map (λ more. values ++ more) r)
      (sym (next ports i port None lt is found))
      ∙ before

  -- no port is left
  pub all_kept : (ports : List Port) (i : ℕ) (values : List Value) (whole : Option (List Value)) → length ports ≤ i
      → ports_left values (drop i ports) ≡ whole → Some values ≡ whole
  all_kept ports i values whole over before =
      ap Some (sym (append-nil values))
      ∙ (sym (ap (λ (l : List Port). ports_left values l) (drop_all i ports over)) ∙ before)

  -- as many as there are ports
  long_rest : (ports : List Port) (o : Option Value) (rest : Option (List Value)) (values : List Value)
      → ((more : List Value) → rest ≡ Some more → length more ≡ length ports)
      → option_and_then (λ value. option_map (λ more. value ∷ more) rest) o ≡ Some values
      → length values ≡ length ports + 1
  long_rest ports None rest values long e = absurd (cc)
  long_rest ports (Some value) None values long e = absurd (cc)
  long_rest ports (Some value) (Some more) values long e =
      let same : value ∷ more ≡ values = cc in
      let many = long more refl in
      sym (ap length same) ∙ (let count : length (value ∷ more) ≡ length ports + 1 = omega (arith, many) in count)

  pub as_many : (ports : List Port) (values : List Value) → kept_ports kept buses block ports ≡ Some values
      → length values ≡ length ports
  as_many [] values e = let same : [] ≡ values = cc in sym (ap length same)
  as_many (port ∷ ports) values e =
      let many = long_rest ports (kept_port kept buses block port) (kept_ports kept buses block ports) values
      (λ more is. as_many ports more is) e in
      omega (arith, many)

-- ---- what is kept of ports

no_values : (block : List ℕ) (ports : List Port) → port_entries block ports [] ≡ []
no_values block [] = refl
no_values block (port ∷ ports) = refl

-- nothing, where no port is left, or no value
pub none_over : (block : List ℕ) (ports : List Port) (values : List Value) (i : ℕ)
    → min (length ports) (length values) ≤ i → port_entries block (drop i ports) (drop i values) ≡ []
none_over block [] values zero over = refl
none_over block [] values (suc i) over = refl
none_over block (port ∷ ports) [] zero over = refl
none_over block (port ∷ ports) [] (suc i) over = no_values block (drop i ports)
none_over block (port ∷ ports) (value ∷ values) zero over = absurd (omega (arith, over))
none_over block (port ∷ ports) (value ∷ values) (suc i) over =
    none_over block ports values i (omega (arith, over))
