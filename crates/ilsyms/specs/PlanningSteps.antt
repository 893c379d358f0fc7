-- How the instances of a task are planned: with names of their own, and over the numbers of slots.
use Rattle.std.specs.Prelude.{◌≡◌, ℕ, ◌<◌, List, get_or, length, Bool, true, false, if◌then◌else◌, ⊤, [], ◌∷◌}
use Rattle.ilsource.specs.declared.name.Name.{Name}
use Rattle.ilplan.specs.declared.slot.SlotOwner.{SlotOwner}
use Rattle.ilplan.specs.declared.slot.SlotOwner.TheVariants.{Global, Own}
use Rattle.ilscope.specs.SameNames.{same_name}
use Rattle.ilsyms.specs.Tasks.{NamedProgram}

-- the entries with numbers that pass are set to a value, and the others stay
pub record SetsWhere (test : ℕ → Bool) (value : ℕ) (before after : List ℕ) : Type 0 where
  pub many : length after ≡ length before
  pub each : (number : ℕ) → number < length before
      → get_or after number 0 ≡ (if test number then value else get_or before number 0)

-- the variable is one of an instance
abbrev pub is_of_instance : SlotOwner → Bool
is_of_instance (Own instance name) = true
is_of_instance (Global number) = false

-- ---- instances with names of their own

-- the instances have other names
abbrev pub AreOthers : List ℕ → Name → List NamedProgram → Type 0
AreOthers text name [] = ⊤
AreOthers text name (i ∷ is) = (same_name text name i.name ≡ false) × AreOthers text name is

abbrev pub AreApart : List ℕ → List NamedProgram → Type 0
AreApart text [] = ⊤
AreApart text (i ∷ is) = AreOthers text i.name is × AreApart text is
