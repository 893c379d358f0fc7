-- What stands against one declaration, and against addresses: each fault stands at a place of the text, a byte's
-- offset, and has a cause (IEC 61131-3, 2.3.3.1 and 2.4.3: a type is declared above its use, and an initial value is of
-- the type; addresses and what stands at them by the profile). Which of some faults is the least one, and which
-- the next after another.
use Rattle.std.specs.Prelude.{◌≡◌, ◌⊎◌, ⊤, ℕ, ◌+◌, ◌<◌, ◌≤◌, ℤ, pos, ◌<ℤ◌, List, [], ◌∷◌, slice_get}
use Rattle.std.specs.Prelude.{Option, Some, None, IsSome, IsSomeAnd, nat_lt, if◌then◌else◌}
use Rattle.wordlines.specs.Wirings.{Wiring, IsAt}
use Rattle.iltypes.specs.Functions.{least_of, greatest_of}
use Rattle.iltypes.specs.declared.value.IlType.{IlType}
use Rattle.iltypes.specs.declared.value.IlType.TheVariants as types
use Rattle.iltokens.specs.declared.lexed.AddressKind.{AddressKind}
use Rattle.iltokens.specs.declared.lexed.AddressKind.TheVariants as address_kinds
use Rattle.ilsource.specs.Configurations.{DeclaredGlobals}
use Rattle.ilsource.specs.Programs.{DeclaredNames}
use Rattle.ilsource.specs.declared.address.DirectAddress.{DirectAddress}
use Rattle.ilsource.specs.declared.declaration.Constant.{Constant}
use Rattle.ilsource.specs.declared.declaration.Declared.{Declared}
use Rattle.ilsource.specs.declared.declaration.Declared.TheVariants as declared_as
use Rattle.ilsource.specs.declared.declaration.Specification.{Specification}
use Rattle.ilsource.specs.declared.declaration.Specification.TheVariants as specifications
use Rattle.ildeclared.specs.Causes.{name_fault_number}
use Rattle.ildeclared.specs.DataTypes.{TypeNames, data_type, value_in}
use Rattle.ildeclared.specs.Declarations.{values_of}
use Rattle.ildeclared.specs.declared.data_type.DataType.{DataType}
use Rattle.ildeclared.specs.declared.fault.NameCause.{NameCause}
use Rattle.ildeclared.specs.declared.fault.NameCause.TheVariants.{Unknown, BadDeclaration}
use Rattle.ildeclared.specs.declared.found.Found.{Found}

-- some element has the property
abbrev pub SomeOf : {X : Type 0} → (X → Type 0) → List X → Type 0
SomeOf P [] = ⊥
SomeOf P (x ∷ xs) = P x ⊎ SomeOf P xs

-- some element and a later one are so related
abbrev pub SomeLater : {X : Type 0} → (X → X → Type 0) → List X → Type 0
SomeLater R [] = ⊥
SomeLater R (x ∷ xs) = SomeOf (R x) xs ⊎ SomeLater R xs

-- ---- the least of some faults

-- the faults of one cause, at these places
abbrev pub OfCause : NameCause → (ℕ → Type 0) → ℕ → NameCause → Type 0
OfCause its At place cause = (cause ≡ its) × At place

-- the first place and cause are not after the second
abbrev pub IsNotAfter : ℕ → NameCause → ℕ → NameCause → Type 0
IsNotAfter place cause other its = (place < other) ⊎
    ((place ≡ other) × (name_fault_number cause ≤ name_fault_number its))

-- of some faults this is one, and no other stands at a lesser place, nor there with a lesser cause
pub record IsLeast (Faults : ℕ → NameCause → Type 0) (place : ℕ) (cause : NameCause) : Type 0 where
  pub is : Faults place cause
  pub least : (other : ℕ) (its : NameCause) → Faults other its → IsNotAfter place cause other its

-- what was found is the least of some faults, and nothing was found where there is none
abbrev pub IsLeastOf : (ℕ → NameCause → Type 0) → Option Found → Type 0
IsLeastOf Faults None = (place : ℕ) (cause : NameCause) → ¬ Faults place cause
IsLeastOf Faults (Some found) = IsLeast Faults found.at found.cause

-- ---- one fault after the other

-- a fault comes after the last one that was found: at a greater place, or there with a greater cause; after none each
-- comes
abbrev pub IsAfter : Option Found → ℕ → NameCause → Type 0
IsAfter None place cause = ⊤
IsAfter (Some last) place cause =
    (last.at < place) ⊎ ((last.at ≡ place) × (name_fault_number last.cause < name_fault_number cause))

-- those of some faults that come after it
abbrev pub Beyond : Option Found → (ℕ → NameCause → Type 0) → ℕ → NameCause → Type 0
Beyond after Faults place cause = Faults place cause × IsAfter after place cause

-- what was found is the least of these
abbrev pub IsNextOf : Option Found → (ℕ → NameCause → Type 0) → Option Found → Type 0
IsNextOf after Faults = IsLeastOf (Beyond after Faults)

-- ---- one declaration

-- no type above has the name that the specification has at the place
abbrev pub IsUnknownIn : TypeNames → ℕ → Specification → Type 0
IsUnknownIn types_above place (specifications.Named name) = (types_above name ≡ None) × (place ≡ name.from)
IsUnknownIn types_above place _ = ⊥

-- a declaration names, at the place, a type that is not declared above it
abbrev pub IsUnknownTypeIn : TypeNames → ℕ → Declared → Type 0
IsUnknownTypeIn types_above place (declared_as.Variables specification initial) =
    IsUnknownIn types_above place specification
IsUnknownTypeIn types_above place (declared_as.Blocks kind) = ⊥
IsUnknownTypeIn types_above place (declared_as.External specification) = IsUnknownIn types_above place specification

-- a subrange that is empty, or has numbers outside its base
abbrev pub IsBadSubrange : Specification → Type 0
IsBadSubrange (specifications.Subrange base low high) =
    (high <ℤ low) ⊎ (low <ℤ least_of base) ⊎ (greatest_of base <ℤ high)
IsBadSubrange _ = ⊥

-- an initial value that the type, where it has no fault itself, does not have
abbrev pub IsBadInitial : Option DataType → Option Constant → Type 0
IsBadInitial (Some type) (Some constant) = value_in type.value_type constant ≡ None
IsBadInitial _ _ = ⊥

-- a declaration has such a subrange or initial value
abbrev pub IsBadDeclared : TypeNames → Declared → Type 0
IsBadDeclared types_above (declared_as.Variables specification initial) =
    IsBadSubrange specification ⊎ IsBadInitial (data_type types_above specification) initial
IsBadDeclared types_above (declared_as.Blocks kind) = ⊥
IsBadDeclared types_above (declared_as.External specification) = IsBadSubrange specification

-- and its first name stands at the place
abbrev pub IsBadIn : TypeNames → ℕ → DeclaredNames → Type 0
IsBadIn types_above place declaration =
    IsBadDeclared types_above declaration.declared
    × IsSomeAnd (slice_get declaration.names 0) (λ name. place ≡ name.from)

-- block instances are declared, the first name at the place; a function may have none
abbrev pub AreBlocks : Declared → Type 0
AreBlocks (declared_as.Blocks kind) = ⊤
AreBlocks _ = ⊥

abbrev pub AreBlocksIn : ℕ → DeclaredNames → Type 0
AreBlocksIn place declaration =
    AreBlocks declaration.declared × IsSomeAnd (slice_get declaration.names 0) (λ name. place ≡ name.from)

-- a fault of what one declaration says
abbrev pub IsFaultIn : TypeNames → DeclaredNames → ℕ → NameCause → Type 0
IsFaultIn types_above declaration place cause =
    OfCause Unknown (λ at. IsUnknownTypeIn types_above at declaration.declared) place cause
    ⊎ OfCause BadDeclaration (λ at. IsBadIn types_above at declaration) place cause

-- ---- addresses (profile)

-- both addresses are one
pub record SameAddress (one other : DirectAddress) : Type 0 where
  pub kind : one.kind ≡ other.kind
  pub bus : one.bus ≡ other.bus
  pub place : one.place ≡ other.place

-- the address at the place stands before
abbrev pub IsAddressTwice : List DirectAddress → ℕ → Type 0
IsAddressTwice addresses place = SomeLater (λ earlier later. SameAddress earlier later × (place ≡ later.at)) addresses

-- a source of events is bound at this place of this bus
abbrev pub IsBound : Wiring → ℕ → ℕ → Type 0
IsBound wiring bus number = SomeOf (IsAt bus number) wiring.sources

-- there is such a place on the bus: a level of a short address, a group or all gear (0 to 80); the last answer of a
-- gear or a device (0 to 127); the information of a source that is bound (from 128 on), or its count (from 192 on), or
-- its trigger
abbrev pub IsThere : Wiring → AddressKind → ℕ → ℕ → Type 0
IsThere wiring address_kinds.OutputByte bus place = place ≤ 80
IsThere wiring address_kinds.InputWord bus place =
    (place < 128)
    ⊎ ((number : ℕ) × (number < 64) × IsBound wiring bus number × ((place ≡ 128 + number) ⊎ (place ≡ 192 + number)))
IsThere wiring address_kinds.InputBit bus place = IsBound wiring bus place

-- an address, at the place, of a bus or of a place on it that is not there
abbrev pub IsBadAddressAt : Wiring → ℕ → DirectAddress → Type 0
IsBadAddressAt wiring place a = ¬ ((a.bus < wiring.buses) × IsThere wiring a.kind a.bus a.place) × (place ≡ a.at)

-- ---- global variables that are located (profile)

-- what is located there has other values than variables of this type: a level lies in 0 to 255, a word is a number, a
-- trigger a truth value (profile)
abbrev pub IsOtherArea : AddressKind → IlType → Type 0
IsOtherArea address_kinds.OutputByte types.Bool = ⊤
IsOtherArea address_kinds.OutputByte (types.Int range) = (range.lo <ℤ pos 0) ⊎ (pos 255 <ℤ range.hi)
IsOtherArea address_kinds.InputWord type = type ≡ types.Bool
IsOtherArea address_kinds.InputBit type = ¬ (type ≡ types.Bool)

-- the first name of a declaration of global variables stands at the place
abbrev pub IsFirstName : DeclaredGlobals → ℕ → Type 0
IsFirstName d place = IsSomeAnd (slice_get d.names 0) (λ name. place ≡ name.from)

-- a located variable, its name at the place, is of such a type
abbrev pub IsBadlyLocatedIn : TypeNames → ℕ → DeclaredGlobals → Type 0
IsBadlyLocatedIn types place d =
    IsSomeAnd d.address (λ a. IsSomeAnd (values_of types d.specification) (IsOtherArea a.kind)) × IsFirstName d place

-- the greatest value that stands at a word: 258 where no answer came yet, an information of 10 bits, a count of 16
abbrev pub greatest_at : ℕ → ℤ
greatest_at place = if nat_lt place 128 then pos 258 else if nat_lt place 192 then pos 1023 else pos 65535

abbrev pub LacksWord : ℕ → IlType → Type 0
LacksWord place types.Bool = ⊥
LacksWord place (types.Int range) = (pos 0 <ℤ range.lo) ⊎ (range.hi <ℤ greatest_at place)

abbrev pub LacksInput : DirectAddress → IlType → Type 0
LacksInput address type = (address.kind ≡ address_kinds.InputWord) × LacksWord address.place type

-- a variable lacks values of the input that it is located at, whose address stands at the place
abbrev pub IsInputTooSmallIn : TypeNames → ℕ → DeclaredGlobals → Type 0
IsInputTooSmallIn types place d =
    IsSomeAnd d.address (λ a. IsSomeAnd (values_of types d.specification) (LacksInput a) × (place ≡ a.at))

-- a variable, its name at the place, that is located at an input is given an initial value
abbrev pub IsInput : DirectAddress → Type 0
IsInput address = ¬ (address.kind ≡ address_kinds.OutputByte)

abbrev pub IsInputGivenIn : ℕ → DeclaredGlobals → Type 0
IsInputGivenIn place d = IsSomeAnd d.address IsInput × IsSome d.initial × IsFirstName d place
