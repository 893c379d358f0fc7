-- What holds by an entry holds by each wider one, and values in their types are as the first entry says.
use Rattle.std.proofs.Common.{List, [], ◌∷◌, Option, Some, None, ◌∙◌, subst}
use Rattle.std.specs.Prelude.{map}
use Rattle.std.specs.List.{AllZip}
use Rattle.iltypes.specs.declared.value.IlType.{IlType}
use Rattle.iltypes.specs.declared.value.Value.{Value}
use Rattle.iltypes.specs.Values.{AreOf}
use Rattle.ilcode.specs.declared.nesting.Opened.{Opened}
use Rattle.ilverify.specs.declared.known.Known.{Known}
use Rattle.ilverify.specs.declared.mark.ResultMark.{ResultMark}
use Rattle.ilverify.specs.declared.nesting.KnownOpened.{KnownOpened}
use Rattle.ilverify.specs.Knowns.{IsKnown, IsKnownWithin, known_of_type}
use Rattle.ilverify.specs.Entries.{IsResultInto, IsOpenedInto}
use Rattle.ilverify.specs.Fits.{IsResultKnown, IsOpenedKnown}
use Rattle.ilverify.specs.Marks.{IsMarked, IsMarkInto}
use Rattle.ilverify.specs.Safety.{IsFitAtStart, IsFitAtCall, IsFitWider, IsFitWithoutResult}
use Rattle.ilverify.proofs.Knowns.{known_wider, of_known}
use Rattle.ilverify.proofs.RangeLists.{zip_through}

value_wider : (value : Value) (known wider : Known) → IsKnown value known → IsKnownWithin known wider
    → IsKnown value wider
value_wider value known wider h w = known_wider value known wider w h

result_wider : (value : Option Value) (known wider : Option Known) → IsResultKnown value known
    → IsResultInto known wider → IsResultKnown value wider
result_wider value known None h w = tt
result_wider value None (Some wider) h w = absurd w
result_wider None (Some known) (Some wider) h w = absurd h
result_wider (Some value) (Some known) (Some wider) h w = value_wider value known wider h w

opened_wider : (opened : Opened) (known wider : KnownOpened) → IsOpenedKnown opened known → IsOpenedInto known wider
    → IsOpenedKnown opened wider
opened_wider opened known wider h w = record {
  operator = h.operator ∙ w.operator;
  saved = value_wider opened.saved known.saved wider.saved h.saved w.saved;
}

mark_wider : (slots : List Value) (result : Option Value) (mark wider : Option ResultMark) → IsMarked slots result mark
    → IsMarkInto mark wider → IsMarked slots result wider
mark_wider slots result mark None h w = tt
mark_wider slots result None (Some wider) h w = absurd w
mark_wider slots result (Some mark) (Some wider) h w = subst (λ (m : ResultMark). IsMarked slots result (Some m)) w h

pub fit_wider : IsFitWider
fit_wider code entry wider c i f = record {
  typed = f.typed;
  slots = zip_through IsKnown IsKnownWithin value_wider c.store.slots entry.slots wider.slots f.slots i.slots;
  result = result_wider c.result entry.result wider.result f.result i.result;
  mark = mark_wider c.store.slots c.result entry.mark wider.mark f.mark i.mark;
  nesting = zip_through IsOpenedKnown IsOpenedInto opened_wider c.nesting entry.nesting wider.nesting f.nesting
      i.nesting;
}

all_known : (slots : List Value) (types : List IlType) → AreOf slots types
    → AllZip IsKnown slots (map known_of_type types)
all_known [] [] h = tt
all_known [] (type ∷ more) h = absurd h
all_known (value ∷ slots) [] h = absurd h
all_known (value ∷ slots) (type ∷ more) h = (of_known value type h.0, all_known slots more h.1)

pub fit_start : IsFitAtStart
fit_start code store a = record {
  typed = a;
  slots = all_known store.slots code.slots a.slots;
  result = tt;
  mark = tt;
  nesting = tt;
}

pub fit_call : IsFitAtCall
fit_call code place store calls a = record {
  typed = a;
  slots = all_known store.slots code.slots a.slots;
  result = tt;
  mark = tt;
  nesting = tt;
}

pub fit_without : IsFitWithoutResult
fit_without code entry c f =
    record { typed = f.typed; slots = f.slots; result = tt; mark = tt; nesting = f.nesting }
