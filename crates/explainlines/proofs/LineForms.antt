-- The lines that are shown of a binding say something there.
use Rattle.std.proofs.Common.{◌≡◌, ◌≤◌, [], ◌∷◌, codes, refl, inl, inr, arith}
use Rattle.daliframe.specs.declared.schemes.EventScheme.TheVariants.{DeviceInstance}
use Rattle.explainlines.specs.LineForms.{IsLineOf}
use Rattle.explainlines.specs.declared.lines.LineFile.TheVariants.{Binding}

pub buses_line : IsLineOf Binding (codes "buses 1")
buses_line =
    inl (
      1,
      record {
        digits = codes "1";
        are = refl;
        spell = refl;
        count = record { first = omega arith; last = omega arith };
      },
    )

pub source_line : IsLineOf Binding (codes "source 0.0 device-instance 5 2")
source_line =
    inr (inl (
      record { bus = 0; number = 0; source = record { scheme = DeviceInstance; a = 5; b = 2 } },
      record {
        place = codes "0.0";
        rest = codes "device-instance" ∷ codes "5" ∷ codes "2" ∷ [];
        are = refl;
        at = record { front = codes "0"; back = codes "0"; are = refl; spells_bus = refl; spells_number = refl };
        is = record { first = codes "5"; second = codes "2"; are = refl; spells_a = refl; spells_b = refl };
      },
    ))

pub tries_line : IsLineOf Binding (codes "tries 0 5")
tries_line =
    inr (inr (
      record { bus = 0; tries = 5 },
      record {
        front = codes "0";
        back = codes "5";
        are = refl;
        spells_bus = refl;
        spells_tries = refl;
        are_tries = record { first = omega arith; last = omega arith };
      },
    ))
