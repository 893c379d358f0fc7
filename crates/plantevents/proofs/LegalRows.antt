-- The history with an event of each kind is legal.
use Rattle.std.proofs.Common.{◌≡◌, inl, inr, ℕ, zero, suc, ◌<◌, true, [], ◌∷◌, length, refl, arith}
use Rattle.std.specs.Prelude.{slice_get, option_and_then}
use Rattle.daliframe.specs.declared.addressing.Address.TheVariants.{Short}
use Rattle.buslink.specs.declared.marks.Mark.TheVariants as mark
use Rattle.buslink.specs.Attempts.{IsReportParts}
use Rattle.iltypes.specs.Values.{IsOf}
use Rattle.ilmachine.specs.Images.{variable_in}
use Rattle.ilmachine.specs.Scans.{IsScan, store_of}
use Rattle.plantevents.specs.declared.event.Event.TheVariants.{Tick}
use Rattle.plantevents.specs.Plants.{layout}
use Rattle.plantevents.specs.Variables.{snapshot_value, whole}
use Rattle.plantevents.specs.Rows.{number}
use Rattle.plantevents.specs.Choices.{Precedes, is_free, rank}
use Rattle.plantevents.specs.Legal.{AreLegal, IsTake}
use Rattle.plantevents.specs.LegalRows.{working_house, first_snapshot, first_result, copying, lamp_report, one_of_each}

first_task_goes : (u : ℕ) → u < length working_house.plan.tasks → is_free working_house (Tick 0 ∷ []) u ≡ true
    → Precedes (rank working_house (Tick 0 ∷ []) 0) (rank working_house (Tick 0 ∷ []) u)
first_task_goes zero lt free = inr (refl, inr (refl, omega arith))
first_task_goes (suc zero) lt free = inl (omega arith)
first_task_goes (suc (suc zero)) lt free = absurd (cc)
first_task_goes (suc (suc (suc u))) lt free = absurd (omega arith)

its_values : (slot : ℕ) → slice_get first_snapshot.lasting.slots slot
    ≡ option_and_then (snapshot_value working_house 0 (Tick 0 ∷ [])) (variable_in (layout working_house) 0 slot)
its_values zero = refl
its_values (suc zero) = refl
its_values (suc (suc slot)) = refl

takes : IsTake working_house (Tick 0 ∷ []) 0 0 first_snapshot
takes =
    record {
      known = omega arith;
      idle = refl;
      next = record { known = omega arith; free = refl; first = first_task_goes };
      snapshot = record { code = refl; values = its_values; blocks = refl; moment = refl };
    }

-- 1 is one of the numbers that a slot may have
one : IsOf (whole 1) number
one = record { low = record { le = tt }; high = record { le = tt } }

runs : IsScan copying (store_of first_snapshot) 2 first_result.after
runs =
    record {
      lasting = refl;
      run = record {
        end = first_result.after;
        run = record { result = _; run = record { is = refl } };
        left = refl;
      };
      in_types = record { slots = (one, (one, tt)); blocks = tt; requests = λ k d lt. absurd (omega arith) };
      few = omega arith;
      asks = omega arith;
      moment = refl;
    }

reports : IsReportParts lamp_report
reports = record {
  tries = record { first = omega arith; last = omega arith };
  marks = mark.Quiet ∷ [];
  spelled = record {
    attempts = record { before = []; last = mark.Quiet } ∷ [];
    legal = (
      record {
        within = omega arith;
        unbroken = λ k d lt. absurd (omega arith);
        cut =
            λ lt. absurd (omega arith);
      },
      λ e. absurd (cc),
    );
    spelled = refl;
    transaction = refl;
    tries = refl;
    sent = refl;
    outcome = refl;
  };
}

pub one_of_each_is_legal : AreLegal working_house one_of_each
one_of_each_is_legal = (
  record { known = omega arith; down = refl },
  (
    record { known = omega arith; up = refl },
    (
      record { known = omega arith; up = refl },
      (
        record {
          known = omega arith;
          handed = _;
          is_open = refl;
          place = refl;
          transaction = refl;
          tries = refl;
          report = reports;
        },
        (
          record {
            up = record { known = omega arith; up = refl };
            idle = refl;
            first = refl;
            legal = inl (inl refl, inl (Short 5, 0, omega arith, omega arith, refl));
          },
          (
            record {
              known = omega arith;
              running = _;
              is_open = refl;
              place = refl;
              meant = record { number = refl; snapshot = refl; task = _; is_task = refl; meant = refl; run = runs };
            },
            (takes, (omega arith, tt)),
          ),
        ),
      ),
    ),
  ),
)
