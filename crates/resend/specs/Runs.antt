-- The settled legs in runs: legs that follow one another in number and in ordinal, and were settled alike.
use Rattle.std.specs.Prelude.{ℕ, ◌+◌, Bool, true, false, ◌&&◌, ◌==◌, List, [], ◌∷◌, if◌then◌else◌}
use Rattle.leg.specs.declared.leg_state.LegState.{LegState}
use Rattle.leg.specs.declared.leg_state.LegState.TheVariants.{Taken, Withdrawn}
use Rattle.resend.specs.declared.run.Run.{Run}
use Rattle.resend.specs.Log.{SentLeg, Entry, is_doubt, sent_legs}

-- both taken, or both withdrawn
abbrev pub are_alike : LegState → LegState → Bool
are_alike Taken Taken = true
are_alike Withdrawn Withdrawn = true
are_alike _ _ = false

-- the settled legs, each as a run by itself
abbrev pub single : ℕ → ℕ → LegState → Run
single number ordinal state = record { first_number = number; first_ordinal = ordinal; count = 1; state = state }

abbrev pub singles : List (ℕ × SentLeg) → List Run
singles [] = []
singles ((number, leg) ∷ legs) =
    if is_doubt leg.state then singles legs else single number leg.ordinal leg.state ∷ singles legs

-- whether the next run begins where a run ends, and is settled alike
abbrev pub goes_on : Run → Run → Bool
goes_on run next =
    run.first_number + run.count == next.first_number && run.first_ordinal + run.count == next.first_ordinal
    && are_alike run.state next.state

-- a run before others: made one with the first of them where it goes on in that
abbrev pub joined_to : Run → List Run → List Run
joined_to run [] = run ∷ []
joined_to run (next ∷ runs) =
    if goes_on run next then record run { count = run.count + next.count } ∷ runs else run ∷ next ∷ runs

abbrev pub joined : List Run → List Run
joined [] = []
joined (run ∷ runs) = joined_to run (joined runs)

-- the runs of the settled legs, in the order of their numbers, each as long as it can be
abbrev pub runs : List Entry → List Run
runs log = joined (singles (sent_legs log))
