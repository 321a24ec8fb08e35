-- How the runs are kept: where a leg is added to them, how one is looked up in them, and what stays true of them.
use Rattle.std.specs.Prelude.{◌≡◌, ◌≤◌, ◌+◌, ◌&&◌, ℕ, zero, suc, Bool, false, nat_lt, nat_le, List, [], ◌∷◌, length, Option, Some, None, if◌then◌else◌}
use Rattle.leg.specs.declared.leg_state.LegState.{LegState}
use Rattle.resend.specs.declared.run.Run.{Run}
use Rattle.resend.specs.declared.sent.Sent.{Sent}
use Rattle.resend.specs.Log.{SentLeg}
use Rattle.resend.specs.Runs.{singles, goes_on, joined_to, joined}

-- a leg, as a run by itself, among the runs
abbrev pub added : Run → List Run → List Run
added leg [] = leg ∷ []
added leg (run ∷ runs) =
    if nat_lt run.first_number leg.first_number then joined_to run (added leg runs) else joined_to leg (run ∷ runs)

abbrev pub added_all : List Run → List Run → List Run
added_all [] runs = runs
added_all (leg ∷ legs) runs = added_all legs (added leg runs)

-- the run in a place made one with the one behind it, where it goes on in that
abbrev pub joined_at : ℕ → List Run → List Run
joined_at place [] = []
joined_at zero (run ∷ runs) = joined_to run runs
joined_at (suc place) (run ∷ runs) = run ∷ joined_at place runs

-- whether the leg of an ordinal is in a run
abbrev pub has_ordinal : ℕ → Run → Bool
has_ordinal ordinal run = nat_le run.first_ordinal ordinal && nat_lt ordinal (run.first_ordinal + run.count)

-- how the leg of an ordinal was settled, if a run has it
abbrev pub state_among : ℕ → List Run → Option LegState
state_among ordinal [] = None
state_among ordinal (run ∷ runs) = if has_ordinal ordinal run then Some run.state else state_among ordinal runs

-- each run's ordinals are above those of the runs before it, and from this one on
abbrev pub Follow : ℕ → List Run → Type 0
Follow low [] = Unit {0}
Follow low (run ∷ runs) = (low ≤ run.first_ordinal) × Follow (run.first_ordinal + run.count) runs

-- no run ends above a bound
abbrev pub EndBy : ℕ → List Run → Type 0
EndBy bound [] = Unit {0}
EndBy bound (run ∷ runs) = (run.first_number + run.count ≤ bound) × EndBy bound runs

-- their first numbers don't fall
abbrev pub Rise : ℕ → List Run → Type 0
Rise low [] = Unit {0}
Rise low (run ∷ runs) = (low ≤ run.first_number) × Rise run.first_number runs

-- no run goes on in the next one
abbrev pub IsNotInto : Run → List Run → Type 0
IsNotInto run [] = Unit {0}
IsNotInto run (next ∷ runs) = goes_on run next ≡ false

abbrev pub AreApart : List Run → Type 0
AreApart [] = Unit {0}
AreApart (run ∷ runs) = IsNotInto run runs × AreApart runs

-- runs that end at numbers, in order, each as long as it can be
pub record AreRuns (runs : List Run) : Type 0 where
  pub end : EndBy 18446744073709551615 runs
  pub rise : Rise 0 runs
  pub apart : AreApart runs

-- the runs are those of the legs that are settled, and there is room for a run for each leg in doubt
pub record HaveRuns (legs : List (ℕ × SentLeg)) (window : List Sent) (runs : List Run) (len capacity : ℕ) : Type 0 where
  pub settled : runs ≡ joined (singles legs)
  pub kept : AreRuns runs
  pub room : len + length window ≤ capacity
