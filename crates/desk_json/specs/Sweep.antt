-- The sweep that a body asks for.
use Rattle.std.specs.Prelude.{◌≡◌, ℕ, ◌+◌, Bool, ◌||◌, List, [], ◌∷◌, codes, Option, Some, None, find, Result, Ok, Err, not, option_and_then}
use Rattle.std.specs.Option.{option_map}
use Rattle.std.specs.Str.{IsUtf8, bytes_eq}
use Rattle.serde_json.specs.Data.{Data, Items, no_items, item, Members}
use Rattle.serde_json.specs.Find.{as_array, as_object, as_str, get}
use Rattle.serde_json.specs.Read.{read}
use Rattle.leg.specs.declared.sweep.Routed.{Routed}
use Rattle.desk_words.specs.Printable.{shown}
use Rattle.sweep_refs.specs.Ref.{ref_of}
use Rattle.sweep_refs.specs.declared.submission.Submission.{Submission}
use Rattle.sweep_text.specs.Legs.{and_then, before, or_fault, result_map}
use Rattle.desk_json.specs.Leg.{keys_of, leg_in}
use Rattle.desk_json.specs.Twice.{HasKeyTwice, HasKeysOnce}
use Rattle.desk_json.specs.declared.key_fault.KeyFault.{KeyFault}
use Rattle.desk_json.specs.declared.sweep_fault.SweepFault.{SweepFault}
use Rattle.desk_json.specs.declared.sweep_fault.SweepFault.TheVariants.{NoSweep, Unknown, RefNotText, BadReference, Leg}
use Rattle.desk_json.specs.declared.sweep_fault.BodyFault.{BodyFault}
use Rattle.desk_json.specs.declared.sweep_fault.BodyFault.TheVariants as body

-- a leg, or its fault with its place
abbrev pub leg_at : ℕ → Result Routed KeyFault → Result Routed SweepFault
leg_at place (Ok leg) = Ok leg
leg_at place (Err fault) = Err (Leg place fault)

-- a leg before others
abbrev pub leg_before : Result Routed SweepFault → Result (List Routed) SweepFault → Result (List Routed) SweepFault
leg_before leg legs = and_then leg (λ first. and_then legs (λ rest. Ok (first ∷ rest)))

-- the legs of values, of which the first has this place, or the first fault
abbrev pub legs_in : List (List ℕ) → ℕ → Items → Result (List Routed) SweepFault
legs_in names place no_items = Ok []
legs_in names place (item value rest) =
    leg_before (leg_at place (leg_in names value)) (legs_in names (place + 1) rest)

-- whether a key is one of a sweep's
abbrev pub is_sweep_key : List ℕ → Bool
is_sweep_key key = bytes_eq key (codes "legs") || bytes_eq key (codes "ref")

-- the first key beside `legs` and `ref`
abbrev pub other_key : Members → Option (List ℕ)
other_key members = option_map (shown 200) (find (λ key. not (is_sweep_key key)) (keys_of members))

-- a fault, where there is such a key
abbrev pub unknown : Option (List ℕ) → Result Items SweepFault → Result Items SweepFault
unknown None next = next
unknown (Some key) next = Err (Unknown key)

-- a sweep is an object with `legs`, an array, and no other key but `ref`
abbrev pub leg_values : Data → Result Items SweepFault
leg_values sweep = and_then (or_fault NoSweep (as_object sweep)) (λ members. unknown (other_key members)
    (or_fault NoSweep (option_and_then as_array (get (codes "legs") sweep))))

-- the reference that a value is
abbrev pub ref_of_value : Data → Result (List ℕ) SweepFault
ref_of_value value =
    and_then (or_fault RefNotText (as_str value)) (λ word. or_fault (BadReference (shown 200 word)) (ref_of word))

-- the reference of a sweep, where it has one
abbrev pub ref_at : Option Data → Result (Option (List ℕ)) SweepFault
ref_at None = Ok None
ref_at (Some value) = result_map Some (ref_of_value value)

-- the sweep of a reference and legs, where both have no fault
abbrev pub submitted : Result (Option (List ℕ)) SweepFault → Result (List Routed) SweepFault
    → Result Submission SweepFault
submitted reference legs =
    and_then reference (λ under. and_then legs (λ routed.
    Ok (record { reference = under; sweep = record { legs = routed } })))

-- the sweep that a value asks for, or the first fault: of its keys, its reference and then its legs
unfoldable pub sweep_in : List (List ℕ) → Data → Result Submission SweepFault
sweep_in names sweep =
    and_then (leg_values sweep) (λ values. submitted (ref_at (get (codes "ref") sweep)) (legs_in names 1 values))

-- what a body is that was read, beside an answer
abbrev pub Says : List (List ℕ) → Option Data → Result Submission SweepFault → Type 0
Says names (Some sweep) answer = sweep_in names sweep ≡ answer
Says names None answer = ⊥

-- the body is JSON in which no object has a key twice, and asks for this sweep or has this fault; or an object of it
-- has a key twice; or it is no JSON in UTF-8
abbrev pub BodySays : List (List ℕ) → List ℕ → Result Submission BodyFault → Type 0
BodySays names text (Ok submission) = Says names (read text) (Ok submission) × HasKeysOnce text
BodySays names text (Err body.BadKey) = ⊥
BodySays names text (Err body.TwoReferences) = ⊥
BodySays names text (Err (body.Sweep fault)) = Says names (read text) (Err fault) × HasKeysOnce text
BodySays names text (Err body.KeyTwice) = HasKeyTwice text
BodySays names text (Err (body.NoJson line column)) = IsUtf8 text → read text ≡ None
