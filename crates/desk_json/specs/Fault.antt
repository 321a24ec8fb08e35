-- Why a body is no sweep, in words.
use Rattle.std.specs.Prelude.{ℕ, List, ◌++◌, codes, decimal}
use Rattle.desk_json.specs.declared.key_fault.KeyFault.{KeyFault}
use Rattle.desk_json.specs.declared.key_fault.KeyFault.TheVariants as key
use Rattle.desk_json.specs.declared.sweep_fault.SweepFault.{SweepFault}
use Rattle.desk_json.specs.declared.sweep_fault.SweepFault.TheVariants as sweep
use Rattle.desk_json.specs.declared.sweep_fault.BodyFault.{BodyFault}
use Rattle.desk_json.specs.declared.sweep_fault.BodyFault.TheVariants as body
use Rattle.desk_json.specs.Key.{key_text}

-- what is wrong with a leg, as `no venue ARCA2`
abbrev pub key_fault_text : KeyFault → List ℕ
key_fault_text key.NoObject = codes "a leg is an object"
key_fault_text (key.Unknown word) = codes "unknown key " ++ word
key_fault_text (key.Missing which) = key_text which ++ codes " is missing"
key_fault_text (key.NotText which) = key_text which ++ codes " has to be text"
key_fault_text key.NotNumber = codes "shares has to be a whole number"
key_fault_text (key.NoVenue word) = codes "no venue " ++ word
key_fault_text (key.BadSymbol word) = codes "bad symbol " ++ word
key_fault_text (key.BadSide word) = codes "bad side " ++ word
key_fault_text (key.BadShares shares) = codes "bad shares " ++ decimal shares
key_fault_text (key.BadPrice word) = codes "bad price " ++ word

-- why JSON asks for no sweep
abbrev pub sweep_fault_text : SweepFault → List ℕ
sweep_fault_text sweep.NoSweep = codes "a sweep is an object with legs"
sweep_fault_text (sweep.Unknown word) = codes "unknown key " ++ word
sweep_fault_text sweep.RefNotText = codes "ref has to be text"
sweep_fault_text (sweep.BadReference word) = codes "bad reference " ++ word
sweep_fault_text (sweep.Leg place fault) = key_fault_text fault

-- why a body asks for no sweep
abbrev pub body_fault_text : BodyFault → List ℕ
body_fault_text (body.NoJson line column) = codes "no JSON"
body_fault_text body.KeyTwice = codes "an object has a key twice"
body_fault_text (body.Sweep fault) = sweep_fault_text fault
body_fault_text body.BadKey = codes "bad Idempotency-Key"
body_fault_text body.TwoReferences = codes "Idempotency-Key and ref differ"
