-- Why a request is refused, in JSON.
use Rattle.std.specs.Prelude.{ℕ, List, [], ◌++◌, codes, decimal}
use Rattle.json.specs.Print.{quoted}
use Rattle.desk_json.specs.declared.key_fault.KeyFault.{KeyFault}
use Rattle.desk_json.specs.declared.key_fault.KeyFault.TheVariants as key
use Rattle.desk_json.specs.declared.sweep_fault.SweepFault.{SweepFault}
use Rattle.desk_json.specs.declared.sweep_fault.SweepFault.TheVariants as sweep
use Rattle.desk_json.specs.declared.sweep_fault.BodyFault.{BodyFault}
use Rattle.desk_json.specs.declared.sweep_fault.BodyFault.TheVariants as body
use Rattle.desk_json.specs.Fault.{body_fault_text, key_fault_text, sweep_fault_text}
use Rattle.desk_json.specs.Key.{key_text}

-- as `{"fault":"no such place"}`
abbrev pub said_json : List ℕ → List ℕ
said_json words = codes "{\"fault\":" ++ quoted words ++ codes "}"

-- the key that a leg's fault is at; none where the leg is no object
abbrev pub fault_key : KeyFault → List ℕ
fault_key key.NoObject = []
fault_key (key.Unknown word) = word
fault_key (key.Missing which) = key_text which
fault_key (key.NotText which) = key_text which
fault_key key.NotNumber = codes "shares"
fault_key (key.NoVenue word) = codes "venue"
fault_key (key.BadSymbol word) = codes "symbol"
fault_key (key.BadSide word) = codes "side"
fault_key (key.BadShares shares) = codes "shares"
fault_key (key.BadPrice word) = codes "price"

-- a fault at a leg, of JSON texts
abbrev pub at_leg_json : List ℕ → ℕ → List ℕ → List ℕ
at_leg_json words place key =
    codes "{\"fault\":" ++ words ++ codes ",\"leg\":" ++ decimal place ++ codes ",\"key\":" ++ key ++ codes "}"

-- as `{"fault":"no venue ARCA2","leg":2,"key":"venue"}`
abbrev pub leg_fault_json : ℕ → KeyFault → List ℕ
leg_fault_json place fault = at_leg_json (quoted (key_fault_text fault)) place (quoted (fault_key fault))

-- why JSON asks for no sweep
abbrev pub sweep_fault_json : SweepFault → List ℕ
sweep_fault_json sweep.NoSweep = said_json (sweep_fault_text sweep.NoSweep)
sweep_fault_json (sweep.Unknown word) = said_json (sweep_fault_text (sweep.Unknown word))
sweep_fault_json sweep.RefNotText = said_json (sweep_fault_text sweep.RefNotText)
sweep_fault_json (sweep.BadReference word) = said_json (sweep_fault_text (sweep.BadReference word))
sweep_fault_json (sweep.Leg place fault) = leg_fault_json place fault

-- why a body asks for no sweep, as `{"fault":"no JSON","line":1,"column":5}` where it is no JSON
abbrev pub body_fault_json : BodyFault → List ℕ
body_fault_json (body.NoJson line column) =
    codes "{\"fault\":\"no JSON\",\"line\":" ++ decimal line ++ codes ",\"column\":" ++ decimal column ++ codes "}"
body_fault_json body.KeyTwice = said_json (body_fault_text body.KeyTwice)
body_fault_json (body.Sweep fault) = sweep_fault_json fault
body_fault_json body.BadKey = said_json (codes "bad Idempotency-Key")
body_fault_json body.TwoReferences = said_json (codes "Idempotency-Key and ref differ")
