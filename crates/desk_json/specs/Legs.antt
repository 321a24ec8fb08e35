-- The legs of a sweep, in JSON.
use Rattle.std.specs.Prelude.{ℕ, List, [], ◌++◌, codes, decimal}
use Rattle.fix_tags.specs.Price.{price_short}
use Rattle.leg.specs.Side.{side_text}
use Rattle.leg.specs.Symbol.{symbol_text}
use Rattle.leg.specs.LegId.{leg_id_text}
use Rattle.leg.specs.Terms.{TermsParts}
use Rattle.leg.specs.declared.leg_state.LegState.{LegState}
use Rattle.leg.specs.declared.leg_state.LegState.TheVariants.{Queued, Doubt, Taken, Withdrawn}
use Rattle.desk_json.specs.declared.standing.LegRow.{LegRow}
use Rattle.desk_json.specs.declared.standing.SweepLegs.{SweepLegs}
use Rattle.desk_json.specs.Parted.{parted}
use Rattle.desk_json.specs.Sweeps.{shares_json}

-- how far a leg has come
abbrev pub state_text : LegState → List ℕ
state_text Queued = codes "queued"
state_text Doubt = codes "doubt"
state_text Taken = codes "taken"
state_text Withdrawn = codes "withdrawn"

-- what a leg buys or sells, as it stands in an object, as `"symbol":"BRK.B","side":"buy","shares":100,"price":"10.25",`
abbrev pub terms_json : TermsParts → List ℕ
terms_json terms =
    codes "\"symbol\":\"" ++ symbol_text terms.symbol ++ codes "\",\"side\":\"" ++ side_text terms.side
    ++ codes "\",\"shares\":" ++ decimal terms.shares ++ codes ",\"price\":\"" ++ price_short terms.price
    ++ codes "\","

-- as `{"leg":"S12L1","venue":"NYSE","symbol":"BRK.B",..,"filled":100,..,"state":"taken"}`
abbrev pub leg_json : LegRow → List ℕ
leg_json leg =
    codes "{\"leg\":\"" ++ leg_id_text leg.id ++ codes "\",\"venue\":\"" ++ leg.venue ++ codes "\","
    ++ terms_json leg.terms ++ shares_json leg.totals leg.paid ++ codes ",\"state\":\""
    ++ state_text leg.state ++ codes "\"}"

-- as `{"sweep":12,"legs":[..]}`
abbrev pub legs_json : SweepLegs → List ℕ
legs_json sweep =
    codes "{\"sweep\":" ++ decimal sweep.sweep ++ codes ",\"legs\":[" ++ parted leg_json [] sweep.legs.items
    ++ codes "]}"
