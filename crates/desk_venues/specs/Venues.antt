-- The two ends of a venue's session, and how its exchange trades where it is simulated.
use Rattle.std.specs.Prelude.{ℕ, zero, suc, List, [], ◌∷◌, ◌++◌, Option, Some, None, option_to_list}
use Rattle.desk_config.specs.declared.endpoint.Endpoint.{Endpoint}
use Rattle.desk_config.specs.declared.endpoint.Endpoint.TheVariants.{At, Simulated}
use Rattle.desk_config.specs.declared.session_terms.SessionTerms.{SessionTerms}
use Rattle.desk_config.specs.declared.venue.Venue.{Venue}
use Rattle.exchange_sim.specs.declared.plan.Plan.{Plan}
use Rattle.fix_tags.specs.Config.{ConfigParts}

-- an end that has this name, of a session on these terms
abbrev pub end_of : List ℕ → List ℕ → SessionTerms → ConfigParts
end_of me peer terms = record {
  me = me;
  peer = peer;
  heart = terms.heartbeat;
  max_number = terms.max_number;
  has_next = terms.next_expected;
}

-- the desk's end, and the exchange's
abbrev pub desk_end : Venue → ConfigParts
desk_end venue = end_of venue.sender venue.target venue.session

abbrev pub exchange_end : Venue → ConfigParts
exchange_end venue = end_of venue.target venue.sender venue.session

-- a simulated exchange trades so many shares of each order at once, cuts its connection once behind the message of this
-- number, or never at 0, and loses no message
abbrev pub plan_of : ℕ → ℕ → Plan
plan_of fill cut = record { fill = fill; cut_after = cut; lose = 0 }

-- only the exchange of the first venue cuts its connection
abbrev pub cut_of : ℕ → ℕ → ℕ
cut_of cut zero = cut
cut_of cut (suc place) = 0

-- the plan of a venue's exchange, if that is simulated
abbrev pub plan_in : ℕ → Endpoint → Option Plan
plan_in cut (At address) = None
plan_in cut (Simulated fill) = Some (plan_of fill cut)

-- those of these venues, of which the first has this place
abbrev pub plans_from : ℕ → ℕ → List Venue → List Plan
plans_from cut place [] = []
plans_from cut place (venue ∷ venues) =
    option_to_list (plan_in (cut_of cut place) venue.endpoint) ++ plans_from cut (suc place) venues

-- those of the venues of a day
abbrev pub plans : ℕ → List Venue → List Plan
plans cut venues = plans_from cut 0 venues
