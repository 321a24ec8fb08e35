-- The venues of a day, as a desk's file would have them.
use Rattle.std.specs.Prelude.{ℕ, zero, suc, false, List, [], ◌∷◌, ◌++◌, codes, decimal, None}
use Rattle.dialect.specs.declared.any_dialect.AnyDialect.TheVariants.{Plain}
use Rattle.order_limits.specs.Limits.{unlimited}
use Rattle.desk_config.specs.declared.endpoint.Endpoint.TheVariants.{Simulated}
use Rattle.desk_config.specs.declared.session_terms.SessionTerms.{SessionTerms}
use Rattle.desk_config.specs.declared.venue.Venue.{Venue}
use Rattle.venue_words.specs.Dress.{no_dress}
use Rattle.venue_words.specs.declared.words.VenueWords.TheVariants.{Preset}

-- how each session is held
abbrev pub session : SessionTerms
session = record { heartbeat = 30; next_expected = false; reopen = false; max_number = 999_999_999 }

-- the venue of a number: its exchange is simulated and trades 6 shares of each order; the desk is A and the exchange B
abbrev pub venue_of : ℕ → Venue
venue_of number = record {
  name = codes "V" ++ decimal number;
  endpoint = Simulated 6;
  backups = None ∷ None ∷ None ∷ [];
  target = codes "B";
  sender = codes "A";
  session = session;
  words = Preset Plain;
  dress = no_dress;
  password_file = None;
  limits = unlimited;
}

-- so many venues
abbrev pub venues_to : ℕ → List Venue
venues_to zero = []
venues_to (suc number) = venues_to number ++ venue_of number ∷ []
