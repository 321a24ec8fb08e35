-- The words in the heads of a day's journals.
use Rattle.std.specs.Prelude.{ℕ, List, [], ◌∷◌, ◌++◌, codes, decimal, ◌==◌, if◌then◌else◌}
use Rattle.std.specs.List.{flat_map}
use Rattle.desk_config.specs.declared.day.Day.{Day}
use Rattle.desk_config.specs.declared.venue.Venue.{Venue}
use Rattle.desk_config.specs.Day.{day_text}
use Rattle.desk_words.specs.Printable.{shown}
use Rattle.venue_words.specs.declared.words.VenueWords.{VenueWords}
use Rattle.day_log.specs.Header.{head_of_words, words_text, yes_or_no}

-- the comp id that the desk has at its first venue
abbrev pub sender_part : List Venue → List ℕ
sender_part [] = []
sender_part (venue ∷ venues) = codes " " ++ shown 16 venue.sender

-- as `day 2026-11-24 desk DESK`
abbrev pub desk_head : Day → List Venue → List ℕ
desk_head day venues = codes "day " ++ day_text day ++ codes " desk" ++ sender_part venues

-- a text without its line ends
abbrev pub shown_in_line : ℕ → List ℕ
shown_in_line byte = if byte == 10 then [] else shown 4 (byte ∷ [])

abbrev pub in_one_line : List ℕ → List ℕ
in_one_line text = flat_map shown_in_line text

-- the lines of a table, if there is one
abbrev pub behind_space : List ℕ → List ℕ
behind_space [] = []
behind_space (byte ∷ bytes) = codes " " ++ in_one_line (byte ∷ bytes)

abbrev pub table_part : VenueWords → List ℕ
table_part words = behind_space (head_of_words words)

-- the day and the venue
abbrev pub day_part : Day → Venue → List ℕ
day_part day venue = codes "day " ++ day_text day ++ codes " of " ++ venue.name

-- the comp ids
abbrev pub ids_part : Venue → List ℕ
ids_part venue = codes " sender " ++ shown 16 venue.sender ++ codes " target " ++ shown 16 venue.target

-- the dialect and the session's terms
abbrev pub terms_part : Venue → List ℕ
terms_part venue =
    codes " dialect " ++ words_text venue.words ++ codes " heartbeat " ++ decimal venue.session.heartbeat
    ++ codes " next_expected " ++ yes_or_no venue.session.next_expected
    ++ codes " max_number " ++ decimal venue.session.max_number

-- as `day 2026-11-24 of NYSE sender DESK target NYSE dialect plain heartbeat 30 next_expected no max_number 999999999`
abbrev pub venue_head : Day → Venue → List ℕ
venue_head day venue = day_part day venue ++ ids_part venue ++ terms_part venue ++ table_part venue.words
