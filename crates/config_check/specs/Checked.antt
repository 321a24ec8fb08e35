-- What `dispatch run FILE --check` prints.
use Rattle.std.specs.Prelude.{ℕ, Bool, List, [], ◌∷◌, ◌++◌, codes, decimal, Option, Some, None, if◌then◌else◌}
use Rattle.std.specs.List.{flat_map}
use Rattle.day_log.specs.Header.{head_of_words, words_text}
use Rattle.desk_config.specs.Address.{address_text}
use Rattle.desk_config.specs.declared.address.Address.{Address}
use Rattle.desk_config.specs.declared.config.DeskConfig.{DeskConfig}
use Rattle.desk_config.specs.declared.endpoint.Endpoint.{Endpoint}
use Rattle.desk_config.specs.declared.endpoint.Endpoint.TheVariants.{At, Simulated}
use Rattle.desk_config.specs.Journal.{durable_text}
use Rattle.desk_config.specs.declared.journal.JournalTerms.{JournalTerms}
use Rattle.desk_config.specs.declared.user.User.{User}
use Rattle.desk_config.specs.declared.venue.Venue.{Venue}
use Rattle.leg.specs.Symbol.{SymbolParts, symbol_text}
use Rattle.order_limits.specs.declared.limits.LegLimits.{LegLimits}
use Rattle.config_check.specs.VenueCheck.{backups_line, dress_lines, named_line}

-- what the desk is called, or where it trades, as `desk EQ-1` and `environment UAT`
abbrev pub label_text : List ℕ → List ℕ → List ℕ
label_text key label = key ++ codes " " ++ label ++ 10 ∷ []

-- if the file says it
abbrev pub label_line : List ℕ → Option (List ℕ) → List ℕ
label_line key None = []
label_line key (Some label) = label_text key label

-- where a venue's exchange is, as `at 127.0.0.1:9001`, or that it is simulated, as `simulated fill 60`
abbrev pub place_text : Endpoint → List ℕ
place_text (At address) = codes "at " ++ address_text address
place_text (Simulated fill) = codes "simulated fill " ++ decimal fill

-- a venue, as `venue NYSE at 127.0.0.1:9001 plain heartbeat 30`
abbrev pub venue_line : Venue → List ℕ
venue_line venue =
    codes "venue " ++ venue.name ++ codes " " ++ place_text venue.endpoint ++ codes " " ++ words_text venue.words
    ++ codes " heartbeat " ++ decimal venue.session.heartbeat

-- a limit behind its key, if there is one
abbrev pub limit_word : List ℕ → Option ℕ → List ℕ
limit_word key None = []
limit_word key (Some limit) = codes " " ++ key ++ codes " " ++ decimal limit

-- what a leg may have, as ` leg_shares 20000 leg_dollars 500000`
abbrev pub leg_words : LegLimits → List ℕ
leg_words leg = limit_word (codes "leg_shares") leg.shares ++ limit_word (codes "leg_dollars") leg.dollars

-- a symbol behind a space
unfoldable pub symbol_word : SymbolParts → List ℕ
symbol_word symbol = codes " " ++ symbol_text symbol

-- symbols, as ` symbols IBM BRK.B`
abbrev pub symbol_words : List SymbolParts → List ℕ
symbol_words [] = []
symbol_words (symbol ∷ symbols) = codes " symbols" ++ flat_map symbol_word (symbol ∷ symbols)

-- what a file limits
abbrev pub all_words : DeskConfig → List ℕ
all_words config =
    leg_words config.limits.leg ++ limit_word (codes "sweep_dollars") config.limits.sweep_dollars
    ++ limit_word (codes "day_dollars") config.limits.day_dollars ++ symbol_words config.symbols.items

-- as `limits leg_shares 20000 day_dollars 100000000 symbols IBM BRK.B`
abbrev pub limits_line : DeskConfig → List ℕ
limits_line config = named_line (codes "limits") (all_words config)

-- of the legs for a venue, as `limits of NYSE leg_shares 5000`
abbrev pub venue_limits : Venue → List ℕ
venue_limits venue = named_line (codes "limits of " ++ venue.name) (leg_words venue.limits)

-- the line of a venue, those of its table, if it has one, as its log has them, its backups, what its messages
-- carry besides, and what a leg for it may have
unfoldable pub venue_lines : Venue → List ℕ
venue_lines venue =
    venue_line venue ++ 10 ∷ [] ++ head_of_words venue.words ++ backups_line venue ++ dress_lines venue
    ++ venue_limits venue

-- where the journal is kept and what it outlives, as `journal days/%Y-%m-%d durable process`
abbrev pub journal_text : JournalTerms → List ℕ
journal_text journal =
    codes "journal " ++ journal.folder ++ codes " durable " ++ durable_text journal.durable ++ 10 ∷ []

-- if there is one
abbrev pub journal_line : Option JournalTerms → List ℕ
journal_line None = []
journal_line (Some journal) = journal_text journal

-- where the page is served, as `page at 127.0.0.1:8080 callers 8`
abbrev pub page_text : ℕ → Address → List ℕ
page_text callers page = codes "page at " ++ address_text page ++ codes " callers " ++ decimal callers ++ 10 ∷ []

-- if it is served
abbrev pub page_line : ℕ → Option Address → List ℕ
page_line callers None = []
page_line callers (Some page) = page_text callers page

-- where lines are taken over TCP, as `lines at 127.0.0.1:8081`
abbrev pub listen_text : Address → List ℕ
listen_text listen = codes "lines at " ++ address_text listen ++ 10 ∷ []

-- if they are taken
abbrev pub listen_line : Option Address → List ℕ
listen_line None = []
listen_line (Some listen) = listen_text listen

-- on which Unix socket lines are taken, as `lines on desk.sock`
abbrev pub socket_text : List ℕ → List ℕ
socket_text socket = codes "lines on " ++ socket ++ 10 ∷ []

-- if they are taken
abbrev pub socket_line : Option (List ℕ) → List ℕ
socket_line None = []
socket_line (Some socket) = socket_text socket

-- a word, where it holds
abbrev pub right_word : Bool → List ℕ → List ℕ
right_word may word = if may then word else []

-- a user, as `user alice may read trade`
abbrev pub user_line : User → List ℕ
user_line user =
    codes "user " ++ user.name ++ codes " may" ++ right_word user.may.read (codes " read")
    ++ right_word user.may.trade (codes " trade") ++ right_word user.may.close (codes " close")
    ++ right_word user.may.halt (codes " halt") ++ 10 ∷ []

-- what the desk is called, the lines of each venue, where the journal, the page and the lines are, the users, what is
-- limited, and that the file is a day's
abbrev pub check_text : DeskConfig → List ℕ
check_text config =
    label_line (codes "desk") config.label.name ++ label_line (codes "environment") config.label.environment
    ++ flat_map venue_lines config.venues.items ++ journal_line config.journal ++ page_line config.callers config.page
    ++ listen_line config.listen ++ socket_line config.socket ++ flat_map user_line config.users.items
    ++ limits_line config
    ++ codes "file ok\n"
