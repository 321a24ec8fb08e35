-- The folder of a day's logs.
use Rattle.std.specs.Prelude.{◌≡◌, ◌⊎◌, ℕ, Bool, List, [], ◌∷◌, ◌++◌, codes, map}
use Rattle.std.specs.List.{list_any}
use Rattle.std.specs.Str.{bytes_eq}
use Rattle.desk_config.specs.declared.venue.Venue.{Venue}
use Rattle.day_log.specs.declared.fault.LogFault.{LogFault}
use Rattle.day_log.specs.declared.fault.LogFault.TheVariants.{Exists, CantLook, OutOfMemory}
use Rattle.day_log.specs.declared.going_on.LogEnd.{LogEnd}
use Rattle.day_log.specs.declared.going_on.LogEnd.TheVariants as end
use Rattle.day_log.specs.declared.log_file.LogFile.{LogFile}
use Rattle.day_log.specs.declared.log_file.LogFile.TheVariants as file
use Rattle.day_log.specs.Header.{file_text}

-- whether a venue has the name of the log of the lines
abbrev pub is_name_taken : List Venue → Bool
is_name_taken venues = list_any (λ venue. bytes_eq venue.name (codes "sweeps")) venues

-- the files of a folder: one for each venue, and that of the lines
abbrev pub files_of : List Venue → List LogFile
files_of venues = map (λ venue. file.Venue venue.name) venues ++ file.Sweeps ∷ []

-- where a file is, as `day/NYSE.log`
abbrev pub path_text : List ℕ → LogFile → List ℕ
path_text folder it = folder ++ codes "/" ++ file_text it

-- the look at a file fails for what it says of it, or for memory
abbrev pub MayFail : LogFault → LogFile → Type 0
MayFail fault it = (fault ≡ Exists it) ⊎ (fault ≡ CantLook it) ⊎ (fault ≡ OutOfMemory)

-- what is written to a log that was left so before its next line, where a new one has these first lines
abbrev pub lacks : LogEnd → List ℕ → List ℕ
lacks end.New header = header
lacks end.WithinLine header = 10 ∷ []
lacks end.Whole header = []
