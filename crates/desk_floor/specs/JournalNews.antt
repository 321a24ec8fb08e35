-- What is told of a journal that can't be written, or can again.
use Rattle.std.specs.Prelude.{ℕ, List, ◌++◌, codes, if◌then◌else◌}
use Rattle.desk_floor.specs.declared.journal_watch.JournalNews.{JournalNews}

abbrev pub journal_text : JournalNews → List ℕ
journal_text news =
    if news.is_failing then codes "journal " ++ news.name.now ++ codes " can't be written"
    else codes "journal " ++ news.name.now ++ codes " is written again"

abbrev pub journal_json : JournalNews → List ℕ
journal_json news =
    if news.is_failing then codes "{\"journal\":\"" ++ news.name.now ++ codes "\",\"failing\":true}"
    else codes "{\"journal\":\"" ++ news.name.now ++ codes "\",\"failing\":false}"
