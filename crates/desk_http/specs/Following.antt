-- Behind which execution a client goes on that follows the day (HTML Standard, "Server-sent events").
use Rattle.std.specs.Prelude.{ℕ, List, Option, Some, None, length, unwrap_or, ◌==◌, if◌then◌else◌}
use Rattle.fix_tags.specs.Number.{number_of}

-- by the Last-Event-ID that it sends, 0 where that is no number; none where it sends none
abbrev pub after_of : List ℕ → Option ℕ
after_of last_event_id =
    if length last_event_id == 0 then None else Some (unwrap_or (number_of last_event_id) 0)
