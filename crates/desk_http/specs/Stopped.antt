-- What came of a halt, in JSON.
use Rattle.std.specs.Prelude.{ℕ, Bool, List, ◌++◌, codes, if◌then◌else◌}
use Rattle.desk_http.specs.declared.stopped.Stopped.{Stopped}

abbrev pub word : Bool → List ℕ
word truth = if truth then codes "true" else codes "false"

-- the desk is halted, whether a worker may still be sending an order, and whether a desk that is started again is too
abbrev pub stopped_json : Stopped → List ℕ
stopped_json stopped =
    codes "{\"halted\":true,\"sending\":" ++ word stopped.is_sending
    ++ codes ",\"kept\":" ++ word stopped.is_kept ++ codes "}"

-- it isn't any more, and whether a desk that is started again isn't either
abbrev pub resumed_json : Bool → List ℕ
resumed_json is_kept = codes "{\"halted\":false,\"kept\":" ++ word is_kept ++ codes "}"
