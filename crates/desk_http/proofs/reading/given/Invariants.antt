use Rattle.std.proofs.Common.{◌≡◌, ◌++◌, drop, map}
use Rattle.httparse.specs.Spans.{header_bytes}
use Rattle.http1.specs.Fields.{values_named}
use Rattle.desk_http.proofs.Fields.{found_in}
use Rattle.desk_http.proofs.reading.given.Given as goal

abbrev pub invariant-loop-span : goal.invariant-loop-span
invariant-loop-span l =
    values_named l.name (map (header_bytes l.bytes) l.fields)
    ≡ found_in l.found ++ values_named l.name (map (header_bytes l.bytes) (drop l.span-index l.fields))
