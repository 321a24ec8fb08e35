use Rattle.std.proofs.Common.{rules, ◌++◌, ap, ◌∙◌}
use Rattle.std.specs.Prelude.{string_bytes}
use Rattle.desk_json.proofs.PartedWritten.{parted_more}
use Rattle.day_restart.specs.Told.{venue_json}
use Rattle.day_restart.proofs.told.write_venues.Goals as goal

pub loop-row-preserved : goal.loop-row-preserved
loop-row-preserved c =
    let before = string_bytes c.loop-row.text in
    let mark = c.loop-row.mark.now in
    record {
      text = parted_more venue_json c.args.rows.now c.loop-row.row-index c.row-item.result mark _ before
          (string_bytes c.write_venue.new.text) c.loop-row-test.true c.loop-row.invariant.text
          (c.in_ok-write_venue.ensures ∙ ap (λ item. (before ++ mark) ++ venue_json item) c.row-item.is);
      utf8 = search rules;
    }
