use Rattle.std.proofs.Common.{◌++◌, ap, ◌∙◌, append_assoc}
use Rattle.std.specs.Prelude.{string_bytes}
use Rattle.std.proofs.lemmas.Result.{on_ok_weaker}
use Rattle.desk_json.specs.Paid.{paid_json}
use Rattle.desk_json.specs.Sweeps.{parts_json, shares_json}
use Rattle.desk_json.proofs.sweeps_written.write_shares.Goals as goal

pub returns : goal.returns
unfolding shares_json
returns c =
    let parts = parts_json c.args.totals.now in
    let paid = paid_json c.args.paid.now in
    on_ok_weaker c.write_paid.result
    (λ said. said ∙ ap (λ text. text ++ paid) c.in_ok-write_parts.ensures
    ∙ append_assoc (string_bytes c.args.text.now) parts paid)
    c.write_paid.ensures
