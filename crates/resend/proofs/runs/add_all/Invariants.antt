use Rattle.std.proofs.Common.{◌≡◌, ◌≤◌, ◌+◌, take}
use Rattle.std.specs.Prelude.{map, vec_len, vec_capacity}
use Rattle.resend.specs.KeptRuns.{added_all, AreRuns}
use Rattle.resend.proofs.SettledRuns.{as_settled}
use Rattle.resend.proofs.runs.add_all.Given as goal

abbrev pub invariant-loop-sent : goal.invariant-loop-sent
invariant-loop-sent l = record {
  items : l.runs.items ≡ added_all (map (as_settled l.state) (take l.sent-index l.sents)) l.initial.runs.items;
  kept : AreRuns l.runs.items;
  len : vec_len l.runs ≤ vec_len l.initial.runs + l.sent-index;
  capacity : vec_capacity l.runs ≡ vec_capacity l.initial.runs;
}
