use Rattle.std.proofs.Common.{◌≡◌, ◌≤◌, ℕ, List, None}
use Rattle.std.specs.List.{All}
use Rattle.std.specs.Prelude.{vec_capacity, vec_len}
use Rattle.share_ledger.specs.Reports.{report_at}
use Rattle.share_ledger.proofs.book.Book.new.Given as goal

abbrev pub invariant-each : goal.invariant-each
invariant-each l = record {
  fresh : All (λ reports. (exec : List ℕ) → report_at reports exec ≡ None) l.reports.items;
  count : vec_len l.reports ≡ l.counter;
  room : l.count ≤ vec_capacity l.reports;
}
