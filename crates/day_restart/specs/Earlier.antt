-- What lines that contracts alone see are kept as.
use Rattle.std.specs.Prelude.{ℕ, List}
use Rattle.std.specs.Coded.{Coded, coded_ℕ, coded_list}

abbrev pub lines_coded : Coded (List (List ℕ))
lines_coded = coded_list (coded_list coded_ℕ)
