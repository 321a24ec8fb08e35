-- How it is kept for contracts what was noted.
use Rattle.std.specs.Prelude.{ℕ, List, Option}
use Rattle.std.specs.Coded.{Coded, coded_ℕ, coded_list, coded_option}

abbrev pub texts_coded : Coded (List (Option (List ℕ)))
texts_coded = coded_list (coded_option (coded_list coded_ℕ))
