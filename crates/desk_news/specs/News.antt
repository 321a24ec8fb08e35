-- What a desk is told while its day goes on.
use Rattle.std.specs.Prelude.{ℕ, List, ◌++◌, codes, decimal}
use Rattle.desk_news.specs.declared.news.News.{News}
use Rattle.desk_news.specs.declared.news.News.TheVariants.{Sweep, Venue, Contradicted}
use Rattle.desk_news.specs.Paid.{paid_sweep_text}
use Rattle.desk_news.specs.Venue.{state_text}

-- the news, as `sweep 12 legs 150 ..`, `venue ARCA up` or `contradicted ARCA legs 1`
abbrev pub news_text : News → List ℕ
news_text (Sweep sweep) = paid_sweep_text sweep
news_text (Venue venue state) = codes "venue " ++ venue ++ codes " " ++ state_text state
news_text (Contradicted venue legs) = codes "contradicted " ++ venue ++ codes " legs " ++ decimal legs
