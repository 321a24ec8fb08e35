-- How a metric and a time are written in Prometheus' text (its exposition format 0.0.4).
use Rattle.std.specs.Prelude.{ℕ, ◌/◌, ◌%◌, List, ◌++◌, codes, decimal}

-- what a metric is in words, and its type
unfoldable pub metric_head : List ℕ → List ℕ → List ℕ → List ℕ
metric_head name words kind =
    codes "# HELP " ++ name ++ codes " " ++ words ++ codes "\n# TYPE " ++ name ++ codes " " ++ kind ++ codes "\n"

-- a time in seconds, of its microseconds: 1500 are `0.001500`
unfoldable pub seconds_text : ℕ → List ℕ
seconds_text micros =
    decimal (micros / 1000000) ++ codes "." ++ decimal (micros / 100000 % 10) ++ decimal (micros / 10000 % 10)
    ++ decimal (micros / 1000 % 10) ++ decimal (micros / 100 % 10) ++ decimal (micros / 10 % 10)
    ++ decimal (micros % 10)
