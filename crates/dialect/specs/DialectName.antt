-- The names of the dialects, as the command line and a replay script write them.
use Rattle.std.specs.Prelude.{ℕ, List, codes, Option, Some, None, if◌then◌else◌}
use Rattle.std.specs.Str.{bytes_eq}
use Rattle.dialect.specs.declared.any_dialect.AnyDialect.{AnyDialect}
use Rattle.dialect.specs.declared.any_dialect.AnyDialect.TheVariants.{Plain, Split4, Coded}

-- the dialect of a name, if there is one
abbrev pub dialect_named : List ℕ → Option AnyDialect
dialect_named name =
    if bytes_eq name (codes "plain") then Some Plain
    else (if bytes_eq name (codes "split") then Some Split4
    else (if bytes_eq name (codes "coded") then Some Coded else None))
