-- Any of the dialects.
use Rattle.dialect.specs.declared.any_dialect.AnyDialect.{AnyDialect}
use Rattle.dialect.specs.declared.any_dialect.AnyDialect.TheVariants.{Plain, Split4, Coded}
use Rattle.dialect.specs.Spelling.{SpellingParts}
use Rattle.dialect.specs.Plain.{plain}
use Rattle.dialect.specs.Split4.{split4}
use Rattle.dialect.specs.Coded.{coded}

-- the spelling of the one that it is
abbrev pub any_spelling : AnyDialect → SpellingParts
any_spelling Plain = plain
any_spelling Split4 = split4
any_spelling Coded = coded
