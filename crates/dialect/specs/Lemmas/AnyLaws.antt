-- Lemmas: the laws of any of the dialects.
use Rattle.dialect.specs.declared.any_dialect.AnyDialect.{AnyDialect}
use Rattle.dialect.specs.declared.any_dialect.AnyDialect.TheVariants.{Plain, Split4, Coded}
use Rattle.dialect.specs.Spelling.{IsSpelling}
use Rattle.dialect.specs.Lemmas.PlainLaws.{plain_is_spelling}
use Rattle.dialect.specs.Lemmas.Split4Laws.{split4_is_spelling}
use Rattle.dialect.specs.Lemmas.CodedLaws.{coded_is_spelling}
use Rattle.dialect.specs.Any.{any_spelling}

pub any_is_spelling : (dialect : AnyDialect) → IsSpelling (any_spelling dialect)
any_is_spelling Plain = plain_is_spelling
any_is_spelling Split4 = split4_is_spelling
any_is_spelling Coded = coded_is_spelling
