-- What a message says, with the fields of an application message as their list.
use Rattle.std.specs.Prelude.{List}
use Rattle.fix_text.specs.Tagged.{Tagged}
use Rattle.fix_tags.specs.declared.body.Body.{Body as BodyWith}

abbrev pub Body : Type 0
Body = BodyWith (List Tagged)
