-- How long an order stands and when it was made (FIX 4.4 Volume 4, NewOrderSingle: TimeInForce, TransactTime).
use Rattle.std.specs.Prelude.{List, [], ◌∷◌, codes, Result, Ok}
use Rattle.fix_text.specs.Then.{◌>>=◌, unless}
use Rattle.fix_text.specs.Tagged.{Tagged}
use Rattle.fix_tags.specs.Stamp.{StampParts, stamp_text}
use Rattle.dialect.specs.declared.fault.DialectFault.{DialectFault}
use Rattle.dialect.specs.declared.fault.DialectFault.TheVariants.{NotIoc}
use Rattle.dialect.specs.Fields.{required, has_value, is_text, field}

-- what is read: 59 is `3`, immediate or cancel, and 60 is there
unfoldable pub immediate_in : List Tagged → Result (Unit {0}) DialectFault
immediate_in fields = do
  immediate ← unless (has_value (is_text (codes "3")) fields 59) NotIoc
  time ← required fields 60
  Ok tt

-- what is written
abbrev pub immediate_fields : StampParts → List Tagged
immediate_fields stamp = field 59 (codes "3") ∷ field 60 (stamp_text stamp) ∷ []
