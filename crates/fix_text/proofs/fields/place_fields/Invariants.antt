use Rattle.std.proofs.Common.{◌≡◌, ◌<◌, ◌≤◌, true, false, length, drop}
use Rattle.std.specs.Prelude.{is_some, IfSome}
use Rattle.std.specs.Vec.{vec_capacity}
use Rattle.fix_text.specs.Reading.{fields_of}
use Rattle.fix_text.specs.Placing.{fields_at, AreWithin}
use Rattle.fix_text.proofs.FieldLists.{with_front}
use Rattle.fix_text.proofs.Parts.{separators}
use Rattle.fix_text.proofs.fields.place_fields.Given as goal

abbrev pub invariant-loop-end : goal.invariant-loop-end
invariant-loop-end l = record {
  within : l.at ≤ length l.text;
  room : vec_capacity l.fn.places ≤ vec_capacity l.places;
  more : l.is_full ≡ true → IfSome (fields_of l.text) (λ fields. vec_capacity l.fn.places < length fields);
  left : separators l.text l.at ≡ l.end-iterator;
  each : AreWithin l.text l.places.items;
  some : is_some (fields_of (drop l.at l.text)) ≡ is_some (fields_of l.text);
  read : l.is_full ≡ false → with_front (fields_at l.text l.places.items) (fields_of (drop l.at l.text)) ≡ fields_of l.text;
}
