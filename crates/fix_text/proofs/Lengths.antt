-- How long written fields and frames are.
use Rattle.std.proofs.Common.{◌≡◌, ◌+◌, ◌≤◌, List, ◌++◌, length, arith}
use Rattle.std.specs.Fmt.{decimal}
use Rattle.std.proofs.Math.ListN.{length-append}
use Rattle.std.proofs.lemmas.Fmt.{length-decimal-le}
use Rattle.fix_text.specs.Frame.{header_text, trailer_text, frame_text}
use Rattle.fix_text.specs.Tagged.{Tagged}
use Rattle.fix_text.specs.Text.{field_text, fields_text}

-- the digits of the tag, `=`, the value and SOH
pub length-field_text : (field : Tagged) → length (field_text field) ≡ length (decimal field.tag) + 1 + length field.value + 1
length-field_text field = simp length-append (omega arith)

-- the frame's own bytes are 20 and the digits of BodyLength (9), of which there are at most four
pub frames_are_short : (fields : List Tagged) → length (fields_text fields) ≤ 4096
    → length (frame_text fields) ≤ 4120
frames_are_short fields short =
    let n = length (fields_text fields) in
    let digits = length-decimal-le 4 n (omega arith) (omega (arith, short)) (omega (arith, short)) in
    let before = header_text n ++ fields_text fields in
    let front = length-append (header_text n) (fields_text fields) in
    let whole = length-append before (trailer_text before) in
    let head : length (header_text n) ≡ length (decimal n) + 13 = simp length-append (omega arith) in
    omega (arith, digits, front, whole, head, short)
