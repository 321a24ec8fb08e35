use Rattle.std.proofs.Common.{◌≡◌, ◌<◌, length, List, Option, None, ap, refl, subst, arith}
use Rattle.std.proofs.lemmas.List.{length-drop}
use Rattle.fix_text.specs.Tagged.{Tagged}
use Rattle.fix_text.specs.Reading.{NextFrame, Stream, next_read}
use Rattle.fix_text.specs.Passing.{left_of}
use Rattle.fix_text.proofs.Waits.{nothing_found}
use Rattle.fix_text.proofs.Lent.{is_next, begins, of_ok, same_frame, same_shortens}
use Rattle.fix_text.proofs.reader.FrameReader.next.Goals as goal

pub returns-then-len-self : goal.returns-then-len-self
returns-then-len-self c =
    let stream = c.args.self.now in
    let inside = c.self.inside in
    let left = left_of inside.kept.buffer.items inside.cursor in
    let few : length left.rest < inside.cursor.waits_for = omega (arith, c.if-len-self.true, c.len.ensures, length-drop inside.cursor.end inside.kept.buffer.items) in
    let frame : Option (List Tagged) = None in
    let is : record { frame = frame; stream = stream } ≡ next_read stream =
    subst (λ (s : Stream). record { frame = frame; stream = s } ≡ next_read s) c.self.view_is (nothing_found inside.cursor.waits_for left c.self.invariant.3 few) in (
      (refl, (λ _. tt), ap (λ (next : NextFrame). next.stream) is),
      record {
        lender = tt;
        fields = ap (λ (next : NextFrame). next.frame) is;
        next = is_next frame stream stream is;
        shorter = tt;
        written = begins frame stream stream is;
        refusal = tt;
        full = tt;
      },
    )

pub returns : goal.returns
returns c =
    let stream = c.args.self.now in
    let all = (next_read stream).stream in
    let looked = c.look.ensures in (
      (refl, (λ _. tt), c.look.follows.holds-at-none),
      record {
        lender = tt;
        fields = looked.fields;
        next = of_ok c.look.result _ _ (λ frame is. is_next _ all stream (same_frame stream _ is)) looked.fields;
        shorter = of_ok c.look.result _ _ (same_shortens stream) looked.fields;
        written = λ fields rest written. of_ok c.look.result _ _ (λ frame is. begins _ all stream (same_frame stream _ is) fields rest written) looked.fields;
        refusal = looked.refusal;
        full = looked.full;
      },
    )
