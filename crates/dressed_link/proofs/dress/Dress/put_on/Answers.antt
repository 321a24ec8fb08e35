use Rattle.std.proofs.Common.{rules, ◌≡◌, ◌+◌, ◌-◌, ◌≤◌, ◌++◌, Some, length, refl, ap, sym, subst, ◌∙◌, arith}
use Rattle.std.specs.Prelude.{option_map, IfSome}
use Rattle.fix_text.specs.Frame.{frame_text, frame_refusal}
use Rattle.fix_text.specs.Reading.{fed, next_read}
use Rattle.dressed_link.specs.Dressing.{dressed_fields}
use Rattle.dressed_link.proofs.Fronts.{new_of, put_front, put_refused, written_ok}
use Rattle.dressed_link.proofs.dress.Dress.put_on.Goals as goal

pub returns-in_err-write_frame-clause-refused : goal.returns-in_err-write_frame-clause-refused
returns-in_err-write_frame-clause-refused c =
    let d = c.args.self.now in
    let bytes = c.args.bytes.now in
    let begun : c.feed.new.self ≡ new_of bytes =
    c.in_ok-feed.ensures.ok ∙ ap (λ s. fed s bytes) c.new-reader.ensures in
    let is : Some c.in-Some.fields.items ≡ option_map (dressed_fields d) (next_read c.feed.new.self).frame =
    ap (option_map (λ f. f.items)) (sym c.in-Some.is) ∙ c.in_ok-fields.ensures.fields in
    let fields : Some c.as_slice.result.now ≡ option_map (dressed_fields d) (next_read c.feed.new.self).frame =
    ap (λ x. Some x) c.as_slice.ensures.value ∙ is in
    put_refused d bytes c.feed.new.self c.as_slice.result.now _ c.in_err-write_frame.field-0.0
    c.from_residual-in_err-write_frame.result begun fields refl c.in_err-write_frame.ensures.refusal
    c.from_residual-in_err-write_frame.ensures.1

pub returns-clause-ok : goal.returns-clause-ok
returns-clause-ok c =
    let d = c.args.self.now in
    let bytes = c.args.bytes.now in
    let begun : c.feed.new.self ≡ new_of bytes =
    c.in_ok-feed.ensures.ok ∙ ap (λ s. fed s bytes) c.new-reader.ensures in
    let is : Some c.in-Some.fields.items ≡ option_map (dressed_fields d) (next_read c.feed.new.self).frame =
    ap (option_map (λ f. f.items)) (sym c.in-Some.is) ∙ c.in_ok-fields.ensures.fields in
    let fields : Some c.as_slice.result.now ≡ option_map (dressed_fields d) (next_read c.feed.new.self).frame =
    ap (λ x. Some x) c.as_slice.ensures.value ∙ is in
    let skipped : c.next_fields.new.reader.skipped ≡ 0 = search rules in
    let garbled : c.next_fields.new.reader.garbled ≡ 0 = search rules in
    let shorter : length (next_read c.feed.new.self).stream.rest ≤ length c.feed.new.self.rest =
    subst (λ found. IfSome found (λ _. length (next_read c.feed.new.self).stream.rest ≤ length c.feed.new.self.rest))
    c.in-Some.is c.in_ok-fields.ensures.shorter in
    let left = ap (λ s. length s.rest) c.in_ok-fields.ensures.reader in
    let all = ap (λ s. length s.rest) begun in
    let waiting = c.waiting-left.ensures in
    let writable = written_ok (frame_refusal c.as_slice.result.now) _ refl c.in_ok-write_frame.ensures.refusal in
    let count = length bytes - c.waiting-left.result in
    put_front d bytes c.args.out.now.items _ c.feed.new.self c.next_fields.new.reader c.as_slice.result.now count begun
    fields c.in_ok-fields.ensures.reader skipped garbled writable c.in_ok-write_frame.ensures.ok
    (omega (arith, shorter, left, all, waiting))
