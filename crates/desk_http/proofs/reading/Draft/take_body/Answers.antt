use Rattle.std.proofs.Common.{ap, refl, arith}
use Rattle.std.proofs.lemmas.List.{length-append}
use Rattle.desk_http.specs.Reading.{asked_of}
use Rattle.desk_http.proofs.reading.Draft.take_body.Goals as goal

pub returns : goal.returns
returns c =
    let more = length-append c.args.self.now.request.body.items c.args.bytes.now in
    let low = c.if-bytes-saturating_sub.false in
    let left = c.saturating_sub.ensures in
    let len = c.len.ensures in
    let few = c.requires in (
      ap (λ b. record (asked_of c.args.self.now.request) { body = b }) c.in_ok-extend_from_slice.ensures.items,
      refl,
      omega (arith, more, low, left, len, few),
    )
