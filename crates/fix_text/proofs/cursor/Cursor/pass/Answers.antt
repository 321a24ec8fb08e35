use Rattle.std.proofs.Common.{◌≡◌, ◌+◌, ◌≤◌, List, ℕ, length, drop, Bool, Some, None, refl, sym, ap, subst, ◌∙◌, arith}
use Rattle.std.specs.Vec.{vec_capacity}
use Rattle.std.proofs.lemmas.List.{drop-drop, take_rest, length-drop}
use Rattle.fix_text.specs.Reading.{Stream, NextFrame, valid_fields, frame_at}
use Rattle.fix_text.specs.Waiting.{least_length, waits_after}
use Rattle.fix_text.specs.Placing.{fields_at, AreMore, AreWithin, ArePlaced}
use Rattle.fix_text.proofs.Places.{lies_at, lies_length, body_found, rest_found}
use Rattle.fix_text.proofs.Turns.{waits, skips_all, some_left, gives, garbles, on_err, more_some, more_than_fewer}
use Rattle.fix_text.proofs.cursor.Cursor.pass.Goals as goal

pub returns-in-Err-Short-clause-read : goal.returns-in-Err-Short-clause-read
returns-in-Err-Short-clause-read c =
    let bytes = c.args.bytes.now in
    let now : Stream = record { rest = drop c.loop-count.at bytes; skipped = c.loop-count.skipped; garbled = c.loop-count.garbled } in
    waits now _ _ c.in-Err-Short.field-0-is (c.in-Err-Short.ensures ∙ ap frame_at (take_rest bytes c.loop-count.at)) c.loop-count.invariant.read

pub returns-in-Err-Short-clause-waits : goal.returns-in-Err-Short-clause-waits
returns-in-Err-Short-clause-waits c =
    let bytes = c.args.bytes.now in
    let now : Stream = record { rest = drop c.loop-count.at bytes; skipped = c.loop-count.skipped; garbled = c.loop-count.garbled } in
    c.least_length.ensures
    ∙ ap least_length (take_rest bytes c.loop-count.at)
    ∙ ap (λ (next : NextFrame). waits_after next.frame next.stream.rest)
    (waits now _ _ c.in-Err-Short.field-0-is (c.in-Err-Short.ensures ∙ ap frame_at (take_rest bytes c.loop-count.at)) c.loop-count.invariant.read)

pub loop-count-smaller-in-Err-Differs : goal.loop-count-smaller-in-Err-Differs
loop-count-smaller-in-Err-Differs c =
    let bytes = c.args.bytes.now in
    let more : 1 ≤ length (drop c.loop-count.at bytes) = some_left _ _ c.in-Err-Differs.field-0-is (c.in-Err-Differs.ensures ∙ ap frame_at (take_rest bytes c.loop-count.at)) in
    omega (arith, length-drop c.loop-count.at bytes)

pub junk_length-count-requires : goal.junk_length-count-requires
junk_length-count-requires c =
    let bytes = c.args.bytes.now in
    let some = some_left _ _ c.in-Err-Differs.field-0-is (c.in-Err-Differs.ensures ∙ ap frame_at (take_rest bytes c.loop-count.at)) in
    omega (arith, some, ap length (take_rest bytes c.loop-count.at))

pub loop-count-preserved-in-Err-Differs : goal.loop-count-preserved-in-Err-Differs
loop-count-preserved-in-Err-Differs c =
    let bytes = c.args.bytes.now in
    let now : Stream = record { rest = drop c.loop-count.at bytes; skipped = c.loop-count.skipped; garbled = c.loop-count.garbled } in
    let differs = c.in-Err-Differs.ensures ∙ ap frame_at (take_rest bytes c.loop-count.at) in
    let junk = rw (take_rest bytes c.loop-count.at) at c.junk_length-count.ensures in
    let left : drop c.junk_length-count.result (drop c.loop-count.at bytes) ≡ drop (c.loop-count.at + c.junk_length-count.result) bytes =
    drop-drop c.junk_length-count.result c.loop-count.at bytes in
    record {
      read = rw (c.saturating_add-skipped.ensures, sym left)
          (skips_all now _ _ _ c.in-Err-Differs.field-0-is differs junk.some junk.within junk.junk c.loop-count.invariant.read);
      within = omega (arith, length-drop c.loop-count.at bytes);
      room = c.loop-count.invariant.room;
    }

pub overflow_sub-end : goal.overflow_sub-end
overflow_sub-end c =
    let bytes = c.args.bytes.now in
    let lies = lies_at bytes c.loop-count.at c.in-Ok.frame c.loop-count.invariant.within (c.in-Ok.ensures ∙ ap frame_at (take_rest bytes c.loop-count.at)) in
    omega (arith, ap length c.rest.ensures, lies_length _ _ _ lies)

pub returns-in_err-place_valid_fields-in-Ok-clause-full : goal.returns-in_err-place_valid_fields-in-Ok-clause-full
returns-in_err-place_valid_fields-in-Ok-clause-full c =
    let whole = c.in-Ok.frame in
    let now : Stream = record { rest = drop c.loop-count.at c.args.bytes.now; skipped = c.loop-count.skipped; garbled = c.loop-count.garbled } in
    let is = c.in-Ok.ensures ∙ ap frame_at (take_rest c.args.bytes.now c.loop-count.at) in
    let more = c.in_err-place_valid_fields-in-Ok.ensures.full in
    let given = gives now _ whole (valid_fields whole) _ is refl (more_some _ _ more) refl c.loop-count.invariant.read in
    on_err c.from_residual.result _ (subst (λ (next : NextFrame). AreMore (vec_capacity c.args.places.now) next.frame) given
    (more_than_fewer _ _ (valid_fields whole) c.loop-count.invariant.room more))

pub overflow_sub-body : goal.overflow_sub-body
overflow_sub-body c =
    let bytes = c.args.bytes.now in
    let lies = lies_at bytes c.loop-count.at c.in-Ok.frame c.loop-count.invariant.within (c.in-Ok.ensures ∙ ap frame_at (take_rest bytes c.loop-count.at)) in
    omega (arith, ap length c.before-then-branch.ensures, ap length c.body.ensures, lies.body_len)

pub returns-then-branch-clause-read : goal.returns-then-branch-clause-read
returns-then-branch-clause-read c =
    let bytes = c.args.bytes.now in
    let whole = c.in-Ok.frame in
    let places = c.place_valid_fields.new.places.items in
    let now : Stream = record { rest = drop c.loop-count.at bytes; skipped = c.loop-count.skipped; garbled = c.loop-count.garbled } in
    let is = c.in-Ok.ensures ∙ ap frame_at (take_rest bytes c.loop-count.at) in
    let lies = lies_at bytes c.loop-count.at whole c.loop-count.invariant.within is in
    let placed = subst (λ (b : Bool). ArePlaced b whole.body places (valid_fields whole)) c.if-branch.true c.in_ok-place_valid_fields-in-Ok.ensures.placed in
    rw (c.before-then-branch.ensures, c.body.ensures, c.rest.ensures, body_found bytes c.loop-count.at whole lies, rest_found bytes c.loop-count.at whole lies)
    (gives now _ whole (Some (fields_at whole.body places)) _ is placed.0 refl refl c.loop-count.invariant.read)

pub returns-then-branch-clause-waits : goal.returns-then-branch-clause-waits
returns-then-branch-clause-waits c =
    let bytes = c.args.bytes.now in
    let whole = c.in-Ok.frame in
    let places = c.place_valid_fields.new.places.items in
    let now : Stream = record { rest = drop c.loop-count.at bytes; skipped = c.loop-count.skipped; garbled = c.loop-count.garbled } in
    let is = c.in-Ok.ensures ∙ ap frame_at (take_rest bytes c.loop-count.at) in
    let placed = subst (λ (b : Bool). ArePlaced b whole.body places (valid_fields whole)) c.if-branch.true c.in_ok-place_valid_fields-in-Ok.ensures.placed in
    ap (λ (next : NextFrame). waits_after next.frame next.stream.rest) (gives now _ whole (Some (fields_at whole.body places)) _ is placed.0 refl refl c.loop-count.invariant.read)

pub returns-then-branch-clause-within : goal.returns-then-branch-clause-within
returns-then-branch-clause-within c =
    let bytes = c.args.bytes.now in
    let whole = c.in-Ok.frame in
    let places = c.place_valid_fields.new.places.items in
    let lies = lies_at bytes c.loop-count.at whole c.loop-count.invariant.within (c.in-Ok.ensures ∙ ap frame_at (take_rest bytes c.loop-count.at)) in
    let placed = subst (λ (b : Bool). ArePlaced b whole.body places (valid_fields whole)) c.if-branch.true c.in_ok-place_valid_fields-in-Ok.ensures.placed in
    rw (c.before-then-branch.ensures, c.body.ensures) (record {
      ordered = omega arith;
      within = omega (arith, lies_length bytes c.loop-count.at whole lies);
      each = subst (λ (body : List ℕ). AreWithin body places) (sym (body_found bytes c.loop-count.at whole lies)) placed.1;
    })

pub returns-then-branch-clause-lies : goal.returns-then-branch-clause-lies
returns-then-branch-clause-lies c =
    let bytes = c.args.bytes.now in
    let whole = c.in-Ok.frame in
    let lies = lies_at bytes c.loop-count.at whole c.loop-count.invariant.within (c.in-Ok.ensures ∙ ap frame_at (take_rest bytes c.loop-count.at)) in
    rw (c.before-then-branch.ensures, c.body.ensures, c.rest.ensures) (record {
      end = omega arith;
      ordered = omega arith;
      body = omega (arith, lies_length bytes c.loop-count.at whole lies);
      near = omega (arith, lies_length bytes c.loop-count.at whole lies, lies.front_len, lies.body_short, lies.trailer_short);
    })

pub loop-count-smaller : goal.loop-count-smaller
loop-count-smaller c =
    let bytes = c.args.bytes.now in
    let lies = lies_at bytes c.loop-count.at c.in-Ok.frame c.loop-count.invariant.within (c.in-Ok.ensures ∙ ap frame_at (take_rest bytes c.loop-count.at)) in
    omega (arith, ap length c.rest.ensures, lies_length _ _ _ lies, lies.trailer_len)

pub loop-count-preserved : goal.loop-count-preserved
loop-count-preserved c =
    let bytes = c.args.bytes.now in
    let whole = c.in-Ok.frame in
    let now : Stream = record { rest = drop c.loop-count.at bytes; skipped = c.loop-count.skipped; garbled = c.loop-count.garbled } in
    let is = c.in-Ok.ensures ∙ ap frame_at (take_rest bytes c.loop-count.at) in
    let lies = lies_at bytes c.loop-count.at whole c.loop-count.invariant.within is in
    let none = subst (λ (b : Bool). ArePlaced b whole.body c.place_valid_fields.new.places.items (valid_fields whole)) c.if-branch.false c.in_ok-place_valid_fields-in-Ok.ensures.placed in
    rw (c.rest.ensures, c.saturating_add-garbled.ensures, rest_found bytes c.loop-count.at whole lies) (record {
      read = garbles now _ whole None _ is none refl refl c.loop-count.invariant.read;
      within = omega arith;
      room = omega (arith, c.loop-count.invariant.room, c.place_valid_fields.ensures.room);
    })
