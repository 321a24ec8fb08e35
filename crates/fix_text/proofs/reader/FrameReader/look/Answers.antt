use Rattle.std.proofs.Common.{rules, ◌≡◌, ◌<◌, ◌≤◌, length, List, Option, Some, None, ap, sym, refl, subst, ◌∙◌, arith}
use Rattle.std.specs.Prelude.{IfSome}
use Rattle.std.specs.Vec.{vec_capacity}
use Rattle.std.proofs.lemmas.List.{length-drop}
use Rattle.fix_text.specs.Placing.{AreMore}
use Rattle.fix_text.proofs.Turns.{on_err}
use Rattle.fix_text.specs.Tagged.{Tagged}
use Rattle.fix_text.specs.FrameFields.{fields_in}
use Rattle.fix_text.specs.Reading.{NextFrame, Stream, next_read}
use Rattle.fix_text.specs.Passing.{IsBody, left_of, found_in}
use Rattle.fix_text.specs.declared.cursor.Body.{Body}
use Rattle.fix_text.proofs.Waits.{waits_behind, read_waits}
use Rattle.fix_text.proofs.Lent.{more_than_free}
use Rattle.fix_text.proofs.reader.FrameReader.look.Goals as goal

pub frame-requires : goal.frame-requires
frame-requires c =
    let places = c.pass.new.places.items in
    let within = c.let_go-found.ensures.body places (rw c.as_slice-bytes.ensures.value at c.in_ok-found.ensures.within) in
    subst (λ (body : Option Body). IfSome body (λ body. IsBody c.let_go-found.new.buffer.items body places)) c.in-Some.is within

pub invariant_of-self-in-Some : goal.invariant_of-self-in-Some
invariant_of-self-in-Some c =
    let stream = c.args.self.now in
    let places = c.pass.new.places.items in
    let found = c.let_go-found.result in
    let read = rw c.as_slice-bytes.ensures.value at c.in_ok-found.ensures.read in
    let waits = rw c.as_slice-bytes.ensures.value at c.in_ok-found.ensures.waits in (
      c.let_go-found.ensures.end,
      c.let_go-found.ensures.few,
      λ some. omega (arith, c.self.invariant.2 (omega (arith, some, c.let_go-found.ensures.no_more)), c.pass.ensures.room),
      read_waits stream _ _ (c.let_go-found.ensures.same places ∙ read ∙ ap next_read c.self.view_is) (c.let_go-found.ensures.waits ∙ waits ∙ ap waits_behind c.self.view_is),
    )

pub invariant_of-self-in-None : goal.invariant_of-self-in-None
invariant_of-self-in-None c =
    let stream = c.args.self.now in
    let places = c.pass.new.places.items in
    let found = c.let_go-found.result in
    let read = rw c.as_slice-bytes.ensures.value at c.in_ok-found.ensures.read in
    let waits = rw c.as_slice-bytes.ensures.value at c.in_ok-found.ensures.waits in (
      c.let_go-found.ensures.end,
      c.let_go-found.ensures.few,
      λ some. omega (arith, c.self.invariant.2 (omega (arith, some, c.let_go-found.ensures.no_more)), c.pass.ensures.room),
      read_waits stream _ _ (c.let_go-found.ensures.same places ∙ read ∙ ap next_read c.self.view_is) (c.let_go-found.ensures.waits ∙ waits ∙ ap waits_behind c.self.view_is),
    )

pub returns-in_err-found : goal.returns-in_err-found
returns-in_err-found c =
    let stream = c.args.self.now in
    let inside = c.self.inside in
    let full = rw c.as_slice-bytes.ensures.value at c.in_err-found.ensures.full in
    let more = subst (λ (s : Stream). AreMore (vec_capacity inside.kept.places) (next_read s).frame) c.self.view_is full in
    let always : 0 < length stream.rest → 64 ≤ vec_capacity inside.kept.places =
    λ some. c.self.invariant.2 (omega (arith, some, ap (λ (s : Stream). length s.rest) c.self.view_is, length-drop inside.cursor.end inside.kept.buffer.items)) in (
      (refl, (λ _. tt), search rules),
      record {
        lender = tt;
        fields = search rules;
        refusal = search rules;
        full = on_err c.from_residual.result _ (more_than_free stream 64 _ always more);
      },
    )

pub returns-in-Some : goal.returns-in-Some
returns-in-Some c =
    let stream = c.args.self.now in
    let buffer = c.let_go-found.new.buffer.items in
    let places = c.pass.new.places.items in
    let passed = c.let_go-found.result.cursor in
    let frame : Option (List Tagged) = Some (fields_in c.frame.result) in
    let is : record { frame = frame; stream = left_of buffer passed } ≡ next_read stream =
    ap (λ (fields : List Tagged). let next : NextFrame = record { frame = Some fields; stream = left_of buffer passed } in next) c.frame.ensures
    ∙ ap (λ (body : Option Body). found_in buffer places body passed) (sym c.in-Some.is)
    ∙ c.let_go-found.ensures.same places
    ∙ rw c.as_slice-bytes.ensures.value at c.in_ok-found.ensures.read
    ∙ ap next_read c.self.view_is in (
      (refl, (λ _. tt), ap (λ (next : NextFrame). next.stream) is),
      record {
        lender = tt;
        fields = ap (λ (next : NextFrame). next.frame) is;
        refusal = tt;
        full = tt;
      },
    )

pub returns-in-None : goal.returns-in-None
returns-in-None c =
    let stream = c.args.self.now in
    let buffer = c.let_go-found.new.buffer.items in
    let places = c.pass.new.places.items in
    let passed = c.let_go-found.result.cursor in
    let frame : Option (List Tagged) = None in
    let is : record { frame = frame; stream = left_of buffer passed } ≡ next_read stream =
    ap (λ (body : Option Body). found_in buffer places body passed) (sym c.in-None.is)
    ∙ c.let_go-found.ensures.same places
    ∙ rw c.as_slice-bytes.ensures.value at c.in_ok-found.ensures.read
    ∙ ap next_read c.self.view_is in (
      (refl, (λ _. tt), ap (λ (next : NextFrame). next.stream) is),
      record {
        lender = tt;
        fields = ap (λ (next : NextFrame). next.frame) is;
        refusal = tt;
        full = tt;
      },
    )
