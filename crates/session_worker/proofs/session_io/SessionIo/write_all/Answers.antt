use Rattle.std.proofs.Common.{◌≡◌, ℕ, List, length, take, refl, sym, ap, subst, ◌∙◌, arith}
use Rattle.std.proofs.lemmas.List.{length-map}
use Rattle.std.specs.Global.{Vec}
use Rattle.std.proofs.lemmas.Bool.Decides.{nat_tests}
use Rattle.std.specs.List.{concat}
use Rattle.link.specs.Traffic.{Tells, Takes, TakesPart}
use Rattle.link.proofs.Taking.{tells_nothing}
use Rattle.kept_link.specs.Telling.{IsAllKept}
use Rattle.session_worker.specs.Speaking.{Wire}
use Rattle.session_worker.specs.Linking.{SessionIoParts, io_of}
use Rattle.session_worker.proofs.Spoken.{texts, frame_more, frame_part, frames_all}
use Rattle.session_worker.proofs.Steps.{writes_none, writes_kept, writes_failed}
use Rattle.session_worker.proofs.session_io.SessionIo.write_all.Goals as goal

pub returns-then-is_empty-clause-wire : goal.returns-then-is_empty-clause-wire
returns-then-is_empty-clause-wire g c =
    let none : length c.into_vec-frames.result.items ≡ 0 = grind (arith, nat_tests) in
    writes_none c.args.frames c.args.self.now
    (ap length (sym c.into_vec-frames.ensures)
    ∙ (length-map c.into_vec-frames.result.items (λ (frame : Vec ℕ). frame.items) ∙ none))

pub loop-frame-init : goal.loop-frame-init
loop-frame-init g c = (refl, tells_nothing _, refl, refl, c.keep.ensures.kept)

pub write-requires : goal.write-requires
write-requires g c =
    record { kept = subst (λ (x : SessionIoParts). IsAllKept x.told) (sym c.self.view_is) c.loop-frame.invariant.4 }

pub loop-frame-preserved : goal.loop-frame-preserved
loop-frame-preserved g c =
    let a : Wire = c.keep.new.self.wire in
    let b : Wire = c.self.inside.door.wire in
    let d : Wire = c.write.new.self.wire in
    let is = ap (λ (x : SessionIoParts). x.wire) (sym c.self.view_is) in
    let so_far = c.loop-frame.invariant in
    let wrote : Tells b d (Takes c.frame-item.result.items) =
    subst (λ (bytes : List ℕ). Tells b d (Takes bytes)) c.as_slice.ensures.value c.in-Ok.ensures.wire in (
      ap (λ (x : SessionIoParts). x.session) c.self.view_is ∙ so_far.0,
      frame_more c.deref-frame-items.result.now c.loop-frame.frame-index c.frame-item.result c.loop-frame-test.true
          c.frame-item.is a b d
          (subst (λ (v : Wire). Tells a v (Takes (concat (texts (take c.loop-frame.frame-index c.deref-frame-items.result.now))))) is so_far.1)
          wrote,
      ap (λ (x : SessionIoParts). x.stream) c.self.view_is ∙ so_far.2,
      ap (λ (x : SessionIoParts). x.told) c.self.view_is ∙ so_far.3,
      subst (λ (x : SessionIoParts). IsAllKept x.told) (sym c.self.view_is) so_far.4,
    )

pub returns-in-Err-clause-wire : goal.returns-in-Err-clause-wire
returns-in-Err-clause-wire g c =
    let kept : SessionIoParts = c.keep.new.self in
    let a : Wire = kept.wire in
    let b : Wire = c.self.inside.door.wire in
    let d : Wire = c.write.new.self.wire in
    let left : SessionIoParts = io_of c.self.inside.session d c.self.inside.reader (g.J.Telling.told c.self.inside.journal) in
    let is = ap (λ (x : SessionIoParts). x.wire) (sym c.self.view_is) in
    let so_far = c.loop-frame.invariant in
    let wrote : Tells b d (TakesPart c.frame-item.result.items) =
    subst (λ (bytes : List ℕ). Tells b d (TakesPart bytes)) c.as_slice.ensures.value c.in-Err.ensures.wire in
    let part : Tells a d (TakesPart (concat c.args.frames)) =
    subst (λ (frames : List (List ℕ)). Tells a d (TakesPart (concat frames))) (ap texts c.deref-frame-items.ensures.value ∙ c.into_vec-frames.ensures)
    (frame_part c.deref-frame-items.result.now c.loop-frame.frame-index c.frame-item.result c.loop-frame-test.true
    c.frame-item.is a b d
    (subst (λ (v : Wire). Tells a v (Takes (concat (texts (take c.loop-frame.frame-index c.deref-frame-items.result.now))))) is so_far.1)
    wrote) in
    writes_failed (concat c.args.frames) c.args.self.now kept left c.break_off.new.self c.keep.ensures.still
    (ap (λ (x : SessionIoParts). x.session) c.self.view_is ∙ so_far.0) part
    (ap (λ (x : SessionIoParts). x.told) c.self.view_is ∙ so_far.3)
    c.break_off.ensures.session c.break_off.ensures.wire c.break_off.ensures.told

pub returns-clause-wire : goal.returns-clause-wire
returns-clause-wire g c =
    let kept : SessionIoParts = c.keep.new.self in
    let now : SessionIoParts = c.loop-frame.self in
    writes_kept (concat c.args.frames) c.args.self.now kept now c.keep.ensures.still c.loop-frame.invariant.0
    (subst (λ (frames : List (List ℕ)). Tells kept.wire now.wire (Takes (concat frames))) (ap texts c.deref-frame-items.ensures.value ∙ c.into_vec-frames.ensures)
    (frames_all c.deref-frame-items.result.now c.loop-frame.frame-index kept.wire now.wire c.loop-frame-test.false c.loop-frame.invariant.1))
    c.loop-frame.invariant.3

pub returns-in-Err-clause-stream : goal.returns-in-Err-clause-stream
returns-in-Err-clause-stream g c =
    c.break_off.ensures.stream ∙ (ap (λ (x : SessionIoParts). x.stream) c.self.view_is
    ∙ (c.loop-frame.invariant.2 ∙ c.keep.ensures.still.stream))

pub returns-clause-stream : goal.returns-clause-stream
returns-clause-stream g c = c.loop-frame.invariant.2 ∙ c.keep.ensures.still.stream
