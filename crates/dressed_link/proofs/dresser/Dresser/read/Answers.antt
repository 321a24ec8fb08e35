use Rattle.std.proofs.Common.{rules, ◌≡◌, true, refl, subst, sym, ap, take, ◌∙◌, arith}
use Rattle.link.specs.Traffic.{Tells, Takes, GivesBytes, Gives}
use Rattle.link.specs.Told.{with_read}
use Rattle.dressed_link.specs.Passing.{Passes, told_over}
use Rattle.dressed_link.proofs.Passing.{faults_kept, flushed, gave, stayed, stays_given, tells_none, tells_on, tells_on_on, told_given, told_so}
use Rattle.dressed_link.proofs.dresser.Dresser.read.Goals as goal

pub returns-in_err-flush-clause-carries : goal.returns-in_err-flush-clause-carries
returns-in_err-flush-clause-carries g c =
    let own = c.args.self.now in
    let gone = c.in_err-flush.ensures.gone in
    λ passes. (
    flushed own.dress own.is_up own.pending.items gone.0 _ own.told.traffic _ _ passes gone.1 gone.2)

pub returns-in_err-got-clause-carries : goal.returns-in_err-got-clause-carries
returns-in_err-got-clause-carries g c =
    let own = c.args.self.now in
    let gone = c.in_ok-flush.ensures.gone in
    λ passes. (
    stayed own.dress own.is_up _ own.told.traffic _ _
    (flushed own.dress own.is_up own.pending.items gone.0 _ own.told.traffic _ _ passes gone.1 gone.2)
    c.in_err-got.ensures.wire)

pub returns-in-Bytes-clause-carries : goal.returns-in-Bytes-clause-carries
returns-in-Bytes-clause-carries g c =
    let wire = g.K.Link.wire in
    let own = c.args.self.now in
    let gone = c.in_ok-flush.ensures.gone in
    let bytes = take c.in-Bytes.count c.read.new.buf in
    let gives : Tells (wire c.flush.new.link) (wire c.read.new.self) (GivesBytes bytes) =
    subst (λ got. Tells (wire c.flush.new.link) (wire c.read.new.self) (Gives got c.read.new.buf)) c.in-Bytes.is
    c.in_ok-got.ensures.wire in
    let told : c.gave-self.result.traffic ≡ with_read bytes own.told.traffic =
    c.gave-self.ensures ∙ ap (λ xs. with_read xs own.told.traffic) c.split_at.ensures.front in
    λ passes. (
    subst (λ tolds. Passes own.dress own.is_up c.flush.new.pending.items tolds (wire c.read.new.self)) (sym told)
    (gave own.dress own.is_up c.flush.new.pending.items bytes own.told.traffic _ _
    (flushed own.dress own.is_up own.pending.items gone.0 _ own.told.traffic _ _ passes gone.1 gone.2) gives))

pub returns-in-Bytes-clause-wire : goal.returns-in-Bytes-clause-wire
returns-in-Bytes-clause-wire g c =
    let wire = g.K.Link.wire in
    let own = c.args.self.now in
    let gone = c.in_ok-flush.ensures.gone in
    let bytes = take c.in-Bytes.count c.read.new.buf in
    let gives : Tells (wire c.flush.new.link) (wire c.read.new.self) (GivesBytes bytes) =
    subst (λ got. Tells (wire c.flush.new.link) (wire c.read.new.self) (Gives got c.read.new.buf)) c.in-Bytes.is
    c.in_ok-got.ensures.wire in
    let told : c.gave-self.result.traffic ≡ with_read bytes own.told.traffic =
    c.gave-self.ensures ∙ ap (λ xs. with_read xs own.told.traffic) c.split_at.ensures.front in
    let up : own.is_up ≡ true = search rules in
    subst (λ tolds. Tells (told_over own.told.traffic (wire c.args.link.now)) (told_over tolds (wire c.read.new.self))
    (GivesBytes bytes)) (sym told)
    (told_given bytes own.told.traffic _ _ (own.begun up)
    (tells_on_on _ _ _ (tells_on (Takes gone.0) _ _ gone.2) (tells_on (GivesBytes bytes) _ _ gives)))

pub returns-in_default : goal.returns-in_default
returns-in_default g c =
    let own = c.args.self.now in
    let gone = c.in_ok-flush.ensures.gone in
    let none = tells_none c.in_ok-got.got c.read.new.buf _ _ c.in_default.not-Bytes c.in_ok-got.ensures.wire in
    let flush_kept = c.in_ok-flush.ensures.faults in
    let read_kept = c.in_ok-got.ensures.faults in
    record {
      carries = λ passes. (
          stayed own.dress own.is_up _ own.told.traffic _ _
          (flushed own.dress own.is_up own.pending.items gone.0 _ own.told.traffic _ _ passes gone.1 gone.2) none);
      dress = refl;
      bound = c.in_ok-got.ensures.bound;
      wire = told_so (Gives c.in_ok-got.got c.read.new.buf) own.told.traffic own.told.traffic _ _
          (tells_on_on _ _ _ (tells_on (Takes gone.0) _ _ gone.2)
          (tells_on (Gives c.in_ok-got.got c.read.new.buf) _ _ c.in_ok-got.ensures.wire))
          (stays_given c.in_ok-got.got c.read.new.buf own.told.traffic c.in_default.not-Bytes);
      faults = faults_kept _ _ own.faults (omega (arith, flush_kept, read_kept));
    }
