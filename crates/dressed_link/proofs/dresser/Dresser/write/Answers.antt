use Rattle.std.proofs.Common.{rules, ◌≡◌, true, subst, sym, ap, take, ◌∙◌}
use Rattle.link.specs.Traffic.{Tells, Takes}
use Rattle.link.specs.Told.{with_written}
use Rattle.dressed_link.specs.Passing.{Passes, told_over}
use Rattle.dressed_link.proofs.Fronts.{taken_from}
use Rattle.dressed_link.proofs.Passing.{flushed, tells_on, tells_on_on, told_taken, took}
use Rattle.dressed_link.proofs.dresser.Dresser.write.Goals as goal

pub returns-in_err-flush-clause-carries : goal.returns-in_err-flush-clause-carries
returns-in_err-flush-clause-carries g c =
    let own = c.args.self.now in
    let gone = c.in_err-flush.ensures.gone in
    λ passes. (
    flushed own.dress own.is_up own.pending.items gone.0 _ own.told.traffic _ _ passes gone.1 gone.2)

pub returns-in_default-clause-carries : goal.returns-in_default-clause-carries
returns-in_default-clause-carries g c =
    let own = c.args.self.now in
    let gone = c.in_ok-flush.ensures.gone in
    λ passes. (
    subst (λ items. Passes own.dress own.is_up items own.told.traffic (g.K.Link.wire c.flush.new.link))
    (sym c.in_default.ensures.err)
    (flushed own.dress own.is_up own.pending.items gone.0 _ own.told.traffic _ _ passes gone.1 gone.2))

pub returns-clause-carries : goal.returns-clause-carries
returns-clause-carries g c =
    let wire = g.K.Link.wire in
    let own = c.args.self.now in
    let bytes = c.args.bytes.now in
    let gone = c.in_ok-flush.ensures.gone in
    let later = c.flush-2.ensures.gone in
    let up : own.is_up ≡ true = search rules in
    let front = taken_from own.dress bytes c.in-Ok.count c.flush.new.pending.items c.put_on.new.out.items
    c.in-Ok.ensures.ok in
    let told : c.wrote-self.result.traffic ≡ with_written (take c.in-Ok.count bytes) own.told.traffic =
    c.wrote-self.ensures ∙ ap (λ xs. with_written xs own.told.traffic) c.split_at.ensures.front in
    λ passes. (
    subst (λ tolds. Passes own.dress own.is_up c.flush-2.new.pending.items tolds (wire c.flush-2.new.link)) (sym told)
    (flushed own.dress own.is_up c.put_on.new.out.items later.0 c.flush-2.new.pending.items
    (with_written (take c.in-Ok.count bytes) own.told.traffic) (wire c.flush.new.link) (wire c.flush-2.new.link)
    (took own.dress own.is_up c.flush.new.pending.items c.put_on.new.out.items (take c.in-Ok.count bytes) front.fields
    own.told.traffic (wire c.flush.new.link) up
    (flushed own.dress own.is_up own.pending.items gone.0 c.flush.new.pending.items own.told.traffic _ _ passes gone.1
    gone.2) front.valid front.pushed) later.1 later.2))

pub returns-clause-bound : goal.returns-clause-bound
returns-clause-bound g c =
    let front = taken_from c.args.self.now.dress c.args.bytes.now c.in-Ok.count c.flush.new.pending.items
    c.put_on.new.out.items c.in-Ok.ensures.ok in
    (front.within, λ any. front.some)

pub returns-clause-wire : goal.returns-clause-wire
returns-clause-wire g c =
    let wire = g.K.Link.wire in
    let own = c.args.self.now in
    let text = take c.in-Ok.count c.args.bytes.now in
    let gone = c.in_ok-flush.ensures.gone in
    let later = c.flush-2.ensures.gone in
    let up : own.is_up ≡ true = search rules in
    let told : c.wrote-self.result.traffic ≡ with_written text own.told.traffic =
    c.wrote-self.ensures ∙ ap (λ xs. with_written xs own.told.traffic) c.split_at.ensures.front in
    subst (λ tolds. Tells (told_over own.told.traffic (wire c.args.link.now)) (told_over tolds (wire c.flush-2.new.link))
    (Takes text)) (sym told)
    (told_taken text own.told.traffic _ _ (own.begun up)
    (tells_on_on _ _ _ (tells_on (Takes gone.0) _ _ gone.2) (tells_on (Takes later.0) _ _ later.2)))
