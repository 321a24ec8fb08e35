use Rattle.std.proofs.Common.{[], ◌∷◌, refl, subst}
use Rattle.session_worker.specs.Restoring.{StartParts, note_in, AsksFor}
use Rattle.session_worker.proofs.Redone.{start_of, asks_one}
use Rattle.session_worker.proofs.restoring.Start.withdraw.Goals as goal

pub returns-in-Ok : goal.returns-in-Ok
returns-in-Ok g c =
    let a : StartParts = start_of c.self.inside.session c.self.inside.takings c.self.inside.seat c.self.inside.told
    c.self.inside.booked (note_in c.self.inside.waiting) in
    let b : StartParts = record a { seat = c.withdraw.new.seat } in
    subst (λ (x : StartParts). AsksFor (c.args.id ∷ []) x b) c.self.view_is
    (asks_one a b c.args.id c.in-Ok.ensures.parts c.in-Ok.ensures.booked c.in-Ok.ensures.asked refl)

pub returns-in-Err : goal.returns-in-Err
returns-in-Err g c =
    let a : StartParts = start_of c.self.inside.session c.self.inside.takings c.self.inside.seat c.self.inside.told
    c.self.inside.booked (note_in c.self.inside.waiting) in
    let b : StartParts = record a { seat = c.withdraw.new.seat } in
    subst (λ (x : StartParts). AsksFor (c.args.id ∷ []) x b) c.self.view_is
    (asks_one a b c.args.id c.in-Err.ensures.parts c.in-Err.ensures.booked c.in-Err.ensures.asked refl)
