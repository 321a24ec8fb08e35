use Rattle.session_core.proofs.CallsMade.{connect-adds, send_leg-adds, receive-adds, quiet-adds, silent-adds, close-adds}
use Rattle.session_trace.proofs.step_made.step_made.Goals as goal

pub returns-in-Connect : goal.returns-in-Connect
returns-in-Connect g c =
    rw c.in-Connect.is
    (connect-adds _ c.args.stamp.now c.args.session.now c.connect.new.self c.connect.result c.step_given.result
    c.connect.ensures c.step_given.ensures)

pub returns-in-SendLeg : goal.returns-in-SendLeg
returns-in-SendLeg g c =
    rw c.in-SendLeg.is
    (send_leg-adds _ c.args.stamp.now c.args.session.now c.send_leg.new.self c.in-SendLeg.ordinal c.in-SendLeg.leg
    c.send_leg.result c.step_given-in-SendLeg.result c.send_leg.ensures c.step_given-in-SendLeg.ensures)

pub returns-in-Receive : goal.returns-in-Receive
returns-in-Receive g c =
    rw c.in-Receive.is
    (receive-adds _ c.args.stamp.now c.args.session.now c.receive.new.self _ c.receive.result c.given.result
    c.receive.ensures.gives c.given.ensures)

pub returns-in-Quiet : goal.returns-in-Quiet
returns-in-Quiet g c =
    rw c.in-Quiet.is
    (quiet-adds _ c.args.stamp.now c.args.session.now c.quiet.new.self c.quiet.result c.given-in-Quiet.result
    c.quiet.ensures.gives c.given-in-Quiet.ensures)

pub returns-in-Silent : goal.returns-in-Silent
returns-in-Silent g c =
    rw c.in-Silent.is
    (silent-adds _ c.args.stamp.now c.args.session.now c.silent.new.self c.silent.result c.given-in-Silent.result
    c.silent.ensures.gives c.given-in-Silent.ensures)

pub returns-in-Close : goal.returns-in-Close
returns-in-Close g c =
    rw c.in-Close.is
    (close-adds _ c.args.stamp.now c.args.session.now c.close.new.self c.close.result c.given-in-Close.result
    c.close.ensures.gives c.given-in-Close.ensures)
