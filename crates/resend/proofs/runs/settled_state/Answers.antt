use Rattle.std.proofs.Common.{◌≡◌, nat_le, true, false, refl, arith}
use Rattle.std.proofs.lemmas.Bool.Decides.{nat_tests}
use Rattle.resend.proofs.Ordinals.{ends_rise, state_among-found}
use Rattle.resend.proofs.runs.settled_state.Goals as goal

pub runs_ended-requires : goal.runs_ended-requires
runs_ended-requires c = ends_rise 0 _ c.requires

pub returns-in-Some : goal.returns-in-Some
returns-in-Some c =
    let here : nat_le c.in-Some.run'.first_ordinal c.args.ordinal ≡ true = (let le = c.if-run-ordinal.true in grind (arith, nat_tests, le)) in
    rw (state_among-found c.args.ordinal c.args.runs.now _ _ c.requires c.runs_ended.ensures c.run_in.ensures, c.in-Some.is, here) refl

pub returns-in_default : goal.returns-in_default
returns-in_default c =
    let out : nat_le c.in-Some.run'.first_ordinal c.args.ordinal ≡ false = (let lt = c.if-run-ordinal.false in grind (arith, nat_tests, lt)) in
    rw (state_among-found c.args.ordinal c.args.runs.now _ _ c.requires c.runs_ended.ensures c.run_in.ensures, c.in-Some.is, out) refl

pub returns-in_default-2 : goal.returns-in_default-2
returns-in_default-2 c =
    rw (state_among-found c.args.ordinal c.args.runs.now _ _ c.requires c.runs_ended.ensures c.run_in.ensures, c.in_default.is) refl
