use Rattle.std.proofs.Common.{◌≡◌, Ok, Err, Result, rules, sym, subst, ◌∙◌}
use Rattle.desk_http.specs.declared.admitted.Admitted.{Admitted}
use Rattle.desk_http.specs.declared.refused.Refused.{Refused}
use Rattle.desk_http.specs.declared.refused.Refused.TheVariants.{WrongToken}
use Rattle.desk_http.specs.declared.reply.Kind.TheVariants.{Json}
use Rattle.desk_http.specs.Refused.{refused_status}
use Rattle.desk_http.specs.Reply.{IsReply, Sends, refused_json}
use Rattle.desk_http.proofs.connection.respond.Goals as goal

same_asked : (asked : Result Admitted Refused) (call other : Admitted) → asked ≡ Ok call → asked ≡ Ok other
    → call ≡ other
same_asked asked call other one two = cc

same_refused : (asked : Result Admitted Refused) (refused other : Refused) → asked ≡ Err refused → asked ≡ Err other
    → refused ≡ other
same_refused asked refused other one two = cc

not_both : {P : Type 0} (asked : Result Admitted Refused) (call : Admitted) (refused : Refused) → asked ≡ Ok call
    → asked ≡ Err refused → P
not_both asked call refused one two = absurd (let no : ⊥ = cc in no)

pub returns-in_ok-carry_out-in-Ok : goal.returns-in_ok-carry_out-in-Ok
returns-in_ok-carry_out-in-Ok g c =
    let is = sym c.allowed.ensures.value ∙ c.in-Ok.is in
    record {
      refused = rw is (search rules);
      told = λ refused err. not_both _ c.in-Ok.admitted refused is err;
      guessed = λ err. not_both _ c.in-Ok.admitted WrongToken is err;
      place = λ asked told. rw (same_asked _ asked c.in-Ok.admitted told is) c.in_ok-carry_out-in-Ok.ensures.place;
      close = λ asked told. rw (same_asked _ asked c.in-Ok.admitted told is) c.in_ok-carry_out-in-Ok.ensures.close;
    }

pub returns-in_ok-refuse-in-Err-clause-told : goal.returns-in_ok-refuse-in-Err-clause-told
returns-in_ok-refuse-in-Err-clause-told g c =
    λ refused asked.
    subst (λ r. Sends c.args.run.now c.args.stays
    (λ reply. IsReply reply (refused_status r) Json (refused_json c.args.door.now.users.items r))
    c.args.output.now.items c.refuse.new.output.items)
    (same_refused _ c.in-Err.refused refused (sym c.allowed.ensures.value ∙ c.in-Err.is) asked)
    c.in_ok-refuse-in-Err.ensures

pub returns-in_ok-refuse-in-Err-clause-guessed : goal.returns-in_ok-refuse-in-Err-clause-guessed
returns-in_ok-refuse-in-Err-clause-guessed g c =
    λ asked. c.turn_behind.ensures
    (same_refused _ c.in-Err.refused WrongToken (sym c.allowed.ensures.value ∙ c.in-Err.is) asked)
