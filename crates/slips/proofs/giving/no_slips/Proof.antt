-- `no_slips` owns nothing. Assumes `Logic`.
use Rattle.std.proofs.Common.{◌≡◌, ℕ, List, [], ◌∷◌, ◌++◌, refl}
use mir.Syntax.{a_type}
use mir.Val.{Val, vstruct, vcons, vnil, of_list}
use mir.MapTy.{inst_fn}
use base.Logic.{SProp, emp, sep}
use base.Fml.{fsep, feq}
use types.Kit.{‵, raw, ◌⊛◌, some, later, ◌$◌, ◌∵◌, !, qed, by, move, keep, split, join, fsplit, fjoin, fjoin3, fpack, pick, use0, await, feq_i}
use types.Run.{no_more, and_then, returns, enter}
use types.ByLocal.{alloc_all, pass_all, free_all, look_at, get, sets}
use types.Part.{agg}
use contract.Monad.{fact}
use contract.Running.{tables}
use denote.RattleType.{RattleType, Valss, owns}
use denote.Signature.{types_at}
use denote.Steps.{nothing}
use denote.Param.{param, layouts}
use denote.Triple.Entry.{alive}
use denote.Triple.Walked.{Stays, walk_of}
use Rattle.slips.specs.contracts.giving.Slips as slips
use Rattle.slips.proofs.Steps as steps
use Rattle.slips.proofs.Told.{tells_two}
use Rattle.agreed_list.proofs.Walks.{token, Token, token_made, proved, leaves}
use Rattle.slips.specs.contracts.giving.no_slips.{ended, clauses}
use Rattle.slips.specs.contracts.giving.no_slips.Key.{name as #self}
use Rattle.slips.proofs.giving.no_slips.Statement.{statement}
use Rattle.slips.proofs.giving.no_slips.Code as code

pub no_slips_spec : {M : Type 1} → statement M
no_slips_spec 𝓤 𝓛 𝓜 𝓡 wired U _ =
    let H = 𝓛.H in let 𝓣 = tables 𝓤 H 𝓜 𝓡 𝓡.env in let W : RattleType = param 0 U in let En = ended U in let c = clauses U 𝓛 𝓜.mem 𝓡.returns in
    let inst = layouts (a_type ∷ []) (U, tt) in let fn = inst_fn inst code.function in let closed = code.unfolded 𝓤 H 𝓜 𝓡 wired (U, tt) in
    let A : RattleType = slips.the_row W in let cv = W.coded in
    let hs : Stays En.signature.params En.kept = tt in
    proved 𝓛 En hs c 𝓜 𝓡 tt (#self inst) fn closed (λ κs. tt) (λ κs. tt) (λ κs qs bounds a gh are.
    let y : (walk_of 𝓛 En hs c).Ghost = ((κs, qs, bounds, a, tt), gh) in let Post : Val → SProp 𝓤 = (walk_of 𝓛 En hs c).post y in
    qed 𝓛 ((raw (alive 𝓛 En.signature κs qs) ⊛ ‵ (owns (types_at En.signature.params κs) a y.0.4)) ∷ raw ((c κs a).requires gh) ∷ []) ∵
    split ! $ keep ! (0 ∷ []) $ enter ! 𝓣.C 𝓣.Λ fn [] Post $ alloc_all ! (λ l. pass_all ! refl tt $
    use0 𝓛 (‵ (steps.slips 𝓛 cv gh [])) (steps.holds_none 𝓛 cv gh) $
    let r : A.Denot = record { marker = record {}; name = gh; held = [] } in
    use0 𝓛 (‵ ((Token W).own_val (record {}, tt) (token ∷ []))) (token_made W 𝓛) $ fjoin ! $
    sets ! (agg ! (no_more !)) refl (tt, tt) $ sets ! (agg ! (and_then ! (get ! refl) (no_more !))) refl (tt, (tt, tt)) $
    let Named : Type 0 = gh ≡ gh in let Empty : Type 0 = r.held ≡ [] in use0 𝓛 (raw (sep 𝓤 (fact 𝓤 Named) (fact 𝓤 Empty))) (tells_two 𝓤 Named Empty refl refl) $ nothing ! $
    returns ! (look_at ! 0 refl) $ free_all ! refl $ keep ! (3 ∷ 0 ∷ 2 ∷ 1 ∷ []) $ by ! (leaves 𝓛 En hs c y token r tt tt)))
