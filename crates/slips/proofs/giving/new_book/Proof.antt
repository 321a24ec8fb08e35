-- `new_book` makes the first cell of a chain. Assumes `Logic`.
use Rattle.std.proofs.Common.{◌≡◌, ℕ, List, [], ◌∷◌, ◌++◌, refl}
use mir.Syntax.{a_type}
use mir.Val.{Val, vstruct, vcons, vnil, of_list}
use mir.MapTy.{inst_fn}
use base.Logic.{SProp, emp}
use base.Fml.{fsep, feq}
use types.Kit.{‵, raw, ◌⊛◌, some, later, ◌$◌, ◌∵◌, !, qed, by, move, keep, split, join, fsplit, fjoin, fjoin3, fpack, pick, use0, await, feq_i}
use types.Run.{no_more, and_then, returns, enter}
use types.ByLocal.{alloc_all, pass_all, free_all, look_at, get, sets}
use types.Part.{agg}
use contract.Monad.{fact, fact_i}
use contract.Running.{tables}
use denote.RattleType.{RattleType, Valss, owns}
use denote.Signature.{types_at}
use denote.Steps.{nothing}
use denote.Param.{param, layouts}
use denote.Triple.Entry.{alive}
use denote.Triple.Walked.{Stays, walk_of}
use Rattle.slips.specs.contracts.giving.SlipBook as book
use Rattle.slips.proofs.Steps as steps
use Rattle.agreed_list.proofs.Walks.{token, Token, token_made, proved, leaves}
use Rattle.slips.specs.contracts.giving.new_book.{ended, clauses}
use Rattle.slips.specs.contracts.giving.new_book.Key.{name as #self}
use Rattle.slips.proofs.giving.new_book.Statement.{statement}
use Rattle.slips.proofs.giving.new_book.Code as code

pub new_book_spec : {M : Type 1} → statement M
new_book_spec 𝓤 𝓛 𝓜 𝓡 wired U _ =
    let H = 𝓛.H in let 𝓣 = tables 𝓤 H 𝓜 𝓡 𝓡.env in let W : RattleType = param 0 U in let En = ended U in let c = clauses U 𝓛 𝓜.mem 𝓡.returns in
    let inst = layouts (a_type ∷ []) (U, tt) in let fn = inst_fn inst code.function in let closed = code.unfolded 𝓤 H 𝓜 𝓡 wired (U, tt) in
    let A : RattleType = book.the_row W in let cv = W.coded in
    let hs : Stays En.signature.params En.kept = tt in
    proved 𝓛 En hs c 𝓜 𝓡 tt (#self inst) fn closed (λ κs. tt) (λ κs. tt) (λ κs qs bounds a gh are.
    let y : (walk_of 𝓛 En hs c).Ghost = ((κs, qs, bounds, a, tt), gh) in let Post : Val → SProp 𝓤 = (walk_of 𝓛 En hs c).post y in
    qed 𝓛 ((raw (alive 𝓛 En.signature κs qs) ⊛ ‵ (owns (types_at En.signature.params κs) a y.0.4)) ∷ raw ((c κs a).requires gh) ∷ []) ∵
    split ! $ keep ! (0 ∷ []) $ enter ! 𝓣.C 𝓣.Λ fn [] Post $ alloc_all ! (λ l. pass_all ! refl tt $
    use0 𝓛 (later (some (λ (γ : ℕ). ‵ (steps.book 𝓛 cv γ [])))) (steps.begins 𝓛 cv) $ await ! tt $ pick ! (λ γ.
    let r : A.Denot = record { marker = record {}; name = γ; given = [] } in
    use0 𝓛 (‵ ((Token W).own_val (record {}, tt) (token ∷ []))) (token_made W 𝓛) $ fjoin ! $
    sets ! (agg ! (no_more !)) refl (tt, tt) $ sets ! (agg ! (and_then ! (get ! refl) (no_more !))) refl (tt, (tt, tt)) $
    let Empty : Type 0 = r.given ≡ [] in use0 𝓛 (raw (fact 𝓤 Empty)) (fact_i 𝓤 Empty (emp 𝓤) refl) $ nothing ! $
    returns ! (look_at ! 0 refl) $ free_all ! refl $ keep ! (3 ∷ 0 ∷ 2 ∷ 1 ∷ []) $ by ! (leaves 𝓛 En hs c y token r tt tt))))
