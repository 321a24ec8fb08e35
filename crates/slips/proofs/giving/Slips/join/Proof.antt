-- `join` hands all slips to one holder. Assumes `Logic`.
use Rattle.std.proofs.Common.{◌≡◌, List, [], ◌∷◌, ◌++◌, refl}
use mir.Syntax.{a_type, named}
use mir.Val.{Val, vunit, vptr}
use mir.MapTy.{inst_fn}
use base.Logic.{SProp, sep}
use base.Fml.{ftrue, flft}
use types.Kit.{‵, raw, ◌⊛◌, given, ◌$◌, ◌∵◌, !, qed, by, move, keep, drop, split, join, fsplit, fsplit3, fjoin, fjoin3, learn, use0, use2, feq_i}
use types.Run.{unit_lit, of_opd, returns, enter}
use types.ByLocal.{alloc_all, pass_all, free_all, look_at, sets}
use contract.Monad.{fact}
use contract.Running.{tables}
use denote.RattleType.{RattleType, owns}
use denote.Ref.{mut_vals, mut_Tells}
use denote.Signature.{types_at, plain}
use denote.Steps.{nothing, opens, closes}
use denote.Param.{param, layouts}
use denote.Triple.Walked.{Stays, stay_ref, walk_of, Goes-ref}
use Rattle.slips.specs.contracts.giving.Slips as slips
use Rattle.slips.proofs.Steps as steps
use Rattle.agreed_list.proofs.Walks.{proved, leaves}
use Rattle.slips.proofs.Told.{tells_two}
use Rattle.slips.specs.contracts.giving.Slips.join.{ended, clauses}
use Rattle.slips.specs.contracts.giving.Slips.join.Key.{name as #self}
use Rattle.slips.proofs.giving.Slips.join.Statement.{statement}
use Rattle.slips.proofs.giving.Slips.join.Code as code

pub join_spec : {M : Type 1} → statement M
join_spec 𝓤 𝓛 𝓜 𝓡 wired U _ =
    let H = 𝓛.H in let 𝓣 = tables 𝓤 H 𝓜 𝓡 𝓡.env in let W : RattleType = param 0 U in let En = ended U in let c = clauses U 𝓛 𝓜.mem 𝓡.returns in
    let inst = layouts (a_type ∷ []) (U, tt) in let fn = inst_fn inst code.function in let closed = code.unfolded 𝓤 H 𝓜 𝓡 wired (U, tt) in
    let A : RattleType = slips.the_row W in let B : RattleType = slips.the_row W in let cv = W.coded in
    let hs : Stays En.signature.params En.kept = (stay_ref (0 ∷ []) tt (plain (λ _. A)), (stay_ref (1 ∷ []) tt (plain (λ _. B)), tt)) in
    proved 𝓛 En hs c 𝓜 𝓡 (Goes-ref 𝓛 3 0 tt (plain (λ _. A)), (Goes-ref 𝓛 3 1 tt (plain (λ _. B)), tt)) (#self inst) fn closed
    (λ κs. (mut_vals, (mut_vals, tt))) (λ κs. (mut_Tells (named 0) κs.0 A, (mut_Tells (named 1) κs.1.0 B, tt))) (λ κs qs bounds a gh are.
    let r = a.0 in let s = a.1.0 in let h : A.Denot = r.now in let k : B.Denot = s.now in
    let u : Val = vptr r.ref_ptr.0 r.ref_ptr.1 in let v : Val = vptr s.ref_ptr.0 s.ref_ptr.1 in let xs : List W.Denot = h.held ++ k.held in let ys : List W.Denot = [] in
    let h' : A.Denot = record { marker = h.marker; name = h.name; held = xs } in let k' : B.Denot = record { marker = k.marker; name = k.name; held = ys } in
    let y : (walk_of 𝓛 En hs c).Ghost = ((κs, qs, bounds, a, (u ∷ [], (v ∷ [], tt))), gh) in let Post : Val → SProp 𝓤 = (walk_of 𝓛 En hs c).post y in
    qed 𝓛 (((‵ (flft κs.0 qs.0) ⊛ ‵ (flft κs.1.0 qs.1.0) ⊛ ‵ (flft κs.1.1.0 qs.1.1.0) ⊛ ‵ ftrue) ⊛ ‵ (owns (types_at En.signature.params κs) a y.0.4)) ∷ raw (fact 𝓤 _) ∷ given (h.name ≡ k.name) (‵ ftrue) ∷ []) ∵
    keep ! (2 ∷ 0 ∷ []) $ learn ! (λ same. drop ! $ split ! $ split ! $ move ! (1 ∷ []) $ split ! $ move ! (3 ∷ []) $ fsplit ! $ fsplit3 ! $ drop ! $ move ! (2 ∷ []) $ fsplit ! $ fsplit3 ! $ drop ! $
    keep ! (3 ∷ 4 ∷ 7 ∷ 0 ∷ 1 ∷ 5 ∷ 6 ∷ []) $ enter ! 𝓣.C 𝓣.Λ fn (u ∷ v ∷ []) Post $ alloc_all ! (λ l. pass_all ! refl ((tt, tt), ((tt, tt), tt)) $
    opens ! tt A r.ref_ptr.0 r.ref_ptr.1 (λ cs. move ! (5 ∷ 6 ∷ 7 ∷ []) $ opens ! tt B s.ref_ptr.0 s.ref_ptr.1 (λ ds. move ! (1 ∷ []) $ fsplit ! $ move ! (7 ∷ []) $ fsplit ! $ move ! (1 ∷ 3 ∷ []) $
    use2 𝓛 (‵ (steps.slips 𝓛 cv h.name xs) ⊛ ‵ (steps.slips 𝓛 cv k.name ys)) (steps.joins 𝓛 cv h.name k.name h.held k.held same) $
    split ! $ move ! (2 ∷ 0 ∷ []) $ fjoin ! $ move ! (2 ∷ 1 ∷ []) $ fjoin ! $
    move ! (2 ∷ 0 ∷ 3 ∷ 4 ∷ 5 ∷ []) $ closes ! tt B k' ds s.ref_ptr.0 s.ref_ptr.1 $ move ! (4 ∷ 3 ∷ 5 ∷ 6 ∷ 7 ∷ []) $ closes ! tt A h' cs r.ref_ptr.0 r.ref_ptr.1 $
    sets ! (of_opd ! (unit_lit !)) refl (tt, tt) $ returns ! (look_at ! 0 refl) $ free_all ! refl $
    feq_i ! (List Val) (u ∷ []) (u ∷ []) refl $ fjoin3 ! $ move ! (2 ∷ 3 ∷ []) $ feq_i ! (List Val) (v ∷ []) (v ∷ []) refl $ fjoin3 ! $
    nothing ! $ move ! (1 ∷ 0 ∷ []) $ fjoin ! $ move ! (1 ∷ 0 ∷ []) $ fjoin ! $
    feq_i ! (List Val) (vunit ∷ []) (vunit ∷ []) refl $ move ! (3 ∷ 4 ∷ []) $ join ! $ move ! (3 ∷ 0 ∷ []) $ join ! $
    let Mine : Type 0 = (h.name ≡ h.name) × (xs ≡ h.held ++ k.held) in let Others : Type 0 = (k.name ≡ k.name) × (ys ≡ []) in
    use0 𝓛 (raw (sep 𝓤 (fact 𝓤 Mine) (fact 𝓤 Others))) (tells_two 𝓤 Mine Others (refl, refl) (refl, refl)) $
    keep ! (1 ∷ 3 ∷ 2 ∷ 0 ∷ []) $ by ! (leaves 𝓛 En hs c y vunit tt (h', (k', tt)) (tt, (tt, tt))))))))
