use Rattle.std.proofs.Common.{◌≡◌, ◌∷◌, [], ◌++◌, List, take, get_or, Contains, inl, inr, sym, subst, arith}
use Rattle.std.proofs.lemmas.List.{take_more}
use Rattle.std.proofs.lemmas.List.Elements.{Contains-append_left, Contains-push}
use Rattle.rz_subst.specs.declared.made.Answered.{Answered}
use Rattle.rz_subst.specs.Made.{answered}
use Rattle.rz_subst.proofs.Steps.{added}
use Rattle.rz_subst.proofs.made.add_all.Goals as goal

blank : Answered
blank = record { place = record { id = 0; depth = record { points = 0; terms = 0 } }; id = 0 }

pub loop-answered-preserved : goal.loop-answered-preserved
unfolding blank
loop-answered-preserved c place id is =
    let few = c.args.few.now in
    let i = c.loop-answered.answered-index in
    let item : Answered = get_or few i blank in
    let more = take_more few i blank (omega arith) in
    elim (added c.loop-answered.many c.insert.new.self item.place item.id c.in_ok-insert.ensures.updates.0 place id is) [
      | inl before ↦ elim (c.loop-answered.invariant place id before) [
        | inl old ↦ inl old
        | inr listed ↦ inr (subst (λ (xs : List Answered). Contains xs (answered place id)) (sym more) (Contains-append_left (take i few) (item ∷ []) (answered place id) listed))
      ]
      | inr here ↦
          let same : item ≡ answered place id = λ k. answered (sym here.0 k) (sym here.1 k) in
          inr (subst (λ (xs : List Answered). Contains xs (answered place id)) (sym more) (subst (Contains (take i few ++ item ∷ [])) same (Contains-push (take i few) item)))
    ]
