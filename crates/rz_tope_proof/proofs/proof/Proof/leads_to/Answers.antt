use Rattle.std.proofs.Common.{◌≡◌, List, Bool, length, ◌∙◌, ap, sym, subst, arith, Some, inl, inr}
use Rattle.std.specs.Prelude.{slice_get, ◌||◌}
use Rattle.std.proofs.lemmas.Bool.{eq-eqb, ne_eqb}
use Rattle.rz_tope_proof.specs.Leading.{is_marked, leads_by, AreMarks}
use Rattle.rz_tope_proof.proofs.Leading.{leads_by-at, marks-next, marks-same, proves-without, first_or_rest}
use Rattle.rz_tope_proof.proofs.proof.Proof.leads_to.Goals as goal
use Rattle.rz_tope_proof.proofs.proof.Proof.leads_to.Goals.{then-number-leaf, else-number-leaf}

pub loop-number-preserved : goal.loop-number-preserved
loop-number-preserved c =
    let i = c.loop-number.number in
    let leaf = c.args.leaf in
    let leads = c.loop-number.leads.items in
    record {
      all = omega (arith, c.in_ok-push.ensures.len, c.loop-number.invariant.all);
      marks = subst (AreMarks c.args.self.now leaf) (sym c.in_ok-push.ensures.items)
          (marks-next c.args.self.now leaf i leads c.if-number-leaf.found
          c.loop-number.invariant.all c.loop-number.invariant.marks (λ step at. elim c.if-number-leaf.branch [
            | then-number-leaf w ↦
                w.found-is ∙ eq-eqb i leaf w.if-number-leaf.true
                ∙ ap (λ (b : Bool). b || leads_by leads step.reason) (sym (eq-eqb i leaf w.if-number-leaf.true))
            | else-number-leaf w ↦
                let here : slice_get c.deref-step-items.result.now i ≡ Some step = cc in
                w.found-is ∙ leads_by-at _ _ leads c.deref-step-items.result.now i step _ here w.deref.ensures.value w.leads_by-found.ensures
                ∙ ap (λ (b : Bool). b || leads_by leads step.reason) (sym (ne_eqb i leaf w.if-number-leaf.false))
          ]));
    }

-- each inference has a mark or none
full : (c : goal.After-drop-leads-2) → length c.loop-number.leads.items ≡ length c.args.self.now
full c =
    let same : c.deref-step-items.result.now ≡ c.args.self.now = cc in
    omega (arith, ap length same, c.loop-number.auto.number-end, c.loop-number-test.false, c.loop-number.invariant.all)

pub returns-clause-exact : goal.returns-clause-exact
returns-clause-exact c marks whole are =
    c.is_marked.ensures
    ∙ ap (λ (ms : List Bool). is_marked ms c.args.inference)
    (c.deref-2.ensures.value ∙ marks-same c.args.self.now c.args.leaf c.loop-number.leads.items marks (full c) whole c.loop-number.invariant.marks are)

pub returns-clause-without : goal.returns-clause-without
returns-clause-without c = λ no nodes context assumed tope proves.
    proves-without nodes context c.args.self.now c.loop-number.leads.items c.args.leaf (full c) c.loop-number.invariant.marks proves
    (ap (λ (ms : List Bool). is_marked ms c.args.inference) (sym c.deref-2.ensures.value) ∙ sym c.is_marked.ensures ∙ no) assumed
    (λ a has ne. elim (first_or_rest assumed c.args.leaf a has) [ inl same ↦ absurd (ne same) | inr rest ↦ rest ])
