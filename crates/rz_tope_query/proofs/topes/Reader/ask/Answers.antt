use Rattle.std.proofs.Common.{◌≡◌, length, Ok, refl, subst}
use Rattle.std.specs.Prelude.{IfNone, IfSome}
use Rattle.rz_rules.specs.Tree.{Tree, tree_of}
use Rattle.rz_syntax.specs.declared.forms.Raw.{Raw}
use Rattle.rz_shape.specs.Answer.{IsRead, bindings_at}
use Rattle.rz_shape.specs.Reading.{Reading}
use Rattle.rz_tope_query.specs.Sequent.{tope_context}
use Rattle.rz_tope_query.specs.Parts.{HasOpened, IsNoReading, tope_of}
use Rattle.rz_tope_query.proofs.Asking.{goal_over, no_goal}
use Rattle.rz_tope_query.proofs.Opening.{context_cubes, opened_grown, over_grown, over_same, over_there, topes_kept}
use Rattle.rz_tope_query.proofs.topes.Reader.ask.Goals as goal

pub returns-in_default-2-clause-none : goal.returns-in_default-2-clause-none
returns-in_default-2-clause-none c =
    let old = c.args.w.now.pool.nodes in
    let later = c.with_entries.new.w in
    let reader = c.args.self.now in
    let context = tree_of old c.args.opened.0 in
    let hypotheses = c.args.hypotheses.now in
    let has = subst (λ o. IfSome o (HasOpened later (tope_context (tope_of old reader) context hypotheses))) c.in-Some.is c.in_ok-whole.ensures.opened in
    let same = topes_kept old later.pool.nodes context reader c.with_entries.ensures.grows.nodes c.requires.over in
    let none = subst (λ o. IfNone o (IsNoReading (tope_of later.pool.nodes reader c.args.goal))) c.in_default-2.is c.in_ok-tope.ensures.none in
    no_goal (tope_of old reader) context hypotheses c.args.goal has.context has.is (subst (λ (f : Raw → Reading Tree). IsNoReading (f c.args.goal)) same none)

pub returns-clause-asked : goal.returns-clause-asked
returns-clause-asked c =
    let old = c.args.w.now.pool.nodes in
    let later = c.with_entries.new.w in
    let new = c.tope.new.w.pool.nodes in
    let reader = c.args.self.now in
    let context = tree_of old c.args.opened.0 in
    let hypotheses = c.args.hypotheses.now in
    let has = subst (λ o. IfSome o (HasOpened later (tope_context (tope_of old reader) context hypotheses))) c.in-Some.is c.in_ok-whole.ensures.opened in
    let same = topes_kept old later.pool.nodes context reader c.with_entries.ensures.grows.nodes c.requires.over in
    let read = subst (λ o. IfSome o (IsRead new (tope_of later.pool.nodes reader c.args.goal))) c.in-Some-2.is c.in_ok-tope.ensures.read in
    let phi = tree_of new c.in-Some-2.tope in
    let over = over_same later.pool.nodes context has.context reader (context_cubes (tope_of old reader) context has.context hypotheses has.is)
    (over_grown old later.pool.nodes context reader c.with_entries.ensures.grows.nodes c.requires.over) in record {
      context = has.context;
      goal = phi;
      is = goal_over (tope_of old reader) context hypotheses c.args.goal has.context phi has.is (subst (λ (f : Raw → Reading Tree). f c.args.goal ≡ Ok phi) same read.is);
      opened_is = opened_grown later c.tope.new.w has.context c.in-Some.whole c.with_entries.ensures.grows.sound c.tope.ensures.grows has.opened_is;
      live = read.live;
      tree = refl;
      over = over_there later.pool.nodes has.context has.context phi reader over refl
          (c.topes_are_over_their_cubes.ensures (bindings_at later.pool.nodes reader.variables) reader.forms (length reader.forms) c.args.goal phi read.is);
    }
