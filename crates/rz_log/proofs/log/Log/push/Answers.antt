use Rattle.std.proofs.Common.{◌++◌, ◌∷◌, [], List, length, sym, ap, subst, ◌∙◌, arith}
use Rattle.std.proofs.lemmas.List.{length-map, map-append}
use Rattle.rz_rules.specs.declared.judgments.Judgment.{Judgment}
use Rattle.rz_rules.specs.declared.judgments.Line.{Line}
use Rattle.rz_rules.specs.Derivation.{Follows}
use Rattle.rz_log.specs.Index.{IsIndex}
use Rattle.rz_log.specs.Log.{AreEarlier, IsSoundLog, judgments_of, statements_of, step_of}
use Rattle.rz_log.proofs.Logs.{earlier_push, sound_push}
use Rattle.rz_log.proofs.log.Log.push.Goals as goal

pub invariant_of-self-in_err-add : goal.invariant_of-self-in_err-add
invariant_of-self-in_err-add c =
    let lines = c.self.inside.lines.items in
    let kept = sym c.reserve.ensures.items in (
      subst AreEarlier kept c.self.invariant.0,
      subst (λ (ls : List Line). IsIndex (judgments_of ls) c.add.new.self) kept (c.in_err-add.ensures.err (judgments_of lines) c.self.invariant.1),
    )

pub invariant_of-self-2 : goal.invariant_of-self-2
invariant_of-self-2 c =
    let lines = c.self.inside.lines.items in
    let line = c.args.line in
    let nodes = c.args.pool.now.nodes in
    let is = c.in_ok-push.ensures.items ∙ ap (λ (ls : List Line). ls ++ line ∷ []) c.reserve.ensures.items in
    let follows = subst (λ (ls : List Line). Follows (statements_of nodes ls) (step_of nodes line)) (sym c.self.view_is) c.requires.follows in (
      subst AreEarlier (sym is) (earlier_push nodes lines line follows c.self.invariant.0),
      subst (λ (ls : List Line). IsIndex (judgments_of ls) c.add.new.self) (sym is)
          (subst (λ (said : List Judgment). IsIndex said c.add.new.self) (sym (map-append (λ (l : Line). l.says) lines (line ∷ [])))
          (c.in_ok-add.ensures.ok (judgments_of lines) c.self.invariant.1 (omega (arith, c.len-step.ensures, length-map lines (λ (l : Line). l.says), ap length c.self.view_is)))),
    )

pub returns-clause-sound : goal.returns-clause-sound
returns-clause-sound c sound =
    let nodes = c.args.pool.now.nodes in
    let line = c.args.line in
    let is = c.in_ok-push.ensures.items ∙ ap (λ (ls : List Line). ls ++ line ∷ []) (c.reserve.ensures.items ∙ c.self.view_is) in
    subst (IsSoundLog nodes) (sym is) (sound_push nodes c.args.self.now line c.requires.follows c.requires.over sound)
