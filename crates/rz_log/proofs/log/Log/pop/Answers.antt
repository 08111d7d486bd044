use Rattle.std.proofs.Common.{◌∷◌, [], List, subst, arith}
use Rattle.std.proofs.lemmas.List.{length-map, map-append}
use Rattle.rz_rules.specs.declared.judgments.Judgment.{Judgment}
use Rattle.rz_rules.specs.declared.judgments.Line.{Line}
use Rattle.rz_log.specs.Index.{IsIndex}
use Rattle.rz_log.specs.Log.{AreEarlier, judgments_of}
use Rattle.rz_log.proofs.Logs.{earlier_front}
use Rattle.rz_log.proofs.log.Log.pop.Goals as goal

pub invariant_of-self : goal.invariant_of-self
invariant_of-self c =
    let lines = c.pop.new.self.items in
    let line = c.in-Some.line in
    let is = c.in-Some.ensures.items in (
      earlier_front lines (line ∷ []) (subst AreEarlier is c.self.invariant.0),
      c.remove.ensures (judgments_of lines)
          (subst (λ (said : List Judgment). IsIndex said c.self.inside.index) (map-append (λ (l : Line). l.says) lines (line ∷ []))
          (subst (λ (ls : List Line). IsIndex (judgments_of ls) c.self.inside.index) is c.self.invariant.1)) (omega (arith, c.len-step.ensures, length-map lines (λ (l : Line). l.says))),
    )
