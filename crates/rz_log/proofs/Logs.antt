-- Logs with one line more, and with fewer.
use Rattle.std.proofs.Common.{◌≡◌, ℕ, ◌<◌, List, [], ◌∷◌, ◌++◌, Some, length, take, drop, map, All, slice_get, sym, ap, subst, ◌∙◌, inl, inr, arith}
use Rattle.std.proofs.lemmas.List.{length-append, length-map, take-append-le, take-append-drop, get_or_append_left}
use Rattle.std.proofs.lemmas.List.Elements.{All-push, All-cons, All-nil}
use Rattle.std.proofs.lemmas.Option.{slice_get_within}
use Rattle.std.proofs.Math.Seq.{take-append_seam}
use Rattle.rz_rules.specs.declared.nodes.Node.{Node}
use Rattle.rz_rules.specs.declared.judgments.Line.{Line}
use Rattle.rz_rules.specs.Tree.{trees_in}
use Rattle.rz_rules.specs.Judgment.{statement}
use Rattle.rz_rules.specs.Derivation.{Follows}
use Rattle.rz_pool.proofs.Nodes.{slice_get-append}
use Rattle.rz_log.specs.Log.{AreEarlier, IsLineOver, IsSoundLog, judgments_of, statements_of, step_of}
use Rattle.rz_log.proofs.Firsts.{before_or_end}

pub length_statements : (nodes : List Node) (lines : List Line) → length (statements_of nodes lines) ≡ length lines
length_statements nodes lines = length-map (judgments_of lines) (statement (trees_in nodes)) ∙ length-map lines (λ line. line.says)

-- numbers at which a list has something are below its length
pub all_within : {X : Type 0} (xs : List X) (places : List ℕ) (found : List X) → map (slice_get xs) places ≡ map (λ x. Some x) found
    → All (λ place. place < length xs) places
all_within xs [] found e = All-nil (λ place. place < length xs)
all_within xs (place ∷ places) [] e = absurd cc
all_within xs (place ∷ places) (x ∷ found) e =
    let first : slice_get xs place ≡ Some x = cc in
    let others : map (slice_get xs) places ≡ map (λ y. Some y) found = cc in
    All-cons (λ p. p < length xs) place places (slice_get_within xs place x first) (all_within xs places found others)

-- one line more
module _ (nodes : List Node) (lines : List Line) (line : Line) (follows : Follows (statements_of nodes lines) (step_of nodes line)) where
  pub premises_earlier : All (λ premise. premise < length lines) line.from
  premises_earlier =
      subst (λ (n : ℕ). All (λ premise. premise < n) line.from) (length_statements nodes lines)
      (all_within (statements_of nodes lines) line.from follows.premises follows.from)

  pub earlier_push : AreEarlier lines → AreEarlier (lines ++ line ∷ [])
  earlier_push earlier step other at =
      elim (before_or_end lines line other step at) [
        | inl before ↦ earlier step other before.1
        | inr last ↦ subst (λ (k : ℕ). All (λ premise. premise < k) other.from) (sym last.0)
            (subst (λ (l : Line). All (λ premise. premise < length lines) l.from) last.1 premises_earlier)
      ]

  pub sound_push : IsLineOver nodes line → IsSoundLog nodes lines → IsSoundLog nodes (lines ++ line ∷ [])
  sound_push over sound = record {
    over = All-push (IsLineOver nodes) lines line sound.over over;
    follow = λ step other at. elim (before_or_end lines line other step at) [
      | inl before ↦
          subst (λ (front : List Line). Follows (statements_of nodes front) (step_of nodes other)) (sym (take-append-le step lines (line ∷ []) (omega (arith, before.0))))
          (sound.follow step other before.1)
      | inr last ↦
          subst (λ (l : Line). Follows (statements_of nodes (take step (lines ++ line ∷ []))) (step_of nodes l)) last.1
          (subst (λ (front : List Line). Follows (statements_of nodes front) (step_of nodes line))
          (sym (ap (λ (k : ℕ). take k (lines ++ line ∷ [])) last.0 ∙ take-append_seam lines (line ∷ []))) follows)
    ];
  }

-- fewer lines
pub earlier_front : (lines more : List Line) → AreEarlier (lines ++ more) → AreEarlier lines
earlier_front lines more earlier step line at = earlier step line (slice_get-append lines more step line at)

pub sound_front : (nodes : List Node) (lines more : List Line) → IsSoundLog nodes (lines ++ more) → IsSoundLog nodes lines
sound_front nodes lines more sound = record {
  over = λ k d l. subst (IsLineOver nodes) (get_or_append_left lines more d k l) (sound.over k d (omega (arith, length-append lines more)));
  follow = λ step line at.
      subst (λ (front : List Line). Follows (statements_of nodes front) (step_of nodes line))
      (take-append-le step lines more (omega (arith, slice_get_within lines step line at)))
      (sound.follow step line (slice_get-append lines more step line at));
}

pub sound_take : (nodes : List Node) (lines : List Line) (k : ℕ) → IsSoundLog nodes lines → IsSoundLog nodes (take k lines)
sound_take nodes lines k sound = sound_front nodes (take k lines) (drop k lines) (subst (IsSoundLog nodes) (sym (take-append-drop k lines)) sound)
