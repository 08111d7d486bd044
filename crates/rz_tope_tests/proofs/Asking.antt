-- Questions in a world whose pool grows.
use Rattle.std.proofs.Common.{◌≡◌, ℕ, zero, suc, List, [], ◌∷◌, Some, None, sym, ap, subst, arith}
use Rattle.std.specs.Prelude.{map, slice_get}
use Rattle.std.specs.List.{slice_index_or}
use Rattle.rz_rules.specs.Structural.{formed, holds}
use Rattle.rz_rules.specs.Judgment.{Statement, statement}
use Rattle.rz_rules.specs.Tree.{Tree, blank, tree_of, trees_in}
use Rattle.rz_pool.specs.Pool as pool
use Rattle.rz_pool.specs.Pool.{Contents, IsPool}
use Rattle.rz_pool.proofs.Nodes.{KeepsTrees-Grows, length-Grows}
use Rattle.rz_log.specs.declared.world.World.{World}
use Rattle.rz_log.specs.World.{Grows, IsSound, Says, context_at, statements_in}
use Rattle.rz_log.proofs.Worlds.{grows_pool, says_grown}
use Rattle.rz_rules.specs.Cube.{binders_of}
use Rattle.rz_rules.specs.Tope.{IsTopeOver}
use Rattle.rz_log.specs.declared.entail.Entailed.{Entailed}
use Rattle.rz_log.specs.declared.entail.Entailed.TheVariants.{Yes, No, Silent}
use Rattle.rz_log.specs.Entail.{IsEntailed}
use Rattle.rz_rules.specs.declared.judgments.Line.{Line}
use Rattle.std.proofs.lemmas.Option.{slice_get_within}
use Rattle.std.proofs.lemmas.List.{length-map}
use Rattle.rz_tope_tests.specs.declared.sequents.Question.{Question}
use Rattle.rz_tope_tests.specs.Sequent.{IsAnswered, IsAsked, IsQuestion, IsStepOf}

-- a question stays one as the world grows
pub question_grown : (old new : World) (question : ℕ × ℕ) → IsSound old → Grows old new → IsQuestion old question → IsQuestion new question
question_grown old new question sound grows is =
    let tree = KeepsTrees-Grows old.pool.nodes new.pool.nodes grows.nodes question.0 is.live in
    let more = length-Grows old.pool.nodes new.pool.nodes grows.nodes in
    let live = is.live in record {
      live = omega (live, more, arith);
      formed_is = subst (λ (t : Tree). Says new question.1 (formed t)) (sym tree)
          (says_grown old new sound grows question.1 (formed (tree_of old.pool.nodes question.0)) is.formed_is);
    }

pub question_pool : (w : World) (contents : Contents) (question : ℕ × ℕ) → pool.Grows w.pool.nodes contents.nodes → IsPool contents.nodes → IsSound w
    → IsQuestion w question → IsQuestion (record { pool = contents; log = w.log }) question
question_pool w contents question grows is sound asked =
    question_grown w (record { pool = contents; log = w.log }) question sound (grows_pool w contents grows is sound) asked

-- an item that is there
item_is : {A : Type 0} (list : List A) (k : ℕ) (x d : A) → slice_get list k ≡ Some x → slice_index_or list k d ≡ x
item_is [] k x d h = let wrong : None ≡ Some x = h in absurd cc
item_is (y ∷ list) zero x d h = let one : Some y ≡ Some x = h in cc
item_is (y ∷ list) (suc k) x d h = item_is list k x d h

-- the context of a step that says it to be formed
pub context_of_step : (w : World) (step : ℕ) (context : Tree) → Says w step (formed context) → context_at w step ≡ context
context_of_step w step context says = ap (λ (s : Statement). s.context) (item_is (statements_in w) step (formed context) (formed blank) says)

-- what was asked and answered is answered of the trees as they are afterwards
pub answered : (old new : World) (asked : Question) (entailed : Entailed) → IsSound old → Grows old new → IsAsked old asked
    → IsEntailed new (context_at old asked.at) (tree_of old.pool.nodes asked.tope) entailed → IsAnswered new asked entailed
answered old new asked entailed sound grows is answer =
    let context_is = KeepsTrees-Grows old.pool.nodes new.pool.nodes grows.nodes asked.context is.question.live in
    let tope_is = KeepsTrees-Grows old.pool.nodes new.pool.nodes grows.nodes asked.tope is.live in
    let more = length-Grows old.pool.nodes new.pool.nodes grows.nodes in
    let live = is.live in
    let here = context_of_step old asked.at (tree_of old.pool.nodes asked.context) is.question.formed_is in record {
      asked_is = record {
        question = question_grown old new (asked.context, asked.at) sound grows is.question;
        live = omega (live, more, arith);
        over = subst (λ (t : Tree). IsTopeOver (binders_of t) (tree_of new.pool.nodes asked.tope)) (sym context_is)
            (subst (IsTopeOver (binders_of (tree_of old.pool.nodes asked.context))) (sym tope_is) is.over);
      };
      answer = subst (λ (t : Tree). IsEntailed new t (tree_of new.pool.nodes asked.tope) entailed) (sym context_is)
          (subst (λ (t : Tree). IsEntailed new (tree_of old.pool.nodes asked.context) t entailed) (sym tope_is)
          (subst (λ (t : Tree). IsEntailed new t (tree_of old.pool.nodes asked.tope) entailed) here answer));
    }

-- the step of a yes is there, since it says something
pub step_there : (w : World) (context tope : Tree) (entailed : Entailed) → IsEntailed w context tope entailed → IsStepOf w entailed
step_there w context tope (Yes step) is =
    let within = slice_get_within (statements_in w) step (holds context tope) is.1 in
    let long = length-map (map (λ (line : Line). line.says) w.log) (statement (trees_in w.pool.nodes)) in
    let lines = length-map w.log (λ (line : Line). line.says) in
    omega (within, long, lines, arith)
step_there w context tope (No ranks) is = tt
step_there w context tope (Silent count) is = tt
