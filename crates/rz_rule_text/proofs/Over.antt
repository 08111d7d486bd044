-- Judgments and letters over the nodes of a pool are about trees.
use Rattle.std.proofs.Common.{◌≡◌, ℕ, ◌<◌, List, [], ◌∷◌, Option, length, map, All, sym, ap, subst}
use Rattle.std.proofs.lemmas.List.Elements.{All-cons, All-head, All-nil, All-tail, All-weaker}
use Rattle.rz_rules.specs.declared.judgments.Judgment.{Judgment}
use Rattle.rz_rules.specs.declared.nodes.Node.{Node}
use Rattle.rz_rules.specs.declared.symbols.Letter.{Letter}
use Rattle.rz_rules.specs.declared.kinds.Sort.{Sort}
use Rattle.rz_rules.specs.Tree.{IsTree, AreTrees, HaveForms, sort_of, tree_of, trees_in, trees_of}
use Rattle.rz_rules.specs.Judgment.{IsStatement, ids_of, kind_of, sorts_of, statement}
use Rattle.rz_rules.specs.Row.{HasLetter}
use Rattle.rz_pool.proofs.WellFormed.{tree_of-is}
use Rattle.rz_rule_text.specs.Letters.{IsFound, assignment_of, tree_for}
use Rattle.rz_rule_text.specs.Spelling.{IsJudgmentOver}

-- the letters that were found stand for trees of their sorts
pub letters_have_sorts : (nodes : List Node) → HaveForms nodes → (letters : List (Option ℕ)) (name : Option ℕ) (text : List Letter) → All (IsFound nodes letters) text
    → All (HasLetter (assignment_of nodes letters name)) text
letters_have_sorts nodes forms letters name text found =
    All-weaker (IsFound nodes letters) (HasLetter (assignment_of nodes letters name)) each text found where
      each : (letter : Letter) → IsFound nodes letters letter → HasLetter (assignment_of nodes letters name) letter
      each letter h =
          subst (IsTree letter.sort) (sym (ap (tree_for nodes) h.there))
          (subst (λ (s : Sort). IsTree s (tree_of nodes h.id)) h.sort (tree_of-is nodes forms h.id h.live))

-- what a judgment says is about trees
parts_are : (nodes : List Node) → HaveForms nodes → (sorts : List Sort) (ids : List ℕ) → All (λ id. id < length nodes) ids → map sort_of (map (tree_of nodes) ids) ≡ sorts
    → AreTrees sorts (trees_of (map (tree_of nodes) ids))
parts_are nodes forms [] [] low e = tt
parts_are nodes forms [] (id ∷ ids) low e = absurd cc
parts_are nodes forms (sort ∷ sorts) [] low e = absurd cc
parts_are nodes forms (sort ∷ sorts) (id ∷ ids) low e =
    let here : sort_of (tree_of nodes id) ≡ sort = cc in
    let others : map sort_of (map (tree_of nodes) ids) ≡ sorts = cc in (
      subst (λ (s : Sort). IsTree s (tree_of nodes id)) here (tree_of-is nodes forms id (All-head (λ id. id < length nodes) id ids low)),
      parts_are nodes forms sorts ids (All-tail (λ id. id < length nodes) id ids low) others,
    )

pub IsStatement-over : (nodes : List Node) → HaveForms nodes → (says : Judgment) → IsJudgmentOver nodes says → IsStatement (statement (trees_in nodes) says)
IsStatement-over nodes forms says h =
    let all = parts_are nodes forms (sorts_of (kind_of says)) (ids_of says) h.live h.sorts in
    record { context = all.0; parts = all.1 }

pub AreStatements-over : (nodes : List Node) → HaveForms nodes → (said : List Judgment) → All (IsJudgmentOver nodes) said → All IsStatement (map (statement (trees_in nodes)) said)
AreStatements-over nodes forms [] h = All-nil IsStatement
AreStatements-over nodes forms (says ∷ said) h =
    All-cons IsStatement (statement (trees_in nodes) says) (map (statement (trees_in nodes)) said)
    (IsStatement-over nodes forms says (All-head (IsJudgmentOver nodes) says said h)) (AreStatements-over nodes forms said (All-tail (IsJudgmentOver nodes) says said h))
