-- What a row's text says with trees in the place of its letters.
use Rattle.std.specs.Prelude.{ℕ, List, [], ◌∷◌, Option}
use Rattle.rz_rules.specs.declared.nodes.Node.{Node}
use Rattle.rz_rules.specs.declared.rows.Row.{Row}
use Rattle.rz_rules.specs.Tree.{blank}
use Rattle.rz_rules.specs.Judgment.{Statement}
use Rattle.rz_rules.specs.Row.{spelled}
use Rattle.rz_rules.specs.Structural.{formed}
use Rattle.rz_rules.specs.Table.{rule_of}
use Rattle.rz_rules.specs.Derivation.{IsScoped}
use Rattle.rz_lemmas.specs.Letters.{letters_at}

-- all judgments but the last, and the last
abbrev pub premises_in : List Statement → List Statement
premises_in [] = []
premises_in (says ∷ []) = []
premises_in (says ∷ next ∷ others) = says ∷ premises_in (next ∷ others)

abbrev pub conclusion_in : List Statement → Statement
conclusion_in [] = formed blank
conclusion_in (says ∷ []) = says
conclusion_in (says ∷ next ∷ others) = conclusion_in (next ∷ others)

-- the judgments of a row's text, its premises and its conclusion
abbrev pub judgments_at : List Node → Row → List ℕ → Option ℕ → List Statement
judgments_at nodes row letters name = (spelled (rule_of row).text (letters_at nodes row letters name)).statements

abbrev pub premises_of : List Node → Row → List ℕ → Option ℕ → List Statement
premises_of nodes row letters name = premises_in (judgments_at nodes row letters name)

abbrev pub conclusion_of : List Node → Row → List ℕ → Option ℕ → Statement
conclusion_of nodes row letters name = conclusion_in (judgments_at nodes row letters name)

-- where the conclusion says that a tope holds, the tope is over the context
abbrev pub conclusion_is_scoped : List Node → Row → List ℕ → Option ℕ → Type 0
conclusion_is_scoped nodes row letters name =
    let says = conclusion_of nodes row letters name in
    IsScoped says.kind says.context says.parts
