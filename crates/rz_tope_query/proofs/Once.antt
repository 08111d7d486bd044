-- A text says one sequent, and what is found of it is that one.
use Rattle.std.proofs.Common.{◌≡◌, ℕ, true, List, Option, Some, None, Result, Ok, Err, refl, sym, ap, ◌∙◌, subst}
use Rattle.rz_lex.specs.declared.token.Token.{Token}
use Rattle.rz_lex.proofs.Reading.{lexed_once}
use Rattle.rz_rules.specs.Cube.{binders_of}
use Rattle.rz_rules.specs.Structural.{formed}
use Rattle.rz_rules.specs.Tope.{IsTopeOver}
use Rattle.rz_rules.specs.Tree.{Tree, blank, tree_of}
use Rattle.rz_syntax.specs.declared.forms.RawSequent.{RawSequent}
use Rattle.std.specs.Prelude.{IfNone}
use Rattle.rz_syntax.specs.declared.fault.ParseFault.{ParseFault}
use Rattle.rz_syntax.specs.declared.fault.ParseFault.TheVariants.{NoLang, TooNested, Syntax, OutOfMemory as NoMemory}
use Rattle.rz_syntax.specs.Source.{IsSequent, UnlessMemory}
use Rattle.rz_shape.specs.Reading.{Reading}
use Rattle.rz_log.specs.declared.world.World.{World}
use Rattle.rz_log.specs.World.{Says}
use Rattle.rz_tope_query.specs.declared.topes.Asked.{Asked}
use Rattle.rz_tope_query.specs.Sequent.{IsNoSequent, Sequent, SaysSequent, are_distinct, names_of, question_of}
use Rattle.rz_tope_query.specs.Decision.{IsAsked}
use Rattle.rz_tope_query.specs.Parts.{HasAsked, IsNoReading, IsRawOf}

-- the law of the grammar
abbrev pub OneSequent : Type 0
OneSequent = (text : List ℕ) (tokens : List Token) (this that : RawSequent) → IsSequent text tokens this → IsSequent text tokens that → this ≡ that

-- a text is one sequent of the grammar
pub raw_once : OneSequent → (text : List ℕ) (this that : RawSequent) → IsRawOf text this → IsRawOf text that → this ≡ that
raw_once one text this that a b =
    one text b.tokens this that
    (subst (λ (tokens : List Token). IsSequent text tokens this) (lexed_once text a.tokens b.tokens a.lexed b.lexed) a.parsed) b.parsed

-- tokens that are refused are no sequent
pub refused_none : (result : Result RawSequent ParseFault) (fault : ParseFault) (raw : RawSequent) → result ≡ Err fault → (fault ≡ NoMemory → ⊥) → UnlessMemory result (Ok raw) → ⊥
refused_none result fault raw is other h = at fault other (subst (λ (r : Result RawSequent ParseFault). UnlessMemory r (Ok raw)) is h) where
  at : (why : ParseFault) → (why ≡ NoMemory → ⊥) → UnlessMemory (Err why) (Ok raw) → ⊥
  at NoMemory more e = more refl
  at NoLang more e = cc
  at (TooNested token) more e = cc
  at (Syntax token) more e = cc

-- what follows where there is none
pub none_weaker : {A : Type 0} (P Q : Type 0) (found : Option A) → (P → Q) → IfNone found P → IfNone found Q
none_weaker P Q None follows h = follows h
none_weaker P Q (Some x) follows h = tt

-- what says a sequent is a sequent of the grammar
pub raw_of : (text : List ℕ) (sequent : Sequent) → (says : SaysSequent text sequent) → IsRawOf text says.raw
raw_of text sequent says = record { tokens = says.tokens; lexed = says.lexed; shallow = says.shallow; parsed = says.parsed }

-- what is read of a sequent
abbrev both : Tree → Tree → Reading (Tree × Tree)
both context goal = Ok (context, goal)

abbrev context_in : Reading (Tree × Tree) → Tree
context_in (Ok pair) = pair.0
context_in (Err fault) = blank

abbrev goal_in : Reading (Tree × Tree) → Tree
goal_in (Ok pair) = pair.1
goal_in (Err fault) = blank

abbrev made : List (List ℕ) → Tree → Tree → Sequent
made names context goal = record { names = names; context = context; goal = goal }

-- sequents with equal parts
same_sequent : (this that : Sequent) → this.names ≡ that.names → both this.context this.goal ≡ both that.context that.goal → this ≡ that
same_sequent this that names read =
    ap (λ (n : List (List ℕ)). made n this.context this.goal) names
    ∙ (ap (λ (c : Tree). made that.names c this.goal) (ap context_in read) ∙ ap (made that.names that.context) (ap goal_in read))

-- a text says one sequent
pub says_once : OneSequent → (text : List ℕ) (this that : Sequent) → SaysSequent text this → SaysSequent text that → this ≡ that
says_once one text this that a b =
    let raw = raw_once one text a.raw b.raw (raw_of text this a) (raw_of text that b) in
    same_sequent this that (a.names ∙ ap (λ (r : RawSequent). names_of r.names) raw ∙ sym b.names)
    (sym a.question ∙ ap question_of raw ∙ b.question)

-- a text that is no sequent of the grammar says none
pub none_without_raw : (text : List ℕ) → ((raw : RawSequent) → IsRawOf text raw → ⊥) → IsNoSequent text
none_without_raw text none sequent says = none says.raw (raw_of text sequent says)

-- a text that is one says none where its names aren't distinct, or its question isn't read
pub none_without_question : OneSequent → (text : List ℕ) (raw : RawSequent) → IsRawOf text raw
    → (are_distinct (names_of raw.names) ≡ true → IsNoReading (question_of raw)) → IsNoSequent text
none_without_question one text raw is none sequent says =
    let same = raw_once one text says.raw raw (raw_of text sequent says) is in
    none (subst (λ (r : RawSequent). are_distinct (names_of r.names) ≡ true) same says.distinct) (sequent.context, sequent.goal)
    (subst (λ (r : RawSequent). question_of r ≡ Ok (sequent.context, sequent.goal)) same says.question)

-- the question of a text
pub asked_of : (text : List ℕ) (raw : RawSequent) (w : World) (names : List (List ℕ)) (asked : Asked) → IsRawOf text raw
    → are_distinct (names_of raw.names) ≡ true → names ≡ names_of raw.names → HasAsked w (question_of raw) asked
    → IsAsked text w (record { names = names; context = asked.context; at = asked.at; goal = asked.goal })
asked_of text raw w names asked is distinct names_are has =
    let context = tree_of w.pool.nodes asked.context in
    let goal = tree_of w.pool.nodes asked.goal in
    let context_is : has.context ≡ context = sym has.opened_is.tree in
    let goal_is : has.goal ≡ goal = sym has.tree in record {
      says = record {
        tokens = is.tokens;
        lexed = is.lexed;
        shallow = is.shallow;
        raw = raw;
        parsed = is.parsed;
        distinct = distinct;
        names = names_are;
        question = has.is ∙ (let e : both has.context has.goal ≡ both context goal = cc in e);
      };
      formed_is = subst (λ (t : Tree). Says w asked.at (formed t)) context_is has.opened_is.says;
      context_live = has.opened_is.live;
      goal_live = has.live;
      over = subst (λ (t : Tree). IsTopeOver (binders_of t) goal) context_is
          (subst (IsTopeOver (binders_of has.context)) goal_is has.over);
    }
