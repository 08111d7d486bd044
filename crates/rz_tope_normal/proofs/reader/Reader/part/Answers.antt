use Rattle.std.proofs.Common.{◌≡◌, ℕ, List, [], ◌∷◌, length, refl, sym, subst, arith}
use Rattle.rz_rules.specs.Tree.{Tree, tree_of}
use Rattle.rz_tope_proof.specs.declared.proof.Claim.TheVariants as claim
use Rattle.rz_tope_proof.specs.declared.parts.Part.{Part}
use Rattle.rz_tope_normal.specs.Read.{ArePartsOf, SaysTope}
use Rattle.rz_tope_normal.proofs.ReadParts.{says_new, says_still}
use Rattle.rz_tope_normal.proofs.Readers.{reader_kept, reader_with}
use Rattle.rz_tope_normal.proofs.Staying.{Later-same}
use Rattle.rz_tope_normal.proofs.TopeParts.{equation_tree, tope_equation, tope_part}
use Rattle.rz_tope_normal.proofs.reader.Reader.part.Goals as goal
use Rattle.rz_tope_normal.proofs.reader.Reader.part.Goals.{In_ok-push-in_default}

pub equality-requires-clause-equation : goal.equality-requires-clause-equation
equality-requires-clause-equation c =
    tope_equation c.args.pool.now.nodes (tree_of c.args.pool.now.nodes c.args.setting.now.context) c.args.list.now c.args.setting.now c.args.proof.now
    c.args.self.now c.requires.reader c.args.id c.requires.id c.node-node.result.now c.node-node.ensures.node c.node-node.ensures.tree
    c.node-node.ensures.form
    c.requires.kids c.requires.fine
    c.three_kids-of.result.0 c.three_kids-of.result.1 c.three_kids-of.result.2 c.three_kids-of.ensures c.in-EqualPoints.is

pub returns-in_ok-number-in-EqualPoints-clause-says : goal.returns-in_ok-number-in-EqualPoints-clause-says
returns-in_ok-number-in-EqualPoints-clause-says c =
    subst (λ (t : Tree). SaysTope c.equality.new.pool.nodes c.equality.new.self.parts.items c.in_ok-number-in-EqualPoints.number t)
    (sym (equation_tree c.args.pool.now.nodes (tree_of c.args.pool.now.nodes c.args.setting.now.context) c.args.list.now c.args.setting.now
    c.args.proof.now
    c.args.self.now c.requires.reader c.args.id c.requires.id c.node-node.result.now c.node-node.ensures.node c.node-node.ensures.tree
    c.node-node.ensures.form
    c.requires.kids c.requires.fine
    c.three_kids-of.result.0 c.three_kids-of.result.1 c.three_kids-of.result.2 c.three_kids-of.ensures c.in-EqualPoints.is))
    c.in_ok-number-in-EqualPoints.ensures.says

abbrev part : In_ok-push-in_default → Part
part c = record { claim = claim.Tope c.args.id; form = c.form-form.result }

parts : (c : In_ok-push-in_default) → ArePartsOf c.args.pool.now.nodes (tree_of c.args.pool.now.nodes c.args.setting.now.context) c.args.list.now
    c.args.setting.now.places
    c.args.proof.now c.push.new.self.items
parts c =
    let ns = c.args.pool.now.nodes in
    let context = tree_of ns c.args.setting.now.context in
    subst (λ (ps : List Part). ArePartsOf ns context c.args.list.now c.args.setting.now.places c.args.proof.now ps)
    (sym c.in_ok-push-in_default.ensures.items)
    (tope_part ns context c.args.list.now c.args.setting.now c.args.proof.now c.args.self.now.parts.items c.args.id c.form-form.result c.requires.id
    c.requires.fine
    c.requires.reader.parts c.form-form.ensures.made c.form-form.ensures.form c.form-form.ensures.sides)

kept : (c : In_ok-push-in_default) (number : ℕ) (tope : Tree) → SaysTope c.args.pool.now.nodes c.args.self.now.parts.items number tope
    → SaysTope c.args.pool.now.nodes c.push.new.self.items number tope
kept c number tope s =
    subst (λ (ps : List Part). SaysTope c.args.pool.now.nodes ps number tope) (sym c.in_ok-push-in_default.ensures.items)
    (says_still c.args.pool.now.nodes c.args.self.now.parts.items (part c ∷ []) number tope s)

pub returns-in_ok-push-in_default-clause-says : goal.returns-in_ok-push-in_default-clause-says
returns-in_ok-push-in_default-clause-says c =
    let ns = c.args.pool.now.nodes in
    let g = (goal.at.returns-in_ok-push-in_default-clause-says c).In_ok-push-in_default in
    let number : length c.args.self.now.parts.items ≡ c.len-number.result = omega (arith, c.len-number.ensures, c.args.self.now.parts.ok) in
    subst (λ (n : ℕ). SaysTope ns c.push.new.self.items n (tree_of ns c.args.id)) number
    (subst (λ (ps : List Part). SaysTope ns ps (length c.args.self.now.parts.items) (tree_of ns c.args.id))
    (sym c.in_ok-push-in_default.ensures.items)
    (says_new ns c.args.self.now.parts.items (part g)))

pub returns-in_ok-push-in_default-clause-reader : goal.returns-in_ok-push-in_default-clause-reader
returns-in_ok-push-in_default-clause-reader c =
    let ns = c.args.pool.now.nodes in
    let g = (goal.at.returns-in_ok-push-in_default-clause-reader c).In_ok-push-in_default in
    reader_with ns c.args.proof.now ns c.args.proof.now (Later-same ns c.args.proof.now) (tree_of ns c.args.setting.now.context) c.args.list.now
    c.args.setting.now
    c.requires.setting c.args.self.now c.requires.reader (record {
      norms = c.args.self.now.norms;
      parts = c.push.new.self;
      topes =
          c.args.self.now.topes;
    })
    (λ q k. k) c.requires.reader.norms (parts g) (kept g) (λ id. refl)

pub returns-in_ok-push-in_default-clause-kept : goal.returns-in_ok-push-in_default-clause-kept
returns-in_ok-push-in_default-clause-kept c =
    let ns = c.args.pool.now.nodes in
    let g = (goal.at.returns-in_ok-push-in_default-clause-kept c).In_ok-push-in_default in
    reader_kept ns c.args.proof.now ns c.args.proof.now (Later-same ns c.args.proof.now) (tree_of ns c.args.setting.now.context) c.args.list.now
    c.args.setting.now
    c.requires.setting c.args.self.now c.requires.reader (record {
      norms = c.args.self.now.norms;
      parts = c.push.new.self;
      topes =
          c.args.self.now.topes;
    })
    (λ q k. k) c.requires.reader.norms (parts g) (kept g) (λ id. refl)

pub returns-in_ok-push-in_default-clause-later : goal.returns-in_ok-push-in_default-clause-later
returns-in_ok-push-in_default-clause-later c = Later-same c.args.pool.now.nodes c.args.proof.now
