use Rattle.std.proofs.Common.{◌≡◌, ◌∙◌, map, sym}
use Rattle.rz_rules.specs.declared.kinds.Role.TheVariants.{Variable}
use Rattle.rz_rules.specs.declared.kinds.Space.{Space}
use Rattle.rz_rules.specs.Form.{form}
use Rattle.rz_rules.specs.Tree.{trees_of, tree_of}
use Rattle.rz_pool.specs.Free.{bound_here, kids_bound, least_here, kids_least}
use Rattle.rz_pool.proofs.pool.Pool.spans_of.Goals as goal

pub returns-in-Variable : goal.returns-in-Variable
returns-in-Variable c =
    let node = c.args.node.now in
    let number = node.number in
    let tree = tree_of c.args.self.now.nodes in
    let slots = (form node.kind).kids in
    let kids = trees_of (map tree node.kids) in
    let told = c.spans_of_kids-kids.ensures in
    let table = c.form-form.ensures.kids in
    let ids = c.as_slice.ensures.value in
    let role : (form node.kind).role ≡ Variable c.in-Variable.space = sym c.form-form.ensures.role ∙ c.in-Variable.is in
    let bound = λ (space : Space). told.bound space ∙ (λ j. kids_bound space (table j) (trees_of (map tree (ids j)))) in
    let least = λ (space : Space). told.least space ∙ (λ j. kids_least space (table j) (trees_of (map tree (ids j)))) in
    record {
      bound = λ space. c.with.ensures.bound space ∙ (λ j. bound_here space (sym role j) number (bound space j));
      least = λ space. c.with.ensures.least space ∙ (λ j. least_here space (sym role j) number (bound space j) (least space j));
    }
