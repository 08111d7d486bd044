use Rattle.std.proofs.Common.{◌≡◌, ℕ, ◌∷◌, List, Option, Some, drop, sym, ap, subst, ◌∙◌}
use Rattle.std.specs.Prelude.{IfOk}
use Rattle.rz_rules.specs.declared.symbols.Symbol.{Symbol}
use Rattle.rz_rules.specs.declared.symbols.Symbol.TheVariants as symbol
use Rattle.rz_rule_text.specs.declared.text.Stack.{Stack}
use Rattle.rz_rule_text.specs.Spelling.{Answers, CanPut, HasSpelled, first_of}
use Rattle.rz_rule_text.proofs.Putting.{node_put, node_ready}
use Rattle.rz_rule_text.proofs.Substituting.{put_answers, put_read, says_ready, says_result, shift_read}
use Rattle.rz_rule_text.proofs.text.put_symbol.Goals as goal

pub node_on-requires-clause-ready : goal.node_on-requires-clause-ready
node_on-requires-clause-ready c =
    let r = c.requires.ready in
    let can = subst (λ (s : Symbol). CanPut c.args.pool.now.nodes s r.0 r.1 c.args.stack.now c.args.letters.now c.args.name) c.in-Node.is r.2 in
    node_ready c.args.pool.now.nodes c.in-Node.kind c.in-Node.label r.0 r.1 c.args.stack.now c.args.letters.now c.args.name can

pub put_judgment-requires : goal.put_judgment-requires
put_judgment-requires c =
    let r = c.requires.ready in
    let can = subst (λ (s : Symbol). CanPut c.args.pool.now.nodes s r.0 r.1 c.args.stack.now c.args.letters.now c.args.name) c.in-Says.is r.2 in
    says_ready c.args.pool.now.nodes c.in-Says.kind r.0 r.1 c.args.stack.now c.args.letters.now c.args.name can

pub returns-in_ok-node-in-Node-clause-puts : goal.returns-in_ok-node-in-Node-clause-puts
returns-in_ok-node-in-Node-clause-puts c behind a can =
    let old = c.args.pool.now.nodes in
    let new = c.node_on.new.pool.nodes in
    let before : Stack = c.args.stack.now in
    let after : Stack = c.put_tree-in-Node.new.stack in
    let at : CanPut old (symbol.Node c.in-Node.kind c.in-Node.label) behind a before c.args.letters.now c.args.name =
    subst (λ (s : Symbol). CanPut old s behind a before c.args.letters.now c.args.name) c.in-Node.is can in
    put_answers c.put_tree-in-Node.result (after.trees.items ≡ c.in_ok-node-in-Node.node ∷ c.node_on.new.trees.items) new (c.args.symbol ∷ behind) a after
    c.put_tree-in-Node.ensures.put c.put_tree-in-Node.ensures.trees
    (λ trees. subst (λ (s : Symbol). HasSpelled new (s ∷ behind) a after) (sym c.in-Node.is)
    (node_put old c.in-Node.kind c.in-Node.label behind a before c.args.letters.now c.args.name at new c.in_ok-node-in-Node.ensures.grows after c.in_ok-node-in-Node.node
    (trees ∙ ap (λ (ids : List (Option ℕ)). c.in_ok-node-in-Node.node ∷ ids) c.in_ok-node-in-Node.ensures.rest) c.put_tree-in-Node.ensures.said
    c.in_ok-node-in-Node.ensures.made c.in_ok-node-in-Node.ensures.none))

pub returns-in_ok-put-in-Put-clause-puts : goal.returns-in_ok-put-in-Put-clause-puts
returns-in_ok-put-in-Put-clause-puts c behind a can =
    let old = c.args.pool.now.nodes in
    let new = c.put.new.pool.nodes in
    let before : Stack = c.args.stack.now in
    let after : Stack = c.put_tree-in-Put.new.stack in
    let at : CanPut old (symbol.Put c.in-Put.space) behind a before c.args.letters.now c.args.name =
    subst (λ (s : Symbol). CanPut old s behind a before c.args.letters.now c.args.name) c.in-Put.is can in
    let first : first_of before.trees.items ≡ Some c.in-Some-Some.body = sym c.next.ensures.first ∙ c.in-Some-Some.is-0 in
    let second : first_of (drop 1 before.trees.items) ≡ Some c.in-Some-Some.value =
    ap first_of (sym c.next.ensures.rest) ∙ sym c.next-in-Put.ensures.first ∙ c.in-Some-Some.is-1 in
    let facts = c.in_ok-put-in-Put.ensures in
    let made = c.in_ok-put-in-Put.field-0 in
    put_answers c.put_tree-in-Put.result (after.trees.items ≡ made ∷ c.next-in-Put.new.trees.items) new (c.args.symbol ∷ behind) a after
    c.put_tree-in-Put.ensures.put c.put_tree-in-Put.ensures.trees
    (λ trees. subst (λ (s : Symbol). HasSpelled new (s ∷ behind) a after) (sym c.in-Put.is)
    (put_read old new facts.grows c.in-Put.space behind a before after c.args.letters.now c.args.name made at c.in-Some-Some.body c.in-Some-Some.value first second
    (trees ∙ ap (λ (ids : List (Option ℕ)). made ∷ ids) (c.next-in-Put.ensures.rest ∙ ap (drop 1) c.next.ensures.rest)) c.put_tree-in-Put.ensures.said
    facts.fits facts.within facts.tree facts.sort))

pub returns-in_ok-raise-in-Shift-clause-puts : goal.returns-in_ok-raise-in-Shift-clause-puts
returns-in_ok-raise-in-Shift-clause-puts c behind a can =
    let old = c.args.pool.now.nodes in
    let new = c.raise.new.pool.nodes in
    let before : Stack = c.args.stack.now in
    let after : Stack = c.put_tree-in-Shift.new.stack in
    let at : CanPut old (symbol.Shift c.in-Shift.space c.in-Shift.from) behind a before c.args.letters.now c.args.name =
    subst (λ (s : Symbol). CanPut old s behind a before c.args.letters.now c.args.name) c.in-Shift.is can in
    let first : first_of before.trees.items ≡ Some c.in-Some.tree = sym c.next-in-Shift.ensures.first ∙ c.in-Some.is in
    let facts = c.in_ok-raise-in-Shift.ensures in
    let made = c.in_ok-raise-in-Shift.field-0 in
    put_answers c.put_tree-in-Shift.result (after.trees.items ≡ made ∷ c.next-in-Shift.new.trees.items) new (c.args.symbol ∷ behind) a after
    c.put_tree-in-Shift.ensures.put c.put_tree-in-Shift.ensures.trees
    (λ trees. subst (λ (s : Symbol). HasSpelled new (s ∷ behind) a after) (sym c.in-Shift.is)
    (shift_read old new facts.grows c.in-Shift.space behind a before after c.args.letters.now c.args.name made c.in-Shift.from at c.in-Some.tree first
    (trees ∙ ap (λ (ids : List (Option ℕ)). made ∷ ids) c.next-in-Shift.ensures.rest) c.put_tree-in-Shift.ensures.said
    facts.fits facts.within facts.tree facts.sort))

pub returns-in-Says-clause-puts : goal.returns-in-Says-clause-puts
returns-in-Says-clause-puts c behind a can =
    let old = c.args.pool.now.nodes in
    let before : Stack = c.args.stack.now in
    let after : Stack = c.put_judgment.new.stack in
    let at : CanPut old (symbol.Says c.in-Says.kind) behind a before c.args.letters.now c.args.name =
    subst (λ (s : Symbol). CanPut old s behind a before c.args.letters.now c.args.name) c.in-Says.is can in
    subst (λ (s : Symbol). IfOk c.put_judgment.result (Answers old (s ∷ behind) a after)) (sym c.in-Says.is)
    (says_result c.put_judgment.result old c.in-Says.kind behind a before after c.args.letters.now c.args.name at c.put_judgment.ensures.trees c.put_judgment.ensures.said c.put_judgment.ensures.none)
