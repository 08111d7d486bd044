-- The test of two nodes tells whether they are equal.
use Rattle.std.proofs.Common.{◌≡◌, ◌&&◌, Bool, true, nat_eq, refl, ap, ◌∙◌, subst, rules}
use Rattle.std.specs.Bool.{Decides}
use Rattle.std.specs.Cmp.{first_so, second_so, unsigned_Decides}
use Rattle.std.specs.Str.{bytes_eq}
use Rattle.std.proofs.lemmas.Slice.Eq.{bytes_eq-Decides}
use denote.Enum.Bare.{sameb, same_true, true_same}
use Rattle.rz_rules.specs.contracts.kinds.Kind.{the_type}
use Rattle.rz_rules.specs.declared.nodes.Node.{Node}
use Rattle.rz_rules.specs.contracts.nodes.NodePartialEq.TheImpl.{eq-value}

-- nodes whose fields are equal
pub same_fields : (m n : Node) → m.kind ≡ n.kind → m.number ≡ n.number → m.name ≡ n.name → m.kids ≡ n.kids → m ≡ n
same_fields m n kind number name kids = λ i. record { kind = kind i; number = number i; name = name i; kids = kids i }

both_so : (s t : Bool) → s ≡ true → t ≡ true → (s && t) ≡ true
both_so s t p q = ap (λ b. b && t) p ∙ q

module _ (m n : Node) where
  abbrev kinds : Bool
  kinds = sameb the_type m.kind n.kind

  abbrev numbers : Bool
  numbers = nat_eq m.number n.number

  abbrev names : Bool
  names = bytes_eq m.name n.name

  abbrev kids : Bool
  kids = bytes_eq m.kids n.kids

  equal_nodes : eq-value.it m n ≡ true → m ≡ n
  equal_nodes e =
      let rest = second_so kinds (numbers && (names && kids)) e in
      let more = second_so numbers (names && kids) rest in
      same_fields m n
      (same_true the_type (search rules) m.kind n.kind (first_so kinds (numbers && (names && kids)) e))
      ((unsigned_Decides m.number n.number).0 (first_so numbers (names && kids) rest))
      ((bytes_eq-Decides m.name n.name).0 (first_so names kids more))
      ((bytes_eq-Decides m.kids n.kids).0 (second_so names kids more))

same_node : (m : Node) → eq-value.it m m ≡ true
same_node m =
    both_so (kinds m m) (numbers m m && (names m m && kids m m)) (true_same the_type m.kind m.kind refl)
    (both_so (numbers m m) (names m m && kids m m) ((unsigned_Decides m.number m.number).1 refl)
    (both_so (names m m) (kids m m) ((bytes_eq-Decides m.name m.name).1 refl) ((bytes_eq-Decides m.kids m.kids).1 refl)))

pub nodes_Decides : (m n : Node) → Decides (eq-value.it m n) (m ≡ n)
nodes_Decides m n = (equal_nodes m n, λ e. subst (λ k. eq-value.it m k ≡ true) e (same_node m))
