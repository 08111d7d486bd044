-- The levels of the grammar at which forms stand.
use Rattle.std.specs.Prelude.{ℕ}
use Rattle.rz_syntax.specs.declared.forms.Form.{Form}
use Rattle.rz_syntax.specs.declared.forms.Form.TheVariants as form
use Rattle.rz_print.specs.declared.level.Level.{Level}
use Rattle.rz_print.specs.declared.level.Level.TheVariants as level

-- how many levels stand before this one
abbrev pub rank : Level → ℕ
rank level.Term = 0
rank level.Rest = 1
rank level.Disjunction = 2
rank level.Conjunction = 3
rank level.Relation = 4
rank level.Product = 5
rank level.Application = 6
rank level.Head = 7
rank level.Atom = 8

-- the last level at which a form stands without brackets
abbrev pub home : Form → Level
home (form.Lambda binds body) = level.Term
home (form.Arrow bind body) = level.Term
home (form.Sigma bind body) = level.Term
home (form.As term of) = level.Term
home (form.Restrict body faces) = level.Rest
home (form.Or left right) = level.Disjunction
home (form.And left right) = level.Conjunction
home (form.SamePoint left right) = level.Relation
home (form.AtMost left right) = level.Relation
home (form.Equal left right) = level.Relation
home (form.EqualAt of left right) = level.Relation
home (form.Product left right) = level.Product
home (form.App head args) = level.Application
home (form.First arg) = level.Head
home (form.Second arg) = level.Head
home _ = level.Atom
