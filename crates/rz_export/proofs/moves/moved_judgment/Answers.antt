use Rattle.std.proofs.Common.{All, Contains, subst, arith}
use Rattle.rz_rules.specs.Judgment.{ids_of}
use Rattle.rz_export.proofs.moves.moved_judgment.Goals as goal

pub place-requires-in-Has-clause-there : goal.place-requires-in-Has-clause-there
place-requires-in-Has-clause-there c = subst (λ s. All (Contains c.args.ids.now) (ids_of s)) c.in-Has.is c.requires.there 0 0 (omega arith)

pub place-requires-in-Has-2-clause-there : goal.place-requires-in-Has-2-clause-there
place-requires-in-Has-2-clause-there c = subst (λ s. All (Contains c.args.ids.now) (ids_of s)) c.in-Has.is c.requires.there 1 0 (omega arith)

pub place-requires-in-Has-3-clause-there : goal.place-requires-in-Has-3-clause-there
place-requires-in-Has-3-clause-there c = subst (λ s. All (Contains c.args.ids.now) (ids_of s)) c.in-Has.is c.requires.there 2 0 (omega arith)

pub place-requires-in-Same-clause-there : goal.place-requires-in-Same-clause-there
place-requires-in-Same-clause-there c = subst (λ s. All (Contains c.args.ids.now) (ids_of s)) c.in-Same.is c.requires.there 0 0 (omega arith)

pub place-requires-in-Same-2-clause-there : goal.place-requires-in-Same-2-clause-there
place-requires-in-Same-2-clause-there c = subst (λ s. All (Contains c.args.ids.now) (ids_of s)) c.in-Same.is c.requires.there 1 0 (omega arith)

pub place-requires-in-Same-3-clause-there : goal.place-requires-in-Same-3-clause-there
place-requires-in-Same-3-clause-there c = subst (λ s. All (Contains c.args.ids.now) (ids_of s)) c.in-Same.is c.requires.there 2 0 (omega arith)

pub place-requires-in-Same-4-clause-there : goal.place-requires-in-Same-4-clause-there
place-requires-in-Same-4-clause-there c = subst (λ s. All (Contains c.args.ids.now) (ids_of s)) c.in-Same.is c.requires.there 3 0 (omega arith)
