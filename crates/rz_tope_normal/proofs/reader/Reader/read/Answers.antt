use Rattle.std.proofs.Common.{◌≡◌, ℕ, ◌<◌, List, [], ◌∷◌, ◌++◌, length, get_or, All, sym, ap, subst, ◌∙◌, arith}
use Rattle.std.proofs.lemmas.List.Elements.{All-contains, Contains-push}
use Rattle.rz_rules.specs.declared.kinds.Sort.{Sort}
use Rattle.rz_rules.specs.Tree.{Tree, sort_of, tree_of}
use Rattle.rz_rules.specs.Cube.{binders_of}
use Rattle.rz_pool.proofs.WellFormed.{tree_of-is}
use Rattle.rz_cube.proofs.Caching.{IsCaching, IsCaching-pop, IsCaching-start, last_kids, last_live, cached_at_end}
use Rattle.rz_cube.proofs.CachedPoints.{old_node}
use Rattle.rz_tope_normal.specs.Norm.{IsSetting}
use Rattle.rz_tope_normal.specs.Read.{SaysTope}
use Rattle.rz_tope_normal.specs.Reader.{IsDoneAs, IsFineAs, IsReader}
use Rattle.rz_tope_normal.proofs.Fine.{IsFit, IsGood, all_left, fit_fine, good_parts}
use Rattle.rz_tope_normal.proofs.Norming.{setting_stays}
use Rattle.rz_tope_normal.proofs.Readers.{IsOldDone, kept_same, kept_trans}
use Rattle.rz_tope_normal.proofs.Staying.{Later-same, Later-trans, live_stays, tree_stays}
use Rattle.rz_tope_normal.proofs.reader.Reader.read.Goals as goal
use Rattle.rz_tope_normal.proofs.reader.Reader.read.Goals.{In-Some}

pub loop-id-init : goal.loop-id-init
loop-id-init c =
    let old = c.args.pool.now.nodes in
    let b = binders_of (tree_of old c.args.setting.now.context) in
    let whole : IsGood b c.args.list.now (tree_of old c.args.tope) = record {
      tree_is = tree_of-is old c.len.ensures.pool.forms c.args.tope c.requires.tope;
      fit = subst (λ (s : Sort). IsFit b c.args.list.now s (tree_of old c.args.tope)) (sym c.requires.sort) c.requires.fine;
    } in
    record {
      caching = IsCaching-start old c.args.tope (IsOldDone old old c.args.self.now) c.in_ok-ids.ids.items c.in_ok-ids.ensures;
      good = λ k d l. good_parts b c.args.list.now (tree_of old c.args.tope) (tree_of old (get_or c.in_ok-ids.ids.items k d))
          (c.in_ok-ids.ensures.parts k d l).1 whole;
      reader = c.requires.reader;
      kept = kept_same old c.args.self.now;
      later = Later-same old c.args.proof.now;
    }

caching : (c : In-Some) → IsCaching c.args.pool.now.nodes c.args.tope (IsOldDone c.args.pool.now.nodes c.loop-id.pool.nodes c.loop-id.self)
    (c.pop.new.self.items ++ c.in-Some.id ∷ [])
caching c =
    subst (IsCaching c.args.pool.now.nodes c.args.tope (IsOldDone c.args.pool.now.nodes c.loop-id.pool.nodes c.loop-id.self)) c.in-Some.ensures.items
    c.loop-id.invariant.caching

live : (c : In-Some) → c.in-Some.id < length c.args.pool.now.nodes
live c = last_live c.args.pool.now.nodes c.args.tope (IsOldDone c.args.pool.now.nodes c.loop-id.pool.nodes c.loop-id.self) c.pop.new.self.items
    c.in-Some.id (caching c)

here : (c : In-Some) → tree_of c.loop-id.pool.nodes c.args.setting.now.context ≡ tree_of c.args.pool.now.nodes c.args.setting.now.context
here c = tree_stays c.args.pool.now.nodes c.loop-id.pool.nodes c.loop-id.invariant.later.grows c.args.setting.now.context c.requires.setting.live

good : (c : In-Some) → All (λ id. IsGood (binders_of (tree_of c.args.pool.now.nodes c.args.setting.now.context)) c.args.list.now
    (tree_of c.args.pool.now.nodes id))
    (c.pop.new.self.items ++ c.in-Some.id ∷ [])
good c =
    subst (λ (ids : List ℕ). All (λ id. IsGood (binders_of (tree_of c.args.pool.now.nodes c.args.setting.now.context)) c.args.list.now
    (tree_of c.args.pool.now.nodes id)) ids)
    c.in-Some.ensures.items c.loop-id.invariant.good

pub read_next-requires-clause-setting : goal.read_next-requires-clause-setting
read_next-requires-clause-setting c =
    subst (λ (t : Tree). IsSetting c.loop-id.pool.nodes t c.args.list.now c.args.setting.now)
    (sym (here (goal.at.read_next-requires-clause-setting c).In-Some))
    (setting_stays c.args.pool.now.nodes c.loop-id.pool.nodes c.loop-id.invariant.later.grows
    (tree_of c.args.pool.now.nodes c.args.setting.now.context) c.args.list.now
    c.args.setting.now c.requires.setting)

pub read_next-requires-clause-reader : goal.read_next-requires-clause-reader
read_next-requires-clause-reader c =
    subst (λ (t : Tree). IsReader c.loop-id.pool.nodes t c.args.list.now c.args.setting.now c.loop-id.proof c.loop-id.self)
    (sym (here (goal.at.read_next-requires-clause-reader c).In-Some)) c.loop-id.invariant.reader

pub read_next-requires-clause-id : goal.read_next-requires-clause-id
read_next-requires-clause-id c =
    live_stays c.args.pool.now.nodes c.loop-id.pool.nodes c.loop-id.invariant.later.grows c.in-Some.id
    (live (goal.at.read_next-requires-clause-id c).In-Some)

pub read_next-requires-clause-kids : goal.read_next-requires-clause-kids
read_next-requires-clause-kids c node at k d l =
    let g = (goal.at.read_next-requires-clause-kids c).In-Some in
    (last_kids c.args.pool.now.nodes c.args.tope (IsOldDone c.args.pool.now.nodes c.loop-id.pool.nodes c.loop-id.self) c.pop.new.self.items
    c.in-Some.id (caching g) node
    (old_node c.args.pool.now.nodes c.loop-id.pool.nodes c.loop-id.invariant.later.grows c.in-Some.id node (live g) at) k d l).done

pub read_next-requires-clause-fine : goal.read_next-requires-clause-fine
read_next-requires-clause-fine c =
    let g = (goal.at.read_next-requires-clause-fine c).In-Some in
    let old = c.args.pool.now.nodes in
    let now = c.loop-id.pool.nodes in
    let same = tree_stays old now c.loop-id.invariant.later.grows c.in-Some.id (live g) in
    let b = binders_of (tree_of old c.args.setting.now.context) in
    let last = All-contains (λ id. IsGood b c.args.list.now (tree_of old id)) (c.pop.new.self.items ++ c.in-Some.id ∷ []) c.in-Some.id (good g)
    (Contains-push c.pop.new.self.items c.in-Some.id) in
    subst (λ (t : Tree). IsFineAs (binders_of t) c.args.list.now (sort_of (tree_of now c.in-Some.id)) (tree_of now c.in-Some.id)) (sym (here g))
    (subst (λ (t : Tree). IsFineAs b c.args.list.now (sort_of t) t) (sym same) (fit_fine b c.args.list.now (sort_of (tree_of old c.in-Some.id))
    (tree_of old c.in-Some.id) last.fit))

pub loop-id-preserved : goal.loop-id-preserved
loop-id-preserved c =
    let g = (goal.at.loop-id-preserved c).In-Some in
    let old = c.args.pool.now.nodes in
    let now = c.loop-id.pool.nodes in
    let new = c.read_next.new.pool.nodes in
    let inv = c.loop-id.invariant in
    let made = c.in_ok-read_next.ensures in
    record {
      caching = IsCaching-pop old c.args.tope (IsOldDone old now c.loop-id.self) c.pop.new.self.items c.in-Some.id (caching g)
          (IsOldDone old new c.read_next.new.self)
          (record { live = live g; done = made.done }) (λ q cached. record {
            live = cached.live;
            done = made.kept.done q
                (live_stays old now inv.later.grows q cached.live) cached.done;
          });
      good = all_left (λ id. IsGood (binders_of (tree_of old c.args.setting.now.context)) c.args.list.now (tree_of old id)) c.pop.new.self.items
          (c.in-Some.id ∷ []) (good g);
      reader = subst (λ (t : Tree). IsReader new t c.args.list.now c.args.setting.now c.read_next.new.proof c.read_next.new.self) (here g)
          made.reader;
      kept = kept_trans old now new inv.later.grows c.args.self.now c.loop-id.self c.read_next.new.self inv.kept made.kept;
      later = Later-trans old now new c.args.proof.now c.loop-id.proof c.read_next.new.proof inv.later made.later;
    }

pub index-requires : goal.index-requires
index-requires c =
    let old = c.args.pool.now.nodes in
    let now = c.loop-id.pool.nodes in
    let none : length c.loop-id.ids.items ≡ 0 = omega (arith, c.in_default.ensures.cases, c.loop-id.ids.ok) in
    let cached = cached_at_end old c.args.tope (IsOldDone old now c.loop-id.self) c.loop-id.ids.items none c.loop-id.invariant.caching in
    subst (λ (s : Sort). IsDoneAs c.loop-id.self c.args.tope s) (ap sort_of (tree_stays old now c.loop-id.invariant.later.grows c.args.tope
    c.requires.tope) ∙ c.requires.sort) cached.done

pub returns-clause-says : goal.returns-clause-says
returns-clause-says c =
    subst (λ (t : Tree). SaysTope c.loop-id.pool.nodes c.loop-id.self.parts.items c.index.result.now t)
    (tree_stays c.args.pool.now.nodes c.loop-id.pool.nodes c.loop-id.invariant.later.grows c.args.tope c.requires.tope)
    (c.loop-id.invariant.reader.topes c.args.tope c.index.result.now c.index.ensures).says
