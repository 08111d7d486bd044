use Rattle.std.proofs.Common.{◌≡◌, ℕ, List, length, get_or, Some, sym, ap, subst, ◌∙◌, arith}
use Rattle.std.specs.Prelude.{slice_get}
use Rattle.std.proofs.lemmas.List.{length_push}
use Rattle.std.proofs.lemmas.Option.{slice_get-get_or}
use Rattle.rz_rules.specs.Tree.{Tree, tree_of}
use Rattle.rz_tope_normal.specs.declared.hypotheses.Hypothesis.{Hypothesis}
use Rattle.rz_tope_normal.specs.Norm.{IsSetting}
use Rattle.rz_tope_normal.specs.Reader.{IsReader}
use Rattle.rz_tope_normal.specs.Sequent.{IsAssumed, IsReadableEntry}
use Rattle.rz_tope_normal.proofs.Joining.{item_is}
use Rattle.rz_tope_normal.proofs.Norming.{setting_stays}
use Rattle.rz_tope_normal.proofs.Opening.{assumed_later, readable_stays}
use Rattle.rz_tope_normal.proofs.Readers.{kept_same, kept_trans, no_item}
use Rattle.rz_tope_normal.proofs.Splitting.{push_cases}
use Rattle.rz_tope_normal.proofs.Staying.{Later-same, Later-trans, tree_stays}
use Rattle.rz_tope_normal.proofs.sequents.assume.Goals as goal
use Rattle.rz_tope_normal.proofs.sequents.assume.Goals.{In_ok-pair}

pub loop-hypothesis-init : goal.loop-hypothesis-init
loop-hypothesis-init c = record {
  assumed = λ k h pair eh e. absurd (no_item c.new-given.result.items c.new-given.ensures.items k pair e);
  count = ap length c.new-given.ensures.items;
  reader = c.requires.reader;
  kept = kept_same c.args.pool.now.nodes c.args.reader.now;
  later = Later-same c.args.pool.now.nodes c.args.proof.now;
}

abbrev none : Hypothesis
none = record { number = 0; tope = 0 }

pub assume_one-requires-clause-setting : goal.assume_one-requires-clause-setting
assume_one-requires-clause-setting c =
    let grows = c.loop-hypothesis.invariant.later.grows in
    let here = tree_stays c.args.pool.now.nodes c.loop-hypothesis.pool.nodes grows c.args.setting.now.context c.requires.setting.live in
    subst (λ (t : Tree). IsSetting c.loop-hypothesis.pool.nodes t c.args.list.now c.args.setting.now) (sym here)
    (setting_stays c.args.pool.now.nodes c.loop-hypothesis.pool.nodes grows (tree_of c.args.pool.now.nodes c.args.setting.now.context) c.args.list.now
    c.args.setting.now c.requires.setting)

pub assume_one-requires-clause-reader : goal.assume_one-requires-clause-reader
assume_one-requires-clause-reader c =
    let grows = c.loop-hypothesis.invariant.later.grows in
    let here = tree_stays c.args.pool.now.nodes c.loop-hypothesis.pool.nodes grows c.args.setting.now.context c.requires.setting.live in
    subst (λ (t : Tree). IsReader c.loop-hypothesis.pool.nodes t c.args.list.now c.args.setting.now c.loop-hypothesis.proof c.loop-hypothesis.reader)
    (sym here)
    c.loop-hypothesis.invariant.reader

pub assume_one-requires-clause-given : goal.assume_one-requires-clause-given
assume_one-requires-clause-given c =
    let grows = c.loop-hypothesis.invariant.later.grows in
    let here = tree_stays c.args.pool.now.nodes c.loop-hypothesis.pool.nodes grows c.args.setting.now.context c.requires.setting.live in
    let h = get_or c.args.hypotheses.now c.loop-hypothesis.hypothesis-index none in
    subst (λ (t : Tree). IsReadableEntry c.loop-hypothesis.pool.nodes t c.args.list.now h) (sym here)
    (readable_stays c.args.pool.now.nodes c.loop-hypothesis.pool.nodes grows (tree_of c.args.pool.now.nodes c.args.setting.now.context)
    c.args.list.now h
    (c.requires.given c.loop-hypothesis.hypothesis-index none c.loop-hypothesis-test.true))

pub loop-hypothesis-preserved : goal.loop-hypothesis-preserved
loop-hypothesis-preserved c =
    let old = c.args.pool.now.nodes in
    let now = c.loop-hypothesis.pool.nodes in
    let new = c.assume_one.new.pool.nodes in
    let inv = c.loop-hypothesis.invariant in
    let grows = inv.later.grows in
    let made = c.in_ok-pair.ensures in
    let context = tree_of old c.args.setting.now.context in
    let here = tree_stays old now grows c.args.setting.now.context c.requires.setting.live in
    let list = c.args.hypotheses.now in
    let index = c.loop-hypothesis.hypothesis-index in
    let h : Hypothesis = get_or list index none in
    let given = c.loop-hypothesis.given.items in
    let pair = c.in_ok-pair.pair in
    let parts = c.assume_one.new.reader.parts.items in
    let proof = c.assume_one.new.proof in
    let items = c.in_ok-push.ensures.items in
    let tope = tree_stays old now grows h.tope (c.requires.given index none c.loop-hypothesis-test.true).given.live in
    let fresh : IsAssumed new context proof parts (tree_of old h.tope) pair =
    subst (λ (t : Tree). IsAssumed new t proof parts (tree_of old h.tope) pair) here
    (subst (λ (t : Tree). IsAssumed new (tree_of now c.args.setting.now.context) proof parts t pair) tope made.assumed) in
    let P : ℕ → ℕ × ℕ → Type 0 = λ k p. (g : Hypothesis) → slice_get list k ≡ Some g → IsAssumed new context proof parts (tree_of old g.tope) p in
    record {
      assumed = λ k g p eg e.
          push_cases P given pair
          (λ n q eq f ef. assumed_later now c.loop-hypothesis.proof new proof made.later context c.loop-hypothesis.reader c.assume_one.new.reader
          made.kept (tree_of old f.tope) q
          (inv.assumed n f q ef eq))
          (λ f ef.
          let at : slice_get list (length given) ≡ Some h =
          ap (slice_get list) inv.count ∙ slice_get-get_or list index none c.loop-hypothesis-test.true in
          let same : h ≡ f = item_is h f (sym at ∙ ef) in
          subst (λ (g : Hypothesis). IsAssumed new context proof parts (tree_of old g.tope) pair) same fresh)
          k p (ap (λ (xs : List (ℕ × ℕ)). slice_get xs k) (sym items) ∙ e) g eg;
      count = omega (arith, ap length items, length_push given pair, inv.count);
      reader = subst (λ (t : Tree). IsReader new t c.args.list.now c.args.setting.now proof c.assume_one.new.reader) here made.reader;
      kept = kept_trans old now new grows c.args.reader.now c.loop-hypothesis.reader c.assume_one.new.reader inv.kept made.kept;
      later = Later-trans old now new c.args.proof.now c.loop-hypothesis.proof proof inv.later made.later;
    }

pub returns-clause-assumed : goal.returns-clause-assumed
returns-clause-assumed c = record {
  count = omega (arith, c.loop-hypothesis.invariant.count, c.loop-hypothesis-test.false, c.loop-hypothesis.auto.hypothesis-index-end);
  each = c.loop-hypothesis.invariant.assumed;
}
