-- The alternatives of the rules of patterns and binders do what is said of the rules.
use Rattle.std.proofs.Common.{◌≡◌, ℕ, ◌+◌, ◌<◌, ◌≤◌, true, List, [], ◌∷◌, ◌++◌, Option, None, Some, length, refl, sym, ap, ◌∙◌, subst, arith, append_assoc, append-nil, length-append}
use Rattle.std.specs.Prelude.{slice_get}
use Rattle.std.proofs.lemmas.List.{map-append}
use Rattle.rz_lex.specs.declared.token.Tok.TheVariants as token
use Rattle.rz_lex.specs.declared.token.Token.{Token}
use Rattle.rz_syntax.specs.declared.action.Action.TheVariants as action
use Rattle.rz_syntax.specs.declared.builder.Builder.{Builder}
use Rattle.rz_syntax.specs.declared.forms.Raw.{Raw}
use Rattle.rz_syntax.specs.declared.forms.Pat.{Pat}
use Rattle.rz_syntax.specs.declared.forms.Bind.{Bind}
use Rattle.rz_syntax.specs.declared.forms.Shape.{Shape}
use Rattle.rz_syntax.specs.declared.forms.Shape.TheVariants as shape
use Rattle.rz_syntax.specs.declared.forms.Form.{Form}
use Rattle.rz_syntax.specs.declared.forms.Form.TheVariants as form
use Rattle.rz_syntax.specs.declared.grammar.Symbol.TheVariants.{One, Do}
use Rattle.rz_syntax.specs.Building.{after, last_place, next_place, last_bytes, bytes_of, bind_each, nest, wrap}
use Rattle.rz_print.specs.Reading.{IsName}
use Rattle.rz_print.specs.Meaning.{optional, bind_parts}
use Rattle.rz_print.proofs.Atoms.{name_here}
use Rattle.rz_print.proofs.Binding.{pats_of, bind_parts_join}
use Rattle.rz_print.proofs.Fitting.{some, is_typed, AreParameters}
use Rattle.rz_print.proofs.Soundness.{AreBelow, PatsBelow, below_more, pats_more, below_join, pats_join, ShapeStands, IsSound, sound_form, sound_shape}
use Rattle.rz_print.proofs.Effects.{Sound, Grows, grows_none, grows_then, grows_shape, forms_longer, shapes_longer, Frame, frame_then, on_operand, on_place, on_pattern, on_group, on_binds, sound_on, below, MakesForm, made_on, new_form, Listed, Lists, GoodPatterns, AreTyped, GoodBinds, SomeBinds, TypedBinds, Draws, TakesForm, TakesType, Chain, NamesAre}
use Rattle.rz_print.proofs.Doing.{act_arrow, act_arrows, act_sigma, act_lambda, act_pair_pattern, act_pattern, act_untyped, act_typed, act_restricted, act_name_pattern, act_blank_pattern, act_open_patterns, act_open_binds, act_here}
use Rattle.rz_print.proofs.Making.{sound_below, listed_then, some_join}
use Rattle.rz_print.proofs.States.{noted, shaped, operand, grouped, bound, patterned}

-- ---- patterns

new_pattern : (a g b : Builder) → Grows a g → Sound g → (new : Shape) → ShapeStands (length g.shapes) new → (at : ℕ)
    → b ≡ patterned (shaped g (new ∷ [])) (record { shape = length g.shapes; at = at }) → Draws a b
new_pattern a g b h s new stands at e = record {
  base = shaped g (new ∷ []);
  grows = grows_then h (grows_shape g new);
  pat = record { shape = length g.shapes; at = at };
  is = e;
  sound = sound_shape g.shapes g.forms new s stands;
  within = omega (arith, length-append g.shapes (new ∷ []));
}

-- a pattern is made above what stands on top
pub record DrawnOn (put : Builder → Builder) (a b : Builder) : Type 0 where
  pub base : Builder
  pub grows : Grows a base
  pub pat : Pat
  pub is : b ≡ patterned (put base) pat
  pub sound : Sound base
  pub within : pat.shape < length base.shapes

drawn_on : (put : Builder → Builder) → Frame put → (a b c : Builder) → b ≡ put a → Sound a → (Sound b → Draws b c) → DrawnOn put a c
drawn_on put f a b c e s eff =
    let m = eff (sound_on put f a b e s) in
    let t = below put f a b m.base e m.grows in
    record {
      base = t.base;
      grows = t.grows;
      pat = m.pat;
      is = m.is ∙ ap (λ (x : Builder). patterned x m.pat) t.is;
      sound = sound_below t m.sound;
      within = subst (λ (ss : List Shape). m.pat.shape < length ss) t.shapes m.within;
    }

pub name_draws : (text : List ℕ) (tokens : List Token) → NamesAre text tokens → (read : ℕ) (b b' : Builder) → Chain text tokens (One token.Name ∷ Do action.NamePattern ∷ []) read b b' → Sound b → Draws b b'
name_draws text tokens names read b b' p s =
    let name : IsName (last_bytes text tokens (read + 1)) = subst IsName (sym (name_here text tokens read (bytes_of text (slice_get tokens read)) refl)) (names read p.0) in
    new_pattern b b b' (grows_none b) s (shape.Named (last_bytes text tokens (read + 1))) name (last_place b (read + 1)) (sym p.1 ∙ act_name_pattern text tokens (read + 1) b)

pub blank_draws : (text : List ℕ) (tokens : List Token) (read : ℕ) (b b' : Builder) → after text tokens read action.BlankPattern b ≡ b' → Sound b → Draws b b'
blank_draws text tokens read b b' q s = new_pattern b b b' (grows_none b) s shape.Blank tt (last_place b read) (sym q ∙ act_blank_pattern text tokens read b)

pub pair_draws : (text : List ℕ) (tokens : List Token) (read mid : ℕ) (b c d b' : Builder) → (Sound (after text tokens read action.Here b) → Draws (after text tokens read action.Here b) c) → (Sound c → Draws c d)
    → after text tokens mid action.PairPattern d ≡ b' → Sound b → Draws b b'
pair_draws text tokens read mid b c d b' f g q s =
    let at = next_place b read in
    let m = drawn_on (λ x. noted x at) (on_place at) b (after text tokens read action.Here b) c (act_here text tokens read b) s f in
    let n = drawn_on (λ x. patterned (noted x at) m.pat) (frame_then (λ x. patterned x m.pat) (λ x. noted x at) (on_pattern m.pat) (on_place at)) m.base c d m.is m.sound g in
    let longer = shapes_longer n.grows in
    let inner = m.within in
    new_pattern b n.base b' (grows_then m.grows n.grows) n.sound (shape.Pair m.pat n.pat) (omega arith, n.within) at
    (sym q ∙ ap (after text tokens mid action.PairPattern) n.is ∙ act_pair_pattern text tokens mid n.base at m.pat n.pat)

patterns_good : (x y : Builder) (xs ys : List Pat) → Grows x y → GoodPatterns x xs → GoodPatterns y ys → GoodPatterns y (xs ++ ys)
patterns_good x y xs ys g a b = pats_join (length y.shapes) xs ys (pats_more (length x.shapes) (length y.shapes) xs (shapes_longer g) a) b

pub pattern_lists : (text : List ℕ) (tokens : List Token) (read : ℕ) (b c b' : Builder) → (Sound b → Draws b c) → Lists grouped GoodPatterns (after text tokens read action.AddPattern c) b' → Lists grouped GoodPatterns b b'
pattern_lists text tokens read b c b' f n a list e s =
    let m = drawn_on (λ x. grouped x list) (on_group list) a b c e s f in
    let made : after text tokens read action.AddPattern c ≡ grouped m.base (list ++ m.pat ∷ []) = ap (after text tokens read action.AddPattern) m.is ∙ act_pattern text tokens read m.base list m.pat in
    let one : Listed grouped GoodPatterns a list (after text tokens read action.AddPattern c) =
    record { base = m.base; grows = m.grows; new = m.pat ∷ []; is = made; sound = m.sound; within = (m.within, tt) } in
    listed_then grouped GoodPatterns GoodPatterns GoodPatterns a (after text tokens read action.AddPattern c) b' list patterns_good one n

-- ---- binders with the same type

each_parts : (count : ℕ) (group : List Pat) (of tope : Option Raw) → AreBelow count (optional of ++ optional tope) → AreBelow count (bind_parts (bind_each group of tope))
each_parts count [] of tope h = tt
each_parts count (pat ∷ group) of tope h = below_join count (optional of ++ optional tope) (bind_parts (bind_each group of tope)) h (each_parts count group of tope h)

each_patterns : (group : List Pat) (of tope : Option Raw) → pats_of (bind_each group of tope) ≡ group
each_patterns [] of tope = refl
each_patterns (pat ∷ group) of tope = ap (λ (ps : List Pat). pat ∷ ps) (each_patterns group of tope)

each_fits : (group : List Pat) (of : Raw) (tope : Option Raw) → AreParameters (bind_each group (Some of) tope)
each_fits [] of tope = tt
each_fits (pat ∷ group) of tope = (refl, each_fits group of tope)

each_typed : (group : List Pat) (of : Raw) (tope : Option Raw) → AreTyped (bind_each group (Some of) tope)
each_typed [] of tope = tt
each_typed (pat ∷ group) of tope = (refl, each_typed group of tope)

each_some : (group : List Pat) (of tope : Option Raw) → some group ≡ true → some (bind_each group of tope) ≡ true
each_some [] of tope e = absurd (cc)
each_some (pat ∷ group) of tope e = refl

each_good : (a : Builder) (group : List Pat) (of : Raw) (tope : Option Raw) → GoodPatterns a group → some group ≡ true → AreBelow (length a.forms) ((of ∷ []) ++ optional tope) → TypedBinds a (bind_each group (Some of) tope)
each_good a group of tope hp hg h = (
  record {
    parts = each_parts (length a.forms) group (Some of) tope h;
    patterns = subst (λ (ps : List Pat). PatsBelow (length a.shapes) ps) (sym (each_patterns group (Some of) tope)) hp;
    fit = each_fits group of tope;
  },
  each_typed group of tope,
  each_some group (Some of) tope hg,
)

pub typed_takes : (text : List ℕ) (tokens : List Token) (read : ℕ) (b b' : Builder) → after text tokens read action.AddTyped b ≡ b' → TakesType b b'
typed_takes text tokens read b b' q a list group start of e s hp hg w = record {
  base = a;
  grows = grows_none a;
  new = bind_each group (Some of) None;
  is = sym q ∙ ap (after text tokens read action.AddTyped) e ∙ act_typed text tokens read a list group start of;
  sound = s;
  within = each_good a group of None hp hg (w, tt);
}

abbrev typing : List Bind → List Pat → ℕ → Raw → Builder → Builder
typing list group start of x = operand (grouped (bound x list) group) start of

on_typing : (list : List Bind) (group : List Pat) (start : ℕ) (of : Raw) → Frame (typing list group start of)
on_typing list group start of = record { grows = λ a s f. refl; shapes = λ a. refl; forms = λ a. refl }

pub restricted_takes : (text : List ℕ) (tokens : List Token) (read : ℕ) (b c b' : Builder) → MakesForm b c → after text tokens read action.AddRestricted c ≡ b' → TakesType b b'
restricted_takes text tokens read b c b' f q a list group start of e s hp hg w =
    let m = made_on (typing list group start of) (on_typing list group start of) a b c e s f in
    let longer = forms_longer m.grows in
    record {
      base = m.base;
      grows = m.grows;
      new = bind_each group (Some of) (Some m.raw);
      is = sym q ∙ ap (after text tokens read action.AddRestricted) m.is ∙ act_restricted text tokens read m.base list group start m.start of m.raw;
      sound = m.sound;
      within = each_good m.base group of (Some m.raw) (pats_more (length a.shapes) (length m.base.shapes) group (shapes_longer m.grows) hp) hg (omega arith, (m.within, tt));
    }

abbrev grouping : List Bind → List Pat → Builder → Builder
grouping list group x = grouped (bound x list) group

on_grouping : (list : List Bind) (group : List Pat) → Frame (grouping list group)
on_grouping list group = record { grows = λ a s f. refl; shapes = λ a. refl; forms = λ a. refl }

pub listed_below : {X : Type 0} {put : Builder → List X → Builder} {W : Builder → List X → Type 0} {a g b : Builder} {list : List X} → Grows a g → Listed put W g list b → Listed put W a list b
listed_below h m = record { base = m.base; grows = grows_then h m.grows; new = m.new; is = m.is; sound = m.sound; within = m.within }

pub binder_lists : (text : List ℕ) (tokens : List Token) (read mid : ℕ) (b c d o b' : Builder) → (Sound (after text tokens read action.OpenPatterns b) → Draws (after text tokens read action.OpenPatterns b) c)
    → Lists grouped GoodPatterns (after text tokens mid action.AddPattern c) d → MakesForm d o → TakesType o b' → Lists bound TypedBinds b b'
binder_lists text tokens read mid b c d o b' f k g t a list e s =
    let opened : after text tokens read action.OpenPatterns b ≡ grouped (bound a list) [] = ap (after text tokens read action.OpenPatterns) e ∙ act_open_patterns text tokens read (bound a list) in
    let m = drawn_on (grouping list []) (on_grouping list []) a (after text tokens read action.OpenPatterns b) c opened s f in
    let one : after text tokens mid action.AddPattern c ≡ grouped (bound m.base list) (m.pat ∷ []) = ap (after text tokens mid action.AddPattern) m.is ∙ act_pattern text tokens mid (bound m.base list) [] m.pat in
    let l = k (bound m.base list) (m.pat ∷ []) one m.sound in
    let u = below (λ x. bound x list) (on_binds list) m.base (bound m.base list) l.base refl l.grows in
    let group = m.pat ∷ l.new in
    let longer = shapes_longer u.grows in
    let inner = m.within in
    let good : PatsBelow (length u.base.shapes) group = (omega arith, subst (λ (ss : List Shape). PatsBelow (length ss) l.new) u.shapes l.within) in
    let n = made_on (grouping list group) (on_grouping list group) u.base d o (l.is ∙ ap (λ (x : Builder). grouped x group) u.is) (sound_below u l.sound) g in
    listed_below (grows_then m.grows (grows_then u.grows n.grows))
    (t n.base list group n.start n.raw n.is n.sound (pats_more (length u.base.shapes) (length n.base.shapes) group (shapes_longer n.grows) good) refl n.within)

-- ---- binders in a row

binds_good : (x y : Builder) (xs ys : List Bind) → Grows x y → GoodBinds x xs → GoodBinds y ys → GoodBinds y (xs ++ ys)
binds_good x y xs ys g a b =
    let parts : AreBelow (length y.forms) (bind_parts xs ++ bind_parts ys) =
    below_join (length y.forms) (bind_parts xs) (bind_parts ys) (below_more (length x.forms) (length y.forms) (bind_parts xs) (forms_longer g) a.parts) b.parts in
    let pats : PatsBelow (length y.shapes) (pats_of xs ++ pats_of ys) =
    pats_join (length y.shapes) (pats_of xs) (pats_of ys) (pats_more (length x.shapes) (length y.shapes) (pats_of xs) (shapes_longer g) a.patterns) b.patterns in
    record {
      parts = subst (λ (rs : List Raw). AreBelow (length y.forms) rs) (sym (bind_parts_join xs ys)) parts;
      patterns = subst (λ (ps : List Pat). PatsBelow (length y.shapes) ps) (sym (map-append (λ (bind : Bind). bind.pat) xs ys)) pats;
      fit = fit_join xs ys a.fit b.fit;
    }
  where
    fit_join : (xs ys : List Bind) → AreParameters xs → AreParameters ys → AreParameters (xs ++ ys)
    fit_join [] ys a b = b
    fit_join (bind ∷ xs) ys a b = (a.0, fit_join xs ys a.1 b)

pub untyped_lists : (text : List ℕ) (tokens : List Token) (read : ℕ) (b c b' : Builder) → (Sound b → Draws b c) → after text tokens read action.AddUntyped c ≡ b' → Lists bound SomeBinds b b'
untyped_lists text tokens read b c b' f q a list e s =
    let m = drawn_on (λ x. bound x list) (on_binds list) a b c e s f in
    record {
      base = m.base;
      grows = m.grows;
      new = record { pat = m.pat; of = None; tope = None } ∷ [];
      is = sym q ∙ ap (after text tokens read action.AddUntyped) m.is ∙ act_untyped text tokens read m.base list m.pat;
      sound = m.sound;
      within = (record { parts = tt; patterns = (m.within, tt); fit = (refl, tt) }, refl);
    }

pub parameter_lists : (b c b' : Builder) → Lists bound TypedBinds b c → c ≡ b' → Lists bound SomeBinds b b'
parameter_lists b c b' f q a list e s =
    let m = f a list e s in
    record { base = m.base; grows = m.grows; new = m.new; is = sym q ∙ m.is; sound = m.sound; within = (m.within.0, m.within.2) }

pub parameters_list : (b c b' : Builder) → Lists bound SomeBinds b c → Lists bound GoodBinds c b' → Lists bound GoodBinds b b'
parameters_list b c b' m n a list e s = listed_then bound SomeBinds GoodBinds GoodBinds a c b' list (λ x y xs ys g h k. binds_good x y xs ys g h.0 k) (m a list e s) n

pub binders_list : (b c b' : Builder) → Lists bound TypedBinds b c → Lists bound GoodBinds c b' → Lists bound GoodBinds b b'
binders_list b c b' m n a list e s = listed_then bound TypedBinds GoodBinds GoodBinds a c b' list (λ x y xs ys g h k. binds_good x y xs ys g h.0 k) (m a list e s) n

-- ---- forms with binders

abbrev binding : ℕ → List Bind → Builder → Builder
binding at list x = bound (noted x at) list

on_binding : (at : ℕ) (list : List Bind) → Frame (binding at list)
on_binding at list = record { grows = λ a s f. refl; shapes = λ a. refl; forms = λ a. refl }

opened_binds : (text : List ℕ) (tokens : List Token) (read : ℕ) (b : Builder) → after text tokens read action.OpenBinds (after text tokens read action.Here b) ≡ bound (noted b (next_place b read)) []
opened_binds text tokens read b = ap (after text tokens read action.OpenBinds) (act_here text tokens read b) ∙ act_open_binds text tokens read (noted b (next_place b read))

pub lambda_makes : (text : List ℕ) (tokens : List Token) (read mid : ℕ) (b c d o b' : Builder) → Lists bound SomeBinds (after text tokens read action.OpenBinds (after text tokens read action.Here b)) c → Lists bound GoodBinds c d
    → MakesForm d o → after text tokens mid action.Lambda o ≡ b' → MakesForm b b'
lambda_makes text tokens read mid b c d o b' m n g q s =
    let at = next_place b read in
    let l : Listed bound SomeBinds (noted b at) [] d =
    listed_then bound SomeBinds GoodBinds SomeBinds (noted b at) c d [] (λ x y xs ys g h k. (binds_good x y xs ys g h.0 k, some_join xs ys h.1)) (m (noted b at) [] (opened_binds text tokens read b) s) n in
    let t = below (λ x. noted x at) (on_place at) b (noted b at) l.base refl l.grows in
    let k = made_on (binding at l.new) (on_binding at l.new) t.base d o (l.is ∙ ap (λ (x : Builder). bound x l.new) t.is) (sound_below t l.sound) g in
    let good = l.within.0 in
    let parts : AreBelow (length t.base.forms) (bind_parts l.new) = subst (λ (fs : List Form). AreBelow (length fs) (bind_parts l.new)) t.forms good.parts in
    let pats : PatsBelow (length t.base.shapes) (pats_of l.new) = subst (λ (ss : List Shape). PatsBelow (length ss) (pats_of l.new)) t.shapes good.patterns in
    new_form b k.base b' (grows_then t.grows k.grows) k.sound (form.Lambda l.new k.raw)
    (record {
      parts = below_join (length k.base.forms) (bind_parts l.new) (k.raw ∷ []) (below_more (length t.base.forms) (length k.base.forms) (bind_parts l.new) (forms_longer k.grows) parts) (k.within, tt);
      patterns = pats_more (length t.base.shapes) (length k.base.shapes) (pats_of l.new) (shapes_longer k.grows) pats;
      fits = (l.within.1, good.fit);
    }) at at (sym q ∙ ap (after text tokens mid action.Lambda) k.is ∙ act_lambda text tokens mid k.base at l.new k.start k.raw)

-- function types around a body
pub record Nested (shapes : List Shape) (forms : List Form) (whole : List Form × Raw) : Type 0 where
  pub more : List Form
  pub is : whole.0 ≡ forms ++ more
  pub sound : IsSound shapes whole.0
  pub within : whole.1.form < length whole.0

one_around : (shapes : List Shape) (forms : List Form) (bind : Bind) (at : ℕ) (inner : List Form × Raw) → Nested shapes forms inner → AreBelow (length forms) (optional bind.of ++ optional bind.tope) → bind.pat.shape < length shapes → is_typed bind.of ≡ true
    → Nested shapes forms (inner.0 ++ form.Arrow bind inner.1 ∷ [], record { form = length inner.0; at = at })
one_around shapes forms bind at inner n h p e =
    let new = form.Arrow bind inner.1 in
    let grown_is : length inner.0 ≡ length (forms ++ n.more) = ap (λ (fs : List Form). length fs) n.is in
    let longer : length forms ≤ length inner.0 = omega (arith, length-append forms n.more) in
    let own : AreBelow (length inner.0) (optional bind.of ++ optional bind.tope) = below_more (length forms) (length inner.0) (optional bind.of ++ optional bind.tope) longer h in
    let all : AreBelow (length inner.0) ((optional bind.of ++ optional bind.tope) ++ []) = below_join (length inner.0) (optional bind.of ++ optional bind.tope) [] own tt in
    record {
      more = n.more ++ new ∷ [];
      is = ap (λ (fs : List Form). fs ++ new ∷ []) n.is ∙ append_assoc forms n.more (new ∷ []);
      sound = sound_form shapes inner.0 new n.sound (record {
        parts = below_join (length inner.0) ((optional bind.of ++ optional bind.tope) ++ []) (inner.1 ∷ []) all (n.within, tt);
        patterns = (p, tt);
        fits = e;
      });
      within = omega (arith, length-append inner.0 (new ∷ []));
    }

below_first : (n : ℕ) (xs ys : List Raw) → AreBelow n (xs ++ ys) → AreBelow n xs × AreBelow n ys
below_first n [] ys h = (tt, h)
below_first n (x ∷ xs) ys h = let t = below_first n xs ys h.1 in ((h.0, t.0), t.1)

nest_none : (shapes : List Shape) (forms : List Form) (body : Raw) → IsSound shapes forms → body.form < length forms → Nested shapes forms (forms, body)
nest_none shapes forms body s w = record { more = []; is = sym (append-nil forms); sound = s; within = w }

nested : (shapes : List Shape) (forms : List Form) (binds : List Bind) (body : Raw) → IsSound shapes forms → AreBelow (length forms) (bind_parts binds) → PatsBelow (length shapes) (pats_of binds) → AreTyped binds → body.form < length forms
    → Nested shapes forms (nest forms binds body)
nested shapes forms [] body s h p t w = nest_none shapes forms body s w
nested shapes forms (bind ∷ binds) body s h p t w =
    let parts = below_first (length forms) (optional bind.of ++ optional bind.tope) (bind_parts binds) h in
    one_around shapes forms bind bind.pat.at (nest forms binds body) (nested shapes forms binds body s parts.1 p.1 t.1 w) parts.0 p.0 t.0

wrapped_sound : (shapes : List Shape) (forms : List Form) (at : ℕ) (binds : List Bind) (body : Raw) → IsSound shapes forms → AreBelow (length forms) (bind_parts binds) → PatsBelow (length shapes) (pats_of binds) → AreTyped binds → body.form < length forms
    → Nested shapes forms (wrap forms at binds body)
wrapped_sound shapes forms at [] body s h p t w = nest_none shapes forms body s w
wrapped_sound shapes forms at (bind ∷ binds) body s h p t w =
    let parts = below_first (length forms) (optional bind.of ++ optional bind.tope) (bind_parts binds) h in
    one_around shapes forms bind at (nest forms binds body) (nested shapes forms binds body s parts.1 p.1 t.1 w) parts.0 p.0 t.0

pub arrows_make : (text : List ℕ) (tokens : List Token) (read mid : ℕ) (b d o b' : Builder) → Lists bound TypedBinds (after text tokens read action.OpenBinds (after text tokens read action.Here b)) d → MakesForm d o
    → after text tokens mid action.Arrows o ≡ b' → MakesForm b b'
arrows_make text tokens read mid b d o b' m g q s =
    let at = next_place b read in
    let l = m (noted b at) [] (opened_binds text tokens read b) s in
    let t = below (λ x. noted x at) (on_place at) b (noted b at) l.base refl l.grows in
    let k = made_on (binding at l.new) (on_binding at l.new) t.base d o (l.is ∙ ap (λ (x : Builder). bound x l.new) t.is) (sound_below t l.sound) g in
    let good = l.within.0 in
    let parts : AreBelow (length t.base.forms) (bind_parts l.new) = subst (λ (fs : List Form). AreBelow (length fs) (bind_parts l.new)) t.forms good.parts in
    let pats : PatsBelow (length t.base.shapes) (pats_of l.new) = subst (λ (ss : List Shape). PatsBelow (length ss) (pats_of l.new)) t.shapes good.patterns in
    let whole = wrap k.base.forms at l.new k.raw in
    let n = wrapped_sound k.base.shapes k.base.forms at l.new k.raw k.sound
    (below_more (length t.base.forms) (length k.base.forms) (bind_parts l.new) (forms_longer k.grows) parts)
    (pats_more (length t.base.shapes) (length k.base.shapes) (pats_of l.new) (shapes_longer k.grows) pats) l.within.1 k.within in
    let more : Grows k.base (record k.base { forms = whole.0 }) = record {
      shapes = [];
      forms = n.more;
      is = ap (λ (fs : List Form). record k.base { forms = fs }) n.is ∙ ap (λ (ss : List Shape). record k.base { shapes = ss; forms = k.base.forms ++ n.more }) (sym (append-nil k.base.shapes));
    } in
    record {
      base = record k.base { forms = whole.0 };
      grows = grows_then t.grows (grows_then k.grows more);
      start = at;
      raw = whole.1;
      is = sym q ∙ ap (after text tokens mid action.Arrows) k.is ∙ act_arrows text tokens mid k.base at l.new k.start k.raw;
      sound = n.sound;
      within = n.within;
    }

pub arrow_takes : (text : List ℕ) (tokens : List Token) (read : ℕ) (b c b' : Builder) → MakesForm b c → after text tokens read action.Arrow c ≡ b' → TakesForm b b'
arrow_takes text tokens read b c b' f q a start raw e s w =
    let m = made_on (λ x. operand x start raw) (on_operand start raw) a b c e s f in
    let longer = forms_longer m.grows in
    let g = shaped m.base (shape.Blank ∷ []) in
    let one : length m.base.shapes < length g.shapes = omega (arith, length-append m.base.shapes (shape.Blank ∷ [])) in
    let new = form.Arrow (record { pat = record { shape = length m.base.shapes; at = raw.at }; of = Some raw; tope = None }) m.raw in
    new_form a g b' (grows_then m.grows (grows_shape m.base shape.Blank)) (sound_shape m.base.shapes m.base.forms shape.Blank m.sound tt) new
    (record { parts = (omega arith, (m.within, tt)); patterns = (one, tt); fits = refl }) start start
    (sym q ∙ ap (after text tokens read action.Arrow) m.is ∙ act_arrow text tokens read m.base start m.start raw m.raw)

abbrev drawing : ℕ → Pat → Builder → Builder
drawing at pat x = patterned (noted x at) pat

on_drawing : (at : ℕ) (pat : Pat) → Frame (drawing at pat)
on_drawing at pat = record { grows = λ a s f. refl; shapes = λ a. refl; forms = λ a. refl }

abbrev pairing : ℕ → Pat → ℕ → Raw → Builder → Builder
pairing at pat start of x = operand (patterned (noted x at) pat) start of

on_pairing : (at : ℕ) (pat : Pat) (start : ℕ) (of : Raw) → Frame (pairing at pat start of)
on_pairing at pat start of = record { grows = λ a s f. refl; shapes = λ a. refl; forms = λ a. refl }

pub sigma_makes : (text : List ℕ) (tokens : List Token) (read mid : ℕ) (b c d o b' : Builder) → (Sound (after text tokens read action.Here b) → Draws (after text tokens read action.Here b) c) → MakesForm c d → MakesForm d o
    → after text tokens mid action.Sigma o ≡ b' → MakesForm b b'
sigma_makes text tokens read mid b c d o b' f g k q s =
    let at = next_place b read in
    let m = drawn_on (λ x. noted x at) (on_place at) b (after text tokens read action.Here b) c (act_here text tokens read b) s f in
    let n = made_on (drawing at m.pat) (on_drawing at m.pat) m.base c d m.is m.sound g in
    let l = made_on (pairing at m.pat n.start n.raw) (on_pairing at m.pat n.start n.raw) n.base d o n.is n.sound k in
    let more = forms_longer l.grows in
    let typed = n.within in
    let first = shapes_longer n.grows in
    let second = shapes_longer l.grows in
    let pattern = m.within in
    let new = form.Sigma (record { pat = m.pat; of = Some n.raw; tope = None }) l.raw in
    new_form b l.base b' (grows_then m.grows (grows_then n.grows l.grows)) l.sound new (record { parts = (omega arith, (l.within, tt)); patterns = (omega arith, tt); fits = refl }) at at
    (sym q ∙ ap (after text tokens mid action.Sigma) l.is ∙ act_sigma text tokens mid l.base at m.pat n.start l.start n.raw l.raw)
