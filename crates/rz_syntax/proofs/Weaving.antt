-- Threads, and the ways that they stand for.
use Rattle.std.proofs.Common.{◌≡◌, ℕ, suc, ◌+◌, ◌<◌, Bool, true, false, cond, Option, List, [], ◌∷◌, ◌++◌, length, take, drop, slice_get, Some, None, get_or, map, append_assoc, append-nil, refl, sym, ap, ◌∙◌, subst, arith}
use Rattle.std.proofs.lemmas.List.{map-append, take_more}
use Rattle.std.specs.Borrow.{Bor}
use Rattle.rz_lex.specs.declared.token.Tok.{Tok}
use Rattle.rz_syntax.specs.declared.action.Step.{Step}
use Rattle.rz_syntax.specs.declared.grammar.Symbol.{Symbol}
use Rattle.rz_syntax.specs.declared.grammar.Symbol.TheVariants.{Sub}
use Rattle.rz_syntax.specs.declared.grammar.Rule.{Rule}
use Rattle.rz_syntax.specs.declared.engine.Thread.{Thread}
use Rattle.rz_syntax.specs.declared.engine.Engine.{Engine}
use Rattle.rz_syntax.specs.Lists.{list_at, Grows}
use Rattle.rz_syntax.specs.Threads.{Way, way_at, live_ways, begins, opened, IsIn, AreIn, AreEnded, costs}
use Rattle.rz_syntax.proofs.Linking.{longer, list_at-grows, list_at-last}

abbrev Symbols : Type 0
Symbols = List (List Symbol)

abbrev Scripts : Type 0
Scripts = List (List Step)

pub in_grows : (s s' : Symbols) (k k' : Scripts) (thread : Thread) → Grows s s' → Grows k k' → IsIn s k thread → IsIn s' k' thread
in_grows s s' k k' thread x y h = record { symbols_in = omega (arith, longer s s' x, h.symbols_in); steps_in = omega (arith, longer k k' y, h.steps_in) }

pub are_in_grow : (s s' : Symbols) (k k' : Scripts) (threads : List Thread) → Grows s s' → Grows k k' → AreIn s k threads → AreIn s' k' threads
are_in_grow s s' k k' [] x y h = tt
are_in_grow s s' k k' (thread ∷ threads) x y h = (in_grows s s' k k' thread x y h.0, are_in_grow s s' k k' threads x y h.1)

pub way_at-grows : (s s' : Symbols) (k k' : Scripts) (thread : Thread) → Grows s s' → Grows k k' → IsIn s k thread → way_at s' k' thread ≡ way_at s k thread
way_at-grows s s' k k' thread x y h =
    ap (λ (l : List Symbol). (l, list_at k' thread.steps)) (list_at-grows s s' thread.symbols x h.symbols_in)
    ∙ ap (λ (l : List Step). (list_at s thread.symbols, l)) (list_at-grows k k' thread.steps y h.steps_in)

pub ways-grow : (s s' : Symbols) (k k' : Scripts) (threads : List Thread) → Grows s s' → Grows k k' → AreIn s k threads → map (way_at s' k') threads ≡ map (way_at s k) threads
ways-grow s s' k k' [] x y h = refl
ways-grow s s' k k' (thread ∷ threads) x y h =
    ap (λ (w : Way). w ∷ map (way_at s' k') threads) (way_at-grows s s' k k' thread x y h.0)
    ∙ ap (λ (ws : List Way). way_at s k thread ∷ ws) (ways-grow s s' k k' threads x y h.1)

map-push : (f : Thread → Way) (threads : List Thread) (thread : Thread) → map f (threads ++ thread ∷ []) ≡ map f threads ++ f thread ∷ []
map-push f [] thread = refl
map-push f (first ∷ threads) thread = ap (λ (ws : List Way). f first ∷ ws) (map-push f threads thread)

are_in_push : (s : Symbols) (k : Scripts) (threads : List Thread) (thread : Thread) → AreIn s k threads → IsIn s k thread → AreIn s k (threads ++ thread ∷ [])
are_in_push s k [] thread h i = (i, tt)
are_in_push s k (first ∷ threads) thread h i = (h.0, are_in_push s k threads thread h.1 i)

-- one more thread, after lists were added
pub ways-pushed : (s s' : Symbols) (k k' : Scripts) (old new : List Thread) (thread : Thread) (way : Way) → Grows s s' → Grows k k' → AreIn s k old → new ≡ old ++ thread ∷ [] → way_at s' k' thread ≡ way
    → map (way_at s' k') new ≡ map (way_at s k) old ++ way ∷ []
ways-pushed s s' k k' old new thread way x y h e w =
    ap (λ (ts : List Thread). map (way_at s' k') ts) e ∙ map-push (way_at s' k') old thread
    ∙ ap (λ (ws : List Way). ws ++ way_at s' k' thread ∷ []) (ways-grow s s' k k' old x y h)
    ∙ ap (λ (v : Way). map (way_at s k) old ++ v ∷ []) w

pub are_in_pushed : (s s' : Symbols) (k k' : Scripts) (old new : List Thread) (thread : Thread) → Grows s s' → Grows k k' → AreIn s k old → IsIn s' k' thread → new ≡ old ++ thread ∷ [] → AreIn s' k' new
are_in_pushed s s' k k' old new thread x y h i e =
    subst (λ (ts : List Thread). AreIn s' k' ts) (sym e) (are_in_push s' k' old thread (are_in_grow s s' k k' old x y h) i)

are_in_front : (s : Symbols) (k : Scripts) (threads : List Thread) (thread : Thread) → AreIn s k (threads ++ thread ∷ []) → AreIn s k threads × IsIn s k thread
are_in_front s k [] thread h = (tt, h.0)
are_in_front s k (first ∷ threads) thread h = let rest = are_in_front s k threads thread h.1 in ((h.0, rest.0), rest.1)

-- the last thread is taken off
pub are_in_popped : (s : Symbols) (k : Scripts) (old new : List Thread) (thread : Thread) → old ≡ new ++ thread ∷ [] → AreIn s k old → AreIn s k new × IsIn s k thread
are_in_popped s k old new thread e h = are_in_front s k new thread (subst (λ (ts : List Thread). AreIn s k ts) e h)

pub ways-popped : (s : Symbols) (k : Scripts) (old new : List Thread) (thread : Thread) → old ≡ new ++ thread ∷ [] → map (way_at s k) old ≡ map (way_at s k) new ++ way_at s k thread ∷ []
ways-popped s k old new thread e = ap (λ (ts : List Thread). map (way_at s k) ts) e ∙ map-push (way_at s k) new thread

pub costs-append : (xs ys : List Way) → costs (xs ++ ys) ≡ costs xs + costs ys
costs-append [] ys = omega arith
costs-append (x ∷ xs) ys = omega (arith, costs-append xs ys)

-- one more alternative is looked at
pub opened-append : (xs ys : List (List Symbol)) (ahead : Option Tok) (way : Way) → opened (xs ++ ys) ahead way ≡ opened xs ahead way ++ opened ys ahead way
opened-append [] ys ahead way = refl
opened-append (x ∷ xs) ys ahead way = by_test (begins x ahead) (opened-append xs ys ahead way)
  where
    by_test : (b : Bool) → opened (xs ++ ys) ahead way ≡ opened xs ahead way ++ opened ys ahead way
        → cond b ((x ++ way.0, way.1) ∷ opened (xs ++ ys) ahead way) (opened (xs ++ ys) ahead way) ≡ cond b ((x ++ way.0, way.1) ∷ opened xs ahead way) (opened xs ahead way) ++ opened ys ahead way
    by_test true e = ap (λ (ws : List Way). (x ++ way.0, way.1) ∷ ws) e
    by_test false e = e

pub more_opened : (old now new : List Way) (alts : List (Bor (List Symbol))) (i : ℕ) (d : Bor (List Symbol)) (ahead : Option Tok) (way way' : Way) → i < length alts
    → now ≡ old ++ opened (map (λ one. one.now) (take i alts)) ahead way → way' ≡ way → new ≡ now ++ opened ((get_or alts i d).now ∷ []) ahead way'
    → new ≡ old ++ opened (map (λ one. one.now) (take (i + 1) alts)) ahead way
more_opened old now new alts i d ahead way way' h x w y =
    let here = (get_or alts i d).now in
    let before = map (λ (one : Bor (List Symbol)). one.now) (take i alts) in
    let more : map (λ (one : Bor (List Symbol)). one.now) (take (i + 1) alts) ≡ before ++ here ∷ [] =
    ap (map (λ (one : Bor (List Symbol)). one.now)) (take_more alts i d h) ∙ map-append (λ (one : Bor (List Symbol)). one.now) (take i alts) (get_or alts i d ∷ []) in
    y ∙ ap (λ (ws : List Way). ws ++ opened (here ∷ []) ahead way') x
    ∙ ap (λ (v : Way). (old ++ opened before ahead way) ++ opened (here ∷ []) ahead v) w
    ∙ append_assoc old (opened before ahead way) (opened (here ∷ []) ahead way)
    ∙ ap (λ (ws : List Way). old ++ ws) (sym (opened-append before (here ∷ []) ahead way))
    ∙ ap (λ (ls : List (List Symbol)). old ++ opened ls ahead way) (sym more)

-- the one thread at the start
pub ways-start : (s s' : Symbols) (k : Scripts) (old live : List Thread) (inner : Rule) (list : ℕ) → s ≡ [] ∷ [] → k ≡ [] ∷ [] → old ≡ [] → s' ≡ s ++ (Sub inner ∷ list_at s 0) ∷ [] → list ≡ length s
    → live ≡ old ++ record { symbols = list; steps = 0 } ∷ [] → map (way_at s' k) live ≡ (Sub inner ∷ [], []) ∷ []
unfolding list_at
ways-start s s' k old live inner list a b o x n y =
    ap (λ (ts : List Thread). map (way_at s' k) ts) (y ∙ ap (λ (ts : List Thread). ts ++ record { symbols = list; steps = 0 } ∷ []) o)
    ∙ ap (λ (l : List Symbol). (l, get_or k 0 []) ∷ []) (ap (λ (i : ℕ). get_or s' i []) n ∙ list_at-last s s' (Sub inner ∷ get_or s 0 []) x ∙ ap (λ (t : Symbols). Sub inner ∷ get_or t 0 []) a)
    ∙ ap (λ (t : Scripts). (Sub inner ∷ [], get_or t 0 []) ∷ []) b

pub ended-push : (ways : List Way) (way : Way) → AreEnded ways → way.0 ≡ [] → AreEnded (ways ++ way ∷ [])
ended-push [] way h e = (e, tt)
ended-push (first ∷ ways) way h e = (h.0, ended-push ways way h.1 e)

pub first_way : (f : Thread → Way) (threads : List Thread) (thread : Thread) → slice_get threads 0 ≡ Some thread → map f threads ≡ f thread ∷ map f (drop 1 threads)
first_way f [] thread e = cc
first_way f (first ∷ threads) thread e = ap (λ (t : Thread). f t ∷ map f threads) (some_is e)
  where
    some_is : {x y : Thread} → Some x ≡ Some y → x ≡ y
    some_is e = cc

pub ways-length : (engine : Engine) → length (live_ways engine) ≡ length engine.live.items
ways-length engine = length-map (way_at engine.symbols engine.steps) engine.live.items
  where
    length-map : (f : Thread → Way) (ts : List Thread) → length (map f ts) ≡ length ts
    length-map f [] = refl
    length-map f (t ∷ ts) = ap suc (length-map f ts)

pub no_ways : (engine : Engine) → length engine.live.items ≡ 0 → live_ways engine ≡ []
no_ways engine e = none (live_ways engine) (ways-length engine ∙ e)
  where
    none : (ws : List Way) → length ws ≡ 0 → ws ≡ []
    none [] h = refl
    none (w ∷ ws) h = cc

pub no_item : (threads : List Thread) → None ≡ slice_get threads 0 → threads ≡ []
no_item [] e = refl
no_item (t ∷ threads) e = cc

pub one_way : (f : Thread → Way) (threads : List Thread) (d : Thread) → length threads ≡ 1 → map f threads ≡ f (get_or threads 0 d) ∷ []
one_way f [] d h = cc
one_way f (t ∷ []) d h = refl
one_way f (t ∷ u ∷ threads) d h = absurd (omega (arith, h))

-- the one way, with its symbols in a table of their own
pub ways-alone : (s s' : Symbols) (k : Scripts) (old new : List Thread) (d : Thread) (items : List Symbol) (list : ℕ) → length old ≡ 1 → items ≡ list_at s (get_or old 0 d).symbols
    → list_at s' list ≡ items ++ list_at ([] ∷ []) 0 → new ≡ [] ++ record { symbols = list; steps = (get_or old 0 d).steps } ∷ [] → map (way_at s' k) new ≡ map (way_at s k) old
unfolding list_at
ways-alone s s' k old new d items list one is at n =
    ap (λ (ts : List Thread). map (way_at s' k) ts) n
    ∙ ap (λ (l : List Symbol). (l, list_at k (get_or old 0 d).steps) ∷ []) (at ∙ append-nil items ∙ is)
    ∙ sym (one_way (way_at s k) old d one)
