-- The longest name and the longest string at the front of a text.
use Rattle.std.proofs.Common.{◌≡◌, ℕ, zero, suc, ◌+◌, ◌<◌, ◌≤◌, Bool, true, false, cond, ◌&&◌, eqb, List, [], ◌∷◌, length, get_or, take, drop, Some, None, refl, ap, subst, ◌∙◌, arith}
use Rattle.std.specs.Prelude.{slice_get}
use Rattle.std.specs.List.{list_all, prefix_len}
use Rattle.std.proofs.lemmas.Bool.{ne_eqb}
use Rattle.std.proofs.lemmas.List.{drop_more, drop_all}
use Rattle.std.proofs.lemmas.List.Sums.{prefix_len-le-length}
use Rattle.rz_lex.specs.Spelling.{is_in_name, may_begin_name, is_name, is_string, is_string_body, IsLongest}

passes_step : (b : Bool) (n m : ℕ) (rest : Bool) → suc m ≤ cond b (1 + n) 0 → (m ≤ n → rest ≡ true) → (b && rest) ≡ true
passes_step true n m rest h k = k (omega arith)
passes_step false n m rest h k = absurd (omega arith)

-- up to the run's end all of a front pass
all_in_run : {X : Type 0} (p : X → Bool) (xs : List X) (m : ℕ) → m ≤ prefix_len p xs → list_all p (take m xs) ≡ true
all_in_run p xs zero h = refl
all_in_run p [] (suc m) h = refl
all_in_run p (x ∷ xs) (suc m) h = passes_step (p x) (prefix_len p xs) m (list_all p (take m xs)) h (all_in_run p xs m)

fails_step : (b : Bool) (n m : ℕ) (rest : Bool) → cond b (1 + n) 0 < suc m → (n < m → rest ≡ false) → (b && rest) ≡ false
fails_step true n m rest h k = k (omega arith)
fails_step false n m rest h k = refl

-- past it they don't
not_all_past_run : {X : Type 0} (p : X → Bool) (xs : List X) (m : ℕ) → prefix_len p xs < m → m ≤ length xs → list_all p (take m xs) ≡ false
not_all_past_run p xs zero h l = absurd (omega arith)
not_all_past_run p [] (suc m) h l = absurd (omega arith)
not_all_past_run p (x ∷ xs) (suc m) h l = fails_step (p x) (prefix_len p xs) m (list_all p (take m xs)) h (λ lt. not_all_past_run p xs m lt (omega arith))

-- a front that isn't empty is a name where all of it may stand in one
pub name_is_run : (first : ℕ) (others : List ℕ) (m : ℕ) → may_begin_name first ≡ true → 0 < m → is_name (take m (first ∷ others)) ≡ list_all is_in_name (take m (first ∷ others))
name_is_run first others zero begins lt = absurd (omega arith)
name_is_run first others (suc m) begins lt = rw begins refl

no_name : (first : ℕ) (others : List ℕ) (m : ℕ) → may_begin_name first ≡ false → is_name (take m (first ∷ others)) ≡ false
no_name first others zero begins = refl
no_name first others (suc m) begins = rw begins refl

pub name_begins : (rest : List ℕ) (first : ℕ) → Some first ≡ slice_get rest 0 → may_begin_name first ≡ true → IsLongest is_name rest (prefix_len is_in_name rest)
name_begins [] first e begins = absurd cc
name_begins (byte ∷ others) first e begins =
    let same : first ≡ byte = cc in
    let begins' : may_begin_name byte ≡ true = rw (← same) begins in
    record {
      within = prefix_len-le-length is_in_name (byte ∷ others);
      best = λ lt. name_is_run byte others (prefix_len is_in_name (byte ∷ others)) begins' lt ∙ all_in_run is_in_name (byte ∷ others) (prefix_len is_in_name (byte ∷ others)) (omega arith);
      longest = λ other lt le. name_is_run byte others other begins' (omega arith) ∙ not_all_past_run is_in_name (byte ∷ others) other lt le;
    }

pub no_name_begins : (rest : List ℕ) (first : ℕ) → Some first ≡ slice_get rest 0 → may_begin_name first ≡ false → IsLongest is_name rest 0
no_name_begins [] first e begins = absurd cc
no_name_begins (byte ∷ others) first e begins =
    let same : first ≡ byte = cc in
    record {
      within = omega arith;
      best = λ lt. absurd (omega arith);
      longest = λ other lt le. no_name byte others other (rw (← same) begins);
    }

pub nothing_passes : (p : List ℕ → Bool) → IsLongest p [] 0
nothing_passes p = record {
  within = omega arith;
  best = λ lt. absurd (omega arith);
  longest = λ other lt le. absurd (omega arith);
}

pub no_name_in_nothing : (rest : List ℕ) → None ≡ slice_get rest 0 → IsLongest is_name rest 0
no_name_in_nothing [] e = nothing_passes is_name
no_name_in_nothing (byte ∷ others) e = absurd cc

-- ---- strings

-- a length further on, where 0 stays 0
abbrev pub behind : ℕ → ℕ → ℕ
behind i zero = 0
behind i (suc n) = i + suc n

abbrev pub one_behind : ℕ → ℕ
one_behind zero = 0
one_behind (suc n) = suc (suc n)

behind-one_behind : (i n : ℕ) → behind i (one_behind n) ≡ behind (i + 1) n
behind-one_behind i zero = refl
behind-one_behind i (suc n) = omega arith

behind_none : (n : ℕ) → behind 0 n ≡ n
behind_none zero = refl
behind_none (suc n) = omega arith

body_after : (first : ℕ) (bytes : List ℕ) (m : ℕ) → eqb first 34 ≡ false → eqb first 10 ≡ false → is_string_body (take (suc m) (first ∷ bytes)) ≡ is_string_body (take m bytes)
body_after first bytes m quote feed = rw (quote, feed) refl

-- one byte further on
pub one_further : (first : ℕ) (bytes : List ℕ) (n : ℕ) → eqb first 34 ≡ false → eqb first 10 ≡ false → IsLongest is_string_body bytes n → IsLongest is_string_body (first ∷ bytes) (one_behind n)
one_further first bytes zero quote feed h = record {
  within = omega arith;
  best = λ lt. absurd (omega arith);
  longest = longer;
}
  where
    longer : (other : ℕ) → 0 < other → other ≤ suc (length bytes) → is_string_body (take other (first ∷ bytes)) ≡ false
    longer zero lt le = absurd (omega arith)
    longer (suc zero) lt le = body_after first bytes 0 quote feed
    longer (suc (suc m)) lt le = body_after first bytes (suc m) quote feed ∙ h.longest (suc m) (omega arith) (omega arith)
one_further first bytes (suc n) quote feed h = record {
  within = omega (arith, h.within);
  best = λ lt. body_after first bytes (suc n) quote feed ∙ h.best (omega arith);
  longest = longer;
}
  where
    longer : (other : ℕ) → suc (suc n) < other → other ≤ suc (length bytes) → is_string_body (take other (first ∷ bytes)) ≡ false
    longer zero lt le = absurd (omega arith)
    longer (suc m) lt le = body_after first bytes m quote feed ∙ h.longest m (omega arith) (omega arith)

pub quote_ends : (bytes : List ℕ) → IsLongest is_string_body (34 ∷ bytes) 1
quote_ends bytes = record {
  within = omega arith;
  best = λ lt. refl;
  longest = longer bytes;
}
  where
    longer : (bytes : List ℕ) (other : ℕ) → 1 < other → other ≤ suc (length bytes) → is_string_body (take other (34 ∷ bytes)) ≡ false
    longer bytes zero lt le = absurd (omega arith)
    longer bytes (suc zero) lt le = absurd (omega arith)
    longer [] (suc (suc m)) lt le = absurd (omega arith)
    longer (byte ∷ bytes) (suc (suc m)) lt le = ne_eqb (suc (length (take m bytes))) 0 (λ e. omega arith)

pub feed_ends : (bytes : List ℕ) → IsLongest is_string_body (10 ∷ bytes) 0
feed_ends bytes = record {
  within = omega arith;
  best = λ lt. absurd (omega arith);
  longest = longer;
}
  where
    longer : (other : ℕ) → 0 < other → other ≤ suc (length bytes) → is_string_body (take other (10 ∷ bytes)) ≡ false
    longer zero lt le = refl
    longer (suc m) lt le = refl

-- a string behind its first quote
pub behind_quote : (body : List ℕ) (n : ℕ) → IsLongest is_string_body body n → IsLongest is_string (34 ∷ body) (one_behind n)
behind_quote body zero h = record {
  within = omega arith;
  best = λ lt. absurd (omega arith);
  longest = longer;
}
  where
    longer : (other : ℕ) → 0 < other → other ≤ suc (length body) → is_string (take other (34 ∷ body)) ≡ false
    longer zero lt le = refl
    longer (suc zero) lt le = refl
    longer (suc (suc m)) lt le = h.longest (suc m) (omega arith) (omega arith)
behind_quote body (suc n) h = record {
  within = omega (arith, h.within);
  best = λ lt. h.best (omega arith);
  longest = longer;
}
  where
    longer : (other : ℕ) → suc (suc n) < other → other ≤ suc (length body) → is_string (take other (34 ∷ body)) ≡ false
    longer zero lt le = refl
    longer (suc m) lt le = h.longest m (omega arith) (omega arith)

pub no_quote : (first : ℕ) (body : List ℕ) → eqb first 34 ≡ false → IsLongest is_string (first ∷ body) 0
no_quote first body e = record {
  within = omega arith;
  best = λ lt. absurd (omega arith);
  longest = longer;
}
  where
    longer : (other : ℕ) → 0 < other → other ≤ suc (length body) → is_string (take other (first ∷ body)) ≡ false
    longer zero lt le = refl
    longer (suc m) lt le = rw e refl

-- From a place on: what holds of the bytes from there on holds of the whole.
abbrev pub StringFrom : List ℕ → ℕ → Type 0
StringFrom body i = (n : ℕ) → IsLongest is_string_body (drop i body) n → IsLongest is_string_body body (behind i n)

pub from_start : (body : List ℕ) → StringFrom body 0
from_start body n h = rw behind_none h

pub from_next : (body : List ℕ) (i : ℕ) → i < length body → (get_or body i 0 ≡ 34 → ⊥) → (get_or body i 0 ≡ 10 → ⊥) → StringFrom body i → StringFrom body (i + 1)
from_next body i lt quote feed so_far n h =
    let further = one_further (get_or body i 0) (drop (i + 1) body) n (ne_eqb (get_or body i 0) 34 quote) (ne_eqb (get_or body i 0) 10 feed) h in
    let here : IsLongest is_string_body (drop i body) (one_behind n) = rw (drop_more body i 0 lt) further in
    subst (λ (k : ℕ). IsLongest is_string_body body k) (behind-one_behind i n) (so_far (one_behind n) here)

pub string_ends : (body : List ℕ) (i : ℕ) → i < length body → get_or body i 0 ≡ 34 → StringFrom body i → IsLongest is_string_body body (i + 1)
string_ends body i lt quote so_far =
    let split : drop i body ≡ 34 ∷ drop (i + 1) body = drop_more body i 0 lt ∙ ap (λ (b : ℕ). b ∷ drop (i + 1) body) quote in
    so_far 1 (rw split (quote_ends (drop (i + 1) body)))

pub string_breaks : (body : List ℕ) (i : ℕ) → i < length body → get_or body i 0 ≡ 10 → StringFrom body i → IsLongest is_string_body body 0
string_breaks body i lt feed so_far =
    let split : drop i body ≡ 10 ∷ drop (i + 1) body = drop_more body i 0 lt ∙ ap (λ (b : ℕ). b ∷ drop (i + 1) body) feed in
    so_far 0 (rw split (feed_ends (drop (i + 1) body)))

pub string_runs_out : (body : List ℕ) (i : ℕ) → length body ≤ i → StringFrom body i → IsLongest is_string_body body 0
string_runs_out body i le so_far =
    let split : drop i body ≡ [] = drop_all i body le in
    so_far 0 (rw split (nothing_passes is_string_body))

pub string_behind_quote : (rest body : List ℕ) (n : ℕ) → rest ≡ 34 ∷ body → IsLongest is_string_body body (suc n) → IsLongest is_string rest (suc n + 1)
string_behind_quote rest body n e h =
    let two : suc (suc n) ≡ suc n + 1 = omega arith in
    rw e (subst (λ (k : ℕ). IsLongest is_string (34 ∷ body) k) two (behind_quote body (suc n) h))

pub no_string_behind_quote : (rest body : List ℕ) → rest ≡ 34 ∷ body → IsLongest is_string_body body 0 → IsLongest is_string rest 0
no_string_behind_quote rest body e h = rw e (behind_quote body 0 h)

pub no_string : (rest : List ℕ) → (get_or rest 0 0 ≡ 34 → ⊥) → IsLongest is_string rest 0
no_string [] ne = nothing_passes is_string
no_string (first ∷ body) ne = no_quote first body (ne_eqb first 34 ne)
