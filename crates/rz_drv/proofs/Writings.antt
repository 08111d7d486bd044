-- Lines as they are written, word by word.
use Rattle.std.proofs.Common.{◌≡◌, ℕ, ◌+◌, ◌<◌, List, [], ◌∷◌, ◌++◌, length, get_or, take, map, sym, ap, ◌∙◌, append_assoc}
use Rattle.std.specs.List.{concat, join_with_byte}
use Rattle.std.proofs.lemmas.List.{append-nil, map-append, take_more}
use Rattle.std.proofs.lemmas.List.Folds.{concat-append}
use Rattle.rz_rules.specs.File.{Item, NodeItem, StepItem, line_of, header, end_line}
use Rattle.rz_drv.specs.declared.parts.Part.{Part}
use Rattle.rz_drv.specs.Lines.{item_line, item_lines}
use Rattle.rz_drv.specs.Part.{claim_item, items_of, spelling}
use Rattle.rz_drv.specs.Words.{spaced}

-- what a loop has written, and one piece more
pub written_more : {A B : Type 0} (f : A → B) (g : B → List ℕ) (xs : List A) (i : ℕ) (d x : A) (start bytes new : List ℕ) → i < length xs → get_or xs i d ≡ x
    → bytes ≡ start ++ concat (map g (map f (take i xs))) → new ≡ bytes ++ g (f x) → new ≡ start ++ concat (map g (map f (take (i + 1) xs)))
written_more f g xs i d x start bytes new lt is before here =
    let front : List ℕ = concat (map g (map f (take i xs))) in
    let pieces : map g (map f (take (i + 1) xs)) ≡ map g (map f (take i xs)) ++ g (f x) ∷ [] =
    ap (λ ys. map g (map f ys)) (take_more xs i d lt ∙ ap (λ y. take i xs ++ y ∷ []) is)
    ∙ ap (map g) (map-append f (take i xs) (x ∷ [])) ∙ map-append g (map f (take i xs)) (f x ∷ []) in
    let all : concat (map g (map f (take (i + 1) xs))) ≡ front ++ g (f x) =
    ap concat pieces ∙ concat-append (map g (map f (take i xs))) (g (f x) ∷ []) ∙ ap (λ bs. front ++ bs) (append-nil (g (f x))) in
    here ∙ ap (λ bs. bs ++ g (f x)) before ∙ append_assoc start front (g (f x)) ∙ ap (λ bs. start ++ bs) (sym all)

-- words behind others
joined_more : (w : List ℕ) (ws vs : List (List ℕ)) → join_with_byte 32 (w ∷ ws ++ vs) ≡ join_with_byte 32 (w ∷ ws) ++ spaced vs
joined_more w [] [] = sym (append-nil w)
joined_more w [] (v ∷ vs) = ap (λ bs. w ++ 32 ∷ bs) (joined_more v [] vs)
joined_more w (u ∷ ws) vs =
    ap (λ bs. w ++ 32 ∷ bs) (joined_more u ws vs) ∙ sym (append_assoc w (32 ∷ join_with_byte 32 (u ∷ ws)) (spaced vs))

pub put_words : (old bytes new w : List ℕ) (ws vs : List (List ℕ)) → bytes ≡ old ++ join_with_byte 32 (w ∷ ws) → new ≡ bytes ++ spaced vs → new ≡ old ++ join_with_byte 32 (w ∷ ws ++ vs)
put_words old bytes new w ws vs before here =
    here ∙ ap (λ bs. bs ++ spaced vs) before ∙ append_assoc old (join_with_byte 32 (w ∷ ws)) (spaced vs) ∙ ap (λ bs. old ++ bs) (sym (joined_more w ws vs))

pub put_word : (old bytes new w : List ℕ) (ws : List (List ℕ)) (v : List ℕ) → bytes ≡ old ++ join_with_byte 32 (w ∷ ws) → new ≡ bytes ++ 32 ∷ v → new ≡ old ++ join_with_byte 32 (w ∷ ws ++ v ∷ [])
put_word old bytes new w ws v before here = put_words old bytes new w ws (v ∷ []) before (here ∙ ap (λ bs. bytes ++ 32 ∷ bs) (sym (append-nil v)))

pub put_end : (old bytes new : List ℕ) (ws vs : List (List ℕ)) → ws ≡ vs → bytes ≡ old ++ join_with_byte 32 ws → new ≡ bytes ++ 10 ∷ [] → new ≡ old ++ line_of vs
put_end old bytes new ws vs same before here =
    here ∙ ap (λ bs. bs ++ 10 ∷ []) before ∙ append_assoc old (join_with_byte 32 ws) (10 ∷ []) ∙ ap (λ ws. old ++ line_of ws) same

-- a header, the lines of a part's items, and the last line are its spelling
pub file_written : (part : Part) (a b c d e : List ℕ) → a ≡ header → b ≡ a ++ concat (item_lines (map (λ node. NodeItem node) part.nodes))
    → c ≡ b ++ concat (item_lines (map (λ line. StepItem line) part.lines)) → d ≡ c ++ concat (item_lines (map claim_item part.claims)) → e ≡ d ++ end_line → e ≡ spelling part
file_written part a b c d e ha hb hc hd he =
    let nodes : List Item = map (λ node. NodeItem node) part.nodes in
    let steps : List Item = map (λ line. StepItem line) part.lines in
    let claims : List Item = map claim_item part.claims in
    let n : List ℕ = concat (item_lines nodes) in
    let s : List ℕ = concat (item_lines steps) in
    let k : List ℕ = concat (item_lines claims) in
    let behind : concat (item_lines (steps ++ claims)) ≡ s ++ k = ap concat (map-append item_line steps claims) ∙ concat-append (item_lines steps) (item_lines claims) in
    let all : concat (item_lines (nodes ++ (steps ++ claims))) ≡ n ++ (s ++ k) =
    ap concat (map-append item_line nodes (steps ++ claims)) ∙ concat-append (item_lines nodes) (item_lines (steps ++ claims)) ∙ ap (λ bs. n ++ bs) behind in
    let file : spelling part ≡ header ++ ((n ++ (s ++ k)) ++ end_line) =
    ap (λ bs. header ++ bs) (concat-append (item_lines (items_of part)) (end_line ∷ [] ∷ []) ∙ ap (λ bs. bs ++ end_line) all) in
    let written : e ≡ (((header ++ n) ++ s) ++ k) ++ end_line =
    he ∙ ap (λ bs. bs ++ end_line) (hd ∙ ap (λ bs. bs ++ k) (hc ∙ ap (λ bs. bs ++ s) (hb ∙ ap (λ bs. bs ++ n) ha))) in
    let front : ((header ++ n) ++ s) ++ k ≡ header ++ (n ++ (s ++ k)) = append_assoc (header ++ n) s k ∙ append_assoc header n (s ++ k) in
    written ∙ ap (λ bs. bs ++ end_line) front ∙ append_assoc header (n ++ (s ++ k)) end_line ∙ sym file
