-- Where a block comment ends, from one byte to the next.
use Rattle.std.proofs.Common.{◌≡◌, ℕ, ◌+◌, ◌-◌, ◌<◌, ◌≤◌, Bool, true, false, nat_eq, List, ◌∷◌, length, get_or, take, drop, Option, Some, None, refl, sym, ap, ◌∙◌, arith}
use Rattle.std.specs.Option.{option_map}
use Rattle.std.specs.List.{starts_with}
use Rattle.std.proofs.lemmas.List.{drop_more, drop_all, take_rest}
use Rattle.rz_lex.specs.declared.table.TheConstants.{BLOCK_COMMENT_END}
use Rattle.rz_lex.specs.Pieces.{block_comment_end}

moved_none : (o : Option ℕ) → o ≡ option_map (λ place. 0 + place) o
moved_none None = refl
moved_none (Some n) = ap (λ (k : ℕ). Some k) (omega arith)

moved_more : (i : ℕ) (o : Option ℕ) → option_map (λ place. i + place) (option_map (λ place. 1 + place) o) ≡ option_map (λ place. (i + 1) + place) o
moved_more i None = refl
moved_more i (Some n) = ap (λ (k : ℕ). Some k) (omega arith)

pub end_from_start : (bytes : List ℕ) → block_comment_end bytes ≡ option_map (λ place. 0 + place) (block_comment_end (drop 0 bytes))
end_from_start bytes = moved_none (block_comment_end bytes)

no_end_here : (first : ℕ) (others : List ℕ) → starts_with nat_eq (first ∷ others) BLOCK_COMMENT_END.now ≡ false → block_comment_end (first ∷ others) ≡ option_map (λ place. 1 + place) (block_comment_end others)
unfolding block_comment_end
no_end_here first others refused = rw refused refl

end_here : (first : ℕ) (others : List ℕ) → starts_with nat_eq (first ∷ others) BLOCK_COMMENT_END.now ≡ true → block_comment_end (first ∷ others) ≡ Some 2
unfolding block_comment_end
end_here first others accepted = rw accepted refl

pub end_from_next : (bytes : List ℕ) (i : ℕ) (b : Bool) → i < length bytes → b ≡ starts_with nat_eq (take (length bytes - i) (drop i bytes)) BLOCK_COMMENT_END.now → b ≡ false
    → block_comment_end bytes ≡ option_map (λ place. i + place) (block_comment_end (drop i bytes))
    → block_comment_end bytes ≡ option_map (λ place. (i + 1) + place) (block_comment_end (drop (i + 1) bytes))
end_from_next bytes i b lt is refused so_far =
    let here : drop i bytes ≡ get_or bytes i 0 ∷ drop (i + 1) bytes = drop_more bytes i 0 lt in
    let refused' : starts_with nat_eq (get_or bytes i 0 ∷ drop (i + 1) bytes) BLOCK_COMMENT_END.now ≡ false = ap (λ (bs : List ℕ). starts_with nat_eq bs BLOCK_COMMENT_END.now) (sym (take_rest bytes i ∙ here)) ∙ sym is ∙ refused in
    so_far ∙ ap (λ (bs : List ℕ). option_map (λ place. i + place) (block_comment_end bs)) here
    ∙ ap (λ (o : Option ℕ). option_map (λ place. i + place) o) (no_end_here (get_or bytes i 0) (drop (i + 1) bytes) refused')
    ∙ moved_more i (block_comment_end (drop (i + 1) bytes))

pub end_found : (bytes : List ℕ) (i : ℕ) (b : Bool) → i < length bytes → b ≡ starts_with nat_eq (take (length bytes - i) (drop i bytes)) BLOCK_COMMENT_END.now → b ≡ true
    → block_comment_end bytes ≡ option_map (λ place. i + place) (block_comment_end (drop i bytes))
    → Some (i + 2) ≡ block_comment_end bytes
end_found bytes i b lt is accepted so_far =
    let here : drop i bytes ≡ get_or bytes i 0 ∷ drop (i + 1) bytes = drop_more bytes i 0 lt in
    let accepted' : starts_with nat_eq (get_or bytes i 0 ∷ drop (i + 1) bytes) BLOCK_COMMENT_END.now ≡ true = ap (λ (bs : List ℕ). starts_with nat_eq bs BLOCK_COMMENT_END.now) (sym (take_rest bytes i ∙ here)) ∙ sym is ∙ accepted in
    sym (so_far ∙ ap (λ (bs : List ℕ). option_map (λ place. i + place) (block_comment_end bs)) here
    ∙ ap (λ (o : Option ℕ). option_map (λ place. i + place) o) (end_here (get_or bytes i 0) (drop (i + 1) bytes) accepted'))

pub no_end : (bytes : List ℕ) (i : ℕ) → length bytes ≤ i
    → block_comment_end bytes ≡ option_map (λ place. i + place) (block_comment_end (drop i bytes))
    → None ≡ block_comment_end bytes
unfolding block_comment_end
no_end bytes i le so_far = sym (so_far ∙ ap (λ (bs : List ℕ). option_map (λ place. i + place) (block_comment_end bs)) (drop_all i bytes le))
