-- What begins at a place: a gap or a token.
use Rattle.std.specs.Prelude.{◌≡◌, ℕ, ◌+◌, Bool, true, false, not, ◌||◌, ◌==◌, nat_eq, List, [], ◌∷◌, length, drop, Option, None, Some, MatchOption, if◌then◌else◌}
use Rattle.std.specs.Option.{option_map}
use Rattle.std.specs.List.{prefix_len, starts_with}
use Rattle.rz_lex.specs.declared.piece.Piece.{Piece}
use Rattle.rz_lex.specs.declared.table.TheConstants.{LINE_COMMENT, BLOCK_COMMENT, BLOCK_COMMENT_END, LINE_FEED}
use Rattle.rz_lex.specs.Spelling.{is_white, table, spelled, IsLongestToken}

-- White space or a comment begins the text.
unfoldable pub opens_gap : List ℕ → Bool
opens_gap [] = false
opens_gap (first ∷ others) = is_white first || starts_with nat_eq (first ∷ others) LINE_COMMENT.now || starts_with nat_eq (first ∷ others) BLOCK_COMMENT.now

-- what a line has
abbrev pub is_not_line_feed : ℕ → Bool
is_not_line_feed byte = not (byte == LINE_FEED)

-- the place behind the first end of a block comment
unfoldable pub block_comment_end : List ℕ → Option ℕ
block_comment_end [] = None
block_comment_end (first ∷ others) = if starts_with nat_eq (first ∷ others) BLOCK_COMMENT_END.now then Some (length BLOCK_COMMENT_END.now) else option_map (λ place. 1 + place) (block_comment_end others)

-- the length of the line comment that begins the text, without the line feed
abbrev pub line_comment_len : List ℕ → ℕ
line_comment_len text = length LINE_COMMENT.now + prefix_len is_not_line_feed (drop (length LINE_COMMENT.now) text)

-- the length of the block comment that begins the text, if it ends
abbrev pub block_comment_len : List ℕ → Option ℕ
block_comment_len text = option_map (λ place. length BLOCK_COMMENT.now + place) (block_comment_end (drop (length BLOCK_COMMENT.now) text))

-- the length of the gap that begins the text: one byte of white space, a comment to the end of its line, or one to its own end
unfoldable pub gap_len : List ℕ → Option ℕ
gap_len [] = None
gap_len (first ∷ others) =
    if is_white first then Some 1
    else if starts_with nat_eq (first ∷ others) LINE_COMMENT.now then Some (line_comment_len (first ∷ others))
    else if starts_with nat_eq (first ∷ others) BLOCK_COMMENT.now then block_comment_len (first ∷ others)
    else None

-- The piece begins the text: the gap that does, or where none does the longest token.
abbrev pub Begins : List ℕ → Piece → Type 0
Begins text piece = MatchOption piece.kind
    ((opens_gap text ≡ true) × (gap_len text ≡ Some piece.len))
    (λ kind. (opens_gap text ≡ false) × IsLongestToken (spelled table) text piece.len kind)

-- No white space, no comment that ends and no token begins the text.
abbrev pub NothingBegins : List ℕ → Type 0
NothingBegins text = (piece : Piece) → Begins text piece → ⊥
