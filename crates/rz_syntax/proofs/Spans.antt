-- Each token of a text that was read is a span of it.
use Rattle.std.proofs.Common.{ℕ, zero, suc, ◌<◌, ◌≤◌, List, [], ◌∷◌, length, get_or, arith}
use Rattle.std.specs.Prelude.{All}
use Rattle.std.specs.Str.{IsUtf8}
use Rattle.rz_lex.specs.declared.token.Token.{Token}
use Rattle.rz_lex.specs.Text.{Lexed, AreSpansOf}
use Rattle.rz_lex.proofs.Cuts.{tokens_are_whole}
use Rattle.rz_lex.proofs.Reading.{spans_rise}
use Rattle.rz_syntax.specs.Building.{IsSpan}

forward : (text : List ℕ) (from : ℕ) (tokens : List Token) → AreSpansOf text from tokens → (k : ℕ) (d : Token) → k < length tokens → (get_or tokens k d).from ≤ (get_or tokens k d).to
forward text from [] spans k d h = absurd (omega (arith, h))
forward text from (token ∷ tokens) spans zero d h = omega (arith, spans.1)
forward text from (token ∷ tokens) spans (suc k) d h = forward text token.to tokens spans.2 k d (omega (arith, h))

pub spans_of : (text : List ℕ) (tokens : List Token) → IsUtf8 text → Lexed text tokens → All (IsSpan text) tokens
spans_of text tokens utf8 lexed = λ k d h. record { whole = tokens_are_whole text tokens utf8 lexed k d h; forward = forward text 0 tokens (spans_rise text tokens lexed) k d h }
