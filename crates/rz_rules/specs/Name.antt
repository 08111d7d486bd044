-- The names of constants, postulates and claims.
use Rattle.std.specs.Prelude.{◌≡◌, ◌≢◌, ℕ, ◌==◌, ◌||◌, Bool, false, List, [], All}
use Rattle.std.specs.Str.{IsUtf8}

-- space, tab, line feed, carriage return
abbrev pub is_white : ℕ → Bool
is_white byte = byte == 32 || byte == 9 || byte == 10 || byte == 13

-- a name is text, not empty, and without white space
pub record IsName (name : List ℕ) : Type 0 where
  pub some : name ≢ []
  pub text : IsUtf8 name
  pub solid : All (λ byte. is_white byte ≡ false) name
