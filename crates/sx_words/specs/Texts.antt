-- Parts of words that are UTF-8.
use Rattle.std.specs.Prelude.{◌≡◌, ℕ, ◌+◌, ◌<◌, List, ◌∷◌, ◌++◌, length, take, drop}
use Rattle.std.specs.Borrow.{Bor}
use Rattle.std.specs.Str.{IsUtf8}
use Rattle.sx_words.specs.declared.given.Given.{Given}
use Rattle.sx_words.specs.declared.given.Given.TheVariants.{Core, Tries, Nodes, Audit}
use Rattle.sx_words.specs.Commands.{colon, NoColon}

-- both parts are UTF-8
abbrev pub AreUtf8 : Bor (List ℕ) × Bor (List ℕ) → Type 0
AreUtf8 p = IsUtf8 p.0.now × IsUtf8 p.1.now

-- the texts of the option are UTF-8
abbrev pub IsGivenUtf8 : Given → Type 0
IsGivenUtf8 Core = Unit {0}
IsGivenUtf8 (Tries n) = Unit {0}
IsGivenUtf8 (Nodes n) = Unit {0}
IsGivenUtf8 (Audit kind setting) = IsUtf8 kind.now × IsUtf8 setting.now

-- the text is a part without a colon, a colon, and the rest
pub record IsFirstColon (text : List ℕ) (at : ℕ) : Type 0 where
  pub parts : text ≡ take at text ++ colon ∷ drop (at + 1) text
  pub kind : NoColon (take at text)
  pub inside : at < length text
