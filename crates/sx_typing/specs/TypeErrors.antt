-- Type errors, from stuck goals.
use Rattle.std.specs.Prelude.{◌≡◌, ℕ, ◌+◌, List, Some}
use Rattle.sx_token.specs.declared.token.Token.{Token}
use Rattle.sx_grammar.specs.Reading.{Reading}
use Rattle.sx_forest.specs.Places.{place_at}
use Rattle.sx_derive.specs.Stuck.{Blame}
use Rattle.sx_notation.specs.WhyUnread.{place_in}
use Rattle.sx_words.specs.declared.goal_defect.GoalDefect.{GoalDefect}
use Rattle.sx_typing.specs.declared.module_error.ModuleError.{ModuleError}
use Rattle.sx_typing.specs.declared.module_error.ModuleError.TheVariants.{TypeError}
use Rattle.sx_typing.specs.Dialects.{DialectData}
use Rattle.sx_typing.specs.Refused.{told_goal}
use Rattle.sx_typing.specs.Spots.{line_at, column_at}

-- where the part begins that the path leads to, in a text of so many bytes
abbrev pub IsPartPlace : List Token → Reading → (path : List ℕ) → (size : ℕ) → ℕ → Type 0
IsPartPlace ts r path size place = (number : ℕ) × (place_at r path ≡ Some number) ×
    (place ≡ place_in ts size number)

-- the refusal of a file that ends with a body of so many bytes: where the part begins that the
-- stuck goal speaks of, and the text
pub record TellsTypeError (d : DialectData) (file : List ℕ) (before size : ℕ) (ts : List Token)
    (r : Reading) (blame : Blame) (e : ModuleError) : Type 0 where
  pub line : ℕ
  pub column : ℕ
  pub text : GoalDefect
  pub is : e ≡ TypeError line column text
  pub place : ℕ
  pub at : IsPartPlace ts r blame.path size place
  pub line_is : line ≡ line_at file (before + place)
  pub column_is : column ≡ column_at file (before + place)
  pub text_is : text ≡ told_goal d blame.goal blame.reason
