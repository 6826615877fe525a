-- Core texts, and the texts of goals, are UTF-8.
use Rattle.std.proofs.Common.{ℕ, ◌^◌, ◌<◌, Bool, true, false, List, [], ◌∷◌, length, decimal, arith}
use Rattle.std.specs.Prelude.{Some, None}
use Rattle.std.specs.Str.{IsUtf8}
use Rattle.std.proofs.lemmas.Str.{IsUtf8-append, IsUtf8-nil, IsUtf8-from_ascii}
use Rattle.std.proofs.lemmas.Str.Ascii.{IsAscii-nil, IsAscii-cons}
use Rattle.std.proofs.lemmas.Fmt.{IsAscii-decimal}
use Rattle.sx_term.specs.Tree.{Tree, Trees, node, lexeme, hole, none, ◌▹◌}
use Rattle.sx_term.specs.Core.{core, cores, kind_byte, HasCore, HaveCore}
use Rattle.sx_term.specs.declared.lex_kind.LexKind.{LexKind}
use Rattle.sx_term.specs.declared.lex_kind.LexKind.TheVariants.{Id, Num, Str}
use Rattle.sx_top.specs.GoalTexts.{places_text}
use Rattle.sx_top.specs.Terms.{AreTerms}

number_utf8 : (n : ℕ) → n < 2 ^ 64 → IsUtf8 (decimal n)
number_utf8 n small = IsUtf8-from_ascii (decimal n) (IsAscii-decimal n small)

one_utf8 : (b : ℕ) → b < 128 → IsUtf8 (b ∷ [])
one_utf8 b low = IsUtf8-from_ascii (b ∷ []) (IsAscii-cons b [] low IsAscii-nil)

kind_utf8 : (kind : LexKind) → IsUtf8 (kind_byte kind ∷ [])
kind_utf8 Id = one_utf8 105 (omega arith)
kind_utf8 Num = one_utf8 110 (omega arith)
kind_utf8 Str = one_utf8 115 (omega arith)

front : (b : ℕ) (text : List ℕ) → b < 128 → IsUtf8 text → IsUtf8 (b ∷ text)
front b text low is = IsUtf8-append (b ∷ []) text (one_utf8 b low) is

mutual
  pub core_utf8 : (t : Tree) → HasCore t → IsUtf8 (core t)
  core_utf8 (node label kids) has =
      front 40 _ (omega arith) (IsUtf8-append (decimal label) _ (number_utf8 label (let h = has.0 in omega arith)) (IsUtf8-append (cores kids) _ (cores_utf8 kids has.1) (one_utf8 41 (omega arith))))
  core_utf8 (lexeme kind text) has =
      IsUtf8-append (kind_byte kind ∷ []) _ (kind_utf8 kind) (IsUtf8-append (decimal (length text)) _ (number_utf8 (length text) (let h = has.1 in omega arith)) (front 58 text (omega arith) has.2))
  core_utf8 (hole variable) has = front 63 _ (omega arith) (number_utf8 variable (let h = has in omega arith))

  cores_utf8 : (ts : Trees) → HaveCore ts → IsUtf8 (cores ts)
  cores_utf8 none have = IsUtf8-nil
  cores_utf8 (t ▹ ts) have = front 32 _ (omega arith) (IsUtf8-append (core t) (cores ts) (core_utf8 t have.0) (cores_utf8 ts have.1))

-- the places of a goal, with `_` for its outputs, and with the outputs got
pub open_utf8 : (modes : List Bool) (terms : List Tree) → AreTerms terms → IsUtf8 (places_text modes terms None)
open_utf8 [] terms are = IsUtf8-nil
open_utf8 (true ∷ modes) terms are = front 32 _ (omega arith) (front 95 _ (omega arith) (open_utf8 modes terms are))
open_utf8 (false ∷ modes) [] are = IsUtf8-nil
open_utf8 (false ∷ modes) (term ∷ terms) are = front 32 _ (omega arith) (IsUtf8-append (core term) (places_text modes terms None) are.2 (open_utf8 modes terms are.3))

pub whole_utf8 : (modes : List Bool) (terms got : List Tree) → AreTerms terms → AreTerms got → IsUtf8 (places_text modes terms (Some got))
whole_utf8 [] terms got are have = IsUtf8-nil
whole_utf8 (true ∷ modes) terms [] are have = IsUtf8-nil
whole_utf8 (true ∷ modes) terms (term ∷ got) are have = front 32 _ (omega arith) (IsUtf8-append (core term) (places_text modes terms (Some got)) have.2 (whole_utf8 modes terms got are have.3))
whole_utf8 (false ∷ modes) [] got are have = IsUtf8-nil
whole_utf8 (false ∷ modes) (term ∷ terms) got are have = front 32 _ (omega arith) (IsUtf8-append (core term) (places_text modes terms (Some got)) are.2 (whole_utf8 modes terms got are.3 have))
