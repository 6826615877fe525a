-- The limits of terms, and terms that are apart.
use Rattle.std.specs.Prelude.{ℕ, zero, suc, ◌&&◌, ◌||◌, Bool, true, false, List, [], ◌∷◌, Option}
use Rattle.std.specs.Prelude.{Some, None, nat_lt}
use Rattle.sx_term.specs.Tree.{Tree, lexeme, depth_of, size_of}
use Rattle.sx_rules.specs.Rules.{Hypotheses}
use Rattle.sx_arena.specs.Matching.{same}
use Rattle.sx_term.specs.Limits.{most_depth, most_size}

-- the limit that was passed
pub data Cause : Type 0 where
  depth_spent : Cause
  too_deep : ℕ → Cause
  too_big : ℕ → Cause

-- the limit that a term passes: depth 1,000, or else size 1,000,000
abbrev pub term_limit : Bool → Bool → Tree → Option Cause
term_limit true b t = Some (too_deep (depth_of t))
term_limit false true t = Some (too_big (size_of t))
term_limit false false t = None

abbrev pub first_cause : Option Cause → Option Cause → Option Cause
first_cause (Some c) d = Some c
first_cause None d = d

-- the first limit that the terms pass
unfoldable pub limit_passed : List Tree → Option Cause
limit_passed [] = None
limit_passed (t ∷ ts) = first_cause (term_limit (nat_lt most_depth (depth_of t))
    (nat_lt most_size (size_of t)) t) (limit_passed ts)

abbrev pub different_lexemes : Tree → Tree → Bool
different_lexemes (lexeme k x) (lexeme m y) =
    elim (same (lexeme k x) (lexeme m y)) [ true ↦ false | false ↦ true ]
different_lexemes _ _ = false

abbrev pub is_pair : List (Tree × Tree) → Tree → Tree → Bool
is_pair [] s t = false
is_pair (p ∷ ps) s t = (same p.0 s && same p.1 t) || is_pair ps s t

-- whether two terms are apart
abbrev pub are_apart : Hypotheses → Tree → Tree → Bool
are_apart hyps s t = is_pair hyps.pairs s t || (is_pair hyps.pairs t s || different_lexemes s t)

-- the first n values of a substitution
abbrev pub first_values : ℕ → (ℕ → Tree) → List Tree
first_values zero s = []
first_values (suc n) s = s 0 ∷ first_values n (λ v. s (suc v))
