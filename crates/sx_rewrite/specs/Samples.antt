-- An accepted set, and a derivation that is lowered by it: a type `twin t` that stands
-- for `fun t t`, and a term `twice e` that stands for `both e e`.
use Rattle.std.specs.Prelude.{zero, suc, true, false, List, [], ◌∷◌, Some, None}
use Rattle.sx_term.specs.Tree.{Tree, node, lexeme, hole, none, ◌▹◌}
use Rattle.sx_term.specs.declared.lex_kind.LexKind.TheVariants.{Str}
use Rattle.sx_term.specs.declared.sort.Sort.{Sort}
use Rattle.sx_term.specs.declared.sort.Sort.TheVariants.{Lex, Plain, Typed}
use Rattle.sx_term.specs.Sorts.{Shape}
use Rattle.sx_rules.specs.Rules.{Judgement, holds, Rule}
use Rattle.sx_rules.specs.Derivations.{Proof, by, given, no_more, ◌⊳◌}
use Rattle.sx_plain.specs.Plain.{Body, Table}
use Rattle.sx_rewrite.specs.Accepted.{Checked, Accepted, Signature, IsAccepted}
use Rattle.sx_rewrite.specs.Lowers.{Lowers}
use Rattle.sx_rules.specs.Rules.{no_hypotheses}

-- a shape
abbrev pub sample_shape : Sort → List Sort → Shape
sample_shape sort kids = record { sort = sort; kids = kids }

-- the environment, the types `str` and `fun`, the terms `quote` and `both`
abbrev pub base_shapes : List Shape
base_shapes =
    sample_shape (Plain 0) [] ∷ sample_shape (Plain 1) []
    ∷ sample_shape (Plain 1) (Plain 1 ∷ Plain 1 ∷ [])
    ∷ sample_shape (Typed 0) (Lex Str ∷ []) ∷ sample_shape (Typed 0) (Typed 0 ∷ Typed 0 ∷ []) ∷ []

-- and then `twin` and `twice`
abbrev pub all_shapes : List Shape
all_shapes =
    sample_shape (Plain 0) [] ∷ sample_shape (Plain 1) []
    ∷ sample_shape (Plain 1) (Plain 1 ∷ Plain 1 ∷ [])
    ∷ sample_shape (Typed 0) (Lex Str ∷ []) ∷ sample_shape (Typed 0) (Typed 0 ∷ Typed 0 ∷ [])
    ∷ sample_shape (Plain 1) (Plain 1 ∷ []) ∷ sample_shape (Typed 0) (Typed 0 ∷ []) ∷ []

-- the empty environment, the type of texts, and functions
abbrev pub empty : Tree
empty = node 0 none

abbrev pub str : Tree
str = node 1 none

abbrev pub fun : Tree → Tree → Tree
fun t u = node 2 (t ▹ u ▹ none)

-- a quoted text, and two terms together
abbrev pub quote : Tree → Tree
quote s = node 3 (s ▹ none)

abbrev pub both : Tree → Tree → Tree
both e f = node 4 (e ▹ f ▹ none)

-- the type and the term that the extension adds
abbrev pub twin : Tree → Tree
twin t = node 5 (t ▹ none)

abbrev pub twice : Tree → Tree
twice e = node 6 (e ▹ none)

-- one form: an environment, a subject and a type
abbrev pub typing : Tree → Tree → Tree → Judgement
typing c e t = record { form = 0; places = c ∷ e ∷ t ∷ [] }

-- its inputs are the environment and the subject
abbrev pub signature : Signature
signature = record {
  modes = λ form. false ∷ false ∷ true ∷ [];
  subjects = λ form. false ∷ true ∷ false ∷ [];
  forms = λ form. Plain 0 ∷ Typed 0 ∷ Plain 1 ∷ [];
}

-- a quoted text has the type of texts
abbrev pub quote_rule : Rule
quote_rule = record {
  sorts = Plain 0 ∷ Lex Str ∷ [];
  premises = [];
  conclusion = typing (hole 0) (quote (hole 1)) str;
}

-- two terms of one type together are a function
abbrev pub both_rule : Rule
both_rule = record {
  sorts = Plain 0 ∷ Typed 0 ∷ Typed 0 ∷ Plain 1 ∷ [];
  premises =
      holds (typing (hole 0) (hole 1) (hole 3)) ∷ holds (typing (hole 0) (hole 2) (hole 3)) ∷ [];
  conclusion = typing (hole 0) (both (hole 1) (hole 2)) (fun (hole 3) (hole 3));
}

-- the rule that the extension adds, and what is stored of it
abbrev pub twice_rule : Rule
twice_rule = record {
  sorts = Plain 0 ∷ Typed 0 ∷ Plain 1 ∷ [];
  premises = holds (typing (hole 0) (hole 1) (hole 2)) ∷ [];
  conclusion = typing (hole 0) (twice (hole 1)) (twin (hole 2));
}

abbrev pub twice_checked : Checked
twice_checked = record {
  rule = twice_rule;
  body = Some (both (hole 1) (hole 1));
  proof = by 1 (hole 0 ∷ hole 1 ∷ hole 1 ∷ hole 2 ∷ []) (given 0 ⊳ given 0 ⊳ no_more);
}

-- what stands for `twin`
abbrev pub twin_body : Body
twin_body = record { arity = 1; flat = fun (hole 0) (hole 0) }

abbrev pub sample_table : Table
sample_table (suc (suc (suc (suc (suc zero))))) = Some twin_body
sample_table _ = None

-- the base rules with the extension
abbrev pub sample : Accepted
sample = record {
  base = quote_rule ∷ both_rule ∷ [];
  more = twice_checked ∷ [];
  table = sample_table;
}

-- `"a"`, and the derivation of its type
abbrev pub letter : Tree
letter = lexeme Str (34 ∷ 97 ∷ 34 ∷ [])

abbrev pub letter_proof : Proof
letter_proof = by 0 (empty ∷ letter ∷ []) no_more

-- The set is accepted. The derivation of `twice "a" : twin str` is lowered to
-- that of `both "a" "a" : fun str str`, with its kid used twice.
abbrev pub SampleIsLowered : Type 0
SampleIsLowered =
    IsAccepted signature base_shapes all_shapes sample
    × Lowers sample signature.subjects no_hypotheses
    (by 2 (empty ∷ quote letter ∷ str ∷ []) (letter_proof ⊳ no_more))
    (by 1 (empty ∷ quote letter ∷ quote letter ∷ str ∷ []) (letter_proof ⊳ letter_proof ⊳ no_more))
    (typing empty (both (quote letter) (quote letter)) (fun str str))
