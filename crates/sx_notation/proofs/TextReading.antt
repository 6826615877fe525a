-- The tokens that a line is cut into can be read, and their only reading can be stripped.
use Rattle.std.proofs.Common.{◌≡◌, ℕ, ◌+◌, ◌<◌, ◌≤◌, ◌^◌, List, [], ◌++◌, length, ap, ◌∙◌, sym, subst, arith}
use Rattle.std.specs.Prelude.{Result, Ok, Err, IfErr}
use Rattle.std.specs.Result.{IsErrAnd}
use Rattle.std.proofs.lemmas.List.{length-map, append-nil}
use Rattle.sx_term.specs.declared.sort.Sort.{Sort}
use Rattle.sx_term.specs.Tree.{Tree}
use Rattle.sx_token.specs.declared.token.Token.{Token}
use Rattle.sx_token.specs.Tokens.{piece_of, pieces}
use Rattle.sx_grammar.specs.Grammar.{Text}
use Rattle.sx_grammar.specs.Parts.{Parts, numbered}
use Rattle.sx_grammar.specs.Reading.{Reading}
use Rattle.sx_grammar.specs.ReadOne.{IsAnswer, only}
use Rattle.sx_grammar.specs.Print.{term_of}
use Rattle.sx_earley.specs.Tokens.{Stems, read_token, plain_tokens}
use Rattle.sx_earley.specs.Completed.{sort_number}
use Rattle.sx_forest.specs.Names.{IsMarked, reading_names, AddsEach}
use Rattle.sx_forest.proofs.Fits.{readings_marked, readings_few}
use Rattle.sx_forest.proofs.Naming.{each_long}
use Rattle.sx_notation.specs.declared.notation_error.NotationError.{NotationError}
use Rattle.sx_notation.specs.declared.notation_error.NotationError.TheVariants.{Memory, NotUtf8}
use Rattle.sx_notation.specs.declared.notation_error.NotationError.TheVariants.{Notation}
use Rattle.sx_notation.specs.declared.notation_error.NotationError.TheVariants.{Token as BadTokens}
use Rattle.sx_notation.specs.declared.notation_error.NotationError.TheVariants.{Grammar, Read}
use Rattle.sx_notation.specs.declared.notation_error.NotationError.TheVariants.{Rules}
use Rattle.sx_notation.specs.ReadText.{IsKnownCut, IsReadLine, IsUncut, IsTextRefused}

-- what follows of an error that is passed on
pub err_if : {T E : Type 0} (r : Result T E) (P Q : E → Type 0) → IsErrAnd r P → ((e : E) → P e → Q e) → IfErr r Q
err_if (Ok x) P Q h f = tt
err_if (Err e) P Q h f = f e h

pub as_many_tokens : (ts : List Token) (n : ℕ) → length (pieces ts) ≤ n → length ts ≤ n
as_many_tokens ts n h = omega (arith, h, length-map ts piece_of)

-- the same of equal tokens
pub known_at : (p : Parts) (stems : Stems) (line : Text) (items ts : List Token) → ts ≡ items → IsKnownCut p stems line items → IsKnownCut p stems line ts
known_at p stems line items ts same known = subst (IsKnownCut p stems line) (sym same) known

pub answer_at : (p : Parts) (stems : Stems) (sort : Sort) (r : Reading) (items here ts : List Token) → here ≡ items → ts ≡ items →
    IsAnswer (numbered p) (plain_tokens stems here) (sort_number sort) (only r) → IsAnswer (numbered p) (plain_tokens stems ts) (sort_number sort) (only r)
answer_at p stems sort r items here ts was same answer = subst (λ l. IsAnswer (numbered p) (plain_tokens stems l) (sort_number sort) (only r)) (was ∙ sym same) answer

-- a line without tokens is refused
pub uncut_refused : (p : Parts) (stems : Stems) (sort : Sort) (line : Text) (number : ℕ) (e : NotationError) → IsUncut p stems line number e → IsTextRefused p stems sort line number e
uncut_refused p stems sort line number Memory h = tt
uncut_refused p stems sort line number (NotUtf8 place) h = absurd h
uncut_refused p stems sort line number (Notation at kind) h = h
uncut_refused p stems sort line number (BadTokens at e) h = h
uncut_refused p stems sort line number (Grammar e) h = absurd h
uncut_refused p stems sort line number (Read at e) h = absurd h
uncut_refused p stems sort line number (Rules e v) h = absurd h

module _ (p : Parts) (stems : Stems) (line : Text) (ts : List Token) (known : IsKnownCut p stems line ts) where
  pub few_tokens : length ts ≤ 10000
  few_tokens = as_many_tokens ts 10000 known.0.1

  module _ (sort : Sort) (r : Reading) (answer : IsAnswer (numbered p) (plain_tokens stems ts) (sort_number sort) (only r)) where
    pub is_marked : IsMarked ts r
    is_marked = readings_marked (numbered p) stems ts (sort_number sort) 0 0 (length (plain_tokens stems ts)) r answer.1.0

    few_names : length (reading_names ts r) ≤ 10000
    few_names =
        let few : 0 + length (reading_names ts r) ≤ length (plain_tokens stems ts) = readings_few (numbered p) (plain_tokens stems ts) ts (sort_number sort) 0 0 (length (plain_tokens stems ts)) r answer.1.0 in
        let same : length (plain_tokens stems ts) ≡ length ts = length-map ts (λ t. read_token stems t.mark t.text) in
        omega (arith, few, same, few_tokens)

    -- there is room for the names
    pub has_room : (old : List Text) → length old + 10000 < 2 ^ 32 → length old + length (reading_names ts r) < 2 ^ 32
    has_room old room = omega (arith, room, few_names)

    module _ (old new : List Text) (names : AddsEach old (reading_names ts r) new) where
      pub grown : length new ≤ length old + 10000
      grown = omega (arith, each_long old (reading_names ts r) new names, few_names)

      -- the term of the reading is that of the line
      pub is_read : (t : Tree) → t ≡ term_of (plain_tokens stems ts) (new ++ []) r → IsReadLine p stems sort line old new t
      is_read t is = record {
        tokens = ts;
        known = known;
        reading = r;
        answer = answer;
        names = names;
        term = is ∙ ap (λ l. term_of (plain_tokens stems ts) l r) (append-nil new);
      }
