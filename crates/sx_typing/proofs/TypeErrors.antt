-- Stuck goals can be told, and are type errors of sources.
use Rattle.std.proofs.Common.{◌≡◌, ℕ, ◌+◌, ◌≤◌, Bool, List, [], ◌∷◌, map, length, None, sym, ap}
use Rattle.std.proofs.Common.{◌∙◌, subst, arith}
use Rattle.std.specs.List.{AllByRecursion}
use Rattle.sx_term.specs.Tree.{Tree}
use Rattle.sx_term.specs.Cutting.{Piece, Cuts, done, skip, piece}
use Rattle.sx_token.specs.declared.token.Token.{Token}
use Rattle.sx_token.specs.Tokens.{pieces}
use Rattle.sx_grammar.specs.Grammar.{Text}
use Rattle.sx_grammar.specs.Made.{IsGrammar}
use Rattle.sx_grammar.specs.Parts.{Parts}
use Rattle.sx_grammar.specs.Told.{shapes_of}
use Rattle.sx_derive.specs.BlameTerms.{BlameIsShallow}
use Rattle.sx_derive.specs.Search.{exhausted, walk}
use Rattle.sx_derive.specs.Stuck.{Blame}
use Rattle.sx_notation.specs.RuleLaws.{form_of, HaveSortsOf}
use Rattle.sx_notation.specs.WhyUnread.{place_in}
use Rattle.sx_stuck.specs.StuckText.{CanTell}
use Rattle.sx_stuck.specs.ToldGoals.{IsReadBy}
use Rattle.sx_stuck.proofs.CanTell.{sorted_blames_can_be_told}
use Rattle.sx_typing.specs.declared.module_error.ModuleError.{ModuleError}
use Rattle.sx_typing.specs.Body.{IsCut}
use Rattle.sx_typing.specs.Dialects.{DialectData, IsDialect}
use Rattle.sx_typing.specs.Outcomes.{IsBlameIn}
use Rattle.sx_typing.specs.Refused.{HasReadBody, IsStuckGoal, IsBadSource, telling_in}
use Rattle.sx_typing.specs.BodySource.{BodySource, bytes_before}
use Rattle.sx_typing.specs.Spots.{line_at, column_at}
use Rattle.sx_typing.specs.TypeErrors.{TellsTypeError}
use Rattle.sx_typing.specs.Goals.{source_events}

-- tokens begin within the text
cuts_within : {literals : List Text} {metas : Bool} {size : ℕ} {text rest : Text}
    {ps : List Piece} → Cuts literals metas size text ps rest →
    AllByRecursion (λ p. p.from ≤ size) ps
cuts_within done = tt
cuts_within (skip blank more) = cuts_within more
cuts_within {size = size} (piece {text = text} {t = t} at more) =
    (let h = at.from in omega (arith, h), cuts_within more)

all_pieces : (size : ℕ) (ts : List Token) → AllByRecursion (λ p. p.from ≤ size) (pieces ts) →
    AllByRecursion (λ (t : Token). t.from ≤ size) ts
all_pieces size [] h = tt
all_pieces size (t ∷ ts) h = (h.0, all_pieces size ts h.1)

pub tokens_within : (p : Parts) (text : Text) (ts : List Token) (size : ℕ) → IsCut p text ts →
    length text ≡ size → AllByRecursion (λ (t : Token). t.from ≤ size) ts
tokens_within p text ts size cut same =
    subst (λ (n : ℕ). AllByRecursion (λ (t : Token). t.from ≤ n) ts) same
    (all_pieces (length text) ts (cuts_within cut.2))

-- the grammar by which the dialect's rules are read has the language's forms
read_by : (d : DialectData) → IsDialect d → IsReadBy d.parts (telling_in d)
read_by d is = record {
  lines = is.lines;
  known = subst (λ (p : Parts). HaveSortsOf p is.lines) (sym is.goes_on) is.known;
  read_by = is.rules_read_by;
  forms = subst (λ (p : Parts). d.language.forms ≡ map (form_of p) is.lines) (sym is.goes_on)
      is.forms;
}

-- a stuck goal that is well sorted can be told
pub can_tell : (d : DialectData) (top : Tree) (blame : Blame) → IsDialect d → IsGrammar d.parts →
    IsBlameIn (shapes_of d.parts) d.language.forms [] top blame → BlameIsShallow blame →
    CanTell (telling_in d) blame
can_tell d top blame is grammar b shallow =
    sorted_blames_can_be_told d.parts (telling_in d) [] blame grammar (read_by d is) (omega arith)
    (record { form = b.form; is = b.is; sorted = b.sorted; got = b.got }) shallow

-- so the refusal is one of the source
pub is_type_error : (s : BodySource) (tries before size : ℕ) (b : HasReadBody s) (blame : Blame)
    (e : ModuleError) →
    before ≡ bytes_before s → size ≡ length s.header.body →
    walk None tries (source_events s b.subject) ≡ exhausted → IsStuckGoal s b.subject blame →
    TellsTypeError s.dialect s.bytes before size b.tokens b.reading blame e → IsBadSource s tries e
is_type_error s tries before size b blame e at many ends stuck t =
    subst (IsBadSource s tries) (sym t.is) (
      b,
      ends,
      (
        blame,
        stuck,
        (
          t.at.0,
          t.at.1,
          (
            t.line_is ∙ (λ i. line_at s.bytes (at i + place i)),
            t.column_is ∙ (λ i. column_at s.bytes (at i + place i)),
          ),
        ),
        t.text_is,
      ),
    )
  where
    place : t.place ≡ place_in b.tokens (length s.header.body) t.at.0
    place = t.at.2 ∙ ap (λ n. place_in b.tokens n t.at.0) many
