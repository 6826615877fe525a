-- Refusals of lines of plain bodies.
use Rattle.std.proofs.Common.{ℕ, List, [], ◌∷◌, inl, inr}
use Rattle.sx_term.specs.declared.sort.Sort.{Sort}
use Rattle.sx_grammar.specs.Grammar.{Text}
use Rattle.sx_grammar.specs.Parts.{Parts}
use Rattle.sx_earley.specs.Tokens.{Stems}
use Rattle.sx_outline.specs.Stages.{PlainData}
use Rattle.sx_notation.specs.declared.notation_error.NotationError.{NotationError}
use Rattle.sx_notation.specs.declared.notation_error.NotationError.TheVariants.{Memory, NotUtf8}
use Rattle.sx_notation.specs.declared.notation_error.NotationError.TheVariants.{Notation, Token}
use Rattle.sx_notation.specs.declared.notation_error.NotationError.TheVariants.{Grammar, Read}
use Rattle.sx_notation.specs.declared.notation_error.NotationError.TheVariants.{Rules}
use Rattle.sx_notation.specs.ReadAmong.{IsRefusedAmong}
use Rattle.sx_notation.specs.ReadText.{ReaderData}
use Rattle.sx_language.proofs.Stating.{IsLineError}
use Rattle.sx_extension.specs.Readings.{IsBadPlain, IsFirstBadPlain}

among_kind : (p : Parts) (stems : Stems) (sort : Sort) (line : Text) (names : List Text)
    (number : ℕ) (e : NotationError) → IsRefusedAmong p stems sort line names number e →
    IsLineError e
among_kind p stems sort line names number Memory h = tt
among_kind p stems sort line names number (NotUtf8 place) h = absurd h
among_kind p stems sort line names number (Notation n k) h = tt
among_kind p stems sort line names number (Token n e) h = tt
among_kind p stems sort line names number (Grammar e) h = absurd h
among_kind p stems sort line names number (Read n e) h = tt
among_kind p stems sort line names number (Rules e v) h = absurd h

plain_kind : (p : Parts) (r : ReaderData) (l : PlainData) (e : NotationError) →
    IsBadPlain p r l e → IsLineError e
plain_kind p r l e h = among_kind r.parts r.stems h.1 l.body.text l.names l.body.number e h.3

pub plains_kind : (p : Parts) (r : ReaderData) (ls : List PlainData) (e : NotationError) →
    IsFirstBadPlain p r ls e → IsLineError e
plains_kind p r [] e h = absurd h
plains_kind p r (l ∷ ls) e (inl h) = plain_kind p r l e h
plains_kind p r (l ∷ ls) e (inr h) = plains_kind p r ls e h.2
