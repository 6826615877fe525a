-- A stop about a language is no type error.
use Rattle.std.proofs.Common.{ℕ, List}
use Rattle.std.specs.Prelude.{Option, Some, None}
use Rattle.sx_token.specs.declared.token_error.TokenError.{TokenError}
use Rattle.sx_token.specs.declared.token_error.TokenError.TheVariants as token_error
use Rattle.sx_notation.specs.declared.unread.Unread.{Unread}
use Rattle.sx_notation.specs.declared.unread.Unread.TheVariants as unread
use Rattle.sx_notation.specs.declared.notation_error.NotationError.{NotationError}
use Rattle.sx_notation.specs.declared.notation_error.NotationError.TheVariants as notation_error
use Rattle.sx_outside.specs.Files.{Files}
use Rattle.sx_words.specs.declared.grammar_defect.GrammarDefect.{GrammarDefect}
use Rattle.sx_steps.specs.declared.stop.Stop.{Stop}
use Rattle.sx_steps.specs.Held.{Held}
use Rattle.sx_term.specs.Limits.{most_bytes}
use Rattle.sx_steps.proofs.TypeErrors.{OnTypeError, on_stop, no_rules, Final, then_final, held_final}
use Rattle.sx_accepting.specs.LanguageFiles.{language_file}
use Rattle.sx_accepting.specs.LanguageStops.{uncut_line, unread_line, bad_grammar, grammar_defect_of, metavariable, language_stop}
use Rattle.sx_accepting.specs.ReadLanguage.{StatesLanguage, ReadsLanguage}

module _ (Q : Stop → Type 0) where
  line_uncut : (file : List ℕ) (line : ℕ) (e : TokenError) → OnTypeError Q (uncut_line file line e)
  line_uncut file line token_error.Memory = tt
  line_uncut file line (token_error.NotUtf8 place) = λ h. absurd h
  line_uncut file line (token_error.BadToken place) = λ h. absurd h
  line_uncut file line token_error.TooManyTokens = λ h. absurd h
  line_uncut file line (token_error.OpenString place) = λ h. absurd h

  line_unread : (file : List ℕ) (line : ℕ) (e : Unread) → OnTypeError Q (Some (unread_line file line e))
  line_unread file line unread.TooHard = λ h. absurd h
  line_unread file line (unread.NoReading place) = λ h. absurd h
  line_unread file line (unread.TooDeep depth) = λ h. absurd h
  line_unread file line (unread.Ambiguous one other) = λ h. absurd h

  no_grammar : (file : List ℕ) (what : Option GrammarDefect) → OnTypeError Q (bad_grammar file what)
  no_grammar file None = tt
  no_grammar file (Some what) = λ h. absurd h

  pub no_language : (file : List ℕ) (e : NotationError) → OnTypeError Q (language_stop file e)
  no_language file notation_error.Memory = tt
  no_language file (notation_error.NotUtf8 before) = λ h. absurd h
  no_language file (notation_error.Notation line what) = λ h. absurd h
  no_language file (notation_error.Token line e) = line_uncut file line e
  no_language file (notation_error.Grammar e) = no_grammar file (grammar_defect_of e)
  no_language file (notation_error.Read line e) = line_unread file line e
  no_language file (notation_error.Rules e variable) = no_rules Q file (λ number. metavariable variable) e

  language_final : (name bytes : List ℕ) → Final Q (StatesLanguage name bytes)
  language_final name bytes stop h = on_stop Q (language_stop (language_file name) h.error) stop (no_language (language_file name) h.error) h.is

  pub reads_language_final : (name : List ℕ) (files : Files) → Final Q (ReadsLanguage name files)
  reads_language_final name files =
      then_final Q (Held most_bytes (language_file name) files) (StatesLanguage name) (held_final Q most_bytes (language_file name) files) (λ bytes held. language_final name bytes)
