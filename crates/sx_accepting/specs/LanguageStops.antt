-- The stops of languages that are refused.
use Rattle.std.specs.Prelude.{ℕ, ◌+◌, List, [], ◌++◌, codes, Option, Some, None}
use Rattle.sx_token.specs.declared.token_error.TokenError.{TokenError}
use Rattle.sx_token.specs.declared.token_error.TokenError.TheVariants as token_error
use Rattle.sx_grammar.specs.declared.grammar_error.GrammarError.{GrammarError}
use Rattle.sx_grammar.specs.declared.grammar_error.GrammarError.TheVariants as grammar_error
use Rattle.sx_rules.specs.declared.error.RuleError.{RuleError}
use Rattle.sx_notation.specs.declared.unread.Unread.{Unread}
use Rattle.sx_notation.specs.declared.unread.Unread.TheVariants as unread
use Rattle.sx_notation.specs.declared.notation_error.NotationError.{NotationError}
use Rattle.sx_notation.specs.declared.notation_error.NotationError.TheVariants as notation_error
use Rattle.sx_words.specs.declared.position.Position.TheVariants.{Line, Spot}
use Rattle.sx_words.specs.declared.file_defect.FileDefect.TheVariants as file_defect
use Rattle.sx_words.specs.declared.text_defect.TextDefect.{TextDefect}
use Rattle.sx_words.specs.declared.text_defect.TextDefect.TheVariants as text_defect
use Rattle.sx_words.specs.declared.grammar_defect.GrammarDefect.{GrammarDefect}
use Rattle.sx_words.specs.declared.grammar_defect.GrammarDefect.TheVariants as grammar_defect
use Rattle.sx_words.specs.declared.refusal.Defect.TheVariants as defect
use Rattle.sx_steps.specs.declared.stop.Stop.{Stop}
use Rattle.sx_steps.specs.Refusal.{about}
use Rattle.sx_steps.specs.Stops.{defect_at, not_utf8, bad_kind_text, bad_line, bad_rules}

-- ---- lines of rules

-- a defect of a line as a whole
abbrev pub at_line : List ℕ → ℕ → TextDefect → Stop
at_line file line what = defect_at (Line line) file (defect.Text what)

-- a defect of a line at this place in it; places count from 0 and columns from 1
abbrev pub at_place : List ℕ → ℕ → ℕ → TextDefect → Stop
at_place file line place what = defect_at (Spot line (place + 1)) file (defect.Text what)

-- a line is not cut into tokens; out of memory is no stop
abbrev pub uncut_line : List ℕ → ℕ → TokenError → Option Stop
uncut_line file line token_error.Memory = None
uncut_line file line (token_error.NotUtf8 place) =
    Some (defect_at (Line line) file (defect.File (file_defect.NotUtf8 place)))
uncut_line file line (token_error.BadToken place) =
    Some (at_place file line place text_defect.BadToken)
uncut_line file line token_error.TooManyTokens = Some (at_line file line text_defect.TooManyTokens)
uncut_line file line (token_error.OpenString place) =
    Some (at_place file line place text_defect.OpenString)

-- the tokens of a line have not one reading
abbrev pub unread_line : List ℕ → ℕ → Unread → Stop
unread_line file line unread.TooHard = at_line file line text_defect.TooHard
unread_line file line (unread.NoReading place) = at_place file line place text_defect.NoReading
unread_line file line (unread.TooDeep depth) = at_line file line (text_defect.TooDeep depth)
unread_line file line (unread.Ambiguous one other) =
    at_line file line (text_defect.Ambiguous one other)

-- ---- grammars

-- the defect of a grammar, where memory is not lacking
abbrev pub grammar_defect_of : GrammarError → Option GrammarDefect
grammar_defect_of grammar_error.Memory = None
grammar_defect_of (grammar_error.BadLiteral text) = Some (grammar_defect.BadLiteral text)
grammar_defect_of (grammar_error.SameSort name) = Some (grammar_defect.SameSort name)
grammar_defect_of (grammar_error.UnknownSort name) = Some (grammar_defect.UnknownSort name)
grammar_defect_of (grammar_error.SameLabel label) = Some (grammar_defect.SameLabel label)
grammar_defect_of (grammar_error.PlainHasTyped label) = Some (grammar_defect.PlainHasTyped label)
grammar_defect_of (grammar_error.NoBrackets sort) = Some (grammar_defect.NoBrackets sort)
grammar_defect_of (grammar_error.Cyclic sort) = Some (grammar_defect.Cyclic sort)

-- the sorts, productions and forms are no grammar
abbrev pub bad_grammar : List ℕ → Option GrammarDefect → Option Stop
bad_grammar file None = None
bad_grammar file (Some what) = Some (about file (defect.Grammar what))

-- ---- whole languages

-- the name of a metavariable in the lines about a language
abbrev pub metavariable : Option (List ℕ) → List ℕ
metavariable None = []
metavariable (Some name) = codes "~" ++ name

-- the rules are no rule set; a variable that is not bound is told by its name
abbrev pub bad_language_rules : List ℕ → RuleError → Option (List ℕ) → Option Stop
bad_language_rules file e variable = bad_rules file (λ number. metavariable variable) e

-- the stop of a language's refusal; out of memory has none
abbrev pub language_stop : List ℕ → NotationError → Option Stop
language_stop file notation_error.Memory = None
language_stop file (notation_error.NotUtf8 before) = Some (not_utf8 file before)
language_stop file (notation_error.Notation line what) = Some (bad_line file line
    (bad_kind_text what))
language_stop file (notation_error.Token line e) = uncut_line file line e
language_stop file (notation_error.Grammar e) = bad_grammar file (grammar_defect_of e)
language_stop file (notation_error.Read line e) = Some (unread_line file line e)
language_stop file (notation_error.Rules e variable) = bad_language_rules file e variable
