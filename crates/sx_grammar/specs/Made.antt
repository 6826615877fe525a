-- What making a grammar of parts answers.
use Rattle.std.specs.Prelude.{◌≡◌, ℕ, ◌<◌, ◌⊎◌, Bool, true, false, List, ◌∷◌, ◌++◌, Some, None}
use Rattle.std.specs.Prelude.{Contains, slice_get, codes}
use Rattle.sx_term.specs.Cutting.{AreDistinct}
use Rattle.sx_term.specs.Spaced.{IsWordLiteral, IsSymbolLiteral}
use Rattle.sx_grammar.specs.declared.symbol.Symbol.TheVariants.{Part}
use Rattle.sx_grammar.specs.declared.sort_line.SortLine.{SortLine}
use Rattle.sx_grammar.specs.declared.grammar_error.GrammarError.{GrammarError}
use Rattle.sx_grammar.specs.declared.grammar_error.GrammarError.TheVariants.{Memory, BadLiteral}
use Rattle.sx_grammar.specs.declared.grammar_error.GrammarError.TheVariants.{SameSort, UnknownSort}
use Rattle.sx_grammar.specs.declared.grammar_error.GrammarError.TheVariants.{SameLabel}
use Rattle.sx_grammar.specs.declared.grammar_error.GrammarError.TheVariants.{PlainHasTyped}
use Rattle.sx_grammar.specs.declared.grammar_error.GrammarError.TheVariants.{NoBrackets, Cyclic}
use Rattle.sx_grammar.specs.Grammar.{Text}
use Rattle.sx_grammar.specs.Cyclic.{IsCyclic, IsNotCyclic}
use Rattle.sx_grammar.specs.Parts.{Line, Parts, names, labels, literals, sorts_named, numbered}

-- the first of the list with the property
abbrev pub IsFirstWith : {X : Type 0} → (X → Type 0) → List X → X → Type 0
IsFirstWith {X = X} P xs x = (before : List X) × (after : List X) × (xs ≡ before ++ x ∷ after) ×
    P x ×
    ((y : X) → Contains before y → ¬ (P y))

-- none of the list has the property
abbrev pub HasNone : {X : Type 0} → (X → Type 0) → List X → Type 0
HasNone {X = X} P xs = (x : X) → Contains xs x → ¬ (P x)

-- the first of the list that stands there before
abbrev pub IsFirstAgain : List Text → Text → Type 0
IsFirstAgain xs x = (before : List Text) × (after : List Text) × (xs ≡ before ++ x ∷ after) ×
    Contains before x × AreDistinct before

-- neither a word nor symbol characters without `//`
abbrev pub IsBadLiteral : Text → Type 0
IsBadLiteral text = ¬ (IsWordLiteral text) × ¬ (IsSymbolLiteral text)

-- the name of a lexical sort
abbrev pub IsLexical : Text → Type 0
IsLexical name = (name ≡ codes "id") ⊎ ((name ≡ codes "num") ⊎ (name ≡ codes "str"))

-- no sort line has the name, where these are their names, or it is that of a lexical sort
abbrev pub IsUnknownSort : List Text → Text → Type 0
IsUnknownSort sorts name = ¬ (Contains sorts name) ⊎ IsLexical name

-- the sort with this name is typed, or is not
abbrev pub IsTyped : Parts → Text → Bool → Type 0
IsTyped p name typed = (s : SortLine) × Contains p.sorts s × (s.name ≡ name) × (s.typed ≡ typed)

-- the production is of a plain sort and has a typed part
abbrev pub MixesSorts : Parts → Line → Type 0
MixesSorts p r = IsTyped p r.sort false × ((name : Text) × (least : ℕ) ×
    Contains r.symbols (Part name least) × IsTyped p name true)

-- the sort has no brackets, and a part asks for a level of it above that of one of its productions
abbrev pub LacksBrackets : Parts → SortLine → Type 0
LacksBrackets p s = (s.brackets ≡ None) × ((asks : Line) × (asked : Line) × (least : ℕ) ×
    Contains p.productions asks × Contains asks.symbols (Part s.name least)
    × Contains p.productions asked × (asked.sort ≡ s.name) × (asked.level < least))

-- each literal is a word or symbol characters
abbrev pub HasLiterals : Parts → Type 0
HasLiterals p = HasNone IsBadLiteral (literals p)

-- and the names of the sorts are distinct
abbrev pub HasSorts : Parts → Type 0
HasSorts p = HasLiterals p × AreDistinct (names p)

-- and each sort that is named is known
abbrev pub HasKnownSorts : Parts → Type 0
HasKnownSorts p = HasSorts p × HasNone (IsUnknownSort (names p)) (sorts_named p)

-- and the labels are distinct
abbrev pub HasLabels : Parts → Type 0
HasLabels p = HasKnownSorts p × AreDistinct (labels p)

-- and no plain production has a typed part
abbrev pub KeepsSorts : Parts → Type 0
KeepsSorts p = HasLabels p × HasNone (MixesSorts p) p.productions

-- and each sort has the brackets that are asked for
abbrev pub HasBrackets : Parts → Type 0
HasBrackets p = KeepsSorts p × HasNone (LacksBrackets p) p.sorts

-- and no sort derives itself: the parts are those of a grammar
abbrev pub IsGrammar : Parts → Type 0
IsGrammar p = HasBrackets p × IsNotCyclic (numbered p)

-- the first sort that derives itself has this name
abbrev pub IsFirstCyclic : Parts → Text → Type 0
IsFirstCyclic p name = (sort : ℕ) × (slice_get (names p) sort ≡ Some name) ×
    IsCyclic (numbered p) sort × ((other : ℕ) → other < sort → ¬ (IsCyclic (numbered p) other))

-- why the parts are no grammar: the first refusal that holds of them, where the earlier do not
abbrev pub IsGrammarRefused : Parts → GrammarError → Type 0
IsGrammarRefused p Memory = Unit {0}
IsGrammarRefused p (BadLiteral text) = IsFirstWith IsBadLiteral (literals p) text
IsGrammarRefused p (SameSort name) = HasLiterals p × IsFirstAgain (names p) name
IsGrammarRefused p (UnknownSort name) = HasSorts p × IsFirstWith (IsUnknownSort (names p))
    (sorts_named p) name
IsGrammarRefused p (SameLabel label) = HasKnownSorts p × IsFirstAgain (labels p) label
IsGrammarRefused p (PlainHasTyped label) = HasLabels p ×
    ((r : Line) × IsFirstWith (MixesSorts p) p.productions r × (r.label ≡ label))
IsGrammarRefused p (NoBrackets sort) = KeepsSorts p ×
    ((s : SortLine) × IsFirstWith (LacksBrackets p) p.sorts s × (s.name ≡ sort))
IsGrammarRefused p (Cyclic sort) = HasBrackets p × IsFirstCyclic p sort
