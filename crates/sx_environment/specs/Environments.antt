-- The environment of a module, by the interfaces of its imports.
use Rattle.std.specs.Prelude.{◌≡◌, List, [], ◌∷◌}
use Rattle.sx_term.specs.declared.lex_kind.LexKind.TheVariants.{Id}
use Rattle.sx_term.specs.Tree.{Tree, node, lexeme, none, ◌▹◌}
use Rattle.sx_grammar.specs.Grammar.{Text}
use Rattle.sx_interface.specs.Interfaces.{InterfaceParts}
use Rattle.sx_environment.specs.Seen.{IsGoodImport}
use Rattle.sx_environment.specs.SeenFrom.{SeenFrom}

-- the language's empty environment
abbrev pub empty_environment : SeenFrom → Tree
empty_environment s = node s.dialect.language.main.empty none

-- the environment with a name and what is seen of it
abbrev pub with_import : SeenFrom → (before : Tree) → (name : Text) → (seen : Tree) → Tree
with_import s before name seen =
    node s.dialect.language.main.add (before ▹ lexeme Id name ▹ seen ▹ none)

-- the environment to which each import is added in order, with the term that is seen of it
abbrev pub AddsImports : SeenFrom → (before : Tree) → List InterfaceParts → (after : Tree) → Type 0
AddsImports s before [] after = after ≡ before
AddsImports s before (it ∷ its) after =
    (seen : Tree) × IsGoodImport s it seen × AddsImports s (with_import s before it.name seen) its
    after

-- it begins with the empty one
abbrev pub IsEnvironment : SeenFrom → List InterfaceParts → Tree → Type 0
IsEnvironment s its environment = AddsImports s (empty_environment s) its environment
